-- `text::put_node` meets its contract.
use mathlib.Core.Path.{ap}
use native.Mathlib.Omega.{arith}
use Rattle.text.specs.Listing.{field, node_line}
use Rattle.text.proofs.Putting.{puts-join, puts-same}
use Rattle.text.proofs.put_node.Goals as goal

pub put_row-far-requires : goal.put_row-far-requires
put_row-far-requires c = omega (arith, c.requires)

pub returns : goal.returns
unfolding node_line
returns c = puts-join _ _ _ _ _ _ _ _ (puts-join _ _ _ _ _ _ _ _ (puts-join _ _ _ _ _ _ _ _ (puts-join _ _ _ _ _ _ _ _ (puts-join _ _ _ _ _ _ _ _ c.put_decimal-numbered.ensures c.put_field-named.ensures) (puts-same _ _ _ _ _ _ (ap field c.start_at.ensures) c.put_field-owned.ensures)) c.put_row-near.ensures) c.put_row-far.ensures) c.put.ensures
