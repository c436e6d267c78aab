-- `kept_sources::is_lowest` meets its contract.
use mathlib.Core.Path.{◌≡◌}
use lib.ListN.{length, drop}
use Rattle.slices.specs.Lists.{any}
use Rattle.kept_sources.specs.Rows.{below_row}
use Rattle.kept_sources.proofs.is_lowest.Given as goal

abbrev pub invariant-loop-x : goal.invariant-loop-x
invariant-loop-x l = any (below_row l.axes l.k) (drop l.x-index l.key) ≡ any (below_row l.axes l.k) l.key
