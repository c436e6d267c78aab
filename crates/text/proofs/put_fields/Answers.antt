-- The numbers passed have been put, and after a turn one more.
use mathlib.Core.Path.{sym, ap}
use lib.Seq.{take_all}
use Rattle.text.specs.Listing.{field, fields}
use Rattle.text.proofs.Putting.{puts_none, puts-join, puts-same, mapped-none, mapped-more}
use Rattle.text.proofs.put_fields.Goals as goal

pub loop-x-init : goal.loop-x-init
loop-x-init c = puts-same _ _ _ _ _ _ (sym (mapped-none field c.args.xs.now)) (puts_none _ _)

pub loop-x-preserved : goal.loop-x-preserved
loop-x-preserved c = puts-same _ _ _ _ _ _ (sym (mapped-more field _ _ c.loop-x-test.true)) (puts-join _ _ _ _ _ _ _ _ c.loop-x.invariant c.put_field-m.ensures)

pub returns : goal.returns
returns c = puts-same _ _ _ _ _ _ (ap fields (take_all c.loop-x.x-index c.args.xs.now c.loop-x-test.false)) c.loop-x.invariant
