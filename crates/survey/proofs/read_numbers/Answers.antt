-- `survey::read_numbers` meets its contract.
use mathlib.Core.Path.{◌∙◌}
use native.Mathlib.Omega.{arith}
use lib.ListN.{length}
use Rattle.survey.proofs.Columns.{filling-none, filling-more, filling-all, filled-length, entry-is}
use Rattle.survey.proofs.read_numbers.Goals as goal

pub loop-i-init : goal.loop-i-init
loop-i-init c = filling-none _ _ (filled-length _ _ _ _ c.requires.1)

pub loop-i-preserved : goal.loop-i-preserved
loop-i-preserved c = filling-more _ _ _ _ c.loop-i.invariant _ (c.entry.ensures ∙ entry-is c.args.file.now c.args.at c.args.n (length c.args.out.now) c.requires.1 c.loop-i.i c.loop-i-test.true) (omega (arith, c.loop-i.invariant.kept, c.loop-i-test.true))

pub returns : goal.returns
returns c = filling-all _ _ _ _ c.loop-i.invariant (omega (arith, c.loop-i.invariant.kept, c.loop-i-test.false))
