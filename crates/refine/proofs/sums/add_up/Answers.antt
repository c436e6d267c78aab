-- At each turn the entries passed are added up, and the sum so far is theirs.
use native.Mathlib.Omega.{arith}
use Rattle.refine.proofs.Tallies.{added_none, added-fits, added_more, added-all}
use Rattle.refine.proofs.sums.add_up.Goals as goal

pub loop-entry-init : goal.loop-entry-init
loop-entry-init c = added_none _

pub overflow_add-run : goal.overflow_add-run
overflow_add-run c = omega (arith, added-fits c.args.column.now c.loop-entry.column c.loop-entry.run c.loop-entry.entry-index c.loop-entry.invariant (omega arith) c.requires)

pub loop-entry-preserved : goal.loop-entry-preserved
loop-entry-preserved c = added_more _ c.loop-entry.column c.loop-entry.run c.loop-entry.entry-index c.loop-entry.invariant (omega arith)

pub returns : goal.returns
returns c = added-all _ c.loop-entry.column c.loop-entry.run c.loop-entry.entry-index c.loop-entry.invariant (omega arith)
