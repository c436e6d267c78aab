-- `file_layout::put_entries` meets its contract.
use native.Mathlib.Omega.{arith}
use Rattle.file_layout.proofs.Putting.{entering-none, entry-fits, back_is, entering-more, entering-all}
use Rattle.file_layout.proofs.put_entries.Goals as goal

pub loop-i-init : goal.loop-i-init
loop-i-init c = entering-none c.args.lengths.now c.args.at c.args.file.now c.args.whole c.requires.2 c.requires.0 c.requires.1

pub put_entry-requires : goal.put_entry-requires
put_entry-requires c = entry-fits _ _ _ _ _ _ c.loop-i.invariant c.loop-i-test.true

pub overflow_sub-back : goal.overflow_sub-back
overflow_sub-back c = omega (arith, back_is _ _ _ _ _ _ c.loop-i.invariant c.loop-i-test.true)

pub loop-i-preserved : goal.loop-i-preserved
loop-i-preserved c = entering-more _ _ _ _ _ _ c.loop-i.invariant _ c.loop-i-test.true c.put_entry.ensures c.put_entry.auto.file

pub returns : goal.returns
returns c = entering-all _ _ _ _ _ _ c.loop-i.invariant c.loop-i-test.false
