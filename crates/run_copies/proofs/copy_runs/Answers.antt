-- `run_copies::copy_runs` meets its contract.
use mathlib.Core.Path.{refl}
use native.Mathlib.Omega.{arith}
use Rattle.run_copies.proofs.Copying.{running_none, run_fits, run-skip, run_more, running-all}
use Rattle.run_copies.proofs.copy_runs.Goals as goal
use Rattle.run_copies.proofs.copy_runs.Goals.{then-n-gt0, else-n-gt0}

pub loop-q-init : goal.loop-q-init
loop-q-init c = running_none _ _ _ _ c.requires

pub copy_run-requires : goal.copy_run-requires
copy_run-requires c = (c.requires.within _ c.loop-q-test.true c.if-n-gt0.true, run_fits _ _ _ _ c.requires _ _ _ c.loop-q.invariant c.loop-q-test.true)

pub overflow_add-at : goal.overflow_add-at
overflow_add-at c = omega (arith, run_fits _ _ _ _ c.requires _ _ _ c.loop-q.invariant c.loop-q-test.true)

pub loop-q-preserved : goal.loop-q-preserved
loop-q-preserved c =
    elim c.if-n-gt0.branch [
      | then-n-gt0 w ↦ rw (w.out-is, w.at-is) (run_more _ _ _ _ c.requires _ _ _ c.loop-q.invariant _ _ refl c.loop-q-test.true w.copy_run.auto.out w.copy_run.ensures)
      | else-n-gt0 w ↦ rw (w.out-is, w.at-is) (run-skip _ _ _ _ c.requires _ _ _ c.loop-q.invariant c.loop-q-test.true w.if-n-gt0.false)
    ]

pub returns : goal.returns
returns c = running-all _ _ _ _ c.requires _ _ _ c.loop-q.invariant c.loop-q-test.false _ c.clear_from_usize.ensures
