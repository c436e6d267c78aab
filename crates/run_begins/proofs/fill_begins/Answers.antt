-- `run_begins::fill_begins` meets its contract.
use mathlib.Core.Path.{refl, sym, ◌∙◌}
use native.Mathlib.Omega.{arith}
use Rattle.run_begins.proofs.Running.{running-start, running-most, running_more, running-all}
use Rattle.run_begins.proofs.fill_begins.Goals as goal

pub loop-q-init : goal.loop-q-init
loop-q-init c = (running-start _ _ c.requires.0, refl)

pub offset_bounds-begin-q : goal.offset_bounds-begin-q
offset_bounds-begin-q c = omega (arith, c.loop-q-test.true, c.loop-q.invariant.0.placed)

pub bounds-begin-q : goal.bounds-begin-q
bounds-begin-q c = omega (arith, c.loop-q-test.true, c.loop-q.invariant.0.placed)

pub overflow_add-run : goal.overflow_add-run
overflow_add-run c = omega (arith, running-most _ _ _ _ c.loop-q.invariant.0 c.loop-q-test.true, c.requires.1)

pub loop-q-preserved : goal.loop-q-preserved
loop-q-preserved c = let f = running_more _ _ _ _ c.loop-q.invariant.0 c.loop-q-test.true in (f, f.placed ∙ sym c.loop-q.invariant.0.placed ∙ c.loop-q.invariant.1)

pub returns : goal.returns
returns c = running-all _ _ _ _ c.loop-q.invariant.0 c.loop-q-test.false
