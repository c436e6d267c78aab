-- `node_totals::fill_totals` meets its contract.
use mathlib.Core.Path.{sym, ◌∙◌}
use native.Mathlib.Omega.{arith}
use Rattle.node_totals.proofs.Totals.{begins-many, end-rises, begins-most, filled-between, filled-rest, filled-all}
use Rattle.node_totals.proofs.fill_totals.Goals as goal
use Rattle.node_totals.proofs.fill_totals.Goals.{then-end-key, else-end-key}

pub bounds-begin-end : goal.bounds-begin-end
bounds-begin-end c = omega (arith, begins-many _ _ _ _ _ c.requires.counted, c.if-end-key.true)

pub bounds-begin-q : goal.bounds-begin-q
bounds-begin-q c = omega (arith, begins-many _ _ _ _ _ c.requires.counted, c.loop-q-test.true)

pub overflow_sub-total : goal.overflow_sub-total
overflow_sub-total c =
    elim c.if-end-key.branch [
      | then-end-key w ↦ rw w.past-is (end-rises _ _ _ _ _ c.requires.counted _ _ c.loop-q-test.true c.end_of-end.ensures w.if-end-key.true)
      | else-end-key w ↦ rw w.past-is (begins-most _ _ _ _ _ c.requires.counted _ c.loop-q-test.true)
    ]

pub loop-q-preserved : goal.loop-q-preserved
loop-q-preserved c =
    elim c.if-end-key.branch [
      | then-end-key w ↦ rw w.past-is (let f = filled-between _ _ _ _ _ _ c.loop-q.invariant.0 c.loop-q-test.true _ c.end_of-end.ensures w.if-end-key.true in (f, f.placed ∙ sym c.loop-q.invariant.0.placed ∙ c.loop-q.invariant.1))
      | else-end-key w ↦ rw w.past-is (let f = filled-rest _ _ _ _ _ _ c.loop-q.invariant.0 c.loop-q-test.true _ c.end_of-end.ensures w.if-end-key.false in (f, f.placed ∙ sym c.loop-q.invariant.0.placed ∙ c.loop-q.invariant.1))
    ]

pub returns : goal.returns
returns c = filled-all _ _ _ _ _ _ c.loop-q.invariant.0 c.loop-q-test.false
