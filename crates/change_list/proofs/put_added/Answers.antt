-- `change_list::put_added` meets its contract.
use mathlib.Core.Path.{refl, ◌∙◌}
use native.Mathlib.Omega.{arith}
use borrow.Author.Tests.{eq-eqb, ne_eqb}
use Rattle.changed_rows.proofs.Putting.{puts_none, puts-more, puts-skip}
use Rattle.change_list.proofs.Added.{zeros-all}
use Rattle.change_list.proofs.put_added.Goals as goal
use Rattle.change_list.proofs.put_added.Goals.{then-firsts-q-eq0, else-firsts-q-eq0}

pub loop-q-init : goal.loop-q-init
loop-q-init c = (omega arith, puts_none _ _ _ _, refl)

pub loop-q-preserved : goal.loop-q-preserved
loop-q-preserved c =
    elim c.if-firsts-q-eq0.branch [
      | then-firsts-q-eq0 w ↦ rw (w.changed-is, w.n-is) (omega (arith, c.loop-q-test.true), puts-more _ _ _ _ _ _ _ c.loop-q.invariant.1 (eq-eqb _ _ w.if-firsts-q-eq0.true) _ _ w.put-n.ensures, w.put-n.auto.out ∙ c.loop-q.invariant.2)
      | else-firsts-q-eq0 w ↦ rw (w.changed-is, w.n-is) (omega (arith, c.loop-q-test.true), puts-skip _ _ _ _ _ _ _ c.loop-q.invariant.1 (ne_eqb _ _ w.if-firsts-q-eq0.false), c.loop-q.invariant.2)
    ]

pub returns : goal.returns
returns c = zeros-all _ _ _ _ _ _ _ c.loop-q.invariant.0 c.loop-q-test.false c.loop-q.invariant.1
