-- `changed_rows::put_rows` meets its contract.
use mathlib.Core.Path.{refl, sym, ◌∙◌}
use native.Mathlib.Omega.{arith}
use Rattle.changed_rows.specs.Told.{beside}
use Rattle.changed_rows.proofs.Putting.{puts_none, puts-more, puts-skip}
use Rattle.changed_rows.proofs.Told.{puts-all}
use Rattle.changed_rows.proofs.put_rows.Goals as goal
use Rattle.changed_rows.proofs.put_rows.Goals.{then-row_told, else-row_told}

pub loop-row-init : goal.loop-row-init
loop-row-init c = (omega arith, puts_none _ _ _ _, refl)

pub row_told-requires : goal.row_told-requires
row_told-requires c = (c.requires, c.loop-row-test.true)

pub loop-row-preserved : goal.loop-row-preserved
loop-row-preserved c =
    elim c.if-row_told.branch [
      | then-row_told w ↦ rw (w.changed-is, w.n-is) (omega (arith, c.loop-row-test.true), puts-more _ _ _ _ _ _ _ c.loop-row.invariant.1 (sym c.row_told.ensures ∙ w.if-row_told.true) _ _ w.put-n.ensures, w.put-n.auto.out ∙ c.loop-row.invariant.2)
      | else-row_told w ↦ rw (w.changed-is, w.n-is) (omega (arith, c.loop-row-test.true), puts-skip _ _ _ _ _ _ _ c.loop-row.invariant.1 (sym c.row_told.ensures ∙ w.if-row_told.false), c.loop-row.invariant.2)
    ]

pub returns : goal.returns
returns c = puts-all (beside c.args.axes c.args.key.now c.args.own.now c.args.begin.now c.args.nodes.now c.args.counts.now c.args.begins.now) _ _ _ _ _ _ c.loop-row.invariant.0 c.loop-row-test.false c.loop-row.invariant.1
