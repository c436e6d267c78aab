-- `file_rows::first_from` meets its contract.
use native.Mathlib.Omega.{arith}
use mathlib.Core.Path.{refl, sym, ap, ◌∙◌, subst}
use Rattle.tree.specs.Order.{before}
use Rattle.tree_file.specs.Trailer.{column_in}
use Rattle.tree.proofs.Finding.{Split, split-start, split-low, split-high, split_done}
use Rattle.file_rows.proofs.first_from.Goals as goal

pub count_of-high-requires : goal.count_of-high-requires
count_of-high-requires c = (c.requires, omega arith, omega arith)

pub loop-low-init : goal.loop-low-init
loop-low-init c = subst (Split c.args.s.axes (column_in c.args.file.now 1) c.args.k 0) (sym c.count_of-high.ensures) (split-start c.args.s.axes (column_in c.args.file.now 1) c.args.k)

pub key_of-here-requires : goal.key_of-here-requires
key_of-here-requires c = (c.requires, omega arith, omega arith, refl)

pub comes_before-requires : goal.comes_before-requires
comes_before-requires c = c.requires.known

pub loop-low-smaller-then-comes_before : goal.loop-low-smaller-then-comes_before
loop-low-smaller-then-comes_before c = omega (arith, c.loop-low-test.true)

pub loop-low-preserved-then-comes_before : goal.loop-low-preserved-then-comes_before
loop-low-preserved-then-comes_before c = split-low c.args.s.axes (column_in c.args.file.now 1) c.args.k c.loop-low.low c.loop-low.high _ c.loop-low.invariant (omega (arith, c.loop-low-test.true)) (sym (ap (λ x. before c.args.s.axes x c.args.k) c.key_of-here.ensures) ∙ sym c.comes_before.ensures ∙ c.if-comes_before.true)

pub loop-low-smaller : goal.loop-low-smaller
loop-low-smaller c = omega (arith, c.loop-low-test.true)

pub loop-low-preserved : goal.loop-low-preserved
loop-low-preserved c = split-high c.args.s.axes (column_in c.args.file.now 1) c.args.k c.loop-low.low c.loop-low.high _ c.loop-low.invariant (omega (arith, c.loop-low-test.true)) (omega (arith, c.loop-low-test.true)) (sym (ap (λ x. before c.args.s.axes x c.args.k) c.key_of-here.ensures) ∙ sym c.comes_before.ensures ∙ c.if-comes_before.false)

pub returns : goal.returns
returns c = split_done c.args.s.axes (column_in c.args.file.now 1) c.args.k c.loop-low.low c.loop-low.high c.loop-low.invariant c.loop-low-test.false
