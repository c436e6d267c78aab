-- `file_tree::totals_right` meets its contract.
use native.Mathlib.Omega.{arith}
use mathlib.Core.Path.{◌≡◌, refl, sym, subst}
use Prim.Native.Nat.{ℕ, suc, ◌-◌, ◌<◌}
use Rattle.tree.proofs.Waiting.{Totalled, totals-start, totals-done}
use Rattle.tree_file.specs.Trailer.{column_in}
use Rattle.file_tree.proofs.Read.{level_in, sum_fits, more-fits, bad-total, totals-more}
use Rattle.file_tree.proofs.totals_right.Goals as goal

back : (i : ℕ) → 0 < i → i ≡ suc (i - 1)
back i h = omega arith

pub count_of-n-requires : goal.count_of-n-requires
count_of-n-requires c = (c.requires.0, omega arith, omega arith)

pub loop-i-init : goal.loop-i-init
loop-i-init c = subst (Totalled c.args.s.axes (column_in c.args.file.now 1) (column_in c.args.file.now 2) (column_in c.args.file.now 4) _) (sym c.count_of-n.ensures) (totals-start _ _ _ _ _ c.requires.1 _ refl)

pub key_of-k-requires : goal.key_of-k-requires
key_of-k-requires c = (c.requires.0, omega arith, omega arith, refl)

pub number_of-own-requires : goal.number_of-own-requires
number_of-own-requires c = (c.requires.0, omega arith, omega arith, refl)

pub number_of-total-requires : goal.number_of-total-requires
number_of-total-requires c = (c.requires.0, omega arith, omega arith, refl)

pub bounds-waiting-level : goal.bounds-waiting-level
bounds-waiting-level c = omega (arith, level_in c.args.s.axes (column_in c.args.file.now 1) (column_in c.args.file.now 2) (column_in c.args.file.now 3) (column_in c.args.file.now 4) c.requires.1 c.loop-i.waiting c.loop-i.i (c.loop-i.i - 1) c.loop-i.invariant (back _ c.loop-i-test.true) c.key_of-k.result c.number_of-own.result c.number_of-total.result c.key_of-k.ensures c.number_of-own.ensures c.number_of-total.ensures, c.loop-i.invariant.waits.long)

pub overflow_add-sum-in-loop-i : goal.overflow_add-sum-in-loop-i
overflow_add-sum-in-loop-i c = record { fits = omega (arith, sum_fits c.args.s.axes (column_in c.args.file.now 1) (column_in c.args.file.now 2) (column_in c.args.file.now 3) (column_in c.args.file.now 4) c.requires.1 c.loop-i.waiting c.loop-i.i (c.loop-i.i - 1) c.loop-i.invariant (back _ c.loop-i-test.true) c.key_of-k.result c.number_of-own.result c.number_of-total.result c.key_of-k.ensures c.number_of-own.ensures c.number_of-total.ensures) }

pub returns-then-total-sum : goal.returns-then-total-sum
returns-then-total-sum c = bad-total c.args.s.axes (column_in c.args.file.now 1) (column_in c.args.file.now 2) (column_in c.args.file.now 3) (column_in c.args.file.now 4) c.requires.1 c.loop-i.waiting c.loop-i.i (c.loop-i.i - 1) c.loop-i.invariant (back _ c.loop-i-test.true) c.key_of-k.result c.number_of-own.result c.number_of-total.result c.key_of-k.ensures c.number_of-own.ensures c.number_of-total.ensures c.if-total-sum.true

pub bounds-waiting-level-in-loop-i : goal.bounds-waiting-level-in-loop-i
bounds-waiting-level-in-loop-i c = omega (arith, level_in c.args.s.axes (column_in c.args.file.now 1) (column_in c.args.file.now 2) (column_in c.args.file.now 3) (column_in c.args.file.now 4) c.requires.1 c.loop-i.waiting c.loop-i.i (c.loop-i.i - 1) c.loop-i.invariant (back _ c.loop-i-test.true) c.key_of-k.result c.number_of-own.result c.number_of-total.result c.key_of-k.ensures c.number_of-own.ensures c.number_of-total.ensures, c.loop-i.invariant.waits.long)

pub bounds-waiting-level-in-loop-i-2 : goal.bounds-waiting-level-in-loop-i-2
bounds-waiting-level-in-loop-i-2 c = omega (arith, level_in c.args.s.axes (column_in c.args.file.now 1) (column_in c.args.file.now 2) (column_in c.args.file.now 3) (column_in c.args.file.now 4) c.requires.1 c.loop-i.waiting c.loop-i.i (c.loop-i.i - 1) c.loop-i.invariant (back _ c.loop-i-test.true) c.key_of-k.result c.number_of-own.result c.number_of-total.result c.key_of-k.ensures c.number_of-own.ensures c.number_of-total.ensures, c.loop-i.invariant.waits.long)

pub overflow_add-waiting-in-loop-i : goal.overflow_add-waiting-in-loop-i
overflow_add-waiting-in-loop-i c = record { fits = omega (arith, more-fits c.args.s.axes (column_in c.args.file.now 1) (column_in c.args.file.now 2) (column_in c.args.file.now 3) (column_in c.args.file.now 4) c.requires.1 c.loop-i.waiting c.loop-i.i (c.loop-i.i - 1) c.loop-i.invariant (back _ c.loop-i-test.true) c.key_of-k.result c.number_of-own.result c.number_of-total.result c.key_of-k.ensures c.number_of-own.ensures c.number_of-total.ensures) }

pub bounds-waiting-level-in-loop-i-3 : goal.bounds-waiting-level-in-loop-i-3
bounds-waiting-level-in-loop-i-3 c = omega (arith, level_in c.args.s.axes (column_in c.args.file.now 1) (column_in c.args.file.now 2) (column_in c.args.file.now 3) (column_in c.args.file.now 4) c.requires.1 c.loop-i.waiting c.loop-i.i (c.loop-i.i - 1) c.loop-i.invariant (back _ c.loop-i-test.true) c.key_of-k.result c.number_of-own.result c.number_of-total.result c.key_of-k.ensures c.number_of-own.ensures c.number_of-total.ensures, c.loop-i.invariant.waits.long)

pub loop-i-preserved : goal.loop-i-preserved
loop-i-preserved c = totals-more c.args.s.axes (column_in c.args.file.now 1) (column_in c.args.file.now 2) (column_in c.args.file.now 3) (column_in c.args.file.now 4) c.requires.1 c.loop-i.waiting c.loop-i.i (c.loop-i.i - 1) c.loop-i.invariant (back _ c.loop-i-test.true) c.key_of-k.result c.number_of-own.result c.number_of-total.result c.key_of-k.ensures c.number_of-own.ensures c.number_of-total.ensures c.if-total-sum.false

pub returns : goal.returns
returns c = totals-done c.args.s.axes (column_in c.args.file.now 1) (column_in c.args.file.now 2) (column_in c.args.file.now 3) (column_in c.args.file.now 4) c.requires.1 c.loop-i.waiting c.loop-i.i c.loop-i.invariant c.loop-i-test.false
