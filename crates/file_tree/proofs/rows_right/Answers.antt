-- `file_tree::rows_right` meets its contract.
use native.Mathlib.Omega.{arith}
use mathlib.Core.Path.{refl}
use Rattle.tree.proofs.Pass.{pass-start, pass-done}
use Rattle.tree_file.specs.Trailer.{column_in}
use Rattle.file_tree.proofs.Read.{bad-row, bad-own, bad-begin, too_many, pass-more}
use Rattle.file_tree.proofs.rows_right.Goals as goal

pub count_of-n-requires : goal.count_of-n-requires
count_of-n-requires c = (c.requires.0, omega arith, omega arith)

pub loop-i-init : goal.loop-i-init
loop-i-init c = pass-start _ _ _ _ c.requires.1

pub overflow_sub-i : goal.overflow_sub-i
overflow_sub-i c = omega (arith, c.loop-i.invariant.some)

pub key_of-p-requires : goal.key_of-p-requires
key_of-p-requires c = (c.requires.0, omega arith, omega arith, refl)

pub key_of-k-requires : goal.key_of-k-requires
key_of-k-requires c = (c.requires.0, omega arith, omega arith, refl)

pub may_follow-requires : goal.may_follow-requires
may_follow-requires c = c.requires.0.known

pub returns-then-not-may_follow : goal.returns-then-not-may_follow
returns-then-not-may_follow c = bad-row c.args.s.axes (column_in c.args.file.now 1) (column_in c.args.file.now 2) (column_in c.args.file.now 3) c.requires.1 c.loop-i.run c.loop-i.i c.loop-i.invariant (omega (arith, c.loop-i-test.true, c.count_of-n.ensures)) c.key_of-p.result c.key_of-k.result c.key_of-p.ensures c.key_of-k.ensures c.may_follow.result c.may_follow.ensures (c.if-not-may_follow.true)

pub overflow_sub-i-in-loop-i : goal.overflow_sub-i-in-loop-i
overflow_sub-i-in-loop-i c = omega (arith, c.loop-i.invariant.some)

pub number_of-owned-requires : goal.number_of-owned-requires
number_of-owned-requires c = (c.requires.0, omega arith, omega arith, refl)

pub returns-then-not-may_own : goal.returns-then-not-may_own
returns-then-not-may_own c = bad-own c.args.s.axes (column_in c.args.file.now 1) (column_in c.args.file.now 2) (column_in c.args.file.now 3) c.requires.1 c.loop-i.run c.loop-i.i c.loop-i.invariant (omega (arith, c.loop-i-test.true, c.count_of-n.ensures)) c.key_of-p.result c.key_of-k.result c.key_of-p.ensures c.key_of-k.ensures c.number_of-owned.result c.number_of-owned.ensures c.may_own.result c.may_own.ensures (c.if-not-may_own.true)

pub number_of-first-requires : goal.number_of-first-requires
number_of-first-requires c = (c.requires.0, omega arith, omega arith, refl)

pub returns-then-first-run : goal.returns-then-first-run
returns-then-first-run c = bad-begin c.args.s.axes (column_in c.args.file.now 1) (column_in c.args.file.now 2) (column_in c.args.file.now 3) c.requires.1 c.loop-i.run c.loop-i.i c.loop-i.invariant (omega (arith, c.loop-i-test.true, c.count_of-n.ensures)) c.key_of-p.result c.key_of-k.result c.key_of-p.ensures c.key_of-k.ensures c.number_of-owned.result c.number_of-owned.ensures c.number_of-first.result c.number_of-first.ensures c.if-first-run.true

pub number_of-count-requires : goal.number_of-count-requires
number_of-count-requires c = (c.requires.0, omega arith, omega arith, refl)

pub overflow_sub-run : goal.overflow_sub-run
overflow_sub-run c = omega (arith, c.loop-i.invariant.added.small)

pub returns-then-run-count : goal.returns-then-run-count
returns-then-run-count c = too_many c.args.s.axes (column_in c.args.file.now 1) (column_in c.args.file.now 2) (column_in c.args.file.now 3) c.requires.1 c.loop-i.run c.loop-i.i c.loop-i.invariant (omega (arith, c.loop-i-test.true, c.count_of-n.ensures)) c.key_of-p.result c.key_of-k.result c.key_of-p.ensures c.key_of-k.ensures c.number_of-owned.result c.number_of-owned.ensures c.number_of-first.result c.number_of-first.ensures c.number_of-count.result c.number_of-count.ensures c.if-run-count.true

pub overflow_add-run : goal.overflow_add-run
overflow_add-run c = record { fits = omega (arith, c.if-run-count.false, c.loop-i.invariant.added.small) }

pub loop-i-preserved : goal.loop-i-preserved
loop-i-preserved c = pass-more c.args.s.axes (column_in c.args.file.now 1) (column_in c.args.file.now 2) (column_in c.args.file.now 3) c.requires.1 c.loop-i.run c.loop-i.i c.loop-i.invariant (omega (arith, c.loop-i-test.true, c.count_of-n.ensures)) c.key_of-p.result c.key_of-k.result c.key_of-p.ensures c.key_of-k.ensures c.number_of-owned.result c.number_of-owned.ensures c.number_of-first.result c.number_of-first.ensures c.number_of-count.result c.number_of-count.ensures c.may_follow.result c.may_own.result c.may_follow.ensures (c.if-not-may_follow.false) c.may_own.ensures (c.if-not-may_own.false) c.if-first-run.false c.if-run-count.false

pub returns : goal.returns
returns c = pass-done c.args.s.axes (column_in c.args.file.now 1) (column_in c.args.file.now 2) (column_in c.args.file.now 3) c.requires.1 c.loop-i.run c.loop-i.i c.loop-i.invariant (omega (arith, c.loop-i-test.false, c.count_of-n.ensures))
