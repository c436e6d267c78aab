-- `target_counts::count_by` meets its contract.
use mathlib.Core.Path.{◌≡◌, refl, sym, ap, ◌∙◌, subst}
use Prim.Native.Nat.{◌+◌, ◌*◌, ◌/◌, ◌≤◌}
use native.Mathlib.Omega.{arith}
use native.Mathlib.Nat.{mul-one}
use lib.ListN.{length, drop}
use Rattle.space.specs.Walls.{first_wall}
use Rattle.space.specs.Cells.{frame_of, inside}
use Rattle.space.proofs.Batches.{rows_fit}
use Rattle.target_counts.specs.Pieces.{Piece}
use Rattle.target_counts.proofs.Targets.{Counting, counting-start, few-counts, counting_more, counting-unstored, counting-outside, counting-done, counting-all, rows-small, row-at, rows-room, not_done}
use Rattle.target_counts.proofs.count_by.Goals as goal

pub loop-row-init : goal.loop-row-init
loop-row-init c = let e = ap (λ f. f.axes) c.frame_of-f.ensures in (subst (λ f. Counting f (length c.args.targets.now / c.args.b.axes) c.args.key.now c.args.targets.now c.args.counts.now 0) (sym c.frame_of-f.ensures) (counting-start c.args.b c.args.key.now c.args.targets.now c.args.counts.now c.requires.key_in_bounds.0 c.requires.key_in_bounds.1), refl, c.requires.codes_len)

pub code_rows-n-requires : goal.code_rows-n-requires
code_rows-n-requires c = let e = ap (λ f. f.axes) c.frame_of-f.ensures in record { le_axes = (omega (arith, e, c.requires.le_axes.0), omega (arith, e, c.requires.le_axes.1), omega arith, omega arith, c.piece_of-most.ensures.1, c.loop-row.invariant.2); far_bound = (omega (arith, c.piece_of-most.ensures.0, c.loop-row-test.true, c.requires.le_axes.3, mul-one c.piece_of-most.result), subst (λ k. (c.loop-row.row + c.piece_of-most.result * 1) * k ≤ length c.args.targets.now) (sym e) (rows-room c.args.b.axes c.loop-row.row c.piece_of-most.result (length c.args.targets.now) (omega (arith, c.piece_of-most.ensures.0, c.loop-row-test.true)))) }

pub overflow_mul-row : goal.overflow_mul-row
overflow_mul-row c = let e = ap (λ f. f.axes) c.frame_of-f.ensures in omega (arith, rows-small c.loop-row.row c.args.b.axes (omega (arith, c.loop-row-test.true, c.requires.le_axes.3)) c.requires.le_axes.1)

pub wall_of-requires : goal.wall_of-requires
wall_of-requires c = let e = ap (λ f. f.axes) c.frame_of-f.ensures in subst (λ k. c.loop-row.row * c.args.b.axes + k ≤ length c.args.targets.now) (sym e) (row-at c.args.b.axes c.loop-row.row (length c.args.targets.now / c.args.b.axes) (length c.args.targets.now) c.loop-row-test.true (rows_fit c.args.b.axes (length c.args.targets.now)))

pub returns-then-n-lt1 : goal.returns-then-n-lt1
returns-then-n-lt1 c = let e = ap (λ f. f.axes) c.frame_of-f.ensures in let inv = subst (λ f. Counting f (length c.args.targets.now / c.args.b.axes) c.args.key.now c.args.targets.now c.loop-row.counts c.loop-row.row) c.frame_of-f.ensures c.loop-row.invariant.0 in let q = subst (λ f. Piece f c.args.targets.now c.loop-row.row 1 c.piece_of-most.result c.code_rows-n.new.codes c.code_rows-n.result) c.frame_of-f.ensures c.code_rows-n.ensures.1 in let z : c.loop-row.row ≡ c.loop-row.row + c.code_rows-n.result * 1 = omega (arith, c.if-n-lt1.true, mul-one c.code_rows-n.result) in let out = ap (λ k. inside (frame_of c.args.b) (drop (k * c.args.b.axes) c.args.targets.now)) z ∙ q.stop (omega (arith, c.if-n-lt1.true, c.piece_of-most.ensures.2 (omega (arith, c.loop-row-test.true)))) in let o = counting-outside c.args.b c.args.key.now c.args.targets.now c.loop-row.counts c.loop-row.row inv c.loop-row-test.true out c.wall_of.result (c.wall_of.ensures ∙ ap (λ f. first_wall c.loop-row.row f (drop (c.loop-row.row * c.args.b.axes) c.args.targets.now)) c.frame_of-f.ensures) in record { value = o; counted = λ d. not_done _ _ o d }

pub count_codes-found-requires : goal.count_codes-found-requires
count_codes-found-requires c = let e = ap (λ f. f.axes) c.frame_of-f.ensures in let inv = subst (λ f. Counting f (length c.args.targets.now / c.args.b.axes) c.args.key.now c.args.targets.now c.loop-row.counts c.loop-row.row) c.frame_of-f.ensures c.loop-row.invariant.0 in record { tree_keys = (c.requires.le_axes.2, omega (arith, c.code_rows-n.ensures.1.within, c.piece_of-most.ensures.1, c.code_rows-n.ensures.0), omega (arith, c.code_rows-n.ensures.1.within, c.piece_of-most.ensures.1), omega (arith, c.requires.key_in_bounds.0, c.loop-row.invariant.1)); by_index = few-counts c.args.b c.args.key.now c.args.targets.now c.loop-row.counts c.loop-row.row inv c.code_rows-n.result (omega (arith, c.code_rows-n.ensures.1.within, c.piece_of-most.ensures.0, c.loop-row-test.true, c.requires.le_axes.3)) }

pub overflow_add-result : goal.overflow_add-result
overflow_add-result c = let e = ap (λ f. f.axes) c.frame_of-f.ensures in omega (arith, c.if-found-n.true, c.code_rows-n.ensures.1.within, c.piece_of-most.ensures.0, c.loop-row-test.true, c.requires.le_axes.3)

pub returns-then-found-n : goal.returns-then-found-n
returns-then-found-n c = let e = ap (λ f. f.axes) c.frame_of-f.ensures in let inv = subst (λ f. Counting f (length c.args.targets.now / c.args.b.axes) c.args.key.now c.args.targets.now c.loop-row.counts c.loop-row.row) c.frame_of-f.ensures c.loop-row.invariant.0 in let q = subst (λ f. Piece f c.args.targets.now c.loop-row.row 1 c.piece_of-most.result c.code_rows-n.new.codes c.code_rows-n.result) c.frame_of-f.ensures c.code_rows-n.ensures.1 in let fits : c.code_rows-n.result ≤ length c.code_rows-n.new.codes = omega (arith, c.code_rows-n.ensures.1.within, c.piece_of-most.ensures.1, c.code_rows-n.ensures.0) in let end : c.loop-row.row + c.piece_of-most.result ≤ (length c.args.targets.now / c.args.b.axes) = omega (arith, c.piece_of-most.ensures.0, c.loop-row-test.true) in let o = counting-unstored c.args.b c.args.key.now c.args.targets.now c.loop-row.counts c.loop-row.row inv c.code_rows-n.new.codes c.piece_of-most.result c.code_rows-n.result fits end q c.count_codes-found.result c.count_codes-found.ensures.value c.if-found-n.true in record { value = o; counted = λ d. not_done _ _ o d }

pub overflow_add-row : goal.overflow_add-row
overflow_add-row c = let e = ap (λ f. f.axes) c.frame_of-f.ensures in omega (arith, c.code_rows-n.ensures.1.within, c.piece_of-most.ensures.0, c.loop-row-test.true, c.requires.le_axes.3)

pub loop-row-smaller : goal.loop-row-smaller
loop-row-smaller c = let e = ap (λ f. f.axes) c.frame_of-f.ensures in omega (arith, c.loop-row-test.true, c.if-n-lt1.false, c.code_rows-n.ensures.1.within, c.piece_of-most.ensures.0)

pub loop-row-preserved : goal.loop-row-preserved
loop-row-preserved c = let e = ap (λ f. f.axes) c.frame_of-f.ensures in let inv = subst (λ f. Counting f (length c.args.targets.now / c.args.b.axes) c.args.key.now c.args.targets.now c.loop-row.counts c.loop-row.row) c.frame_of-f.ensures c.loop-row.invariant.0 in let q = subst (λ f. Piece f c.args.targets.now c.loop-row.row 1 c.piece_of-most.result c.code_rows-n.new.codes c.code_rows-n.result) c.frame_of-f.ensures c.code_rows-n.ensures.1 in let fits : c.code_rows-n.result ≤ length c.code_rows-n.new.codes = omega (arith, c.code_rows-n.ensures.1.within, c.piece_of-most.ensures.1, c.code_rows-n.ensures.0) in let end : c.loop-row.row + c.piece_of-most.result ≤ (length c.args.targets.now / c.args.b.axes) = omega (arith, c.piece_of-most.ensures.0, c.loop-row-test.true) in (subst (λ f. Counting f (length c.args.targets.now / c.args.b.axes) c.args.key.now c.args.targets.now c.count_codes-found.new.counts (c.loop-row.row + c.code_rows-n.result)) (sym c.frame_of-f.ensures) (counting_more c.args.b c.args.key.now c.args.targets.now c.loop-row.counts c.loop-row.row inv c.code_rows-n.new.codes c.piece_of-most.result c.code_rows-n.result fits end q c.count_codes-found.result c.count_codes-found.ensures.value (omega (arith, c.if-found-n.false)) c.count_codes-found.new.counts c.count_codes-found.ensures.added), c.count_codes-found.ensures.added.kept ∙ c.loop-row.invariant.1, c.code_rows-n.ensures.0)

pub returns : goal.returns
returns c = let e = ap (λ f. f.axes) c.frame_of-f.ensures in let inv = subst (λ f. Counting f (length c.args.targets.now / c.args.b.axes) c.args.key.now c.args.targets.now c.loop-row.counts c.loop-row.row) c.frame_of-f.ensures c.loop-row.invariant.0 in record { value = counting-done c.args.b c.args.key.now c.args.targets.now c.loop-row.counts c.loop-row.row inv c.loop-row-test.false; counted = λ d. counting-all c.args.b c.args.key.now c.args.targets.now c.loop-row.counts c.loop-row.row inv c.loop-row-test.false }
