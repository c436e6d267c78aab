-- The first entries are lent for the sums; without a column there are no codes.
use native.Mathlib.Omega.{arith}
use borrow.Author.Rules.{Fits-under}
use Rattle.refine.proofs.Made.{shift_small, above-width, cells-shifted, lent, lent-shifted, none_made, made}
use Rattle.refine.proofs.sums.add_sums.Goals as goal

pub returns-then-sums-eq0 : goal.returns-then-sums-eq0
returns-then-sums-eq0 c = none_made c.args.axes c.args.depth c.args.codes.now c.args.sums.now c.requires (omega (arith, c.if-sums-eq0.true))

pub overflow_mul-cells : goal.overflow_mul-cells
overflow_mul-cells c = omega (arith, above-width c.args.axes c.args.depth c.args.codes.now c.args.sums.now c.requires)

pub overflow_shl-cells : goal.overflow_shl-cells
overflow_shl-cells c = omega (arith, above-width c.args.axes c.args.depth c.args.codes.now c.args.sums.now c.requires)

pub overflow_mul-axes : goal.overflow_mul-axes
overflow_mul-axes c = Fits-under _ _ 64 (shift_small _ _ c.requires.most (omega arith)) tt

pub slice_bounds-sum_cells-end : goal.slice_bounds-sum_cells-end
slice_bounds-sum_cells-end c = omega (arith, cells-shifted c.args.axes c.args.depth c.args.codes.now c.args.sums.now c.requires, c.requires.some (omega (arith, c.if-sums-eq0.false)))

pub slice_bounds-sum_cells-end-2 : goal.slice_bounds-sum_cells-end-2
slice_bounds-sum_cells-end-2 c = lent c.args.axes c.args.depth c.args.codes.now c.args.sums.now c.requires _ (omega (arith, c.if-sums-eq0.false)) (cells-shifted c.args.axes c.args.depth c.args.codes.now c.args.sums.now c.requires)

pub sum_cells-requires : goal.sum_cells-requires
sum_cells-requires c = lent-shifted c.args.axes c.args.depth c.args.codes.now c.args.sums.now c.requires _ (omega (arith, c.if-sums-eq0.false)) (cells-shifted c.args.axes c.args.depth c.args.codes.now c.args.sums.now c.requires)

pub returns : goal.returns
returns c = made c.args.axes c.args.depth c.args.codes.now c.args.sums.now c.requires c.sum_cells.new.sums (omega (arith, c.if-sums-eq0.false)) (omega (arith, c.sum_cells.auto.sums, lent c.args.axes c.args.depth c.args.codes.now c.args.sums.now c.requires _ (omega (arith, c.if-sums-eq0.false)) (cells-shifted c.args.axes c.args.depth c.args.codes.now c.args.sums.now c.requires), cells-shifted c.args.axes c.args.depth c.args.codes.now c.args.sums.now c.requires)) c.sum_cells.ensures _ (cells-shifted c.args.axes c.args.depth c.args.codes.now c.args.sums.now c.requires)
