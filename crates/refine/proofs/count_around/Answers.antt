-- At each turn the cell and the neighbours passed are counted, whichever the sources are.
use native.Mathlib.Omega.{arith}
use Rattle.refine.proofs.BySums.{start, end, more, own-small, room, valid-other, fits, lifted-good}
use Rattle.refine.proofs.count_around.Goals as goal

pub lifted-requires : goal.lifted-requires
lifted-requires c = (c.requires.0, c.requires.1.1.deep)

pub sources_in-own-requires : goal.sources_in-own-requires
sources_in-own-requires c = lifted-good c.args.axes c.args.depth c.args.key c.args.sums.now c.requires.0 c.requires.1 _ _ c.requires.0 c.lifted.ensures

pub overflow_mul-squares : goal.overflow_mul-squares
overflow_mul-squares c = omega (arith, own-small c.args.axes c.args.depth c.args.key c.args.sums.now c.requires.0 c.requires.1 _ _ c.lifted.ensures c.sources_in-own.ensures)

pub loop-i-init : goal.loop-i-init
loop-i-init c = start c.args.axes c.args.depth c.args.key c.args.sums.now c.requires.0 _ _ _ c.list_neighbours-list.ensures c.lifted.ensures c.sources_in-own.ensures

pub offset_bounds-others-i : goal.offset_bounds-others-i
offset_bounds-others-i c = omega (arith, room c.args.axes c.args.depth c.args.key c.args.sums.now c.requires.0 c.requires.1 _ _ _ _ _ c.loop-i.invariant)

pub bounds-others-i : goal.bounds-others-i
bounds-others-i c = omega (arith, room c.args.axes c.args.depth c.args.key c.args.sums.now c.requires.0 c.requires.1 _ _ _ _ _ c.loop-i.invariant)

pub lifted-requires-in-loop-i : goal.lifted-requires-in-loop-i
lifted-requires-in-loop-i c = (valid-other c.args.axes c.args.depth c.args.key c.args.sums.now c.requires.0 c.requires.1 _ _ _ _ _ c.loop-i.invariant c.loop-i-test.true, c.requires.1.1.deep)

pub sources_in-found-requires : goal.sources_in-found-requires
sources_in-found-requires c = lifted-good c.args.axes c.args.depth c.args.key c.args.sums.now c.requires.0 c.requires.1 _ _ (valid-other c.args.axes c.args.depth c.args.key c.args.sums.now c.requires.0 c.requires.1 _ _ _ _ _ c.loop-i.invariant c.loop-i-test.true) c.lifted-in-loop-i.ensures

pub overflow_add-sum : goal.overflow_add-sum
overflow_add-sum c = omega (arith, (fits c.args.axes c.args.depth c.args.key c.args.sums.now c.requires.0 c.requires.1 _ _ _ _ _ c.loop-i.invariant c.loop-i-test.true _ _ c.lifted-in-loop-i.ensures c.sources_in-found.ensures).0)

pub overflow_mul-squares-in-loop-i : goal.overflow_mul-squares-in-loop-i
overflow_mul-squares-in-loop-i c = omega (arith, (fits c.args.axes c.args.depth c.args.key c.args.sums.now c.requires.0 c.requires.1 _ _ _ _ _ c.loop-i.invariant c.loop-i-test.true _ _ c.lifted-in-loop-i.ensures c.sources_in-found.ensures).1)

pub overflow_add-squares : goal.overflow_add-squares
overflow_add-squares c = omega (arith, (fits c.args.axes c.args.depth c.args.key c.args.sums.now c.requires.0 c.requires.1 _ _ _ _ _ c.loop-i.invariant c.loop-i-test.true _ _ c.lifted-in-loop-i.ensures c.sources_in-found.ensures).2)

pub loop-i-preserved : goal.loop-i-preserved
loop-i-preserved c = more c.args.axes c.args.depth c.args.key c.args.sums.now c.requires.0 _ _ _ _ _ c.loop-i.invariant c.loop-i-test.true _ _ c.lifted-in-loop-i.ensures c.sources_in-found.ensures

pub overflow_add-result : goal.overflow_add-result
overflow_add-result c = omega (arith, room c.args.axes c.args.depth c.args.key c.args.sums.now c.requires.0 c.requires.1 _ _ _ _ _ c.loop-i.invariant)

pub returns : goal.returns
returns c = end c.args.axes c.args.depth c.args.key c.args.sums.now c.requires.0 _ _ _ _ _ c.loop-i.invariant c.loop-i-test.false
