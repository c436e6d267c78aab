-- The tests decide which factor it is.
use native.Mathlib.Omega.{arith}
use Rattle.refine.proofs.Factors.{factor-none, factor-deep, factor-alike, factor-unlike}
use Rattle.refine.proofs.BySums.{test_fits}
use Rattle.refine.proofs.factor.Goals as goal

pub returns-then-around-eq0 : goal.returns-then-around-eq0
returns-then-around-eq0 c = λ ss t. factor-none c.args.axes c.args.depth c.args.key ss _ (c.count_around-around.ensures ss t) c.if-around-eq0.true

pub returns-then-depth-level_of : goal.returns-then-depth-level_of
returns-then-depth-level_of c = λ ss t. factor-deep c.args.axes c.args.depth c.args.key ss _ (c.count_around-around.ensures ss t) c.if-around-eq0.false (omega (arith, c.level_of.ensures, c.if-depth-level_of.true))

pub overflow_mul-around : goal.overflow_mul-around
overflow_mul-around c = omega (arith, test_fits c.args.axes c.args.depth c.args.key c.args.sums.now c.requires.0 c.requires.1 _ c.count_around-around.ensures)

pub overflow_mul-around-2 : goal.overflow_mul-around-2
overflow_mul-around-2 c = omega (arith, test_fits c.args.axes c.args.depth c.args.key c.args.sums.now c.requires.0 c.requires.1 _ c.count_around-around.ensures)

pub overflow_mul-around-3 : goal.overflow_mul-around-3
overflow_mul-around-3 c = omega (arith, test_fits c.args.axes c.args.depth c.args.key c.args.sums.now c.requires.0 c.requires.1 _ c.count_around-around.ensures)

pub returns-then-around : goal.returns-then-around
returns-then-around c = λ ss t. factor-alike c.args.axes c.args.depth c.args.key ss _ (c.count_around-around.ensures ss t) c.if-around-eq0.false (omega (arith, c.level_of.ensures, c.if-depth-level_of.false)) (omega (arith, c.if-around.true))

pub returns-else-around : goal.returns-else-around
returns-else-around c = λ ss t. factor-unlike c.args.axes c.args.depth c.args.key ss _ (c.count_around-around.ensures ss t) c.if-around-eq0.false (omega (arith, c.level_of.ensures, c.if-depth-level_of.false)) (omega (arith, c.if-around.false))
