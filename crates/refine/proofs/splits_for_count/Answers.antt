-- With at most the near limit the answer is no; with more, the product fits and decides.
use native.Mathlib.Omega.{arith}
use Rattle.refine.proofs.Splits.{few-held, product-fits, splits-is}
use Rattle.refine.proofs.splits_for_count.Goals as goal

pub near_limit-near-requires : goal.near_limit-near-requires
near_limit-near-requires c = (c.requires.0.most, c.requires.2)

pub returns-then-held-near : goal.returns-then-held-near
returns-then-held-near c = λ ss t. few-held c.args.axes c.args.depth c.args.limit c.args.order ss c.args.key _ c.args.held c.near_limit-near.ensures c.if-held-near.true

pub factor-requires : goal.factor-requires
factor-requires c = (c.requires.0, c.requires.1)

pub overflow_mul-result : goal.overflow_mul-result
overflow_mul-result c = omega (arith, product-fits c.args.axes c.args.depth c.args.limit c.args.order c.requires.1.0 c.args.key _ c.args.held c.near_limit-near.ensures _ (omega (arith, c.if-held-near.false)) (c.factor.ensures c.requires.1.0 c.requires.1.1) c.requires.3)

pub returns : goal.returns
returns c = λ ss t. splits-is c.args.axes c.args.depth c.args.limit c.args.order ss c.args.key _ c.args.held c.near_limit-near.ensures _ (c.factor.ensures ss t)
