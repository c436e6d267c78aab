-- `was_built::is_build` meets its contract.
use borrow.Author.Tests.{not-true, not-false}
use Rattle.sums.proofs.Tells.{tell-true, tell-false}
use Rattle.was_built.proofs.Judged.{not-points, by-growth, tree-keys}
use Rattle.was_built.proofs.is_build.Goals as goal

pub returns-then-not-points_right : goal.returns-then-not-points_right
returns-then-not-points_right c = not-points c.args.b c.args.limit c.args.keep c.args.sources.now c.args.key.now c.args.own.now c.args.begin.now c.args.total.now c.args.order.now c.requires.0 c.requires.1 (tell-false c.points_right.result c.points_right.ensures (c.if-not-points_right.true))

pub is_grown-requires : goal.is_grown-requires
is_grown-requires c = tree-keys c.args.b.axes c.args.key.now c.args.own.now c.args.begin.now c.args.total.now c.requires.0 c.requires.1

pub returns : goal.returns
returns c = by-growth c.args.b c.args.limit c.args.keep c.args.sources.now c.args.key.now c.args.own.now c.args.begin.now c.args.total.now c.args.order.now c.requires.0 c.requires.1 c.is_grown.result c.is_grown.ensures (tell-true c.points_right.result c.points_right.ensures (c.if-not-points_right.false))
