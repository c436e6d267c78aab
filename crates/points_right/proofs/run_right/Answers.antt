-- `points_right::run_right` meets its contract.
use mathlib.Core.Path.{sym, ◌∙◌}
use lib.ListN.{length, get_or}
use Rattle.points_right.specs.Points.{point_in}
use Rattle.points_right.proofs.Runs.{upto-start, upto-more, upto_done, not-rising, not-index, not-inside, rows_fit}
use Rattle.points_right.proofs.run_right.Goals as goal

pub loop-p-init : goal.loop-p-init
loop-p-init c = upto-start c.args.n (point_in c.args.f c.args.points.now) c.args.order.now c.args.k c.args.from

pub returns-then-i-low : goal.returns-then-i-low
returns-then-i-low c = not-rising c.args.n (point_in c.args.f c.args.points.now) c.args.order.now c.args.k c.args.from c.loop-p.low c.loop-p.p c.loop-p.invariant c.args.to c.loop-p-test.true c.if-i-low.true

pub returns-then-n-i : goal.returns-then-n-i
returns-then-n-i c = not-index c.args.n (point_in c.args.f c.args.points.now) c.args.order.now c.args.k c.args.from c.loop-p.low c.loop-p.p c.loop-p.invariant c.args.to c.loop-p-test.true c.if-n-i.true

pub is_held-requires : goal.is_held-requires
is_held-requires c = (c.requires.0, c.requires.1, rows_fit (get_or c.args.order.now c.loop-p.p 0) c.args.n c.args.f.axes (length c.args.points.now) c.if-n-i.false c.requires.2, c.requires.3)

pub returns-then-not-is_held : goal.returns-then-not-is_held
returns-then-not-is_held c = not-inside c.args.n (point_in c.args.f c.args.points.now) c.args.order.now c.args.k c.args.from c.loop-p.low c.loop-p.p c.loop-p.invariant c.args.to c.loop-p-test.true (sym c.is_held.ensures ∙ c.if-not-is_held.true)

pub loop-p-preserved : goal.loop-p-preserved
loop-p-preserved c = upto-more c.args.n (point_in c.args.f c.args.points.now) c.args.order.now c.args.k c.args.from c.loop-p.low c.loop-p.p c.loop-p.invariant c.if-i-low.false c.if-n-i.false (sym c.is_held.ensures ∙ c.if-not-is_held.false)

pub returns : goal.returns
returns c = upto_done c.args.n (point_in c.args.f c.args.points.now) c.args.order.now c.args.k c.args.from c.loop-p.low c.loop-p.p c.loop-p.invariant c.args.to c.loop-p-test.false
