-- `grids::spans::parted` meets its contract: the first a axes have their middle.
use mathlib.Core.Path.{refl}
use Rattle.grids.proofs.Loops.{middle-asked, middle-told, middling-start, middling-more, middling-done}
use Rattle.grids.proofs.spans.parted.Goals as goal

pub loop-a-init : goal.loop-a-init
loop-a-init c = middling-start c.args.f c.args.g c.args.key c.requires.0.most _ refl

pub middle_on-requires : goal.middle_on-requires
middle_on-requires c = middle-asked c.args.f c.args.g c.args.key c.loop-a.a c.loop-a-test.true c.level_of-level.result c.level_of-level.ensures c.anchors_of-anchor.result c.anchors_of-anchor.ensures c.requires.0 c.requires.2 c.args.s c.requires.3

pub loop-a-preserved : goal.loop-a-preserved
loop-a-preserved c = middling-more c.args.f c.args.g c.args.key c.requires.0.most c.loop-a.middle c.loop-a.a c.middle_on.result c.loop-a.invariant c.loop-a-test.true (middle-told c.args.f c.args.g c.args.key c.loop-a.a c.loop-a-test.true c.level_of-level.result c.level_of-level.ensures c.anchors_of-anchor.result c.anchors_of-anchor.ensures c.middle_on.result c.middle_on.ensures)

pub returns : goal.returns
returns c = middling-done c.args.f c.args.g c.args.key c.requires.0.most c.args.s c.loop-a.middle c.loop-a.a c.loop-a.invariant c.loop-a-test.false c.requires.3
