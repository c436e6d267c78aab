-- `centres::centre_on` meets its contract: the operations are those of the definition.
use mathlib.Core.Path.{ap, ◌∙◌}
use native.Mathlib.Omega.{arith}
use Rattle.space.specs.Cells.{side}
use Rattle.centres.proofs.Centres.{centre-past, held-float, centre-at}
use Rattle.centres.proofs.centre_on.Goals as goal

pub returns-then-a-b : goal.returns-then-a-b
returns-then-a-b c = centre-past c.args.b c.args.key c.args.a c.if-a-b.true

pub side_at-side-requires : goal.side_at-side-requires
side_at-side-requires c = omega (arith, c.level_of.ensures, c.requires.0.level)

pub int_to_float-result : goal.int_to_float-result
int_to_float-result c = held-float c.args.b c.args.key c.args.a _ c.requires.1 c.if-a-b.false c.requires.0

pub returns : goal.returns
returns c = centre-at c.args.b c.args.key c.args.a _ c.requires.1 c.if-a-b.false c.side_at-side.result c.displacement.result (c.side_at-side.ensures ∙ ap (side c.args.b.radius) c.level_of.ensures) c.displacement.ensures
