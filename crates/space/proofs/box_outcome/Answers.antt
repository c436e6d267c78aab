-- `space::box_outcome` meets its contract: its checks are those of the definition, in its order.
use mathlib.Core.Path.{sym, ◌∙◌}
use native.Mathlib.Omega.{arith}
use borrow.Author.Tests.{not-true, not-false}
use Rattle.space.proofs.Boxes.{no-axes, many-axes, radius-off, centre-off, box-fine}
use Rattle.space.proofs.box_outcome.Goals as goal

pub returns-then-b-lt1 : goal.returns-then-b-lt1
returns-then-b-lt1 c = no-axes c.args.b c.if-b-lt1.true

pub returns-then-b-gt3 : goal.returns-then-b-gt3
returns-then-b-gt3 c = many-axes c.args.b c.if-b-gt3.true

pub returns-then-not-radius_known : goal.returns-then-not-radius_known
returns-then-not-radius_known c = radius-off c.args.b (omega arith) (omega arith) (sym c.radius_known.ensures ∙ c.if-not-radius_known.true)

pub returns-then-not-centres_known : goal.returns-then-not-centres_known
returns-then-not-centres_known c = centre-off c.args.b (omega arith) (omega arith) (sym c.radius_known.ensures ∙ c.if-not-radius_known.false) (sym c.centres_known.ensures ∙ c.if-not-centres_known.true)

pub returns : goal.returns
returns c = box-fine c.args.b (omega arith) (omega arith) (sym c.radius_known.ensures ∙ c.if-not-radius_known.false) (sym c.centres_known.ensures ∙ c.if-not-centres_known.false)
