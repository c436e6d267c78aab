-- `space::centres_known` meets its contract: the axes seen are known.
use mathlib.Core.Path.{sym, ap, ◌∙◌}
use mathlib.Core.Path.{◌≡◌}
use native.Mathlib.Omega.{arith}
use Rattle.space.specs.Domain.{centres_known}
use Rattle.space.proofs.Boxes.{centre-known, centre-unknown, no-centres}
use Rattle.space.proofs.centres_known.Goals as goal

pub loop-a-init : goal.loop-a-init
loop-a-init c = no-centres c.args.b.centre

pub returns-then-not-magnitude : goal.returns-then-not-magnitude
returns-then-not-magnitude c = centre-unknown c.args.b.centre c.args.b.axes c.loop-a.a c.magnitude.result c.loop-a-test.true c.magnitude.ensures c.if-not-magnitude.true

pub loop-a-preserved : goal.loop-a-preserved
loop-a-preserved c = centre-known c.args.b.centre c.loop-a.a c.magnitude.result c.loop-a.invariant c.magnitude.ensures c.if-not-magnitude.false

pub returns : goal.returns
returns c = let e : c.loop-a.a ≡ c.args.b.axes = omega arith in sym c.loop-a.invariant ∙ ap (λ n. centres_known n c.args.b.centre) e
