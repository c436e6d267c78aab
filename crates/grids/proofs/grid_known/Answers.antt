-- `grids::grid_known` meets its contract: the axes seen are known.
use mathlib.Core.Path.{◌≡◌, sym, ap, ◌∙◌}
use native.Mathlib.Omega.{arith}
use Rattle.grids.specs.Grids.{grid_known}
use Rattle.grids.proofs.Known.{known-fails, known_next, known-none}
use Rattle.grids.proofs.grid_known.Goals as goal

pub loop-a-init : goal.loop-a-init
loop-a-init c = known-none c.args.g

pub returns-then-not-axis_known : goal.returns-then-not-axis_known
returns-then-not-axis_known c = known-fails c.args.g c.loop-a.a c.axis_known.result c.axis_known.ensures c.args.axes c.loop-a-test.true c.if-not-axis_known.true

pub loop-a-preserved : goal.loop-a-preserved
loop-a-preserved c = known_next c.args.g c.loop-a.a c.axis_known.result c.axis_known.ensures c.loop-a.invariant c.if-not-axis_known.false

pub returns : goal.returns
returns c = let e : c.loop-a.a ≡ c.args.axes = omega arith in sym c.loop-a.invariant ∙ ap (λ n. grid_known n c.args.g) e
