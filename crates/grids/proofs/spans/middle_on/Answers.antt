-- `grids::spans::middle_on` meets its contract.
use mathlib.Core.Path.{ap, ◌∙◌}
use native.Mathlib.Omega.{arith}
use Rattle.grids.specs.Ranges.{first_from}
use Rattle.grids.proofs.Middles.{anchor-word, middle-is, middle-sought}
use Rattle.grids.proofs.spans.middle_on.Goals as goal

pub overflow_mul-x : goal.overflow_mul-x
overflow_mul-x c = omega (arith, anchor-word c.args.level c.args.x c.requires.1 c.requires.2)

pub overflow_add-x : goal.overflow_add-x
overflow_add-x c = omega (arith, anchor-word c.args.level c.args.x c.requires.1 c.requires.2)

pub first_within-requires : goal.first_within-requires
first_within-requires c = middle-sought c.args.level c.args.x c.requires.1 c.requires.2 c.args.f c.args.g c.args.a c.args.from c.args.to c.requires.0 c.requires.3

pub returns : goal.returns
returns c = c.first_within.ensures ∙ ap (first_from c.args.f c.args.g c.args.a) (middle-is c.args.level c.args.x c.requires.1 c.requires.2)
