-- `survey::f64_at` meets its contract.
use mathlib.Core.Path.{ap, ◌∙◌}
use lib.Ieee.{binary64, of_bits}
use Rattle.survey.proofs.Numbers.{eight}
use Rattle.survey.proofs.f64_at.Goals as goal

pub returns : goal.returns
returns c = c.number_of.ensures ∙ ap (of_bits binary64) (eight c.args.file.now c.args.at _ _ c.u32_at.ensures.0 c.u32_at-2.ensures.0)
