-- `survey::number_of` meets its contract.
use mathlib.Core.Path.{sym, ◌∙◌}
use Rattle.survey.proofs.Numbers.{made-nan, nan-of, no_nan}
use Rattle.survey.proofs.number_of.Goals as goal

pub returns-then-is_nan : goal.returns-then-is_nan
returns-then-is_nan c = made-nan ∙ sym (nan-of _ (sym c.is_nan.ensures ∙ c.if-is_nan.true))

pub float_from_bits-result : goal.float_from_bits-result
float_from_bits-result c = no_nan _ (sym c.is_nan.ensures ∙ c.if-is_nan.false)
