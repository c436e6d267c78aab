-- `survey_check::check_sums` meets its contract.
use mathlib.Core.Path.{ap, ◌∙◌}
use Prim.Native.Nat.{ℕ}
use lib.ListN.{replicate}
use Rattle.survey_check.proofs.check_sums.Goals as goal

pub returns : goal.returns
returns c = record { answer = c.survey-answer.ensures.answer; all = c.survey-answer.ensures.all; left = c.clear.ensures ∙ ap (λ (n : ℕ). replicate n 0) c.survey-answer.auto.sums }
