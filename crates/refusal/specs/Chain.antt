-- A call's checks run one after the other, in document 01's order, and the first that fails refuses it.
use Rattle.std.specs.Prelude.{Bool, true, false, Err, Ok}
use Rattle.refusal.specs.declared.Refusal.{Refusal}
use Rattle.refusal.specs.Outcome.{Answer, Outcome, accepted}

-- refused where the test fails
abbrev pub ask : Bool → Refusal → Outcome
ask true r = accepted
ask false r = Err r

-- what comes second, a check or the answer, counts where the first has not refused
infixl 20 ◌then◌
abbrev pub ◌then◌ : {A : Type 0} → Outcome → Answer A → Answer A
Ok tt then a = a
Err r then a = Err r
