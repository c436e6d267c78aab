-- How a call ended: with its answer, or with a refusal.
use Rattle.std.specs.Prelude.{Result, Ok, Err}
use Rattle.refusal.specs.declared.Refusal.{Refusal}

abbrev pub Answer : Type 0 → Type 0
Answer A = Result A Refusal

-- of a call that has nothing else to answer
abbrev pub Outcome : Type 0
Outcome = Answer (Unit {0})

abbrev pub accepted : Outcome
accepted = Ok tt

-- how a call ended, whatever it answers
abbrev pub ending : {A : Type 0} → Answer A → Outcome
ending (Ok x) = accepted
ending (Err r) = Err r

-- what a call answers, or what stands in its place after a refusal
abbrev pub answer_or : {A : Type 0} → A → Answer A → A
answer_or other (Ok x) = x
answer_or other (Err r) = other
