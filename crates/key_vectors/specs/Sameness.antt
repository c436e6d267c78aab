-- When two answers count as one.
use Rattle.std.specs.Prelude.{Bool, false, ◌&&◌, List, ℕ, eqb, get_or, Option, Some, None, Result, Ok, Err}
use Rattle.slices.specs.Every.{every}
use Rattle.axes.specs.Axes.{neighbours_room}
use Rattle.key_vectors.specs.declared.calls.Refused.{Refused}
use Rattle.key_vectors.specs.declared.text.Numbers.{Numbers}

-- one number in each of n places, the unused ones too
abbrev pub same_numbers : ℕ → List ℕ → List ℕ → Bool
same_numbers n a b = every n (λ k. eqb (get_or a k 0) (get_or b k 0))

-- one length and the same numbers
abbrev pub same_list : Numbers → Numbers → Bool
same_list a b = eqb a.len b.len && same_numbers (neighbours_room 3) a.values b.values

abbrev pub same_refusal : Refused → Refused → Bool
same_refusal a b = eqb a.number b.number && eqb a.value b.value

abbrev pub same_result : Result Numbers Refused → Result Numbers Refused → Bool
same_result (Ok a) (Ok b) = same_list a b
same_result (Ok a) (Err s) = false
same_result (Err r) (Ok b) = false
same_result (Err r) (Err s) = same_refusal r s

-- both were read, with one refusal, or one length and the same numbers
abbrev pub same_answer : Option (Result Numbers Refused) → Option (Result Numbers Refused) → Bool
same_answer (Some a) (Some b) = same_result a b
same_answer (Some a) None = false
same_answer None b = false
