-- The number and the values of a refusal, as they are printed.
use mathlib.Core.Path.{◌≡◌, refl, ap, ◌∙◌}
use mathlib.Core.List.{List, [], ◌∷◌}
use Prim.Native.Nat.{ℕ, ◌+◌, ◌≤◌}
use native.Mathlib.Numerals.{add-one}
use native.Mathlib.Omega.{arith}
use lib.ListN.{length, take, get_or}
use Rattle.refusal.specs.declared.Refusal.{Refusal}
use Rattle.refusal.specs.declared.Told.{Told}
use Rattle.refusal.specs.Numbers.{number_of, values_of, tells}
use Rattle.refusal.proofs.Most.{values-most}

-- as many of the three as there are
first_three : (vs : List ℕ) → length vs ≤ 3 → take (length vs) (get_or vs 0 0 ∷ get_or vs 1 0 ∷ get_or vs 2 0 ∷ []) ≡ vs
first_three [] h = refl
first_three (a ∷ []) h = refl
first_three (a ∷ b ∷ []) h = refl
first_three (a ∷ b ∷ c ∷ []) h = refl
first_three (a ∷ b ∷ c ∷ d ∷ vs) h = absurd (omega arith)

abbrev printed : Told → List ℕ
printed t = take (t.count + 1) (t.number ∷ t.value ∷ t.axis ∷ t.reason ∷ [])

module _ (r : Refusal) (t : Told) (e : t ≡ tells (number_of r) (values_of r)) where
  pub told-most : t.count ≤ 3
  told-most = omega (arith, ap (λ (s : Told). s.count) e, values-most r)

  pub told-printed : printed t ≡ number_of r ∷ values_of r
  told-printed = ap printed e ∙ ap (λ (n : ℕ). take n (number_of r ∷ get_or (values_of r) 0 0 ∷ get_or (values_of r) 1 0 ∷ get_or (values_of r) 2 0 ∷ [])) (add-one (length (values_of r))) ∙ ap (λ (vs : List ℕ). number_of r ∷ vs) (first_three (values_of r) (values-most r))
