-- Codes written from one place up to another.
use mathlib.Core.Path.{◌≡◌, refl, sym, ap, ap₂, ◌∙◌}
use mathlib.Core.List.{List, [], ◌∷◌, ◌++◌, append_assoc, append-nil}
use Prim.Native.Nat.{ℕ, zero, suc, ◌+◌, ◌-◌, ◌≤◌, ◌<◌}
use native.Mathlib.Omega.{arith}
use native.Mathlib.Numerals.{add-one}
use lib.ListN.{length, get_or, set, take, replicate, length-set}
use lib.Seq.{take-suc-set}
use Rattle.change_list.specs.List.{code_runs}

-- five parts
pub five-parts : (a b c d e : ℕ) (s₁ s₂ s₃ s₄ s₅ : List ℕ) → take a s₁ ≡ replicate (a - 0) 1 → take b s₂ ≡ take a s₁ ++ replicate (b - a) 2 → take c s₃ ≡ take b s₂ ++ replicate (c - b) 3
    → take d s₄ ≡ take c s₃ ++ replicate (d - c) 4 → take e s₅ ≡ take d s₄ ++ replicate (e - d) 5 → take e s₅ ≡ code_runs a b c d e
unfolding code_runs
five-parts a b c d e s₁ s₂ s₃ s₄ s₅ h₁ h₂ h₃ h₄ h₅ =
    let z : a - 0 ≡ a = omega arith in
    h₅
    ∙ ap (λ (l : List ℕ). l ++ r₅) (h₄ ∙ ap (λ (l : List ℕ). l ++ r₄) (h₃ ∙ ap (λ (l : List ℕ). l ++ r₃) (h₂ ∙ ap (λ (l : List ℕ). l ++ r₂) (h₁ ∙ ap (λ (x : ℕ). replicate x 1) z))))
    ∙ append_assoc (((r₁ ++ r₂) ++ r₃)) r₄ r₅
    ∙ append_assoc (r₁ ++ r₂) r₃ (r₄ ++ r₅)
    ∙ append_assoc r₁ r₂ (r₃ ++ (r₄ ++ r₅))
  where
    r₁ : List ℕ
    r₁ = replicate a 1

    r₂ : List ℕ
    r₂ = replicate (b - a) 2

    r₃ : List ℕ
    r₃ = replicate (c - b) 3

    r₄ : List ℕ
    r₄ = replicate (d - c) 4

    r₅ : List ℕ
    r₅ = replicate (e - d) 5
