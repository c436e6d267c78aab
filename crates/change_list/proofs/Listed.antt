-- The five parts one after the other are the list.
use mathlib.Core.Path.{◌≡◌, refl, sym, ap, ap₂, ◌∙◌, subst}
use mathlib.Core.List.{List, [], ◌∷◌, ◌++◌, append_assoc, append-nil}
use Prim.Native.Nat.{ℕ, ◌+◌, ◌-◌, ◌≤◌, ◌<◌, min}
use native.Mathlib.Omega.{arith}
use lib.ListN.{length, take, replicate, length-append, length-map}
use Rattle.slices.specs.Lists.{range}
use Rattle.slices.specs.Order.{ascending}
use Rattle.tree.specs.Nodes.{own_of}
use Rattle.sourced.specs.Room.{Holds, Puts, PutsRow, SortedPart}
use Rattle.sourced.proofs.Putting.{holds-none}
use Rattle.changed_rows.specs.Told.{Beside, told_keys, Comparable}
use Rattle.change_list.specs.List.{new_nodes, zero_nodes, told_all, codes_all, code_runs, ListedAll}
use Rattle.change_list.proofs.Added.{zero-new}

abbrev five_runs : ℕ → ℕ → ℕ → ℕ → ℕ → List ℕ
five_runs n₁ n₂ n₃ n₄ n₅ = replicate n₁ 1 ++ (replicate n₂ 2 ++ (replicate n₃ 3 ++ (replicate n₄ 4 ++ replicate n₅ 5)))

runs_same : (n₁ n₂ n₃ n₄ n₅ m₁ m₂ m₃ m₄ m₅ : ℕ) → n₁ ≡ m₁ → n₂ ≡ m₂ → n₃ ≡ m₃ → n₄ ≡ m₄ → n₅ ≡ m₅
    → five_runs n₁ n₂ n₃ n₄ n₅ ≡ five_runs m₁ m₂ m₃ m₄ m₅
runs_same n₁ n₂ n₃ n₄ n₅ m₁ m₂ m₃ m₄ m₅ e₁ e₂ e₃ e₄ e₅ = rw (e₁, e₂, e₃, e₄, e₅)

-- five lists joined to the left
abbrev joined : (k₁ k₂ k₃ k₄ k₅ : List ℕ) → List ℕ
joined k₁ k₂ k₃ k₄ k₅ = (((([] ++ k₁) ++ k₂) ++ k₃) ++ k₄) ++ k₅

module _ (b : Beside) where
  whole : joined (told_keys b 1) (told_keys b 2) (ascending (new_nodes b)) (told_keys b 4) (told_keys b 5) ≡ told_all b
  unfolding told_all
  whole =
      append_assoc (((told_keys b 1 ++ told_keys b 2) ++ ascending (new_nodes b))) (told_keys b 4) (told_keys b 5)
      ∙ append_assoc (told_keys b 1 ++ told_keys b 2) (ascending (new_nodes b)) (told_keys b 4 ++ told_keys b 5)
      ∙ append_assoc (told_keys b 1) (told_keys b 2) (ascending (new_nodes b) ++ (told_keys b 4 ++ told_keys b 5))

  parts : (a₁ a₂ a₃ a₄ a₅ : ℕ) → a₁ ≡ length (told_keys b 1) → a₂ - a₁ ≡ length (told_keys b 2) → a₃ - a₂ ≡ length (ascending (new_nodes b)) → a₄ - a₃ ≡ length (told_keys b 4) → a₅ - a₄ ≡ length (told_keys b 5) → code_runs a₁ a₂ a₃ a₄ a₅ ≡ codes_all b
  unfolding code_runs codes_all
  parts a₁ a₂ a₃ a₄ a₅ e₁ e₂ e₃ e₄ e₅ = runs_same a₁ (a₂ - a₁) (a₃ - a₂) (a₄ - a₃) (a₅ - a₄) (length (told_keys b 1)) (length (told_keys b 2)) (length (ascending (new_nodes b))) (length (told_keys b 4)) (length (told_keys b 5)) e₁ e₂ e₃ e₄ e₅

module _ (b : Beside) (firsts : List ℕ) (ok : Comparable b firsts) (s₀ s₁ s₂ s₃ s₄ s₅ s₆ : List ℕ) (a₁ a₂ a₃ a₄ a₅ : ℕ)
    (l₁ : length s₁ ≡ length s₀) (l₂ : length s₂ ≡ length s₁) (l₃ : length s₃ ≡ length s₂) (l₄ : length s₄ ≡ length s₃) (l₅ : length s₅ ≡ length s₄) (l₆ : length s₆ ≡ length s₅)
    (p₁ : Puts s₀ 0 (told_keys b 1) s₁ a₁) (p₂ : Puts s₁ a₁ (told_keys b 2) s₂ a₂) (p₃ : Puts s₂ a₂ (zero_nodes b.nodes firsts) s₃ a₃) (o : SortedPart a₂ a₃ s₃ s₄)
    (p₄ : Puts s₄ a₃ (told_keys b 4) s₅ a₄) (p₅ : Puts s₅ a₄ (told_keys b 5) s₆ a₅) where
  added : Puts s₂ a₂ (ascending (new_nodes b)) s₄ a₃
  added = o (ascending (new_nodes b)) s₂ (sym l₃) (record { cells = zero_nodes b.nodes firsts; puts = p₃; sorted = ap ascending (zero-new b firsts ok) })

  h₁ : Holds s₁ a₁ ([] ++ told_keys b 1)
  h₁ = p₁ [] (holds-none s₀)

  h₂ : Holds s₂ a₂ (([] ++ told_keys b 1) ++ told_keys b 2)
  h₂ = p₂ _ h₁

  h₃ : Holds s₄ a₃ ((([] ++ told_keys b 1) ++ told_keys b 2) ++ ascending (new_nodes b))
  h₃ = added _ h₂

  h₄ : Holds s₅ a₄ (((([] ++ told_keys b 1) ++ told_keys b 2) ++ ascending (new_nodes b)) ++ told_keys b 4)
  h₄ = p₄ _ h₃

  h₅ : Holds s₆ a₅ ((((([] ++ told_keys b 1) ++ told_keys b 2) ++ ascending (new_nodes b)) ++ told_keys b 4) ++ told_keys b 5)
  h₅ = p₅ _ h₄

  pub keys-held : Holds s₆ a₅ (told_all b)
  keys-held = subst (Holds s₆ a₅) (whole b) h₅

  -- where the keys have room the parts end at these places
  module _ (fits : a₅ ≤ length s₆) where
    n₂ : length (([] ++ told_keys b 1) ++ told_keys b 2) ≡ length (told_keys b 1) + length (told_keys b 2)
    n₂ = length-append (told_keys b 1) (told_keys b 2)

    n₃ : length ((([] ++ told_keys b 1) ++ told_keys b 2) ++ ascending (new_nodes b)) ≡ length (([] ++ told_keys b 1) ++ told_keys b 2) + length (ascending (new_nodes b))
    n₃ = length-append (([] ++ told_keys b 1) ++ told_keys b 2) (ascending (new_nodes b))

    n₄ : length (((([] ++ told_keys b 1) ++ told_keys b 2) ++ ascending (new_nodes b)) ++ told_keys b 4) ≡ length ((([] ++ told_keys b 1) ++ told_keys b 2) ++ ascending (new_nodes b)) + length (told_keys b 4)
    n₄ = length-append ((([] ++ told_keys b 1) ++ told_keys b 2) ++ ascending (new_nodes b)) (told_keys b 4)

    n₅ : length ((((([] ++ told_keys b 1) ++ told_keys b 2) ++ ascending (new_nodes b)) ++ told_keys b 4) ++ told_keys b 5) ≡ length (((([] ++ told_keys b 1) ++ told_keys b 2) ++ ascending (new_nodes b)) ++ told_keys b 4) + length (told_keys b 5)
    n₅ = length-append (((([] ++ told_keys b 1) ++ told_keys b 2) ++ ascending (new_nodes b)) ++ told_keys b 4) (told_keys b 5)

    e₅ : a₅ ≡ length (told_keys b 1) + length (told_keys b 2) + length (ascending (new_nodes b)) + length (told_keys b 4) + length (told_keys b 5)
    e₅ = omega (arith, h₅.counted, n₂, n₃, n₄, n₅)

    e₄ : a₄ ≡ length (told_keys b 1) + length (told_keys b 2) + length (ascending (new_nodes b)) + length (told_keys b 4)
    e₄ = omega (arith, e₅, h₄.counted, n₂, n₃, n₄, l₆)

    e₃ : a₃ ≡ length (told_keys b 1) + length (told_keys b 2) + length (ascending (new_nodes b))
    e₃ = omega (arith, e₅, h₃.counted, n₂, n₃, l₆, l₅)

    e₂ : a₂ ≡ length (told_keys b 1) + length (told_keys b 2)
    e₂ = omega (arith, e₅, h₂.counted, n₂, l₆, l₅, l₄, l₃)

    e₁ : a₁ ≡ length (told_keys b 1)
    e₁ = omega (arith, e₅, h₁.counted, l₆, l₅, l₄, l₃, l₂)

    pub in-turn : (a₁ ≤ a₂) × (a₂ ≤ a₃) × (a₃ ≤ a₄) × (a₄ ≤ a₅)
    in-turn = (omega (arith, e₁, e₂), omega (arith, e₂, e₃), omega (arith, e₃, e₄), omega (arith, e₄, e₅))

    pub codes_are : code_runs a₁ a₂ a₃ a₄ a₅ ≡ codes_all b
    codes_are = parts b a₁ a₂ a₃ a₄ a₅ e₁ (omega (arith, e₁, e₂)) (omega (arith, e₂, e₃)) (omega (arith, e₃, e₄)) (omega (arith, e₄, e₅))

    pub listed-all : (codes : List ℕ) → take a₅ codes ≡ code_runs a₁ a₂ a₃ a₄ a₅ → ListedAll b codes s₆ a₅
    listed-all codes e = record { keys = keys-held; coded = λ h k. e ∙ codes_are }

  pub listed-over : (codes : List ℕ) → (a₅ ≤ length codes → a₅ ≤ length s₆ → ⊥) → ListedAll b codes s₆ a₅
  listed-over codes none = record { keys = keys-held; coded = λ h k. absurd (none h k) }

pub firsts-long : (b : Beside) (firsts : List ℕ) → Comparable b firsts → length firsts ≡ length b.nodes
firsts-long b firsts ok = ap length ok.first ∙ length-map b.nodes (own_of b.key (range 1 (length b.key)))
