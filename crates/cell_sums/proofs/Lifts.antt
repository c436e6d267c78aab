-- Lifted sums are the sums of the readings, and 2 ^ 40 more for each source.
use mathlib.Core.Path.{◌≡◌, refl, sym, ap, ap₂, ◌∙◌}
use mathlib.Core.List.{List, [], ◌∷◌, map}
use Prim.Native.Nat.{ℕ, zero, suc, ◌+◌, ◌*◌, ◌≤◌}
use native.Mathlib.Omega.{arith}
use native.Mathlib.Numerals.{add-one}
use lib.IntN.{ℤ, pos, ◌+ℤ◌}
use lib.ListN.{length}
use Rattle.slices.specs.Lists.{sum, range}
use Rattle.tree.specs.Nodes.{own_of}
use Rattle.sums.specs.Adding.{added, addedℤ}
use Rattle.sums.specs.Sums.{reading_at, node_readings}
use Rattle.sums.proofs.Adding.{wholes, four, total-last}
use Rattle.row_sums.specs.Readings.{largest, Read, sources_in}
use Rattle.cell_sums.specs.Lifted.{lift, run_lifted, cell_lifted, row_lifted}
use Rattle.cell_sums.specs.Kept.{Summed}
use Rattle.cell_sums.proofs.Runs.{lift-is, run-last, reading_small}
use Rattle.cell_sums.proofs.Kept.{cell-within}

-- g is h with 2 ^ 40 more for each of n sources
abbrev pub Lifts : ℕ → ℤ → ℕ → Type 0
Lifts g h n = pos g ≡ h +ℤ pos (n * largest)

pub lifts-plus : (g₁ g₂ : ℕ) (h₁ h₂ : ℤ) (n₁ n₂ : ℕ) → Lifts g₁ h₁ n₁ → Lifts g₂ h₂ n₂ → Lifts (g₁ + g₂) (h₁ +ℤ h₂) (n₁ + n₂)
lifts-plus g₁ g₂ h₁ h₂ n₁ n₂ a b =
    let e : n₁ * largest + n₂ * largest ≡ (n₁ + n₂) * largest = omega arith in
    ap₂ ◌+ℤ◌ a b ∙ four (pos 0) ◌+ℤ◌ wholes h₁ (pos (n₁ * largest)) h₂ (pos (n₂ * largest)) ∙ ap (λ n. h₁ +ℤ h₂ +ℤ pos n) e

pub lifts-all : (g : ℕ → ℕ) (h : ℕ → ℤ) (n : ℕ → ℕ) (xs : List ℕ) → ((x : ℕ) → Lifts (g x) (h x) (n x)) → Lifts (sum (map g xs)) (addedℤ h xs) (sum (map n xs))
unfolding added sum
lifts-all g h n [] f = refl
lifts-all g h n (x ∷ xs) f = lifts-plus (g x) (sum (map g xs)) (h x) (addedℤ h xs) (n x) (sum (map n xs)) (f x) (lifts-all g h n xs f)

module _ (order : List ℕ) (readings : List ℤ) (r : Read order readings) where
  abbrev f : ℕ → ℤ
  f = reading_at order readings

  none-lifts : (from : ℕ) → Lifts (run_lifted order readings from 0) (addedℤ f (range from 0)) 0
  unfolding run_lifted added range sum
  none-lifts from = refl

  pub run-lifts : (from n : ℕ) → from + n ≤ length order → Lifts (run_lifted order readings from n) (addedℤ f (range from n)) n
  run-lifts from zero h = none-lifts from
  run-lifts from (suc n) h =
      let one : Lifts (lift (f (from + n))) (f (from + n)) 1 = sym (lift-is (f (from + n)) (reading_small order readings r (from + n) (omega arith))) in
      ap pos (run-last order readings from n)
      ∙ lifts-plus (run_lifted order readings from n) (lift (f (from + n))) (addedℤ f (range from n)) (f (from + n)) n 1 (run-lifts from n (omega arith)) one
      ∙ ap₂ (λ x m. x +ℤ pos (m * largest)) (sym (total-last (pos 0) ◌+ℤ◌ wholes f from n)) (add-one n)

module _ (d : ℕ) (keys total begin order : List ℕ) (readings : List ℤ) (sums : List ℕ) (m : Summed d keys total begin order readings sums) where
  pub cell-lifts : (k : ℕ) → Lifts (cell_lifted keys total begin order readings k) (node_readings keys total begin order readings k) (own_of keys total k)
  unfolding node_readings
  cell-lifts k = run-lifts order readings m.read (own_of keys begin k) (own_of keys total k) (cell-within d keys total begin order readings sums m k)

  pub row-lifts : (row : List ℕ) → Lifts (row_lifted keys total begin order readings row) (addedℤ (node_readings keys total begin order readings) row) (sources_in keys total row)
  row-lifts row = lifts-all (cell_lifted keys total begin order readings) (node_readings keys total begin order readings) (own_of keys total) row cell-lifts
