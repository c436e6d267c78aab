-- In a batch the index of 7 or 12 is the lowest failing one.
use mathlib.Core.Path.{◌≡◌, refl, sym, ap, ap₂, subst, ◌∙◌}
use mathlib.Core.Bool.{Bool, true, false}
use mathlib.Core.List.{List}
use mathlib.Core.Logic.{◌⊎◌, inl, inr}
use Prim.Native.Nat.{ℕ, ◌*◌, ◌-◌, ◌≤◌, ◌<◌}
use native.Mathlib.Omega.{arith}
use native.Mathlib.Nat.{eq-or-lt_of_le}
use lib.Dec.{eqb}
use lib.Ieee.{Float}
use lib.ListN.{length, get_or, drop}
use borrow.Author.Tests.{eqb-true, eqb-false}
use Rattle.refusal.specs.declared.Refusal.TheVariants.{Point, Unstored}
use Rattle.refusal.specs.Chain.{ask, ◌then◌}
use Rattle.space.specs.declared.Box.{Box}
use Rattle.refusal.specs.declared.Wall.{Wall}
use Rattle.space.specs.Cells.{frame_of, inside, code16}
use Rattle.space.proofs.Walls.{wall-index}
use Rattle.space.proofs.Batches.{codes-length, rows-le, code-at-row, row_inside, row-outside}
use Rattle.tree.specs.Leaves.{held}
use Rattle.grouping.proofs.Passing.{passing-le, passing-before, passing-stop}
use Rattle.space.specs.Rows.{rows_of, rows_inside, wall_of}
use Rattle.lookup.specs.Batch.{held_before, codes_inside, points_outcome}
use Rattle.std.specs.Prelude.{Err}
use Rattle.refusal.specs.Outcome.{accepted}

lt_of : (m n : ℕ) → m ≤ n → (m ≡ n → ⊥) → m < n
lt_of m n h e = go (eq-or-lt_of_le h)
  where
    go : (m ≡ n) ⊎ (m < n) → m < n
    go (inl q) = absurd (e q)
    go (inr l) = l

module _ (b : Box) (keys : List ℕ) (xs : List Float) where
  -- row i of the batch, from its first number on
  abbrev pub row_at : ℕ → List Float
  row_at i = drop (i * b.axes) xs

  abbrev pub is_inside : ℕ → Bool
  is_inside i = inside (frame_of b) (row_at i)

  abbrev pub is_held : ℕ → Bool
  is_held i = held b.axes keys (code16 (frame_of b) (row_at i))

  -- every lower row is inside and held
  abbrev pub AllBefore : ℕ → Type 0
  AllBefore i = (j : ℕ) → j < i → (is_inside j ≡ true) × (is_held j ≡ true)

  size : length (codes_inside b xs) ≡ rows_inside b xs
  size = codes-length (rows_inside b xs) (frame_of b) xs

  abbrev first : ℕ
  first = held_before b.axes keys (codes_inside b xs)

  first-le : first ≤ rows_inside b xs
  first-le = omega (arith, passing-le (held b.axes keys) (codes_inside b xs), size)

  code-of : (i : ℕ) → i < rows_inside b xs → get_or (codes_inside b xs) i 0 ≡ code16 (frame_of b) (row_at i)
  code-of i l = code-at-row (rows_inside b xs) i (frame_of b) xs l

  all-before : AllBefore first
  all-before j l =
      let m : j < rows_inside b xs = omega (arith, first-le) in
      (row_inside (rows_of b xs) j (frame_of b) xs m, ap (held b.axes keys) (sym (code-of j m)) ∙ passing-before (held b.axes keys) (codes_inside b xs) j l)

  first-unheld : first < rows_inside b xs → (is_inside first ≡ true) × (is_held first ≡ false)
  first-unheld l = (row_inside (rows_of b xs) first (frame_of b) xs l, ap (held b.axes keys) (sym (code-of first l)) ∙ passing-stop (held b.axes keys) (codes_inside b xs) (omega (arith, size)))

  by_cases : (s t : Bool) → eqb first (rows_inside b xs) ≡ s → eqb (rows_inside b xs) (rows_of b xs) ≡ t → points_outcome b keys xs ≡ ask s (Unstored first) then ask t (Point (wall_of b xs))
  unfolding points_outcome
  by_cases s t es et = ap₂ (λ u v. ask u (Unstored first) then ask v (Point (wall_of b xs))) es et

  pub record LowestUnstored (i : ℕ) : Type 0 where
    pub there : i < rows_of b xs
    pub in-box : is_inside i ≡ true
    pub unheld : is_held i ≡ false
    pub lower : AllBefore i

  pub record LowestOutside (i : ℕ) : Type 0 where
    pub there : i < rows_of b xs
    pub outside : is_inside i ≡ false
    pub lower : AllBefore i

  rows_few : rows_inside b xs ≤ rows_of b xs
  rows_few = rows-le (rows_of b xs) (frame_of b) xs

  pub unstored-lowest : (i : ℕ) → points_outcome b keys xs ≡ Err (Unstored i) → LowestUnstored i
  unstored-lowest i h = go (eqb first (rows_inside b xs)) (eqb (rows_inside b xs) (rows_of b xs)) refl refl
    where
      go : (s t : Bool) → eqb first (rows_inside b xs) ≡ s → eqb (rows_inside b xs) (rows_of b xs) ≡ t → LowestUnstored i
      go false t es et =
          let same : Err (Unstored first) ≡ Err (Unstored i) = sym (by_cases false t es et) ∙ h in
          let e : first ≡ i = cc in
          let n = eqb-false first (rows_inside b xs) es in
          let l : first < rows_inside b xs = lt_of first (rows_inside b xs) first-le n in
          let f = first-unheld l in
          subst LowestUnstored e (record { there = omega (arith, rows_few); in-box = f.0; unheld = f.1; lower = all-before })
      go true true es et = let same : accepted ≡ Err (Unstored i) = sym (by_cases true true es et) ∙ h in let z : ◌≡◌ {A = ℕ} 0 1 = cc in absurd (omega arith)
      go true false es et = let same : Err (Point (wall_of b xs)) ≡ Err (Unstored i) = sym (by_cases true false es et) ∙ h in let z : ◌≡◌ {A = ℕ} 0 1 = cc in absurd (omega arith)

  pub outside-lowest : (w : Wall) → points_outcome b keys xs ≡ Err (Point w) → LowestOutside w.index × (w ≡ wall_of b xs)
  outside-lowest w h = go (eqb first (rows_inside b xs)) (eqb (rows_inside b xs) (rows_of b xs)) refl refl
    where
      go : (s t : Bool) → eqb first (rows_inside b xs) ≡ s → eqb (rows_inside b xs) (rows_of b xs) ≡ t → LowestOutside w.index × (w ≡ wall_of b xs)
      go false t es et = let same : Err (Unstored first) ≡ Err (Point w) = sym (by_cases false t es et) ∙ h in let z : ◌≡◌ {A = ℕ} 0 1 = cc in absurd (omega arith)
      go true true es et = let same : accepted ≡ Err (Point w) = sym (by_cases true true es et) ∙ h in let z : ◌≡◌ {A = ℕ} 0 1 = cc in absurd (omega arith)
      go true false es et =
          let same : Err (Point (wall_of b xs)) ≡ Err (Point w) = sym (by_cases true false es et) ∙ h in
          let e : wall_of b xs ≡ w = cc in
          let l : rows_inside b xs < rows_of b xs = lt_of (rows_inside b xs) (rows_of b xs) rows_few (eqb-false (rows_inside b xs) (rows_of b xs) et) in
          let f : first ≡ rows_inside b xs = eqb-true first (rows_inside b xs) es in
          (subst LowestOutside (sym (wall-index (rows_inside b xs) (frame_of b) (row_at (rows_inside b xs))) ∙ ap (λ v. v.index) e) (record { there = l; outside = row-outside (rows_of b xs) (frame_of b) xs l; lower = subst AllBefore f all-before }), sym e)

  -- and if none fails, every row is inside and held
  pub none-fails : points_outcome b keys xs ≡ accepted → AllBefore (rows_of b xs)
  none-fails h = go (eqb first (rows_inside b xs)) (eqb (rows_inside b xs) (rows_of b xs)) refl refl
    where
      go : (s t : Bool) → eqb first (rows_inside b xs) ≡ s → eqb (rows_inside b xs) (rows_of b xs) ≡ t → AllBefore (rows_of b xs)
      go true true es et = subst AllBefore (eqb-true first (rows_inside b xs) es ∙ eqb-true (rows_inside b xs) (rows_of b xs) et) all-before
      go false t es et = let same : Err (Unstored first) ≡ accepted = sym (by_cases false t es et) ∙ h in let z : ◌≡◌ {A = ℕ} 0 1 = cc in absurd (omega arith)
      go true false es et = let same : Err (Point (wall_of b xs)) ≡ accepted = sym (by_cases true false es et) ∙ h in let z : ◌≡◌ {A = ℕ} 0 1 = cc in absurd (omega arith)
