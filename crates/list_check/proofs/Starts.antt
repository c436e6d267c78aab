-- The loop over starts, and where a row stands.
use mathlib.Core.Path.{◌≡◌, refl, sym, ap, ◌∙◌, subst}
use mathlib.Core.List.{List, [], ◌∷◌}
use mathlib.Core.Logic.{⊎_elim}
use Prim.Native.Nat.{ℕ, suc, ◌+◌, ◌-◌, ◌≤◌, ◌<◌, zero-le}
use native.Mathlib.Omega.{arith}
use native.Mathlib.Numerals.{add-one}
use native.Mathlib.Nat.{le_refl}
use lib.ListN.{length, get_or, take, drop, length-drop}
use lib.Seq.{length-take-le}
use Rattle.slices.proofs.Tests.{lt-or-le}
use Rattle.rows.specs.Written.{row_at}
use Rattle.sums.specs.Right.{StartsRight}
use Rattle.sums.proofs.Flat.{climbs}

pub record Rising (keys starts : List ℕ) (i : ℕ) : Type 0 where
  pub upto : i ≤ length keys
  pub rises : (j : ℕ) → j < i → get_or starts j 0 ≤ get_or starts (suc j) 0

module _ (keys starts : List ℕ) where
  pub rise-start : Rising keys starts 0
  rise-start = record { upto = zero-le; rises = λ j h. absurd (omega arith) }

  pub rise-more : (i : ℕ) → Rising keys starts i → i < length keys → get_or starts i 0 ≤ get_or starts (i + 1) 0 → Rising keys starts (i + 1)
  rise-more i r l h = record {
    upto = omega arith;
    rises = λ j g. ⊎_elim (λ (q : j < i). r.rises j q) (λ (q : i ≤ j). let e : j ≡ i = omega arith in rw (e, ← add-one i) h) (lt-or-le j i);
  }

  pub rise-falls : (flat : List ℕ) (i : ℕ) → i < length keys → get_or starts (i + 1) 0 < get_or starts i 0 → StartsRight keys starts flat → ⊥
  rise-falls flat i l h s = let q = rw (add-one i) at h in omega (arith, s.rises i l)

  pub rise-done : (flat : List ℕ) (i : ℕ) → Rising keys starts i → length keys ≤ i → length starts ≡ length keys + 1 → get_or starts 0 0 ≡ 0 → get_or starts i 0 ≡ length flat → StartsRight keys starts flat
  rise-done flat i r h n f e =
      let q : i ≡ length keys = omega (arith, r.upto) in
      record { entries = omega arith; first = f; rises = λ j l. r.rises j (omega arith); last = subst (λ x. get_or starts x 0 ≡ length flat) q e }

  pub rise-ends : (flat : List ℕ) (i : ℕ) → Rising keys starts i → length keys ≤ i → (get_or starts i 0 ≡ length flat → ⊥) → StartsRight keys starts flat → ⊥
  rise-ends flat i r h n s =
      let q : length keys ≡ i = omega (arith, r.upto) in
      n (subst (λ x. get_or starts x 0 ≡ length flat) q s.last)

nil : (xs : List ℕ) → length xs ≡ 0 → xs ≡ []
nil [] e = refl
nil (x ∷ xs) e = absurd (omega arith)

-- where a row stands
module _ (keys starts flat : List ℕ) (s : StartsRight keys starts flat) (i : ℕ) (l : i < length keys) where
  pub start-in : i + 1 < length starts
  start-in = omega (arith, s.entries)

  pub part_up : get_or starts i 0 ≤ get_or starts (i + 1) 0
  part_up = rw (add-one i) (s.rises i l)

  pub part_in : get_or starts (i + 1) 0 ≤ length flat
  part_in = rw (add-one i) (omega (arith, climbs starts (length keys) s.rises (suc i) (length keys) l (le_refl _), s.last))

  pub part-is : take (get_or starts (i + 1) 0 - get_or starts i 0) (drop (get_or starts i 0) flat) ≡ row_at starts flat i
  part-is = ap (λ j. take (get_or starts j 0 - get_or starts i 0) (drop (get_or starts i 0) flat)) (add-one i)

  row-size : length (row_at starts flat i) ≡ get_or starts (i + 1) 0 - get_or starts i 0
  row-size = ap length (sym part-is) ∙ length-take-le (get_or starts (i + 1) 0 - get_or starts i 0) (drop (get_or starts i 0) flat) (omega (arith, length-drop (get_or starts i 0) flat, part_in))

  pub row-empty : get_or starts (i + 1) 0 ≤ get_or starts i 0 → row_at starts flat i ≡ []
  row-empty h = nil (row_at starts flat i) (row-size ∙ omega arith)

  pub empty-row : row_at starts flat i ≡ [] → get_or starts (i + 1) 0 ≤ get_or starts i 0
  empty-row e = omega (arith, row-size, ap length e, part_up)
