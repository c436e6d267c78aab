-- Those before the first that fails a test: how a loop finds them, and what is known of them.
use mathlib.Core.Path.{◌≡◌, refl, ap, ◌∙◌}
use mathlib.Core.Bool.{Bool, true, false, cond}
use mathlib.Core.List.{List, [], ◌∷◌}
use Prim.Native.Nat.{ℕ, zero, suc, ◌+◌, ◌≤◌, ◌<◌}
use native.Mathlib.Omega.{arith}
use native.Mathlib.Nat.{zero-add, not-suc-le-zero, le_of_suc-le-suc}
use native.Mathlib.Numerals.{add-one}
use lib.ListN.{length, get_or, drop, drop_of_length-le}
use lib.Seq.{drop-cons}
use Rattle.grouping.specs.Batches.{passing}

-- ---- one test after the other
pub record Passed (p : ℕ → Bool) (xs : List ℕ) (i : ℕ) : Type 0 where
  pub within : i ≤ length xs
  pub same : i + passing p (drop i xs) ≡ passing p xs

module _ (p : ℕ → Bool) (xs : List ℕ) where
  pub pass-start : Passed p xs 0
  pass-start = record { within = omega arith; same = zero-add (passing p xs) }

  pub pass-more : (i : ℕ) → Passed p xs i → i < length xs → p (get_or xs i 0) ≡ true → Passed p xs (i + 1)
  unfolding passing
  pass-more i s l e = record {
    within = omega arith;
    same =
        let one : passing p (drop i xs) ≡ suc (passing p (drop (suc i) xs)) =
        ap (passing p) (drop-cons xs i 0 l) ∙ ap (λ b. cond b (suc (passing p (drop (suc i) xs))) 0) e in
        let next : passing p (drop (i + 1) xs) ≡ passing p (drop (suc i) xs) = ap (λ (n : ℕ). passing p (drop n xs)) (add-one i) in
        omega (arith, s.same, one, next);
  }

  pub pass-stop : (i : ℕ) → Passed p xs i → i < length xs → p (get_or xs i 0) ≡ false → i ≡ passing p xs
  unfolding passing
  pass-stop i s l e =
      let none : passing p (drop i xs) ≡ 0 = ap (passing p) (drop-cons xs i 0 l) ∙ ap (λ b. cond b (suc (passing p (drop (suc i) xs))) 0) e in
      omega (arith, s.same, none)

  pub pass-done : (i : ℕ) → Passed p xs i → length xs ≤ i → i ≡ passing p xs
  unfolding passing
  pass-done i s l =
      let none : passing p (drop i xs) ≡ 0 = ap (passing p) (drop_of_length-le xs l) in
      omega (arith, s.same, none)

-- ---- those before the first that fails a test pass it, and that one fails
module _ (p : ℕ → Bool) where
  pub passing-le : (xs : List ℕ) → passing p xs ≤ length xs
  unfolding passing
  passing-le [] = omega arith
  passing-le (x ∷ xs) = go (p x) (passing-le xs)
    where
      go : (t : Bool) → passing p xs ≤ length xs → cond t (suc (passing p xs)) 0 ≤ suc (length xs)
      go true h = omega arith
      go false h = omega arith

  pub passing-before : (xs : List ℕ) (i : ℕ) → i < passing p xs → p (get_or xs i 0) ≡ true
  unfolding passing
  passing-before [] i h = absurd (not-suc-le-zero h)
  passing-before (x ∷ xs) i h = go (p x) refl i h (passing-before xs)
    where
      go : (t : Bool) → p x ≡ t → (i : ℕ) → i < cond t (suc (passing p xs)) 0 → ((i : ℕ) → i < passing p xs → p (get_or xs i 0) ≡ true) → p (get_or (x ∷ xs) i 0) ≡ true
      go true e zero h rest = e
      go true e (suc i) h rest = rest i (le_of_suc-le-suc h)
      go false e i h rest = absurd (not-suc-le-zero h)

  pub passing-stop : (xs : List ℕ) → passing p xs < length xs → p (get_or xs (passing p xs) 0) ≡ false
  unfolding passing
  passing-stop [] h = absurd (not-suc-le-zero h)
  passing-stop (x ∷ xs) h = go (p x) refl h (passing-stop xs)
    where
      go : (t : Bool) → p x ≡ t → cond t (suc (passing p xs)) 0 < suc (length xs) → (passing p xs < length xs → p (get_or xs (passing p xs) 0) ≡ false)
          → p (get_or (x ∷ xs) (cond t (suc (passing p xs)) 0) 0) ≡ false
      go true e h rest = rest (le_of_suc-le-suc h)
      go false e h rest = e
