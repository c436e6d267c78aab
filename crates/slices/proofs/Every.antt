-- A test at each number below n: what a loop that counts n down knows, and what the whole says of each.
use mathlib.Core.Path.{◌≡◌, refl, ap, ◌∙◌}
use mathlib.Core.Bool.{Bool, true, false, ◌&&◌}
use mathlib.Core.Logic.{◌⊎◌, inl, inr}
use Prim.Native.Nat.{ℕ, zero, suc, ◌+◌, ◌<◌}
use native.Mathlib.Omega.{arith}
use native.Mathlib.Nat.{not-suc-le-zero, eq-or-lt_of_le, le_of_suc-le-suc}
use native.Mathlib.Numerals.{add-one}
use Rattle.slices.specs.Every.{every}
use Rattle.slices.proofs.Tests.{and_l, and_r, both}

module _ (p : ℕ → Bool) where
  more : (n m : ℕ) → n ≡ m + 1 → every n p ≡ (p m && every m p)
  unfolding every
  more n m e = ap (λ (k : ℕ). every k p) (e ∙ add-one m)

  pub every-fails : (n m : ℕ) → n ≡ m + 1 → p m ≡ false → every n p ≡ false
  every-fails n m e f = more n m e ∙ rw f

  pub every-next : (n m : ℕ) → n ≡ m + 1 → p m ≡ true → every n p ≡ every m p
  every-next n m e f = more n m e ∙ rw f

  pub every-none : (n : ℕ) → n ≡ 0 → every n p ≡ true
  unfolding every
  every-none n e = ap (λ (k : ℕ). every k p) e

  pub every-at : (n : ℕ) → every n p ≡ true → (a : ℕ) → a < n → p a ≡ true
  unfolding every
  every-at zero h a l = absurd (not-suc-le-zero l)
  every-at (suc n) h a l = go (eq-or-lt_of_le (le_of_suc-le-suc l)) (every-at n (and_r (p n) _ h) a)
    where
      go : (a ≡ n) ⊎ (a < n) → (a < n → p a ≡ true) → p a ≡ true
      go (inl e) rest = rw e (and_l _ _ h)
      go (inr k) rest = rest k

  pub every-all : (n : ℕ) → ((a : ℕ) → a < n → p a ≡ true) → every n p ≡ true
  unfolding every
  every-all zero h = refl
  every-all (suc n) h = both (h n (omega arith)) (every-all n (λ a l. h a (omega arith)))

-- tests that agree on each number below n
pub every-same : (p q : ℕ → Bool) (n : ℕ) → ((a : ℕ) → a < n → p a ≡ q a) → every n p ≡ every n q
unfolding every
every-same p q zero h = refl
every-same p q (suc n) h = rw (h n (omega arith), every-same p q n (λ a l. h a (omega arith)))
