-- Numbers with signs, each moved up by a number that is no less than any of them: so their sums, differences and sizes are linear arithmetic on natural numbers.
use mathlib.Core.Path.{◌≡◌, refl, ap, ap₂}
use mathlib.Core.Logic.{◌⊎◌, inl, inr}
use mathlib.Core.Bool.{Bool, true, false, not, cond}
use Prim.Native.Nat.{ℕ, ◌+◌, ◌-◌, ◌≤◌, ◌<◌}
use native.Mathlib.Omega.{arith}
use lib.Dec.{ltb}
use lib.Ieee.{Format, round, sum}
use borrow.Author.Tests.{ltb-true, ltb-false}

-- ±a moved up by m is v
abbrev pub Moved : ℕ → Bool → ℕ → ℕ → Type 0
Moved m false a v = v ≡ m + a
Moved m true a v = v + a ≡ m

-- the other sign
pub moved-turned : (m : ℕ) (s : Bool) (a v w : ℕ) → v + w ≡ m + m → Moved m s a v → Moved m (not s) a w
moved-turned m false a v w e h = omega arith
moved-turned m true a v w e h = omega arith

-- bounds on v from both sides bound the size
pub size-most : (m : ℕ) (s : Bool) (a v b : ℕ) → Moved m s a v → v ≤ m + b → m ≤ v + b → a ≤ b
size-most m false a v b h p q = omega arith
size-most m true a v b h p q = omega arith

pub size-under : (m : ℕ) (s : Bool) (a v b : ℕ) → Moved m s a v → v < m + b → m < v + b → a < b
size-under m false a v b h p q = omega arith
size-under m true a v b h p q = omega arith

pub size-least : (m : ℕ) (s : Bool) (a v b : ℕ) → Moved m s a v → (m + b ≤ v) ⊎ (v + b ≤ m) → b ≤ a
size-least m false a v b h (inl p) = omega arith
size-least m false a v b h (inr p) = omega arith
size-least m true a v b h (inl p) = omega arith
size-least m true a v b h (inr p) = omega arith

-- ---- the sum of ±a / c and ±b / c is one fraction with a sign, rounded once
pub record Summed (f : Format) (s : Bool) (a : ℕ) (t : Bool) (b c m o : ℕ) : Type 0 where
  pub sign : Bool
  pub size : ℕ
  pub moved : Moved m sign size o
  pub is : sum f s a t b c ≡ round f sign size c

pub summed : (f : Format) (s t : Bool) (a b c m v w o : ℕ) → Moved m s a v → Moved m t b w → o + m ≡ v + w → Summed f s a t b c m o
unfolding sum
summed f false false a b c m v w o p q e = record { sign = false; size = a + b; moved = omega arith; is = refl }
summed f true true a b c m v w o p q e = record { sign = true; size = a + b; moved = omega arith; is = refl }
summed f false true a b c m v w o p q e = go (ltb a b) refl
  where
    go : (r : Bool) → ltb a b ≡ r → Summed f false a true b c m o
    go true h = let l = ltb-true a b h in record { sign = true; size = b - a; moved = omega arith; is = ap (λ (r : Bool). cond r (round f true (b - a) c) (round f false (a - b) c)) h }
    go false h = let l = ltb-false a b h in record { sign = false; size = a - b; moved = omega arith; is = ap (λ (r : Bool). cond r (round f true (b - a) c) (round f false (a - b) c)) h }
summed f true false a b c m v w o p q e = go (ltb a b) refl (ltb b a) refl
  where
    go : (r : Bool) → ltb a b ≡ r → (k : Bool) → ltb b a ≡ k → Summed f true a false b c m o
    go true h k g = let l = ltb-true a b h in record { sign = false; size = b - a; moved = omega arith; is = ap (λ (r : Bool). cond r (round f false (b - a) c) (round f (ltb b a) (a - b) c)) h }
    go false h true g =
        let l = ltb-true b a g in
        record { sign = true; size = a - b; moved = omega arith; is = ap₂ (λ (r k : Bool). cond r (round f false (b - a) c) (round f k (a - b) c)) h g }
    go false h false g =
        let l = ltb-false a b h in
        let i = ltb-false b a g in
        record { sign = false; size = a - b; moved = omega arith; is = ap₂ (λ (r k : Bool). cond r (round f false (b - a) c) (round f k (a - b) c)) h g }
