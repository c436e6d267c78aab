-- One step along a direction row, axis by axis.
use mathlib.Core.Path.{◌≡◌, refl, sym, ap, ◌∙◌}
use mathlib.Core.Bool.{Bool, true, false}
use mathlib.Core.List.{List}
use Prim.Native.Nat.{ℕ, zero, suc, ◌+◌, ◌-◌, ◌^◌, ◌≤◌, ◌<◌}
use native.Mathlib.Omega.{arith}
use native.Mathlib.Nat.{add-zero}
use lib.IntN.{ℤ, pos, negsuc, ◌+ℤ◌, sub_ℕ, nat_abs}
use lib.ListN.{get_or}
use mir.Facts.{to_z-of_z}
use mir.Syntax.{w64}
use mir.Val.{SFits, to_z, of_z}
use borrow.Author.Tests.{ltb-true, lt-ltb, le-ltb, lt-leb, ne_eqb}
use Rattle.slices.proofs.Every.{every-at, every-all, every-fails, every-next, every-none}
use Rattle.slices.proofs.Tests.{clash}
use Rattle.codes.specs.Anchors.{Bytes2}
use Rattle.neighbours.specs.Directions.{ahead, is_anchor, stays, none}
use Rattle.neighbours.specs.Steps.{one_step, unit_row, raised}

-- a step that the code has read, as the row has it
pub step-known : (z : ℤ) (r : ℕ) → SFits w64 z → r ≡ raised (to_z w64 (of_z w64 z)) → r ≡ raised z
step-known z r f e = e ∙ ap raised (to_z-of_z f)

pub small_at : (xs : List ℕ) → Bytes2 xs → (a : ℕ) → a < 3 → get_or xs a 0 < 65536
small_at xs b zero h = b.first
small_at xs b (suc zero) h = b.second
small_at xs b (suc (suc zero)) h = b.third
small_at xs b (suc (suc (suc a))) h = absurd (omega arith)

-- ---- the sum of an anchor and a step, by the raised step

less_one : (n m : ℕ) → m ≡ n + 1 → sub_ℕ m 1 ≡ pos n
less_one n m e = rw (le-ltb m 1 (omega arith)) (ap pos (omega arith))

sum-raised : (x : ℕ) (z : ℤ) → one_step z ≡ true → pos x +ℤ z ≡ sub_ℕ (x + raised z) 1
sum-raised x (negsuc zero) h = ap (λ (n : ℕ). sub_ℕ n 1) (sym (add-zero x))
sum-raised x (negsuc (suc n)) h = absurd (clash h (ne_eqb (suc n) 0 (λ e. omega arith)))
sum-raised x (pos zero) h = sym (less_one (x + 0) (x + 1) (omega arith))
sum-raised x (pos (suc zero)) h = sym (less_one (x + 1) (x + 2) (omega arith))
sum-raised x (pos (suc (suc n))) h = absurd (clash h (lt-leb (suc (suc n)) 1 (omega arith)))

below : (level n : ℕ) → n < 1 → is_anchor level (sub_ℕ n 1) ≡ false
below level zero h = refl
below level (suc n) h = absurd (omega arith)

past : (level n : ℕ) → 2 ^ level < n → is_anchor level (sub_ℕ n 1) ≡ false
past level zero h = absurd (omega arith)
past level (suc n) h = ap (is_anchor level) (less_one n (suc n) (omega arith)) ∙ le-ltb n (2 ^ level) (omega arith)

in_reach : (level n : ℕ) → 1 ≤ n → n ≤ 2 ^ level → is_anchor level (sub_ℕ n 1) ≡ true
in_reach level zero g h = absurd (omega arith)
in_reach level (suc n) g h = ap (is_anchor level) (less_one n (suc n) (omega arith)) ∙ lt-ltb n (2 ^ level) (omega arith)

reached : (level n : ℕ) → is_anchor level (sub_ℕ n 1) ≡ true → (1 ≤ n) × (n ≤ 2 ^ level) × (nat_abs (sub_ℕ n 1) ≡ n - 1)
reached level zero h = absurd (clash h refl)
reached level (suc n) h =
    (omega arith, omega (arith, ltb-true n (2 ^ level) (sym (ap (is_anchor level) (less_one n (suc n) (omega arith))) ∙ h)), ap nat_abs (less_one n (suc n) (omega arith)) ∙ omega arith)

is_anchor-lt : (level : ℕ) (z : ℤ) → is_anchor level z ≡ true → nat_abs z < 2 ^ level
is_anchor-lt level (pos n) h = ltb-true n (2 ^ level) h
is_anchor-lt level (negsuc n) h = absurd (clash h refl)

pub stays-lt : (level : ℕ) (xs : List ℕ) (steps : List ℤ) (d : ℕ) → stays d level xs steps ≡ true → (a : ℕ) → a < d → nat_abs (ahead xs steps a) < 2 ^ level
stays-lt level xs steps d h a g = is_anchor-lt level (ahead xs steps a) (every-at (λ a. is_anchor level (ahead xs steps a)) d h a g)

-- one more than the anchor on axis a, as the code has it
abbrev pub up : List ℕ → List ℤ → ℕ → ℕ
up xs steps a = get_or xs a 0 + raised (get_or steps a none)

module _ (level : ℕ) (xs : List ℕ) (steps : List ℤ) (unit : unit_row steps ≡ true) where
  abbrev test : ℕ → Bool
  test a = is_anchor level (ahead xs steps a)

  sum-at : (a : ℕ) → a < 3 → ahead xs steps a ≡ sub_ℕ (up xs steps a) 1
  sum-at a h = sum-raised (get_or xs a 0) (get_or steps a none) (every-at (λ a. one_step (get_or steps a none)) 3 unit a h)

  test_at : (a : ℕ) → a < 3 → (b : Bool) → is_anchor level (sub_ℕ (up xs steps a) 1) ≡ b → test a ≡ b
  test_at a h b e = ap (is_anchor level) (sum-at a h) ∙ e

  pub stays-low : (n m : ℕ) → n ≡ m + 1 → n ≤ 3 → up xs steps m < 1 → stays n level xs steps ≡ false
  stays-low n m e l h = every-fails test n m e (test_at m (omega arith) false (below level (up xs steps m) h))

  pub stays-high : (n m : ℕ) → n ≡ m + 1 → n ≤ 3 → 2 ^ level < up xs steps m → stays n level xs steps ≡ false
  stays-high n m e l h = every-fails test n m e (test_at m (omega arith) false (past level (up xs steps m) h))

  pub stays-next : (n m : ℕ) → n ≡ m + 1 → n ≤ 3 → 1 ≤ up xs steps m → up xs steps m ≤ 2 ^ level → stays n level xs steps ≡ stays m level xs steps
  stays-next n m e l g h = every-next test n m e (test_at m (omega arith) true (in_reach level (up xs steps m) g h))

  pub stays-none : (n : ℕ) → n ≡ 0 → stays n level xs steps ≡ true
  stays-none n e = every-none test n e

  pub stays_all : (d : ℕ) → d ≤ 3 → ((a : ℕ) → a < d → (1 ≤ up xs steps a) × (up xs steps a ≤ 2 ^ level)) → stays d level xs steps ≡ true
  stays_all d l h = every-all test d (λ a g. test_at a (omega arith) true (in_reach level (up xs steps a) (h a g).0 (h a g).1))

  -- along a row that stays the sum is the anchor that the code has
  pub stays_at : (d : ℕ) → d ≤ 3 → stays d level xs steps ≡ true → (a : ℕ) → a < d → (1 ≤ up xs steps a) × (up xs steps a ≤ 2 ^ level) × (nat_abs (ahead xs steps a) ≡ up xs steps a - 1)
  stays_at d l h a g =
      let s : a < 3 = omega arith in
      let (lo, hi, e) = reached level (up xs steps a) (sym (ap (is_anchor level) (sum-at a s)) ∙ every-at test d h a g) in
      (lo, hi, ap nat_abs (sum-at a s) ∙ e)
