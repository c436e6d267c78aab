-- The refusals of the key calls, as tests that pass or fail.
use mathlib.Core.Path.{◌≡◌, refl}
use mathlib.Core.Bool.{Bool, true, false}
use Prim.Native.Nat.{ℕ, ◌*◌, ◌/◌, ◌^◌, ◌≤◌, ◌<◌}
use native.Mathlib.Omega.{arith}
use native.Mathlib.Nat.{mul-le-mul_left, mul-le-mul_right, div-lt_iff_lt-mul, div-eq_of_lt, one-mul}
use lib.Dec.{leb, ltb}
use lib.Pow.{pow_pos}
use borrow.Author.Tests.{leb-true, ltb-true, le-leb, lt-leb, lt-ltb}
use Rattle.refusal.specs.declared.Refusal.TheVariants.{Dims, Key, Root, Deep}
use Rattle.refusal.specs.Chain.{ask}
use Rattle.refusal.proofs.Chain.{asked, both-done}
use Rattle.slices.proofs.Tests.{and_l, and_r, both}
pub use Rattle.axes.proofs.Known.{axes-known, axes-few, axes-many, axes-other, axes-facts}
use Rattle.morton.specs.Keys.{axes_known, valid, ValidKey, level_of, code_of}
use Rattle.morton.specs.Answers.{key_check, below_root_check, above_deepest}
use Rattle.refusal.specs.Outcome.{accepted}

-- a code's bits from bit d * level on: none where the key is valid
pub width-le : (d level : ℕ) → d ≤ 3 → level ≤ 16 → d * level ≤ 48
width-le d level h k = omega (arith, mul-le-mul_right level h, mul-le-mul_left 3 k)

pub too-deep : (d k : ℕ) → 16 < level_of k → valid d k ≡ false
too-deep d k h = rw (lt-leb (level_of k) 16 h)

pub no_code : (d k : ℕ) → level_of k ≤ 16 → (code_of k / 2 ^ (d * level_of k) ≡ 0 → ⊥) → valid d k ≡ false
no_code d k h n = rw (le-leb (level_of k) 16 h) (out (ltb (code_of k) (2 ^ (d * level_of k))) refl)
  where
    out : (b : Bool) → ltb (code_of k) (2 ^ (d * level_of k)) ≡ b → ltb (code_of k) (2 ^ (d * level_of k)) ≡ false
    out true e = absurd (n (div-eq_of_lt (ltb-true (code_of k) (2 ^ (d * level_of k)) e)))
    out false e = e

pub code_lt : (c w : ℕ) → c / 2 ^ w ≡ 0 → c < 2 ^ w
code_lt c w e =
    let h : c < 1 * 2 ^ w = (div-lt_iff_lt-mul {k = 2 ^ w} {x = c} {y = 1} (pow_pos w)).0 (omega arith) in
    rw (one-mul (2 ^ w)) at h

pub is-valid : (d k : ℕ) → level_of k ≤ 16 → code_of k / 2 ^ (d * level_of k) ≡ 0 → valid d k ≡ true
is-valid d k h e = both (le-leb (level_of k) 16 h) (lt-ltb (code_of k) (2 ^ (d * level_of k)) (code_lt (code_of k) (d * level_of k) e))

pub valid-facts : (d k : ℕ) → axes_known d ≡ true → valid d k ≡ true → ValidKey d k
valid-facts d k a v =
    let f = axes-facts d a in
    record {
      some = f.0;
      most = f.1;
      level = leb-true (level_of k) 16 (and_l _ _ v);
      code = ltb-true (code_of k) (2 ^ (d * level_of k)) (and_r (leb (level_of k) 16) _ v);
    }

pub facts-valid : (d k : ℕ) → ValidKey d k → (axes_known d ≡ true) × (valid d k ≡ true)
facts-valid d k v = (axes-known d v.some v.most, both (le-leb (level_of k) 16 v.level) (lt-ltb (code_of k) (2 ^ (d * level_of k)) v.code))

-- a key call that is not refused so far has a valid key
pub checked : (d k : ℕ) → key_check d k ≡ accepted → ValidKey d k
checked d k e = let p = both-done (ask (axes_known d) Dims) (ask (valid d k) Key) e in valid-facts d k (asked (axes_known d) Dims p.0) (asked (valid d k) Key p.1)

pub below_root : (d k : ℕ) → below_root_check d k ≡ accepted → ValidKey d k × (0 < level_of k)
below_root d k e = let p = both-done (key_check d k) (ask (ltb 0 (level_of k)) Root) e in (checked d k p.0, ltb-true 0 (level_of k) (asked (ltb 0 (level_of k)) Root p.1))

pub above-deepest : (d k : ℕ) → above_deepest d k ≡ accepted → ValidKey d k × (level_of k < 16)
above-deepest d k e = let p = both-done (key_check d k) (ask (ltb (level_of k) 16) Deep) e in (checked d k p.0, ltb-true (level_of k) 16 (asked (ltb (level_of k) 16) Deep p.1))
