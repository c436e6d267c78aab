-- Anchors: what stays near as one goes up, that siblings touch, and that a code is known by its anchors.
use mathlib.Core.Path.{◌≡◌, refl, sym, ap, ap₂, ◌∙◌}
use mathlib.Core.Bool.{true}
use Prim.Native.Nat.{ℕ, zero, suc, ◌+◌, ◌*◌, ◌/◌, ◌%◌, ◌^◌, ◌≤◌, ◌<◌}
use native.Mathlib.Omega.{arith}
use native.Mathlib.Nat.{mul-zero, mul-suc, mod-one, div-add-mod'}
use lib.Dec.{leb}
use lib.Pow.{mod-pow-add, shr_lt}
use borrow.Author.Tests.{leb-true, le-leb}
use Rattle.slices.specs.Every.{every}
use Rattle.slices.proofs.Tests.{and_l, and_r, both}
use Rattle.morton.specs.Anchors.{anchor, within1, near}

pub within-lo : (x y : ℕ) → within1 x y ≡ true → x ≤ y + 1
within-lo x y h = leb-true x (y + 1) (and_l _ _ h)

pub within-hi : (x y : ℕ) → within1 x y ≡ true → y ≤ x + 1
within-hi x y h = leb-true y (x + 1) (and_r (leb x (y + 1)) _ h)

pub within : (x y : ℕ) → x ≤ y + 1 → y ≤ x + 1 → within1 x y ≡ true
within x y p q = both (le-leb x (y + 1) p) (le-leb y (x + 1) q)

pub near-root : (n d x y : ℕ) → near n d 0 x y ≡ true
unfolding near every anchor
near-root zero d x y = refl
near-root (suc n) d x y = near-root n d x y

pub near_up : (n d level x y : ℕ) → near n d (suc level) x y ≡ true → near n d level (x / 2 ^ d) (y / 2 ^ d) ≡ true
unfolding near every anchor
near_up zero d level x y h = refl
near_up (suc n) d level x y h =
    let w : within1 (anchor d n (suc level) x) (anchor d n (suc level) y) ≡ true = and_l _ _ h in
    let rest : near n d (suc level) x y ≡ true = and_r (within1 (anchor d n (suc level) x) (anchor d n (suc level) y)) _ h in
    let lo = within-lo (anchor d n (suc level) x) (anchor d n (suc level) y) w in
    let hi = within-hi (anchor d n (suc level) x) (anchor d n (suc level) y) w in
    both (within (anchor d n level (x / 2 ^ d)) (anchor d n level (y / 2 ^ d)) (omega arith) (omega arith)) (near_up n d level x y rest)

-- siblings touch
pub near-siblings : (n d level x y : ℕ) → x / 2 ^ d ≡ y / 2 ^ d → near n d (suc level) x y ≡ true
unfolding near every anchor
near-siblings zero d level x y e = refl
near-siblings (suc n) d level x y e =
    let same = ap (anchor d n level) e in
    both (within (anchor d n (suc level) x) (anchor d n (suc level) y) (omega arith) (omega arith)) (near-siblings n d level x y e)

-- two codes with the same anchors are equal
low_bits : (n x y : ℕ) → ((a : ℕ) → a < n → x / 2 ^ a % 2 ≡ y / 2 ^ a % 2) → x % 2 ^ n ≡ y % 2 ^ n
low_bits zero x y h = mod-one x ∙ sym (mod-one y)
low_bits (suc n) x y h =
    let e : suc n ≡ 1 + n = omega arith in
    rw (e, mod-pow-add x 1 n, mod-pow-add y 1 n, low_bits n x y (λ a l. h a (omega arith)), h n (omega arith))

pub anchors-tell : (d level x y : ℕ) → x < 2 ^ (d * level) → y < 2 ^ (d * level) → ((a : ℕ) → a < d → anchor d a level x ≡ anchor d a level y) → x ≡ y
unfolding anchor
anchors-tell d zero x y p q h = omega (arith, rw mul-zero at p, rw mul-zero at q)
anchors-tell d (suc level) x y p q h =
    let low = low_bits d x y (λ a l. omega (arith, h a l)) in
    let high = anchors-tell d level (x / 2 ^ d) (y / 2 ^ d) (shr_lt (d * level) d (rw mul-suc at p)) (shr_lt (d * level) d (rw mul-suc at q)) (λ a l. omega (arith, h a l)) in
    sym (div-add-mod' x (2 ^ d)) ∙ ap₂ (λ u v. u * 2 ^ d + v) high low ∙ div-add-mod' y (2 ^ d)
