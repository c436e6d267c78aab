-- A place holds the anchors; the test by places is the test by anchors.
use mathlib.Core.Path.{◌≡◌, refl, sym, ap, ap₂, ◌∙◌, subst}
use mathlib.Core.Bool.{Bool, true, false, ◌&&◌, cond}
use Prim.Native.Nat.{ℕ, zero, suc, ◌+◌, ◌*◌, ◌-◌, ◌/◌, ◌%◌, ◌^◌, ◌≤◌, ◌<◌}
use native.Mathlib.Omega.{arith}
use native.Mathlib.Nat.{mul-suc, add_comm, div-one, zero-div, div-le_self}
use lib.Dec.{leb, ltb, eqb}
use lib.Pow.{shr-shr, pow_mono}
use Rattle.slices.specs.Every.{every}
use Rattle.codes.proofs.Codes.{anchor-lt}
use Rattle.morton.specs.Keys.{above}
use Rattle.morton.specs.Anchors.{anchor, near, within1}
use Rattle.morton.proofs.Cells.{above_zero}
use Rattle.places.specs.Places.{step_of, place_at, beside}

-- an axis's anchor, 0 past the axes
abbrev part : ℕ → ℕ → ℕ → ℕ → ℕ
part d a l x = cond (ltb a d) (anchor d a l x) 0

-- the bits of a child's index
bit-1 : (x : ℕ) → x % 2 % 2 ≡ x / 1 % 2
bit-1 x = omega arith

no-1 : (x : ℕ) → x % 2 / 2 % 2 ≡ 0
no-1 x = omega arith

no-2 : (x : ℕ) → x % 2 / 4 % 2 ≡ 0
no-2 x = omega arith

bit-2 : (x : ℕ) → x % 4 % 2 ≡ x / 1 % 2
bit-2 x = omega arith

bit-3 : (x : ℕ) → x % 4 / 2 % 2 ≡ x / 2 % 2
bit-3 x = omega arith

no-3 : (x : ℕ) → x % 4 / 4 % 2 ≡ 0
no-3 x = omega arith

bit-4 : (x : ℕ) → x % 8 % 2 ≡ x / 1 % 2
bit-4 x = omega arith

bit-5 : (x : ℕ) → x % 8 / 2 % 2 ≡ x / 2 % 2
bit-5 x = omega arith

bit-6 : (x : ℕ) → x % 8 / 4 % 2 ≡ x / 4 % 2
bit-6 x = omega arith

-- the anchors of a place
bits : (d x : ℕ) → 1 ≤ d → d ≤ 3 → step_of (x % 2 ^ d) ≡ cond (ltb 0 d) (x / 1 % 2) 0 + cond (ltb 1 d) (x / 2 % 2) 0 * 1048576 + cond (ltb 2 d) (x / 4 % 2) 0 * 1099511627776
bits (suc zero) x p q = ap₂ (λ u v. u + v * 1099511627776) (ap₂ (λ u v. u + v * 1048576) (bit-1 x) (no-1 x)) (no-2 x)
bits (suc (suc zero)) x p q = ap₂ (λ u v. u + v * 1099511627776) (ap₂ (λ u v. u + v * 1048576) (bit-2 x) (bit-3 x)) (no-3 x)
bits (suc (suc (suc zero))) x p q = ap₂ (λ u v. u + v * 1099511627776) (ap₂ (λ u v. u + v * 1048576) (bit-4 x) (bit-5 x)) (bit-6 x)
bits zero x p q = absurd (omega arith)
bits (suc (suc (suc (suc d)))) x p q = absurd (omega arith)

-- an axis's anchor grows by a bit
grows : (d a l x : ℕ) → part d a (suc l) x ≡ cond (ltb a d) (x / 2 ^ a % 2) 0 + 2 * part d a l (x / 2 ^ d)
unfolding anchor
grows d a l x = go (ltb a d)
  where
    go : (t : Bool) → cond t (x / 2 ^ a % 2 + 2 * anchor d a l (x / 2 ^ d)) 0 ≡ cond t (x / 2 ^ a % 2) 0 + 2 * cond t (anchor d a l (x / 2 ^ d)) 0
    go true = refl
    go false = refl

sums : (b₀ b₁ b₂ p₀ p₁ p₂ : ℕ) → b₀ + b₁ * 1048576 + b₂ * 1099511627776 + 2 * (p₀ + p₁ * 1048576 + p₂ * 1099511627776) ≡ b₀ + 2 * p₀ + (b₁ + 2 * p₁) * 1048576 + (b₂ + 2 * p₂) * 1099511627776
sums b₀ b₁ b₂ p₀ p₁ p₂ = omega arith

holds : (d l x : ℕ) → 1 ≤ d → d ≤ 3 → place_at d l x ≡ part d 0 l x + part d 1 l x * 1048576 + part d 2 l x * 1099511627776
unfolding place_at
holds d zero x p q = none (ltb 0 d) (ltb 1 d) (ltb 2 d)
  where
    none : (a b c : Bool) → 0 ≡ cond a (anchor d 0 0 x) 0 + cond b (anchor d 1 0 x) 0 * 1048576 + cond c (anchor d 2 0 x) 0 * 1099511627776
    none a b c = unfold anchor in (omega (arith, zeros a, zeros b, zeros c))
      where
        zeros : (t : Bool) → ◌≡◌ {A = ℕ} (cond t 0 0) 0
        zeros true = refl
        zeros false = refl
holds d (suc l) x p q =
    ap₂ (λ u v. u + 2 * v) (bits d x p q) (holds d l (x / 2 ^ d) p q)
    ∙ sums (cond (ltb 0 d) (x / 1 % 2) 0) (cond (ltb 1 d) (x / 2 % 2) 0) (cond (ltb 2 d) (x / 4 % 2) 0) (part d 0 l (x / 2 ^ d)) (part d 1 l (x / 2 ^ d)) (part d 2 l (x / 2 ^ d))
    ∙ ap₂ (λ u v. u + v * 1099511627776) (ap₂ (λ u v. u + v * 1048576) (sym (grows d 0 l x)) (sym (grows d 1 l x))) (sym (grows d 2 l x))

half : (b n : ℕ) → (b % 2 + 2 * n) / 2 ≡ n
half b n = omega arith

-- a cell's anchor is the half of its child's
anchor-above : (d a l m x : ℕ) → anchor d a (m + l) x / 2 ^ m ≡ anchor d a l (above d m x)
unfolding anchor
anchor-above d a l zero x = div-one (anchor d a (0 + l) x) ∙ ap (λ n. anchor d a n x) (let e : 0 + l ≡ l = omega arith in e) ∙ ap (anchor d a l) (sym (above_zero d x))
anchor-above d a l (suc m) x =
    let z : suc m + l ≡ suc (m + l) = omega arith in
    let e : anchor d a (suc m + l) x / 2 ≡ anchor d a (m + l) (x / 2 ^ d) = ap (λ n. anchor d a n x / 2) z ∙ half (x / 2 ^ a) (anchor d a (m + l) (x / 2 ^ d)) in
    let f : above d m (x / 2 ^ d) ≡ above d (suc m) x = shr-shr x d (d * m) ∙ ap (λ n. x / 2 ^ n) (add_comm d (d * m) ∙ sym (mul-suc d m)) in
    let one : suc m ≡ 1 + m = omega arith in
    ap (λ n. anchor d a (suc m + l) x / 2 ^ n) one ∙ sym (shr-shr (anchor d a (suc m + l) x) 1 m) ∙ ap (λ n. n / 2 ^ m) e ∙ anchor-above d a l m (x / 2 ^ d) ∙ ap (anchor d a l) f

-- the axes of a place
module _ (d l x : ℕ) (p : 1 ≤ d) (q : d ≤ 3) (deep : l ≤ 16) where
  small : (a : ℕ) → part d a l x < 65536
  small a = go (ltb a d)
    where
      go : (b : Bool) → cond b (anchor d a l x) 0 < 65536
      go true = omega (arith, anchor-lt d a l x, pow_mono {i = l} {j = 16} deep)
      go false = omega arith

  pub first : place_at d l x % 1048576 ≡ part d 0 l x
  first = omega (arith, holds d l x p q, small 0, small 1, small 2)

  pub second : place_at d l x / 1048576 % 1048576 ≡ part d 1 l x
  second = omega (arith, holds d l x p q, small 0, small 1, small 2)

  pub third : place_at d l x / 1099511627776 ≡ part d 2 l x
  third = omega (arith, holds d l x p q, small 0, small 1, small 2)

-- three axes, of which those past the axes are 0
three : (d : ℕ) (f g : ℕ → ℕ) → 1 ≤ d → d ≤ 3
    → (within1 (cond (ltb 0 d) (f 0) 0) (cond (ltb 0 d) (g 0) 0) && (within1 (cond (ltb 1 d) (f 1) 0) (cond (ltb 1 d) (g 1) 0) && within1 (cond (ltb 2 d) (f 2) 0) (cond (ltb 2 d) (g 2) 0)))
    ≡ every d (λ a. within1 (f a) (g a))
unfolding every
three (suc zero) f g p q = refl
three (suc (suc zero)) f g p q = swap (within1 (f 0) (g 0)) (within1 (f 1) (g 1))
  where
    swap : (a b : Bool) → (a && (b && true)) ≡ (b && (a && true))
    swap true true = refl
    swap true false = refl
    swap false true = refl
    swap false false = refl
three (suc (suc (suc zero))) f g p q = swap (within1 (f 0) (g 0)) (within1 (f 1) (g 1)) (within1 (f 2) (g 2))
  where
    swap : (a b c : Bool) → (a && (b && c)) ≡ (c && (b && (a && true)))
    swap true true true = refl
    swap true true false = refl
    swap true false true = refl
    swap true false false = refl
    swap false true true = refl
    swap false true false = refl
    swap false false true = refl
    swap false false false = refl
three zero f g p q = absurd (omega arith)
three (suc (suc (suc (suc d)))) f g p q = absurd (omega arith)

-- cells with codes x at level l and y at m levels more
pub beside-near : (d l m x y : ℕ) → 1 ≤ d → d ≤ 3 → m + l ≤ 16 → beside (place_at d l x) (place_at d (m + l) y) m ≡ near d d l x (above d m y)
unfolding near
beside-near d l m x y p q h =
    let low : l ≤ 16 = omega arith in
    ap₂ (λ a b. a && b) (ap₂ within1 (first d l x p q low) (ap (λ n. n / 2 ^ m) (first d (m + l) y p q h) ∙ up 0))
    (ap₂ (λ a b. a && b) (ap₂ within1 (second d l x p q low) (ap (λ n. n / 2 ^ m) (second d (m + l) y p q h) ∙ up 1)) (ap₂ within1 (third d l x p q low) (ap (λ n. n / 2 ^ m) (third d (m + l) y p q h) ∙ up 2)))
    ∙ three d (λ a. anchor d a l x) (λ a. anchor d a l (above d m y)) p q
  where
    up : (a : ℕ) → part d a (m + l) y / 2 ^ m ≡ part d a l (above d m y)
    up a = go (ltb a d)
      where
        go : (b : Bool) → cond b (anchor d a (m + l) y) 0 / 2 ^ m ≡ cond b (anchor d a l (above d m y)) 0
        go true = anchor-above d a l m y
        go false = zero-div (2 ^ m)

-- ---- the code's steps
pub fan : (d : ℕ) → d ≤ 3 → 1 * 2 ^ d % 18446744073709551616 ≡ 2 ^ d
fan zero h = refl
fan (suc zero) h = refl
fan (suc (suc zero)) h = refl
fan (suc (suc (suc zero))) h = refl
fan (suc (suc (suc (suc d)))) h = absurd (omega arith)

pub fan-some : (d : ℕ) → d ≤ 3 → 1 ≤ 1 * 2 ^ d % 18446744073709551616
fan-some d h = rw (fan d h) (pow_pos d)
  where
    pow_pos : (n : ℕ) → 1 ≤ 2 ^ n
    pow_pos zero = omega arith
    pow_pos (suc n) = omega (arith, pow_pos n)

pub below-is : (d c p : ℕ) → d ≤ 3 → step_of (c % (1 * 2 ^ d % 18446744073709551616)) + 2 * p ≡ step_of (c % 2 ^ d) + 2 * p
below-is d c p h = ap (λ n. step_of (c % n) + 2 * p) (fan d h)

pub place_none : (d l x : ℕ) → l < 1 → 0 ≡ place_at d l x
unfolding place_at
place_none d zero x h = refl
place_none d (suc l) x h = absurd (omega arith)

pub place-more : (d l x up : ℕ) → 1 ≤ l → up ≡ place_at d (l - 1) (x / 2 ^ d) → step_of (x % 2 ^ d) + 2 * up ≡ place_at d l x
unfolding place_at
place-more d zero x up h e = absurd (omega arith)
place-more d (suc l) x up h e = let z : suc l - 1 ≡ l = omega arith in ap (λ n. step_of (x % 2 ^ d) + 2 * n) (e ∙ ap (λ n. place_at d n (x / 2 ^ d)) z)

-- whatever the number of axes, a place is small
bound : (d l x : ℕ) → place_at d l x + 1099512676353 ≤ 2 ^ l * 1099512676353
unfolding place_at
bound d zero x = omega arith
bound d (suc l) x = let e : 2 ^ suc l ≡ 2 * 2 ^ l = omega arith in rw e (more (place_at d l (x / 2 ^ d)) (2 ^ l) (x % 2 ^ d % 2) (x % 2 ^ d / 2 % 2) (x % 2 ^ d / 4 % 2) (bound d l (x / 2 ^ d)) (omega arith) (omega arith) (omega arith))
  where
    more : (p n a b c : ℕ) → p + 1099512676353 ≤ n * 1099512676353 → a ≤ 1 → b ≤ 1 → c ≤ 1 → a + b * 1048576 + c * 1099511627776 + 2 * p + 1099512676353 ≤ (2 * n) * 1099512676353
    more p n a b c h i j k = omega arith

pub place-small : (d l x : ℕ) → l ≤ 16 → place_at d l x < 1152921504606846976
place-small d l x h = omega (arith, bound d l x, pow_mono {i = l} {j = 16} h)

module _ (p q up : ℕ) where
  pub beside-no-1 : within1 (p % 1048576) (q % 1048576 / 2 ^ up) ≡ false → false ≡ beside p q up
  beside-no-1 e = sym (ap (λ u. u && (within1 (p / 1048576 % 1048576) (q / 1048576 % 1048576 / 2 ^ up) && within1 (p / 1099511627776) (q / 1099511627776 / 2 ^ up))) e)

  pub beside-no-2 : within1 (p % 1048576) (q % 1048576 / 2 ^ up) ≡ true → within1 (p / 1048576 % 1048576) (q / 1048576 % 1048576 / 2 ^ up) ≡ false → false ≡ beside p q up
  beside-no-2 e f = sym (ap₂ (λ u v. u && (v && within1 (p / 1099511627776) (q / 1099511627776 / 2 ^ up))) e f)

  pub beside-yes : within1 (p % 1048576) (q % 1048576 / 2 ^ up) ≡ true → within1 (p / 1048576 % 1048576) (q / 1048576 % 1048576 / 2 ^ up) ≡ true
      → within1 (p / 1099511627776) (q / 1099511627776 / 2 ^ up) ≡ beside p q up
  beside-yes e f = sym (ap₂ (λ u v. u && (v && within1 (p / 1099511627776) (q / 1099511627776 / 2 ^ up))) e f)

pub low-lt : (p up : ℕ) → p < 1099511627776 → p / 2 ^ up < 1099511627776
low-lt p up h = omega (arith, div-le_self p (2 ^ up))
