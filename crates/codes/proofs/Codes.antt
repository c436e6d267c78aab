-- The code and the anchors of a cell: each is known by the other.
use mathlib.Core.Path.{◌≡◌, refl, sym, ap, ap₂, ◌∙◌}
use mathlib.Core.List.{List, map}
use Prim.Native.Nat.{ℕ, zero, suc, ◌+◌, ◌*◌, ◌/◌, ◌%◌, ◌^◌, ◌≤◌, ◌<◌}
use native.Mathlib.Omega.{arith}
use native.Mathlib.Nat.{mul-zero, mul-suc, mul-one, one-mul, div-one, zero-add, add-zero, add_comm, mul-add, mul_assoc, mul_comm, zero-div, mod-one, mod-mod, not-suc-le-zero, le_of_suc-le-suc, add-mul, suc-mul, mul-le-mul_right}
use native.Mathlib.Decide.{dec_lt}
use native.Mathlib.Numerals.{add-one}
use lib.ListN.{get_or, get_or-map}
use lib.Pow.{shr-shr, high, low, mod-pow-add, mod-mod-pow}
use Rattle.codes.specs.Codes.{anchor, spread, encode}
use Rattle.codes.proofs.Places.{low_bit, pow_more, split, ends, cut}

bit-lt : (x : ℕ) → x % 2 < 2
bit-lt x = omega arith

-- ---- the bits of one axis, spread

spread_none : (d x : ℕ) → spread d 0 x ≡ 0
unfolding spread
spread_none d x = refl

spread-more : (d n x : ℕ) → spread d (suc n) x ≡ x % 2 + 2 ^ d * spread d n (x / 2 ^ 1)
unfolding spread
spread-more d n x = refl

pub spread-split : (d m n x : ℕ) → spread d (m + n) x ≡ spread d m x + 2 ^ (d * m) * spread d n (x / 2 ^ m)
spread-split d m n x = split (spread d) (λ y. y % 2) d 1 (spread_none d) (spread-more d) m n x ∙ rw (one-mul m)

pub spread-ends : (d m n x : ℕ) → x < 2 ^ m → spread d (m + n) x ≡ spread d m x
spread-ends d m n x h =
    let h' : x < 2 ^ (1 * m) = rw (one-mul m) h in
    ends (spread d) (λ y. y % 2) d 1 (spread_none d) (spread-more d) refl m n x h'

pub spread_cut : (d m x : ℕ) → spread d m (x % 2 ^ m) ≡ spread d m x
spread_cut d m x = ap (λ (n : ℕ). spread d m (x % 2 ^ n)) (sym (one-mul m))
    ∙ cut (spread d) (λ y. y % 2) d 1 (spread_none d) (spread-more d) (λ j y. mod-mod-pow y j 1) m x

-- ---- the bits of one axis, gathered from a code

module _ (d a : ℕ) where
  anchor-none : (c : ℕ) → anchor d a 0 c ≡ 0
  unfolding anchor
  anchor-none c = refl

  pub anchor-more : (n c : ℕ) → anchor d a (suc n) c ≡ c / 2 ^ a % 2 + 2 ^ 1 * anchor d a n (c / 2 ^ d)
  unfolding anchor
  anchor-more n c = refl

  pub anchor-ends : (m n c : ℕ) → c < 2 ^ (d * m) → anchor d a (m + n) c ≡ anchor d a m c
  anchor-ends m n c h = ends (anchor d a) (λ y. y / 2 ^ a % 2) 1 d anchor-none anchor-more (rw (zero-div (2 ^ a))) m n c h

  pub anchor-lt : (level c : ℕ) → anchor d a level c < 2 ^ level
  unfolding anchor
  anchor-lt zero c = omega arith
  anchor-lt (suc level) c = omega (arith, anchor-lt level (c / 2 ^ d), bit-lt (c / 2 ^ a))

  -- bit i of axis a's anchor is bit d * i + a of the code
  pub anchor-bit : (level i c : ℕ) → i < level → anchor d a level c / 2 ^ i % 2 ≡ c / 2 ^ (d * i + a) % 2
  anchor-bit zero i c h = absurd (not-suc-le-zero h)
  anchor-bit (suc level) zero c h = rw (div-one (anchor d a (suc level) c), mul-zero d, zero-add a) first
    where
      first : anchor d a (suc level) c % 2 ≡ c / 2 ^ a % 2
      first = omega (arith, anchor-more level c)
  anchor-bit (suc level) (suc i) c h =
      ap (λ (n : ℕ). n % 2) (sym (shr-shr (anchor d a (suc level) c) 1 i ∙ ap (λ (n : ℕ). anchor d a (suc level) c / 2 ^ n) (omega arith)))
      ∙ ap (λ (n : ℕ). n / 2 ^ i % 2) half
      ∙ anchor-bit level i (c / 2 ^ d) (le_of_suc-le-suc h)
      ∙ ap (λ (n : ℕ). n % 2) (shr-shr c d (d * i + a) ∙ ap (λ (n : ℕ). c / 2 ^ n) (omega (arith, mul-suc d i)))
    where
      half : anchor d a (suc level) c / 2 ≡ anchor d a level (c / 2 ^ d)
      half = omega (arith, anchor-more level c)

-- ---- the code of a list of anchors

-- the code of k bits more stands above the code of m bits
pub encode-split : (n d m k : ℕ) (xs his : List ℕ) → ((a : ℕ) → a < n → get_or his a 0 ≡ get_or xs a 0 / 2 ^ m)
    → encode n d (m + k) xs ≡ encode n d k his * 2 ^ (d * m) + encode n d m xs
unfolding encode
encode-split zero d m k xs his hi = omega arith
encode-split (suc n) d m k xs his hi =
    let rest = encode-split n d m k xs his (λ a h. hi a (omega arith)) in
    let axis : spread d (m + k) (get_or xs n 0) ≡ spread d m (get_or xs n 0) + 2 ^ (d * m) * spread d k (get_or his n 0) =
    spread-split d m k (get_or xs n 0) ∙ ap (λ (q : ℕ). spread d m (get_or xs n 0) + 2 ^ (d * m) * spread d k q) (sym (hi n (omega arith))) in
    ap₂ (λ (p q : ℕ). p + 2 ^ n * q) rest axis
    ∙ shuffle (encode n d k his) (2 ^ (d * m)) (encode n d m xs) (2 ^ n) (spread d m (get_or xs n 0)) (spread d k (get_or his n 0))
  where
    shuffle : (e p l q b s : ℕ) → e * p + l + q * (b + p * s) ≡ (e + q * s) * p + (l + q * b)
    shuffle e p l q b s =
        let f : q * (b + p * s) ≡ q * b + q * s * p = mul-add q b (p * s) ∙ ap (λ (z : ℕ). q * b + z) (ap (λ (z : ℕ). q * z) (mul_comm p s) ∙ sym (mul_assoc q s p)) in
        let g : (e + q * s) * p ≡ e * p + q * s * p = add-mul e (q * s) p in
        omega arith

-- the code of the first n axes reads no more than their anchors
pub encode_same : (n d m : ℕ) (xs ys : List ℕ) → ((a : ℕ) → a < n → get_or ys a 0 ≡ get_or xs a 0) → encode n d m ys ≡ encode n d m xs
unfolding encode
encode_same zero d m xs ys same = refl
encode_same (suc n) d m xs ys same =
    ap₂ (λ (p q : ℕ). p + 2 ^ n * spread d m q) (encode_same n d m xs ys (λ a h. same a (omega arith))) (same n (omega arith))

-- anchors that end below bit m have the same code at every level from m on
pub encode-ends : (n d m k : ℕ) (xs : List ℕ) → ((a : ℕ) → a < n → get_or xs a 0 < 2 ^ m) → encode n d (m + k) xs ≡ encode n d m xs
unfolding encode
encode-ends zero d m k xs lt = refl
encode-ends (suc n) d m k xs lt =
    ap₂ (λ (p q : ℕ). p + 2 ^ n * q) (encode-ends n d m k xs (λ a h. lt a (omega arith))) (spread-ends d m k (get_or xs n 0) (lt n (omega arith)))

-- the lowest bit of each axis
lows-more : (n d : ℕ) (xs : List ℕ) → encode (suc n) d 1 xs ≡ get_or xs n 0 % 2 * 2 ^ n + encode n d 1 xs
unfolding encode spread
lows-more n d xs = rw (mul-zero (2 ^ d), add-zero (get_or xs n 0 % 2), mul_comm (2 ^ n) (get_or xs n 0 % 2)) (add_comm (encode n d 1 xs) (get_or xs n 0 % 2 * 2 ^ n))

lows-lt : (n d : ℕ) (xs : List ℕ) → encode n d 1 xs < 2 ^ n
unfolding encode
lows-lt zero d xs = omega arith
lows-lt (suc n) d xs = omega (arith, lows-more n d xs, digit (get_or xs n 0 % 2) (2 ^ n) (bit-lt (get_or xs n 0)) (lows-lt n d xs))
  where
    digit : (b p : ℕ) {l : ℕ} → b < 2 → l < p → b * p + l < 2 * p
    digit zero p k h = omega arith
    digit (suc zero) p k h = omega arith
    digit (suc (suc b)) p k h = absurd (omega arith)

lows-bit : (n d a : ℕ) (xs : List ℕ) → a < n → encode n d 1 xs / 2 ^ a % 2 ≡ get_or xs a 0 % 2
lows-bit zero d a xs h = absurd (not-suc-le-zero h)
lows-bit (suc n) d a xs h = rw (lows-more n d xs) (go (dec_lt a n) (lows-bit n d a xs))
  where
    go : Dec (a < n) → (a < n → encode n d 1 xs / 2 ^ a % 2 ≡ get_or xs a 0 % 2) → (get_or xs n 0 % 2 * 2 ^ n + encode n d 1 xs) / 2 ^ a % 2 ≡ get_or xs a 0 % 2
    go (yes l) rest =
        sym (low_bit n a (get_or xs n 0 % 2 * 2 ^ n + encode n d 1 xs) l)
        ∙ ap (λ (m : ℕ). m / 2 ^ a % 2) (low (get_or xs n 0 % 2) n (lows-lt n d xs))
        ∙ rest l
    go (no k) rest =
        let e : a ≡ n = omega arith in
        rw e (ap (λ (m : ℕ). m % 2) (high (get_or xs n 0 % 2) n (lows-lt n d xs)) ∙ mod-mod (get_or xs n 0) 2)

halves : List ℕ → List ℕ
halves xs = map (λ x. x / 2) xs

half_at : (xs : List ℕ) (a : ℕ) → get_or (halves xs) a 0 ≡ get_or xs a 0 / 2
unfolding halves
half_at xs a = get_or-map (λ x. x / 2) xs a 0

-- the first bits of a code are the axes' lowest, and the rest is the code of the halves
encode-more : (d level : ℕ) (xs : List ℕ) → encode d d (suc level) xs ≡ encode d d level (halves xs) * 2 ^ d + encode d d 1 xs
encode-more d level xs =
    ap (λ (n : ℕ). encode d d n xs) (omega arith)
    ∙ encode-split d d 1 level xs (halves xs) (λ a h. half_at xs a)
    ∙ rw (mul-one d)

encode-none : (n d : ℕ) (xs : List ℕ) → encode n d 0 xs ≡ 0
unfolding encode spread
encode-none zero d xs = refl
encode-none (suc n) d xs = omega (arith, encode-none n d xs, mul-zero (2 ^ n))

pub encode-lt : (d level : ℕ) (xs : List ℕ) → encode d d level xs < 2 ^ (d * level)
encode-lt d zero xs = rw (mul-zero d) (omega (arith, encode-none d d xs))
encode-lt d (suc level) xs =
    rw (encode-more d level xs, pow_more d level) (room (encode d d level (halves xs)) (2 ^ d) (2 ^ (d * level)) (encode d d 1 xs) (encode-lt d level (halves xs)) (lows-lt d d xs))
  where
    room : (e p q l : ℕ) → e < q → l < p → e * p + l < p * q
    room e p q l h k =
        let f : suc e * p ≤ q * p = mul-le-mul_right p h in
        omega (arith, suc-mul e p, mul_comm p q)

-- decoding undoes encoding, up to the level's bits
pub anchor-encode : (d level a : ℕ) (xs : List ℕ) → a < d → anchor d a level (encode d d level xs) ≡ get_or xs a 0 % 2 ^ level
anchor-encode d zero a xs h = anchor-none d a _ ∙ sym (mod-one (get_or xs a 0))
anchor-encode d (suc level) a xs h =
    let e = encode d d level (halves xs) in
    let c = encode d d (suc level) xs in
    let bit : c / 2 ^ a % 2 ≡ get_or xs a 0 % 2 =
    sym (low_bit d a c h) ∙ ap (λ (n : ℕ). n / 2 ^ a % 2) (ap (λ (n : ℕ). n % 2 ^ d) (encode-more d level xs) ∙ low e d (lows-lt d d xs)) ∙ lows-bit d d a xs h in
    let rest : anchor d a level (c / 2 ^ d) ≡ get_or xs a 0 / 2 % 2 ^ level =
    ap (anchor d a level) (ap (λ (n : ℕ). n / 2 ^ d) (encode-more d level xs) ∙ high e d (lows-lt d d xs))
    ∙ anchor-encode d level a (halves xs) h ∙ ap (λ (n : ℕ). n % 2 ^ level) (half_at xs a) in
    let whole : get_or xs a 0 % 2 ^ suc level ≡ get_or xs a 0 / 2 % 2 ^ level * 2 + get_or xs a 0 % 2 =
    ap (λ (n : ℕ). get_or xs a 0 % 2 ^ n) (sym (add-one level)) ∙ mod-pow-add (get_or xs a 0) level 1 in
    omega (arith, anchor-more d a level c)
