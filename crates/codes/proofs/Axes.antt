-- The code of 1, 2 and 3 axes from its parts, and its parts from the code.
use mathlib.Core.Path.{◌≡◌, refl, sym, ap, ap₂, ◌∙◌}
use mathlib.Core.List.{List, [], ◌∷◌}
use Prim.Native.Nat.{ℕ, zero, suc, ◌+◌, ◌*◌, ◌/◌, ◌%◌, ◌^◌, ◌<◌}
use native.Mathlib.Omega.{arith}
use native.Mathlib.Nat.{mod-eq_of_lt, mod-one, div-one}
use native.Mathlib.Numerals.{add-one}
use lib.Bits.{bit_and, and_mask}
use lib.ListN.{get_or}
use lib.Pow.{mod-pow-add}
use Rattle.slices.specs.Lists.{range, filled}
use Rattle.codes.specs.Codes.{spread, anchor, encode, anchors_of}
use Rattle.codes.specs.Runs.{runs, mask}
use Rattle.codes.specs.Masks.{Spread, Gathered}
use Rattle.codes.specs.declared.TheConstants.{TWO, THREE}
use Rattle.codes.proofs.Codes.{spread-split, spread_cut}
use Rattle.codes.proofs.Runs.{whole, singles, moved-lt, axis-down}

-- ---- one axis: its bits are the code's

low_bits : (F : ℕ → ℕ → ℕ) → ((x : ℕ) → F 0 x ≡ 0) → ((n x : ℕ) → F (suc n) x ≡ x % 2 + 2 * F n (x / 2)) → (n x : ℕ) → F n x ≡ x % 2 ^ n
low_bits F none more zero x = none x ∙ sym (mod-one x)
low_bits F none more (suc n) x =
    let e : x % 2 ^ suc n ≡ x / 2 % 2 ^ n * 2 + x % 2 = ap (λ (k : ℕ). x % 2 ^ k) (sym (add-one n)) ∙ mod-pow-add x n 1 in
    let h : F n (x / 2) ≡ x / 2 % 2 ^ n = low_bits F none more n (x / 2) in
    omega (arith, more n x)

spread-one : (x : ℕ) → x < 65536 → spread 1 16 x ≡ x
unfolding spread
spread-one x h = low_bits (spread 1) (λ y. refl) (λ n y. refl) 16 x ∙ mod-eq_of_lt h

anchor-one : (c : ℕ) → c < 65536 → anchor 1 0 16 c ≡ c
unfolding anchor
anchor-one c h = low_bits (anchor 1 0) (λ y. refl) (λ n y. ap (λ (k : ℕ). k % 2 + 2 * anchor 1 0 n (y / 2)) (div-one y)) 16 c ∙ mod-eq_of_lt h

-- ---- the code of the axes' parts

-- below 2 ^ 48, so that no sum of three wraps
pub one-of-three : (x r : ℕ) → x < 65536 → Spread THREE x r → (r ≡ spread 3 16 x) × (r < 281474976710656)
unfolding mask
one-of-three x r h is =
    let e : r ≡ spread 3 16 x = is 3 1 x (omega arith) (omega arith) refl (whole 48 16 x h) in
    (e, omega (arith, singles 3 16 x, moved-lt 3 1 2 16 x (omega arith)))

-- two anchors in one word: one number of 32 bits, in runs 32 apart
pair-whole : (x y : ℕ) → x < 65536 → y < 65536 → x + y * 2 ^ 32 % 2 ^ 64 ≡ runs 32 16 2 (y * 65536 + x)
unfolding runs
pair-whole x y hx hy = omega arith

pub pair-spread : (x y r : ℕ) → x < 65536 → y < 65536 → Spread TWO (x + y * 2 ^ 32 % 2 ^ 64) r → r ≡ spread 2 16 x + 4294967296 * spread 2 16 y
unfolding mask
pair-spread x y r hx hy is =
    let lo : (y * 65536 + x) % 65536 ≡ x = omega arith in
    let hi : (y * 65536 + x) / 65536 ≡ y = omega arith in
    is 2 2 (y * 65536 + x) (omega arith) (omega arith) refl (pair-whole x y hx hy)
    ∙ spread-split 2 16 16 (y * 65536 + x)
    ∙ ap₂ (λ (p q : ℕ). p + 4294967296 * spread 2 16 q) (sym (spread_cut 2 16 (y * 65536 + x)) ∙ ap (spread 2 16) lo) hi

-- half a word holds a spread anchor, and one bit more
half_lt : (x : ℕ) → spread 2 16 x < 2147483648
half_lt x = omega (arith, singles 2 16 x, moved-lt 2 1 1 16 x (omega arith))

pub pair_lt : (x y r : ℕ) → r ≡ spread 2 16 x + 4294967296 * spread 2 16 y → bit_and r 4294967295 + r / 2147483648 < 8589934592
pair_lt x y r e = omega (arith, and_mask r 32, half_lt x, half_lt y)

pub pair_code : (x y r : ℕ) → r ≡ spread 2 16 x + 4294967296 * spread 2 16 y → bit_and r 4294967295 + r / 2147483648 ≡ spread 2 16 x + 2 * spread 2 16 y
pair_code x y r e = omega (arith, and_mask r 32, half_lt x, half_lt y)

encode_one : (xs : List ℕ) → encode 1 1 16 xs ≡ 0 + 1 * spread 1 16 (get_or xs 0 0)
unfolding encode
encode_one xs = refl

encode-two : (xs : List ℕ) → encode 2 2 16 xs ≡ 0 + 1 * spread 2 16 (get_or xs 0 0) + 2 * spread 2 16 (get_or xs 1 0)
unfolding encode
encode-two xs = refl

encode-three : (xs : List ℕ) → encode 3 3 16 xs ≡ 0 + 1 * spread 3 16 (get_or xs 0 0) + 2 * spread 3 16 (get_or xs 1 0) + 4 * spread 3 16 (get_or xs 2 0)
unfolding encode
encode-three xs = refl

pub code_one : (axes : ℕ) (xs : List ℕ) → axes ≡ 1 → get_or xs 0 0 < 65536 → get_or xs 0 0 ≡ encode axes axes 16 xs
code_one axes xs e h = rw e (omega (arith, encode_one xs, spread-one (get_or xs 0 0) h))

pub code-two : (axes : ℕ) (xs : List ℕ) (r : ℕ) → axes ≡ 2 → r ≡ spread 2 16 (get_or xs 0 0) + 2 * spread 2 16 (get_or xs 1 0) → r ≡ encode axes axes 16 xs
code-two axes xs r e er = rw e (omega (arith, encode-two xs))

pub code-three : (axes : ℕ) (xs : List ℕ) (r : ℕ) → axes ≡ 3 → r ≡ spread 3 16 (get_or xs 0 0) + 2 * spread 3 16 (get_or xs 1 0) + 4 * spread 3 16 (get_or xs 2 0) → r ≡ encode axes axes 16 xs
code-three axes xs r e er = rw e (omega (arith, encode-three xs))

-- ---- the anchors of a code, and 0 past the axes

pub anchors-one : (axes code : ℕ) → axes ≡ 1 → code < 2 ^ (axes * 16) → code ∷ 0 ∷ 0 ∷ [] ≡ filled 3 (anchors_of axes 16 code)
unfolding range
anchors-one axes code e h =
    let lt : code < 65536 = rw e at h in
    rw (e, anchor-one code lt)

pub anchors-two : (axes code x y : ℕ) → axes ≡ 2 → code < 2 ^ (axes * 16) → Gathered TWO code x → Gathered TWO (code / 2) y → x ∷ y ∷ 0 ∷ [] ≡ filled 3 (anchors_of axes 16 code)
unfolding range mask
anchors-two axes code x y e h gx gy =
    let lt : code < 4294967296 = rw e at h in
    rw (e, gx 2 2 (omega arith) (omega arith) refl lt, gy 2 2 (omega arith) (omega arith) refl (omega arith), axis-down 2 1 16 code)

pub anchors-three : (axes code x y z : ℕ) → axes ≡ 3 → code < 2 ^ (axes * 16) → Gathered THREE code x → Gathered THREE (code / 2) y → Gathered THREE (code / 4) z → x ∷ y ∷ z ∷ [] ≡ filled 3 (anchors_of axes 16 code)
unfolding range mask
anchors-three axes code x y z e h gx gy gz =
    let lt : code < 281474976710656 = rw e at h in
    rw (e, gx 3 1 (omega arith) (omega arith) refl lt, gy 3 1 (omega arith) (omega arith) refl (omega arith), gz 3 1 (omega arith) (omega arith) refl (omega arith), axis-down 3 1 16 code, axis-down 3 2 16 code)
