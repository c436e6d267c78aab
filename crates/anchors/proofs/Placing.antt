-- Anchors of valid keys, and keys of anchors that are on their level.
use mathlib.Core.Path.{◌≡◌, refl, ap, ap₂, ◌∙◌}
use mathlib.Core.Bool.{Bool, true, false}
use mathlib.Core.List.{List, ◌∷◌, map}
use Prim.Native.Nat.{ℕ, zero, suc, ◌+◌, ◌*◌, ◌-◌, ◌^◌, ◌≤◌, ◌<◌}
use native.Mathlib.Omega.{arith}
use native.Mathlib.Decide.{dec_lt}
use lib.Dec.{ltb}
use lib.ListN.{length, get_or, replicate}
use lib.Seq.{get_or-append-add}
use lib.Pow.{pow_mono}
use borrow.Author.Tests.{ltb-true, le-leb, lt-leb}
use Rattle.slices.specs.Lists.{range, filled}
use Rattle.slices.proofs.Lists.{get_or-filled}
use Rattle.slices.proofs.Every.{every-at, every-fails, every-next, every-none}
use Rattle.codes.specs.Anchors.{Bytes2}
use Rattle.codes.proofs.Codes.{encode_same, encode-ends, encode-lt, anchor-ends, anchor-lt}
use Rattle.codes.proofs.Entries.{tabled, length-tabled}
use Rattle.morton.specs.Keys.{level_of, code_of, ValidKey}
use Rattle.morton.specs.Anchors.{anchor, encode, anchors, anchors_of, on_level, within1, near, on_axes}
use Rattle.morton.proofs.Checks.{width-le}

-- past its list a filled array has 0
pub past-filled : (n : ℕ) (xs : List ℕ) (a : ℕ) → length xs ≤ a → get_or (filled n xs) a 0 ≡ 0
past-filled n xs a h =
    let e : a ≡ length xs + (a - length xs) = omega arith in
    ap (λ (i : ℕ). get_or (filled n xs) i 0) e ∙ get_or-append-add xs (replicate (n - length xs) 0) (a - length xs) 0 ∙ zeros (n - length xs) (a - length xs)
  where
    zeros : (m i : ℕ) → ◌≡◌ {A = ℕ} (get_or (replicate m 0) i 0) 0
    zeros zero i = refl
    zeros (suc m) zero = refl
    zeros (suc m) (suc i) = zeros m i

-- ---- anchors of a valid key

-- a code that ends below its level's bits has the same anchors at every level from there on
pub anchors-ends : (d level code : ℕ) → level ≤ 16 → code < 2 ^ (d * level) → anchors_of d 16 code ≡ anchors_of d level code
unfolding range
anchors-ends d level code h lt = same d 0
  where
    at : (a : ℕ) → anchor d a 16 code ≡ anchor d a level code
    at a =
        let e : 16 ≡ level + (16 - level) = omega arith in
        ap (λ (n : ℕ). anchor d a n code) e ∙ anchor-ends d a level (16 - level) code lt

    same : (n a : ℕ) → map (λ a. anchor d a 16 code) (range a n) ≡ map (λ a. anchor d a level code) (range a n)
    same zero a = refl
    same (suc n) a = ap₂ (λ (x : ℕ) (xs : List ℕ). x ∷ xs) (at a) (same n (suc a))

pub anchors-at : (d k a : ℕ) → a < d → get_or (anchors d k) a 0 ≡ anchor d a (level_of k) (code_of k)
anchors-at d k a h = tabled (λ a. anchor d a (level_of k) (code_of k)) d a h

pub anchors-length : (d k : ℕ) → length (anchors d k) ≡ d
anchors-length d k = length-tabled (λ a. anchor d a (level_of k) (code_of k)) 0 d

-- an array of three that holds them
pub held_at : (d k : ℕ) (xs : List ℕ) → xs ≡ filled 3 (anchors d k) → (a : ℕ) → a < d → get_or xs a 0 ≡ anchor d a (level_of k) (code_of k)
held_at d k xs e a h =
    ap (λ (ys : List ℕ). get_or ys a 0) e
    ∙ get_or-filled 3 (anchors d k) a (omega (arith, anchors-length d k))
    ∙ anchors-at d k a h

pub anchor-small : (d k a : ℕ) → ValidKey d k → anchor d a (level_of k) (code_of k) < 65536
anchor-small d k a v = omega (arith, anchor-lt d a (level_of k) (code_of k), pow_mono {i = level_of k} {j = 16} v.level)

-- ---- keys of anchors on their level

module _ (d level : ℕ) (xs : List ℕ) (h : level ≤ 16) (on : on_level d level xs ≡ true) where
  pub on-level-at : (a : ℕ) → a < d → get_or xs a 0 < 2 ^ level
  on-level-at a l = ltb-true (get_or xs a 0) (2 ^ level) (every-at (λ a. ltb (get_or xs a 0) (2 ^ level)) d on a l)

  module _ (ys : List ℕ) (u : ys ≡ filled 3 (on_axes d xs)) (few : d ≤ 3) where
    same : (a : ℕ) → a < d → get_or ys a 0 ≡ get_or xs a 0
    same a l =
        ap (λ (zs : List ℕ). get_or zs a 0) u
        ∙ get_or-filled 3 (on_axes d xs) a (omega (arith, length-tabled (λ a. get_or xs a 0) 0 d))
        ∙ tabled (λ a. get_or xs a 0) d a l

    below : (a : ℕ) → get_or ys a 0 < 65536
    below a = go (dec_lt a d)
      where
        go : Dec (a < d) → get_or ys a 0 < 65536
        go (yes l) = omega (arith, same a l, on-level-at a l, pow_mono {i = level} {j = 16} h)
        go (no n) = omega (arith, ap (λ (zs : List ℕ). get_or zs a 0) u, past-filled 3 (on_axes d xs) a (omega (arith, length-tabled (λ a. get_or xs a 0) 0 d)))

    pub two_bytes : Bytes2 ys
    two_bytes = record { first = below 0; second = below 1; third = below 2 }

    pub code-used : encode d d 16 ys ≡ encode d d level xs
    code-used =
        let e : 16 ≡ level + (16 - level) = omega arith in
        encode_same d d 16 xs ys same ∙ ap (λ (n : ℕ). encode d d n xs) e ∙ encode-ends d d level (16 - level) xs on-level-at

pub code_fits : (d level : ℕ) (xs : List ℕ) → d ≤ 3 → level ≤ 16 → encode d d level xs < 2 ^ 48
code_fits d level xs h k = omega (arith, encode-lt d level xs, pow_mono {i = d * level} {j = 48} (width-le d level h k))

-- ---- cells of one level that touch

module _ (d level x y : ℕ) where
  abbrev test : ℕ → Bool
  test a = within1 (anchor d a level x) (anchor d a level y)

  pub near-over : (n m : ℕ) → n ≡ m + 1 → anchor d m level y + 1 < anchor d m level x → near n d level x y ≡ false
  unfolding near
  near-over n m e h = every-fails test n m e (rw (lt-leb (anchor d m level x) (anchor d m level y + 1) h))

  pub near-under : (n m : ℕ) → n ≡ m + 1 → anchor d m level x ≤ anchor d m level y + 1 → anchor d m level x + 1 < anchor d m level y → near n d level x y ≡ false
  unfolding near
  near-under n m e g h =
      every-fails test n m e (rw (le-leb (anchor d m level x) (anchor d m level y + 1) g, lt-leb (anchor d m level y) (anchor d m level x + 1) h))

  pub near_next : (n m : ℕ) → n ≡ m + 1 → anchor d m level x ≤ anchor d m level y + 1 → anchor d m level y ≤ anchor d m level x + 1 → near n d level x y ≡ near m d level x y
  unfolding near
  near_next n m e g h =
      every-next test n m e (rw (le-leb (anchor d m level x) (anchor d m level y + 1) g, le-leb (anchor d m level y) (anchor d m level x + 1) h))

  pub near_none : (n : ℕ) → n ≡ 0 → near n d level x y ≡ true
  unfolding near
  near_none n e = every-none test n e
