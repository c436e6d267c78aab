-- The mask of a place: on each axis its offset from the cell tells which of the cell's children it touches.
use mathlib.Core.Path.{◌≡◌, refl, sym, ap, ap₂, ◌∙◌}
use mathlib.Core.Bool.{Bool, true, false, ◌&&◌}
use Prim.Native.Nat.{ℕ, zero, suc, ◌+◌, ◌*◌, ◌-◌, ◌/◌, ◌%◌, ◌^◌, ◌≤◌, ◌<◌}
use native.Mathlib.Omega.{arith}
use native.Mathlib.Nat.{div-one}
use lib.Dec.{eqb}
use lib.Bits.{bit_and, and_shr, and_mod}
use Rattle.slices.specs.Every.{every}
use Rattle.slices.proofs.Every.{every-at}
use Rattle.slices.proofs.Tests.{and_l, and_r, same_test}
use Rattle.morton.specs.Anchors.{within1}
use Rattle.morton.proofs.Nearness.{within, within-lo, within-hi}
use Rattle.places.specs.Places.{step_of, beside}
use Rattle.around.specs.Masks.{bit_of, Beneath, MaskOf}

-- ---- a bit of a & b
digit_and : (u v : ℕ) → u < 2 → v < 2 → eqb (bit_and u v) 1 ≡ (eqb u 1 && eqb v 1)
digit_and zero v p q = refl
digit_and (suc zero) zero p q = refl
digit_and (suc zero) (suc zero) p q = refl
digit_and (suc zero) (suc (suc v)) p q = absurd (omega arith)
digit_and (suc (suc u)) v p q = absurd (omega arith)

bit-and : (a b s : ℕ) → bit_of (bit_and a b) s ≡ (bit_of a s && bit_of b s)
bit-and a b s =
    ap (λ n. eqb n 1) (ap (λ n. n % 2) (and_shr a b s) ∙ and_mod (a / 2 ^ s) (b / 2 ^ s) 1)
    ∙ digit_and (a / 2 ^ s % 2) (b / 2 ^ s % 2) (omega arith) (omega arith)

-- ---- the masks of an axis, one for each offset: a rule on all of them is one computed test
abbrev same : Bool → Bool → Bool
same true b = b
same false true = false
same false false = true

same-is : (a b : Bool) → same a b ≡ true → a ≡ b
same-is true b h = sym h
same-is false true h = h
same-is false false h = refl

abbrev tells : ℕ → (ℕ → ℕ) → ℕ → ℕ → Bool
tells masks bit g s = same (bit_of (masks / 2 ^ (8 * g)) s) (within1 g (bit s + 2))

abbrev all_tell : ℕ → (ℕ → ℕ) → Bool
all_tell masks bit = every 6 (λ g. every 8 (tells masks bit g))

axis-mask : (masks : ℕ) (bit : ℕ → ℕ) → all_tell masks bit ≡ true → (g s : ℕ) → g < 6 → s < 8 → bit_of (masks / 2 ^ (8 * g)) s ≡ within1 g (bit s + 2)
axis-mask masks bit h g s p q = same-is _ _ (every-at (tells masks bit g) 8 (every-at (λ g. every 8 (tells masks bit g)) 6 h g p) s q)

full : (s : ℕ) → s < 8 → bit_of 255 s ≡ true
unfolding every
full s q = every-at (bit_of 255) 8 refl s q

-- ---- touching on an axis is told by the offset
shifted : (x p g b : ℕ) → g + 2 * p ≡ x + 2 → within1 g (b + 2) ≡ within1 x (b + 2 * p)
shifted x p g b e =
    same_test (within1 g (b + 2)) (within1 x (b + 2 * p))
    (λ h. within x (b + 2 * p) (omega (arith, within-lo g (b + 2) h, within-hi g (b + 2) h)) (omega (arith, within-lo g (b + 2) h, within-hi g (b + 2) h)))
    (λ h. within g (b + 2) (omega (arith, within-lo x (b + 2 * p) h, within-hi x (b + 2 * p) h)) (omega (arith, within-lo x (b + 2 * p) h, within-hi x (b + 2 * p) h)))

-- ---- the offsets
-- the offset of a number on an axis from that of the cell: 2 more than from the cell's first child
record Offset (x p : ℕ) : Type 0 where
  g : ℕ
  is : g + 2 * p ≡ x + 2
  few : g < 6

offset : (x p : ℕ) → within1 p (x / 2) ≡ true → Offset x p
offset x p h = record {
  g = x + 2 - 2 * p;
  is = omega (arith, within-lo p (x / 2) h);
  few = omega (arith, within-hi p (x / 2) h);
}

-- three small offsets in one number
module _ (g₀ g₁ g₂ : ℕ) (h₀ : g₀ < 6) (h₁ : g₁ < 6) where
  part-0 : (g₀ + g₁ * 1048576 + g₂ * 1099511627776) % 1048576 ≡ g₀
  part-0 = omega arith

  part-1 : (g₀ + g₁ * 1048576 + g₂ * 1099511627776) / 1048576 % 1048576 ≡ g₁
  part-1 = omega arith

  part-2 : (g₀ + g₁ * 1048576 + g₂ * 1099511627776) / 1099511627776 ≡ g₂
  part-2 = omega arith

whole : (n : ℕ) → n % 1048576 + n / 1048576 % 1048576 * 1048576 + n / 1099511627776 * 1099511627776 ≡ n
whole n = omega arith

difference : (x₀ x₁ x₂ p₀ p₁ p₂ g₀ g₁ g₂ : ℕ) → g₀ + 2 * p₀ ≡ x₀ + 2 → g₁ + 2 * p₁ ≡ x₁ + 2 → g₂ + 2 * p₂ ≡ x₂ + 2
    → (g₀ + g₁ * 1048576 + g₂ * 1099511627776) + 2 * (p₀ + p₁ * 1048576 + p₂ * 1099511627776) ≡ x₀ + x₁ * 1048576 + x₂ * 1099511627776 + 2199025352706
difference x₀ x₁ x₂ p₀ p₁ p₂ g₀ g₁ g₂ e₀ e₁ e₂ = omega arith

-- the place of a child
module _ (b₀ b₁ b₂ p₀ p₁ p₂ : ℕ) (s₀ : b₀ < 2) (s₁ : b₁ < 2) (h₀ : p₀ < 524288) (h₁ : p₁ < 524288) where
  child-0 : (b₀ + b₁ * 1048576 + b₂ * 1099511627776 + 2 * (p₀ + p₁ * 1048576 + p₂ * 1099511627776)) % 1048576 ≡ b₀ + 2 * p₀
  child-0 = omega arith

  child-1 : (b₀ + b₁ * 1048576 + b₂ * 1099511627776 + 2 * (p₀ + p₁ * 1048576 + p₂ * 1099511627776)) / 1048576 % 1048576 ≡ b₁ + 2 * p₁
  child-1 = omega arith

  child-2 : (b₀ + b₁ * 1048576 + b₂ * 1099511627776 + 2 * (p₀ + p₁ * 1048576 + p₂ * 1099511627776)) / 1099511627776 ≡ b₂ + 2 * p₂
  child-2 = omega arith

regroup : (a b c : Bool) → (((a && b) && c) && true) ≡ (a && (b && c))
regroup true true true = refl
regroup true true false = refl
regroup true false c = refl
regroup false b c = refl

-- ---- the mask, as it is computed from the masks of the three axes
abbrev mask_at : ℕ → ℕ → ℕ → ℕ → ℕ → ℕ → ℕ
mask_at m₀ m₁ m₂ g₀ g₁ g₂ = bit_and (bit_and (bit_and (m₀ / 2 ^ (8 * g₀)) (m₁ / 2 ^ (8 * g₁))) (m₂ / 2 ^ (8 * g₂))) 255

-- each axis has the right ones
pub record AxisMasks (m₀ m₁ m₂ : ℕ) : Type 0 where
  pub first : all_tell m₀ (λ s. s % 2) ≡ true
  pub second : all_tell m₁ (λ s. s / 2 % 2) ≡ true
  pub third : all_tell m₂ (λ s. s / 4 % 2) ≡ true

module _ (m₀ m₁ m₂ : ℕ) (m : AxisMasks m₀ m₁ m₂) where
  mask-bits : (g₀ g₁ g₂ s : ℕ) → g₀ < 6 → g₁ < 6 → g₂ < 6 → s < 8 → bit_of (mask_at m₀ m₁ m₂ g₀ g₁ g₂) s ≡ (within1 g₀ (s % 2 + 2) && (within1 g₁ (s / 2 % 2 + 2) && within1 g₂ (s / 4 % 2 + 2)))
  mask-bits g₀ g₁ g₂ s h₀ h₁ h₂ h =
      let x = m₀ / 2 ^ (8 * g₀) in
      let y = m₁ / 2 ^ (8 * g₁) in
      let z = m₂ / 2 ^ (8 * g₂) in
      bit-and (bit_and (bit_and x y) z) 255 s
      ∙ ap₂ (λ a b. a && b) (bit-and (bit_and x y) z s ∙ ap₂ (λ a b. a && b) (bit-and x y s) refl) (full s h)
      ∙ regroup (bit_of x s) (bit_of y s) (bit_of z s)
      ∙ ap₂ (λ a b. a && b) (axis-mask m₀ (λ s. s % 2) m.first g₀ s h₀ h) (ap₂ (λ a b. a && b) (axis-mask m₁ (λ s. s / 2 % 2) m.second g₁ s h₁ h) (axis-mask m₂ (λ s. s / 4 % 2) m.third g₂ s h₂ h))

-- a place's number on each axis
abbrev on-0 : ℕ → ℕ
on-0 n = n % 1048576

abbrev on-1 : ℕ → ℕ
on-1 n = n / 1048576 % 1048576

abbrev on-2 : ℕ → ℕ
on-2 n = n / 1099511627776

module _ (place spot : ℕ) (n : Beneath place spot) where
  offset-0 : Offset (on-0 place) (on-0 spot)
  offset-0 = offset (on-0 place) (on-0 spot) (and_l _ _ n.touch)

  offset-1 : Offset (on-1 place) (on-1 spot)
  offset-1 = offset (on-1 place) (on-1 spot) (and_l _ _ (and_r (within1 (on-0 spot) (on-0 place / 2)) _ n.touch))

  offset-2 : Offset (on-2 place) (on-2 spot)
  offset-2 = offset (on-2 place) (on-2 spot) (and_r (within1 (on-1 spot) (on-1 place / 2)) _ (and_r (within1 (on-0 spot) (on-0 place / 2)) _ n.touch))

  sum : (offset-0.g + offset-1.g * 1048576 + offset-2.g * 1099511627776) + 2 * spot ≡ place + 2199025352706
  sum =
      ap (λ m. (offset-0.g + offset-1.g * 1048576 + offset-2.g * 1099511627776) + 2 * m) (sym (whole spot))
      ∙ difference (on-0 place) (on-1 place) (on-2 place) (on-0 spot) (on-1 spot) (on-2 spot) offset-0.g offset-1.g offset-2.g offset-0.is offset-1.is offset-2.is
      ∙ ap (λ m. m + 2199025352706) (whole place)

  pub fits : 2 * spot ≤ place + 2199025352706
  fits = omega (arith, sum)

  gap : place + 2199025352706 - 2 * spot ≡ offset-0.g + offset-1.g * 1048576 + offset-2.g * 1099511627776
  gap = omega (arith, sum)

  gap-0 : on-0 (place + 2199025352706 - 2 * spot) ≡ offset-0.g
  gap-0 = ap on-0 gap ∙ part-0 offset-0.g offset-1.g offset-2.g offset-0.few offset-1.few

  gap-1 : on-1 (place + 2199025352706 - 2 * spot) ≡ offset-1.g
  gap-1 = ap on-1 gap ∙ part-1 offset-0.g offset-1.g offset-2.g offset-0.few offset-1.few

  gap-2 : on-2 (place + 2199025352706 - 2 * spot) ≡ offset-2.g
  gap-2 = ap on-2 gap ∙ part-2 offset-0.g offset-1.g offset-2.g offset-0.few offset-1.few

  pub small-0 : on-0 (place + 2199025352706 - 2 * spot) < 6
  small-0 = omega (arith, gap-0, offset-0.few)

  pub small-1 : on-1 (place + 2199025352706 - 2 * spot) < 6
  small-1 = omega (arith, gap-1, offset-1.few)

  pub small-2 : on-2 (place + 2199025352706 - 2 * spot) < 6
  small-2 = omega (arith, gap-2, offset-2.few)

  -- on each axis the child's place is its bit and twice the cell's
  module _ (s : ℕ) where
    split : step_of s + 2 * spot ≡ step_of s + 2 * (on-0 spot + on-1 spot * 1048576 + on-2 spot * 1099511627776)
    split = ap (λ m. step_of s + 2 * m) (sym (whole spot))

    at-0 : on-0 (step_of s + 2 * spot) / 2 ^ 0 ≡ s % 2 + 2 * on-0 spot
    at-0 = div-one _ ∙ ap on-0 split ∙ child-0 (s % 2) (s / 2 % 2) (s / 4 % 2) (on-0 spot) (on-1 spot) (on-2 spot) (omega arith) (omega arith) n.first n.second

    at_1 : on-1 (step_of s + 2 * spot) / 2 ^ 0 ≡ s / 2 % 2 + 2 * on-1 spot
    at_1 = div-one _ ∙ ap on-1 split ∙ child-1 (s % 2) (s / 2 % 2) (s / 4 % 2) (on-0 spot) (on-1 spot) (on-2 spot) (omega arith) (omega arith) n.first n.second

    at-2 : on-2 (step_of s + 2 * spot) / 2 ^ 0 ≡ s / 4 % 2 + 2 * on-2 spot
    at-2 = div-one _ ∙ ap on-2 split ∙ child-2 (s % 2) (s / 2 % 2) (s / 4 % 2) (on-0 spot) (on-1 spot) (on-2 spot) (omega arith) (omega arith) n.first n.second

  told : (s : ℕ) → (within1 offset-0.g (s % 2 + 2) && (within1 offset-1.g (s / 2 % 2 + 2) && within1 offset-2.g (s / 4 % 2 + 2))) ≡ beside place (step_of s + 2 * spot) 0
  told s =
      ap₂ (λ a b. a && b) (shifted (on-0 place) (on-0 spot) offset-0.g (s % 2) offset-0.is ∙ ap (within1 (on-0 place)) (sym (at-0 s)))
      (ap₂ (λ a b. a && b) (shifted (on-1 place) (on-1 spot) offset-1.g (s / 2 % 2) offset-1.is ∙ ap (within1 (on-1 place)) (sym (at_1 s)))
      (shifted (on-2 place) (on-2 spot) offset-2.g (s / 4 % 2) offset-2.is ∙ ap (within1 (on-2 place)) (sym (at-2 s))))

  pub mask_is : (m₀ m₁ m₂ : ℕ) → AxisMasks m₀ m₁ m₂ → MaskOf place spot (mask_at m₀ m₁ m₂ (on-0 (place + 2199025352706 - 2 * spot)) (on-1 (place + 2199025352706 - 2 * spot)) (on-2 (place + 2199025352706 - 2 * spot)))
  mask_is m₀ m₁ m₂ m s h =
      mask-bits m₀ m₁ m₂ m _ _ _ s small-0 small-1 small-2 h
      ∙ ap₂ (λ a b. a && b) (ap (λ g. within1 g (s % 2 + 2)) gap-0) (ap₂ (λ a b. a && b) (ap (λ g. within1 g (s / 2 % 2 + 2)) gap-1) (ap (λ g. within1 g (s / 4 % 2 + 2)) gap-2)) ∙ told s
