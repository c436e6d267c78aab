-- The search on an axis: the answer stays between lo and lo + n.
use mathlib.Core.Path.{◌≡◌, ap, ◌∙◌}
use mathlib.Core.Bool.{true, false}
use mathlib.Core.Logic.{◌⊎◌, inl, inr}
use Prim.Native.Nat.{ℕ, ◌+◌, ◌-◌, ◌/◌, ◌^◌, ◌≤◌, ◌<◌, zero-le}
use native.Mathlib.Nat.{le_trans}
use native.Mathlib.Omega.{arith}
use lib.IntN.{pos}
use lib.Dec.{T, leb, lit≤}
use lib.Ieee.{Float, nan, binary64, sub, div, lt, of_int, in_float}
use lib.ListN.{get_or}
use borrow.Author.Tests.{leb-true, leb-false}
use Rattle.slices.proofs.Tests.{lt-or-le}
use Rattle.space.specs.declared.Frame.{Frame}
use Rattle.space.proofs.Patterns.{le→leb}
use Rattle.grids.specs.declared.Grid.{Grid}
use Rattle.grids.specs.Grids.{coordinate, shape_on}
use Rattle.grids.specs.Ranges.{step_on, Searched, Sought, first_from}
use Rattle.grids.proofs.Tallies.{tally-le}
use Rattle.grids.proofs.Steps.{comes-before}
use Rattle.grids.proofs.Coordinates.{Axis, axis-known, Framed, axis-framed, before, from}

-- small whole numbers are floats exactly
pub in-float : (i : ℕ) → i ≤ 1048576 → T (in_float binary64 (pos i))
unfolding in_float
in-float i h = le→leb i (2 ^ 53) (le_trans h (lit≤ tt))

pub record Between (f : Frame) (g : Grid) (a x lo n : ℕ) : Type 0 where
  pub low : lo ≤ first_from f g a x
  pub high : first_from f g a x ≤ lo + n
  pub within : lo + n ≤ shape_on g a

module _ (f : Frame) (g : Grid) (a x : ℕ) where
  pub first-le : first_from f g a x ≤ shape_on g a
  unfolding first_from
  first-le = tally-le (λ i. leb (step_on f g a i) x) (shape_on g a)

  pub sought-whole : (n : ℕ) → n ≡ shape_on g a → Searched f g a → x ≤ 65536 → Sought f g a 0 n x
  sought-whole n e S h = record { axis = S; wall = h; low = zero-le; high = omega (arith, first-le); within = omega arith }

  pub between_start : (from to : ℕ) → Sought f g a from to x → Between f g a x from (to - from)
  between_start from to s =
      let h : from ≤ to = omega (arith, s.low, s.high) in
      record { low = s.low; high = omega (arith, s.high); within = omega (arith, s.within) }

  pub between-end : (lo n : ℕ) → n ≤ 0 → Between f g a x lo n → lo ≡ first_from f g a x
  between-end lo n h b = omega (arith, b.low, b.high)

  module _ (S : Searched f g a) where
    framed : Framed f a
    framed = axis-framed f a S.framed

    axis : Axis g a
    axis = axis-known g a S.known

    -- the index behind `skip` others is asked
    module _ (lo n skip : ℕ) (b : Between f g a x lo n) (h : skip < n) where
      pub asked-within : lo + skip < shape_on g a
      asked-within = omega (arith, b.within)

      pub between-past : leb (step_on f g a (lo + skip)) x ≡ true → Between f g a x (lo + skip + 1) (n - skip - 1)
      between-past e = go (lt-or-le (lo + skip) (first_from f g a x))
        where
          go : (lo + skip < first_from f g a x) ⊎ (first_from f g a x ≤ lo + skip) → Between f g a x (lo + skip + 1) (n - skip - 1)
          go (inl l) = record { low = omega arith; high = omega (arith, b.high); within = omega (arith, b.within) }
          go (inr l) = absurd (omega (arith, from f g a framed axis x (lo + skip) asked-within l, leb-true (step_on f g a (lo + skip)) x e))

      pub between-short : leb (step_on f g a (lo + skip)) x ≡ false → Between f g a x lo skip
      between-short e = go (lt-or-le (lo + skip) (first_from f g a x))
        where
          go : (lo + skip < first_from f g a x) ⊎ (first_from f g a x ≤ lo + skip) → Between f g a x lo skip
          go (inl l) = absurd (omega (arith, before f g a framed axis x (lo + skip) l, leb-false (step_on f g a (lo + skip)) x e))
          go (inr l) = record { low = b.low; high = l; within = omega (arith, b.within) }

    -- the middle of a part that is not empty is asked
    module _ (from to : ℕ) (s : Sought f g a from to x) (e : from ≡ to → ⊥) where
      abbrev half : ℕ
      half = (to - from) / 2

      some : from < to
      some = go (lt-or-le from to)
        where
          go : (from < to) ⊎ (to ≤ from) → from < to
          go (inl l) = l
          go (inr l) = absurd (e (omega (arith, s.low, s.high)))

      pub sought-above : leb (step_on f g a (from + (to - from) / 2)) x ≡ true → Sought f g a (from + (to - from) / 2 + 1) to x
      sought-above t =
          let b = between-past from (to - from) half (between_start from to s) (omega (arith, some)) t in
          record { axis = S; wall = s.wall; low = b.low; high = s.high; within = s.within }

      pub sought-below : leb (step_on f g a (from + (to - from) / 2)) x ≡ false → Sought f g a from (from + (to - from) / 2) x
      sought-below t =
          let b = between-short from (to - from) half (between_start from to s) (omega (arith, some)) t in
          record { axis = S; wall = s.wall; low = s.low; high = b.high; within = omega (arith, some, s.within) }

-- one test
pub before-is : (f : Frame) (g : Grid) (a i x : ℕ) (y : Float) → x ≤ 65536 → y ≡ coordinate g a i
    → lt (div binary64 (sub binary64 y (get_or f.displacement a nan)) f.side) (of_int binary64 (pos x)) ≡ leb (step_on f g a i) x
unfolding step_on
before-is f g a i x y X e =
    ap (λ z. lt (div binary64 (sub binary64 z (get_or f.displacement a nan)) f.side) (of_int binary64 (pos x))) e
    ∙ comes-before (div binary64 (sub binary64 (coordinate g a i) (get_or f.displacement a nan)) f.side) x X
