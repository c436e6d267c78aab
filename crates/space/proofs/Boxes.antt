-- Which boxes are in the domain, test by test.
use mathlib.Core.Path.{◌≡◌, refl, sym, ◌∙◌}
use mathlib.Core.Bool.{Bool, true, false}
use mathlib.Core.List.{List}
use Prim.Native.Nat.{ℕ, ◌+◌, ◌≤◌, ◌<◌}
use native.Mathlib.Omega.{arith}
use lib.Ieee.{Float, nan, binary64, le, of_bits}
use lib.ListN.{get_or}
use borrow.Author.Tests.{le-leb, lt-leb}
use Rattle.slices.proofs.Every.{every-next, every-none, every-at}
use Rattle.slices.specs.Every.{every}
use Rattle.refusal.specs.declared.Refusal.TheVariants.{Dims, Box as Outside}
use Rattle.space.specs.declared.Box.{Box}
use Rattle.space.specs.Floats.{size_of}
use Rattle.space.specs.Domain.{radius_known, centre_known, centres_known, box_outcome}
use Rattle.space.proofs.Literals.{quarter-is, radius-limit-is, centre-limit-is}
use Rattle.std.specs.Prelude.{Err}
use Rattle.refusal.specs.Outcome.{accepted}

-- a radius
pub radius-least : (r : Float) → le (of_bits binary64 4598175219545276416) r ≡ true → le r (of_bits binary64 4697254411347427328) ≡ radius_known r
radius-least r h = rw (← quarter-is, h, radius-limit-is)

pub radius-under : (r : Float) → le (of_bits binary64 4598175219545276416) r ≡ false → false ≡ radius_known r
radius-under r h = rw (← quarter-is, h)

-- one test of n that fails
pub every-false : (p : ℕ → Bool) (n m : ℕ) → m < n → p m ≡ false → every n p ≡ false
every-false p n m l h = go (every n p) refl
  where
    go : (t : Bool) → every n p ≡ t → every n p ≡ false
    go true e = let there = every-at p n e m l in cc
    go false e = e

-- the centre, one axis more
module _ (cs : List Float) where
  abbrev test : ℕ → Bool
  test a = centre_known (get_or cs a nan)

  -- the axes before m are known, and so is m's centre
  pub centre-known : (m : ℕ) (x : Float) → centres_known m cs ≡ true → x ≡ size_of (get_or cs m nan) → le x (of_bits binary64 4715268809856909312) ≡ true
      → centres_known (m + 1) cs ≡ true
  unfolding centres_known
  centre-known m x e s h = every-next test (m + 1) m refl (rw (← s, ← centre-limit-is, h)) ∙ e

  pub centre-unknown : (n m : ℕ) (x : Float) → m < n → x ≡ size_of (get_or cs m nan) → le x (of_bits binary64 4715268809856909312) ≡ false
      → false ≡ centres_known n cs
  unfolding centres_known
  centre-unknown n m x l s h = sym (every-false test n m l (rw (← s, ← centre-limit-is, h)))

  pub no-centres : centres_known 0 cs ≡ true
  unfolding centres_known
  no-centres = every-none test 0 refl

-- the refusals
module _ (b : Box) where
  pub no-axes : b.axes < 1 → Err Dims ≡ box_outcome b
  no-axes h = rw (lt-leb 1 b.axes h)

  pub many-axes : 3 < b.axes → Err Dims ≡ box_outcome b
  many-axes h = rw (le-leb 1 b.axes (omega arith), lt-leb b.axes 3 h)

  module _ (least : 1 ≤ b.axes) (most : b.axes ≤ 3) where
    pub radius-off : radius_known b.radius ≡ false → Err Outside ≡ box_outcome b
    radius-off h = rw (le-leb 1 b.axes least, le-leb b.axes 3 most, h)

    pub centre-off : radius_known b.radius ≡ true → centres_known b.axes b.centre ≡ false → Err Outside ≡ box_outcome b
    centre-off h k = rw (le-leb 1 b.axes least, le-leb b.axes 3 most, h, k)

    pub box-fine : radius_known b.radius ≡ true → centres_known b.axes b.centre ≡ true → accepted ≡ box_outcome b
    box-fine h k = rw (le-leb 1 b.axes least, le-leb b.axes 3 most, h, k)
