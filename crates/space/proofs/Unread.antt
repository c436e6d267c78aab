-- Entries past the axes are not read: two centres, or two points, that agree on the axes give the same answers.
use mathlib.Core.Path.{◌≡◌, refl, ap, ap₂, ◌∙◌}
use mathlib.Core.Bool.{Bool, true, false, ◌&&◌}
use mathlib.Core.List.{List, [], ◌∷◌}
use Prim.Native.Nat.{ℕ, ◌<◌}
use lib.Dec.{ltb}
use lib.Ieee.{Float, nan, binary64, sub}
use lib.ListN.{get_or}
use borrow.Author.Tests.{ltb-true}
use Rattle.slices.proofs.Every.{every-same}
use Rattle.morton.specs.Keys.{axes_known}
use Rattle.refusal.specs.declared.Refusal.TheVariants.{Dims, Box as OutOfDomain}
use Rattle.space.specs.declared.Box.{Box}
use Rattle.space.specs.declared.Frame.{Frame}
use Rattle.space.specs.declared.Place.TheVariants.{At}
use Rattle.refusal.specs.Chain.{ask, ◌then◌}
use Rattle.space.specs.Domain.{radius_known, centre_known, centres_known, box_outcome}
use Rattle.space.specs.Cells.{on_axis, displacement, side, pick, cell_of, frame_of, cell16}

module _ (b : Box) (cs : List Float) (same : (a : ℕ) → a < b.axes → get_or cs a nan ≡ get_or b.centre a nan) where
  -- the box with another centre
  abbrev other : Box
  other = record { centre = cs; radius = b.radius; axes = b.axes }

  displacement-unread : (a : ℕ) → displacement other a ≡ displacement b a
  displacement-unread a = go (ltb a b.axes) refl
    where
      go : (t : Bool) → ltb a b.axes ≡ t → on_axis t (sub binary64 (get_or cs a nan) b.radius) ≡ on_axis t (sub binary64 (get_or b.centre a nan) b.radius)
      go true e = ap (λ x. sub binary64 x b.radius) (same a (ltb-true a b.axes e))
      go false e = refl

  pub frame-unread : frame_of other ≡ frame_of b
  frame-unread =
      ap (λ (ds : List Float). record { displacement = ds; side = side b.radius 16; axes = b.axes })
      (ap₂ (λ x y. x ∷ y ∷ displacement other 2 ∷ []) (displacement-unread 0) (displacement-unread 1) ∙ ap (λ z. displacement b 0 ∷ displacement b 1 ∷ z ∷ []) (displacement-unread 2))

  centres-unread : centres_known b.axes cs ≡ centres_known b.axes b.centre
  unfolding centres_known
  centres-unread = every-same (λ a. centre_known (get_or cs a nan)) (λ a. centre_known (get_or b.centre a nan)) b.axes (λ a h. ap centre_known (same a h))

  pub outcome-unread : box_outcome other ≡ box_outcome b
  outcome-unread = ap (λ t. ask (axes_known b.axes) Dims then ask (radius_known b.radius && t) OutOfDomain) centres-unread

pub point-unread : (f : Frame) (xs ys : List Float) → ((a : ℕ) → a < f.axes → get_or ys a nan ≡ get_or xs a nan) → (a : ℕ) → cell16 f ys a ≡ cell16 f xs a
unfolding cell16
point-unread f xs ys same a = go (ltb a f.axes) refl
  where
    go : (t : Bool) → ltb a f.axes ≡ t → pick t (cell_of 65536 (get_or ys a nan) (get_or f.displacement a nan) f.side) (At 0)
        ≡ pick t (cell_of 65536 (get_or xs a nan) (get_or f.displacement a nan) f.side) (At 0)
    go true e = ap (λ x. cell_of 65536 x (get_or f.displacement a nan) f.side) (same a (ltb-true a f.axes e))
    go false e = refl
