-- The theorem applied at a corner of the domain: the least radius in a box that is farthest off, at level 16, where a side is 2 ^ -17. Cells that touch there get a yes, and cells two apart a no.
use mathlib.Core.Path.{◌≡◌, refl}
use mathlib.Core.Bool.{true, false}
use mathlib.Core.List.{[], ◌∷◌}
use Prim.Native.Nat.{ℕ, zero, suc}
use lib.IntN.{pos, negsuc}
use lib.Ieee.{nan, fin, binary64, fits, le}
use lib.ListN.{get_or}
use Rattle.slices.specs.Every.{every}
use Rattle.morton.specs.Anchors.{anchor, near}
use Rattle.anchors.specs.Answers.{touching_answer}
use Rattle.space.specs.declared.Box.{Box}
use Rattle.space.specs.Floats.{size_of}
use Rattle.space.specs.Domain.{box_outcome, centres_known}
use Rattle.centres.specs.Centres.{are_adjacent}
use Rattle.centres.proofs.Held.{Held}
use Rattle.centres.proofs.Agree.{agree}
use Rattle.refusal.specs.Outcome.{accepted}
use Rattle.std.specs.Prelude.{Ok}

-- three axes, centre (2 ^ 24, -2 ^ 24, 2 ^ 24), radius 0.25
abbrev corner : Box
corner = record { centre = fin false 1 (pos 24) ∷ fin true 1 (pos 24) ∷ fin false 1 (pos 24) ∷ []; radius = fin false 1 (negsuc 1); axes = 3 }

corner-held : Held corner
unfolding fits
corner-held = record { radius = refl; centre = at }
  where
    at : (a : ℕ) → fits binary64 (get_or corner.centre a nan) ≡ true
    at zero = refl
    at (suc zero) = refl
    at (suc (suc zero)) = refl
    at (suc (suc (suc a))) = refl

corner-known : box_outcome corner ≡ accepted
unfolding centres_known every size_of le
corner-known = refl

-- anchors (0, 0, 0) with (1, 1, 1), and with (2, 0, 0)
touches : (touching_answer 3 16 229392 ≡ Ok true) × (touching_answer 3 16 262160 ≡ Ok false)
unfolding near every anchor
touches = (refl, refl)

pub by-floats : (are_adjacent corner 16 229392 ≡ Ok true) × (are_adjacent corner 16 262160 ≡ Ok false)
by-floats =
    let near = agree corner 16 229392 corner-held (record { box = corner-known; first = refl; second = refl; level = refl }) in
    let far = agree corner 16 262160 corner-held (record { box = corner-known; first = refl; second = refl; level = refl }) in
    let t = touches in
    (cc (near.float, near.anchor, t.0), cc (far.float, far.anchor, t.1))
