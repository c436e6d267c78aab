-- The checks of a point: what a refusal and what none of them tells.
use mathlib.Core.Path.{◌≡◌, sym, ap, ◌∙◌}
use mathlib.Core.Bool.{true, false}
use mathlib.Core.List.{List}
use Prim.Native.Nat.{ℕ}
use lib.Ieee.{Float}
use Rattle.refusal.specs.declared.Refusal.{Refusal}
use Rattle.refusal.specs.declared.Refusal.TheVariants.{Point}
use Rattle.refusal.specs.Chain.{ask}
use Rattle.refusal.proofs.Chain.{after-done, after-refused}
use Rattle.space.specs.declared.Box.{Box}
use Rattle.space.specs.Domain.{level_outcome}
use Rattle.space.specs.Cells.{frame_of, inside}
use Rattle.space.specs.Walls.{first_wall}
use Rattle.points.specs.Calls.{point_outcome}
use Rattle.std.specs.Prelude.{Err}
use Rattle.refusal.specs.Outcome.{accepted}

module _ (b : Box) (xs : List Float) (level : ℕ) where
  pub point-refused : (r : Refusal) → level_outcome b level ≡ Err r → Err r ≡ point_outcome b xs level
  point-refused r e = sym (after-refused (level_outcome b level) (ask (inside (frame_of b) xs) (Point (first_wall 0 (frame_of b) xs))) r e)

  pub point-out : (r : Refusal) → r ≡ Point (first_wall 0 (frame_of b) xs) → level_outcome b level ≡ accepted → inside (frame_of b) xs ≡ false → Err r ≡ point_outcome b xs level
  point-out r w e h = ap Err w ∙ sym (after-done (level_outcome b level) (ask (inside (frame_of b) xs) (Point (first_wall 0 (frame_of b) xs))) e ∙ ap (λ t. ask t (Point (first_wall 0 (frame_of b) xs))) h)

  pub point-in : level_outcome b level ≡ accepted → inside (frame_of b) xs ≡ true → accepted ≡ point_outcome b xs level
  point-in e h = sym (after-done (level_outcome b level) (ask (inside (frame_of b) xs) (Point (first_wall 0 (frame_of b) xs))) e ∙ ap (λ t. ask t (Point (first_wall 0 (frame_of b) xs))) h)
