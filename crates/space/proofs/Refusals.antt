-- The checks of a box and a level: what a refusal and what none of them tells.
use mathlib.Core.Path.{◌≡◌, sym, ap, ◌∙◌}
use mathlib.Core.Bool.{true, false}
use Prim.Native.Nat.{ℕ, ◌≤◌, ◌<◌}
use lib.Dec.{leb}
use borrow.Author.Tests.{le-leb, lt-leb, leb-true}
use Rattle.slices.proofs.Tests.{and_l, and_r}
use Rattle.refusal.specs.declared.Refusal.{Refusal}
use Rattle.refusal.specs.declared.Refusal.TheVariants.{Key}
use Rattle.space.specs.declared.Box.{Box}
use Rattle.refusal.specs.Chain.{ask}
use Rattle.refusal.proofs.Chain.{asked, both-done, after-done, after-refused}
use Rattle.morton.specs.Keys.{axes_known}
use Rattle.morton.proofs.Checks.{axes-facts}
use Rattle.space.specs.Domain.{radius_known, centres_known, in_domain, box_outcome, level_outcome}
use Rattle.refusal.specs.Outcome.{accepted}
use Rattle.std.specs.Prelude.{Err}

-- a box that is not refused
pub record Fine (b : Box) : Type 0 where
  pub least : 1 ≤ b.axes
  pub most : b.axes ≤ 3
  pub radius : radius_known b.radius ≡ true
  pub centre : centres_known b.axes b.centre ≡ true

pub fine : (b : Box) → box_outcome b ≡ accepted → Fine b
fine b e =
    let p = both-done (ask (axes_known b.axes) _) (ask (in_domain b) _) e in
    let k = axes-facts b.axes (asked (axes_known b.axes) _ p.0) in
    let d = asked (in_domain b) _ p.1 in
    record {
      least = k.0;
      most = k.1;
      radius = and_l (radius_known b.radius) (centres_known b.axes b.centre) d;
      centre = and_r (radius_known b.radius) (centres_known b.axes b.centre) d;
    }

-- and a level beside it
module _ (b : Box) (level : ℕ) where
  pub box-refused : (r : Refusal) → box_outcome b ≡ Err r → Err r ≡ level_outcome b level
  box-refused r e = sym (after-refused (box_outcome b) (ask (leb level 16) Key) r e)

  pub level-over : box_outcome b ≡ accepted → 16 < level → Err Key ≡ level_outcome b level
  level-over e h = sym (after-done (box_outcome b) (ask (leb level 16) Key) e ∙ rw (lt-leb level 16 h))

  pub level-fine : box_outcome b ≡ accepted → level ≤ 16 → accepted ≡ level_outcome b level
  level-fine e h = sym (after-done (box_outcome b) (ask (leb level 16) Key) e ∙ rw (le-leb level 16 h))

  pub level-done : level_outcome b level ≡ accepted → Fine b × (level ≤ 16)
  level-done e = let p = both-done (box_outcome b) (ask (leb level 16) Key) e in (fine b p.0, leb-true level 16 (asked _ Key p.1))
