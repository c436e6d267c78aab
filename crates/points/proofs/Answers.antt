-- What the calls on one point answer.
use mathlib.Core.Path.{◌≡◌, refl, sym, ap, ap₂, ◌∙◌, subst}
use mathlib.Core.Bool.{true}
use mathlib.Core.List.{List, [], ◌∷◌}
use Prim.Native.Nat.{ℕ, ◌+◌, ◌-◌, ◌*◌, ◌/◌, ◌^◌, ◌≤◌, ◌<◌}
use lib.Ieee.{Float, binary64, fits}
use lib.ListN.{get_or}
use Rattle.refusal.specs.declared.Refusal.{Refusal}
use Rattle.refusal.specs.Chain.{◌then◌}
use Rattle.morton.specs.Anchors.{key_at}
use Rattle.space.specs.declared.Box.{Box}
use Rattle.space.specs.Cells.{frame_of, inside, anchors16, point_anchors, code16, Nests}
use Rattle.space.specs.Domain.{level_outcome}
use Rattle.points.specs.Calls.{point_outcome, point_to_anchor, point_to_key}
use Rattle.space.proofs.Refusals.{Fine}
use Rattle.points.proofs.Checked.{point-in}
use Rattle.points.proofs.Nesting.{nests, code-above}
use Rattle.std.specs.Prelude.{Err, Ok}
use Rattle.refusal.specs.Outcome.{accepted}

module _ (b : Box) (xs : List Float) (level : ℕ) where
  pub refused-anchors : (r : Refusal) → Err r ≡ point_outcome b xs level → Err r ≡ point_to_anchor b xs level
  refused-anchors r h = ap (λ o. o then Ok (point_anchors (frame_of b) xs level)) h

  abbrev shifted : List ℕ → List ℕ
  shifted l = get_or l 0 0 / 2 ^ (16 - level) ∷ get_or l 1 0 / 2 ^ (16 - level) ∷ get_or l 2 0 / 2 ^ (16 - level) ∷ []

  shifted-are : (l : List ℕ) → l ≡ anchors16 (frame_of b) xs → shifted l ≡ point_anchors (frame_of b) xs level
  unfolding anchors16
  shifted-are l e = ap shifted e

  pub done-anchors : (l : List ℕ) → Fine b → fits binary64 b.radius ≡ true → level ≤ 16 → level_outcome b level ≡ accepted → inside (frame_of b) xs ≡ true → l ≡ anchors16 (frame_of b) xs
      → (Ok (shifted l) ≡ point_to_anchor b xs level) × Nests b xs level (shifted l)
  done-anchors l fine held small done i e = (
    ap Ok (shifted-are l e) ∙ ap (λ o. o then Ok (point_anchors (frame_of b) xs level)) (point-in b xs level done i),
    subst (λ k. Nests b xs level k) (sym (shifted-are l e)) (nests b xs level held fine.radius fine.most small i),
  )

  -- the key
  pub refused-key : (x : Refusal) → Err x ≡ point_outcome b xs level → Err x ≡ point_to_key b xs level
  refused-key x h = ap (λ o. o then Ok (key_at b.axes level (point_anchors (frame_of b) xs level))) h

  pub done-key : (code : ℕ) → level ≤ 16 → level_outcome b level ≡ accepted → inside (frame_of b) xs ≡ true → code ≡ code16 (frame_of b) xs
      → Ok (code / 2 ^ (b.axes * (16 - level)) * 32768 + level) ≡ point_to_key b xs level
  done-key code small done i e =
      ap (λ k. Ok (k * 32768 + level)) (ap (λ k. k / 2 ^ (b.axes * (16 - level))) e ∙ code-above (frame_of b) xs level small)
      ∙ ap (λ o. o then Ok (key_at b.axes level (point_anchors (frame_of b) xs level))) (point-in b xs level done i)
