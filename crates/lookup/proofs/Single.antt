-- One point, check by check.
use mathlib.Core.Path.{◌≡◌, refl, sym, ap, ap₂, ◌∙◌}
use mathlib.Core.Bool.{Bool, true, false, ◌&&◌, cond}
use mathlib.Core.List.{List}
use Prim.Native.Nat.{ℕ, ◌+◌, ◌*◌, ◌-◌, ◌/◌, ◌^◌}
use native.Mathlib.Omega.{arith}
use lib.Ieee.{Float}
use Rattle.refusal.specs.declared.Refusal.{Refusal}
use Rattle.refusal.specs.declared.Refusal.TheVariants.{Tree, Point, Unstored}
use Rattle.refusal.specs.Chain.{ask, ◌then◌}
use Rattle.refusal.proofs.Chain.{asked, both-done, after-done, after-refused}
use Rattle.space.specs.declared.Box.{Box}
use Rattle.space.specs.Domain.{box_outcome, level_outcome}
use Rattle.space.specs.Cells.{frame_of, inside, code16}
use Rattle.space.specs.Walls.{first_wall}
use Rattle.morton.specs.Keys.{axes_known}
use Rattle.morton.proofs.Cells.{above_zero}
use Rattle.morton.proofs.Checks.{axes-known}
use Rattle.tree.specs.Columns.{columns}
use Rattle.tree.specs.WellFormed.{well_formed}
use Rattle.tree.specs.Finding.{TreeKeys}
use Rattle.tree.specs.Leaves.{held}
use Rattle.points.specs.Calls.{point_to_key}
use Rattle.space.proofs.Refusals.{fine, level-fine}
use Rattle.points.proofs.Checked.{point-out}
use Rattle.points.proofs.Answers.{refused-key, done-key}
use Rattle.lookup.specs.declared.Holder.{Holder}
use Rattle.lookup.specs.Lookup.{holder_of}
use Rattle.lookup.specs.Single.{tree_outcome, leaf_for, code_leaf, leaf_at, point_to_leaf}
use Rattle.lookup.proofs.TreeRule.{tree-keys, by-rule}
use Rattle.refusal.specs.Outcome.{Answer, Outcome, accepted}
use Rattle.std.specs.Option.{ok_or}
use Rattle.std.specs.Prelude.{Err, Ok, None, Option, Some}

-- ---- the leaf of a code
pub code-is : (d : ℕ) (keys : List ℕ) (code : ℕ) → ok_or (holder_of d keys code) (Unstored 0) ≡ code_leaf d keys code
code-is d keys code = go (held d keys code)
  where
    go : (t : Bool) → ok_or (cond t (Some (leaf_for d keys code)) None) (Unstored 0) ≡ ask t (Unstored 0) then Ok (leaf_for d keys code)
    go true = refl
    go false = refl

-- ---- the box and the tree
module _ (b : Box) (keys own begin total : List ℕ) (o : Outcome) (q : o ≡ box_outcome b) where
  pub box-stops : (r : Refusal) → o ≡ Err r → Err r ≡ tree_outcome b (columns keys own begin total)
  box-stops r e = sym (after-refused (box_outcome b) (ask (well_formed b.axes keys own begin total) Tree) r (sym q ∙ e))

  pub tree-tested : o ≡ accepted → (w : Bool) → w ≡ (axes_known b.axes && well_formed b.axes keys own begin total) → (t : Bool) → w ≡ t → ask t Tree ≡ tree_outcome b (columns keys own begin total)
  tree-tested d w e t f =
      let box = sym q ∙ d in
      let known = axes-known b.axes (fine b box).least (fine b box).most in
      sym (after-done (box_outcome b) (ask (well_formed b.axes keys own begin total) Tree) box ∙ ap (λ t. ask t Tree) (by-rule b.axes keys own begin total known _ refl ∙ sym e ∙ f))

-- ---- a point in a sound box
module _ (b : Box) (keys : List ℕ) (xs : List Float) (box : box_outcome b ≡ accepted) (r : Answer ℕ) (q : r ≡ point_to_key b xs 16) where
  level-done : level_outcome b 16 ≡ accepted
  level-done = sym (level-fine b 16 box (omega arith))

  by-inside : (t : Bool) → inside (frame_of b) xs ≡ t
      → leaf_at b keys xs ≡ ask t (Point (first_wall 0 (frame_of b) xs)) then ask (held b.axes keys (code16 (frame_of b) xs)) (Unstored 0) then Ok (leaf_for b.axes keys (code16 (frame_of b) xs))
  by-inside t i = ap (λ s. ask s (Point (first_wall 0 (frame_of b) xs)) then ask (held b.axes keys (code16 (frame_of b) xs)) (Unstored 0) then Ok (leaf_for b.axes keys (code16 (frame_of b) xs))) i

  cell-code : (k : ℕ) → r ≡ Ok k → (inside (frame_of b) xs ≡ true) × (k / 32768 ≡ code16 (frame_of b) xs)
  cell-code k f = go (inside (frame_of b) xs) refl
    where
      go : (t : Bool) → inside (frame_of b) xs ≡ t → (inside (frame_of b) xs ≡ true) × (k / 32768 ≡ code16 (frame_of b) xs)
      go true i =
          let c = code16 (frame_of b) xs in
          let whole = done-key b xs 16 c (omega arith) level-done i refl in
          let same : Ok (c / 2 ^ (b.axes * (16 - 16)) * 32768 + 16) ≡ Ok k = whole ∙ sym q ∙ f in
          let n : c / 2 ^ (b.axes * (16 - 16)) * 32768 + 16 ≡ k = cc in
          (i, omega (arith, n, above_zero b.axes c))
      go false i =
          let same : Err (Point (first_wall 0 (frame_of b) xs)) ≡ Ok k = refused-key b xs 16 _ (point-out b xs 16 (Point (first_wall 0 (frame_of b) xs)) refl level-done i) ∙ sym q ∙ f in
          let z : ◌≡◌ {A = ℕ} 0 1 = cc in
          absurd (omega arith)

  pub point-in : (k : ℕ) → r ≡ Ok k → code_leaf b.axes keys (k / 32768) ≡ leaf_at b keys xs
  point-in k f = let c = cell-code k f in ap (code_leaf b.axes keys) c.1 ∙ sym (by-inside true c.0)

  pub point-outside : (x : Refusal) → r ≡ Err x → Err x ≡ leaf_at b keys xs
  point-outside x f = go (inside (frame_of b) xs) refl
    where
      go : (t : Bool) → inside (frame_of b) xs ≡ t → Err x ≡ leaf_at b keys xs
      go true i =
          let same : Ok (code16 (frame_of b) xs / 2 ^ (b.axes * (16 - 16)) * 32768 + 16) ≡ Err x = done-key b xs 16 (code16 (frame_of b) xs) (omega arith) level-done i refl ∙ sym q ∙ f in
          let z : ◌≡◌ {A = ℕ} 0 1 = cc in
          absurd (omega arith)
      go false i =
          let same : Err (Point (first_wall 0 (frame_of b) xs)) ≡ Err x = refused-key b xs 16 _ (point-out b xs 16 (Point (first_wall 0 (frame_of b) xs)) refl level-done i) ∙ sym q ∙ f in
          let p : x ≡ Point (first_wall 0 (frame_of b) xs) = cc in
          ap Err p ∙ sym (by-inside false i)

-- ---- one point
module _ (b : Box) (keys own begin total : List ℕ) where
  pub tree-fine : tree_outcome b (columns keys own begin total) ≡ accepted → (box_outcome b ≡ accepted) × (well_formed b.axes keys own begin total ≡ true)
  tree-fine e = let p = both-done (box_outcome b) (ask (well_formed b.axes keys own begin total) Tree) e in (p.0, asked (well_formed b.axes keys own begin total) Tree p.1)

  module _ (xs : List Float) (o : Outcome) (q : o ≡ tree_outcome b (columns keys own begin total)) where
    chained : (p : Outcome) → tree_outcome b (columns keys own begin total) ≡ p
        → (p then ask (inside (frame_of b) xs) (Point (first_wall 0 (frame_of b) xs))) then ask (held b.axes keys (code16 (frame_of b) xs)) (Unstored 0) then Ok (leaf_for b.axes keys (code16 (frame_of b) xs)) ≡ point_to_leaf b (columns keys own begin total) xs
    chained p e = sym (ap (λ (o : Outcome). (o then ask (inside (frame_of b) xs) (Point (first_wall 0 (frame_of b) xs))) then ask (held b.axes keys (code16 (frame_of b) xs)) (Unstored 0) then Ok (leaf_for b.axes keys (code16 (frame_of b) xs))) e)

    pub tree-stops : (r : Refusal) → o ≡ Err r → Err r ≡ point_to_leaf b (columns keys own begin total) xs
    tree-stops r e = chained (Err r) (sym q ∙ e)

    pub tree-sound : o ≡ accepted → (box_outcome b ≡ accepted) × TreeKeys b.axes keys
    tree-sound d =
        let p = tree-fine (sym q ∙ d) in
        (p.0, tree-keys b.axes keys own begin total (axes-known b.axes (fine b p.0).least (fine b p.0).most) p.1)

    pub leaf-is-at : o ≡ accepted → (r : Answer Holder) → r ≡ leaf_at b keys xs → r ≡ point_to_leaf b (columns keys own begin total) xs
    leaf-is-at d r e = e ∙ chained accepted (sym q ∙ d)
