-- Without targets a cell is stored by a test on itself and its parent alone.
use mathlib.Core.Path.{◌≡◌, refl, sym, ap, ◌∙◌, subst}
use mathlib.Core.Bool.{Bool, true, false, ◌&&◌, ◌||◌}
use mathlib.Core.List.{List, []}
use mathlib.Core.Logic.{◌⊎◌, inl, inr}
use Prim.Native.Nat.{ℕ, zero, suc, ◌*◌, ◌<◌}
use native.Mathlib.Omega.{arith}
use lib.Dec.{ltb, eqb}
use lib.ListN.{length}
use borrow.Author.Tests.{ltb-true, lt-ltb, le-ltb, eqb-true}
use Rattle.slices.specs.Lists.{count, Mem}
use Rattle.slices.proofs.Tests.{and_l, and_r, both, or-not, or_right}
use Rattle.morton.specs.Keys.{deepest, level_of, axes_known, ValidKey, parent, under}
use Rattle.morton.specs.Depth.{reference_depth}
use Rattle.morton.proofs.Arithmetic.{parent-valid}
use Rattle.morton.proofs.Cells.{level-parent}
use Rattle.tree.proofs.Sourced.{under-facts}
use Rattle.refine.specs.Counts.{count_at, sources_in, targets_in}
use Rattle.refine.specs.Refinement.{near_limit, factor, splits_for_targets}
use Rattle.tree.proofs.Ranges.{parent-under}
use Rattle.growth.specs.declared.Rule.{Rule}
use Rattle.growth.specs.Nodes.{splits, kept, nodes}
use Rattle.growth.proofs.Kids.{splits-root}
use Rattle.growth.proofs.Members.{root-node, node-up, node-down}
use Rattle.further.proofs.Cells.{root-only, under_parent, its_child, count-up}

or-false : (a : Bool) → (a || false) ≡ a
or-false true = refl
or-false false = refl

module _ (g : Rule) (s : List ℕ) where
  no_targets : (k : ℕ) → splits_for_targets g.axes g.limit g.order s [] k ≡ false
  no_targets k =
      let n = near_limit g.axes g.limit g.order * factor g.axes (reference_depth g.axes (length s)) s k in
      ap (ltb n) none ∙ le-ltb n 0 (omega arith)
    where
      none : targets_in g.axes [] k ≡ 0
      none = unfold count_at count in refl

  -- the root splits, and a cell above level 16 whose sources pass the limit; no other
  pub splits-is : (k : ℕ) → splits g s [] k ≡ (eqb (level_of k) 0 || (ltb (level_of k) deepest && ltb g.limit (sources_in g.axes s k)))
  unfolding splits
  splits-is k =
      ap (λ (r : Bool). eqb (level_of k) 0 || (ltb (level_of k) deepest && (ltb g.limit (sources_in g.axes s k) || r))) (no_targets k)
      ∙ ap (λ (r : Bool). eqb (level_of k) 0 || (ltb (level_of k) deepest && r)) (or-false (ltb g.limit (sources_in g.axes s k)))

  pub splits-cases : (k : ℕ) → splits g s [] k ≡ true → (level_of k ≡ 0) ⊎ ((level_of k < 16) × (g.limit < sources_in g.axes s k))
  splits-cases k h = go (eqb (level_of k) 0) refl (sym (splits-is k) ∙ h)
    where
      go : (b : Bool) → eqb (level_of k) 0 ≡ b → (b || (ltb (level_of k) deepest && ltb g.limit (sources_in g.axes s k))) ≡ true → (level_of k ≡ 0) ⊎ ((level_of k < 16) × (g.limit < sources_in g.axes s k))
      go true e h = inl (eqb-true (level_of k) 0 e)
      go false e h = inr (ltb-true (level_of k) 16 (and_l _ _ h), ltb-true g.limit (sources_in g.axes s k) (and_r (ltb (level_of k) deepest) _ h))

  pub splits-more : (k : ℕ) → level_of k < 16 → g.limit < sources_in g.axes s k → splits g s [] k ≡ true
  splits-more k l h =
      splits-is k ∙ or_right (eqb (level_of k) 0) _ (λ _. both (lt-ltb (level_of k) 16 l) (lt-ltb g.limit (sources_in g.axes s k) h))

  pub kept-cases : (k : ℕ) → kept g s [] k ≡ true → (g.keep ≡ true) ⊎ (0 < sources_in g.axes s k)
  kept-cases k h = go g.keep refl
    where
      go : (b : Bool) → g.keep ≡ b → (g.keep ≡ true) ⊎ (0 < sources_in g.axes s k)
      go true e = inl e
      go false e = inr (ltb-true 0 (sources_in g.axes s k) (or-not g.keep _ h e))

  pub kept-all : (k : ℕ) → g.keep ≡ true → kept g s [] k ≡ true
  kept-all k e = ap (λ (b : Bool). b || ltb 0 (sources_in g.axes s k)) e

  pub kept-some : (k : ℕ) → 0 < sources_in g.axes s k → kept g s [] k ≡ true
  kept-some k h = or_right g.keep _ (λ _. lt-ltb 0 (sources_in g.axes s k) h)

  -- what holds a cell that splits splits
  pub splits-up : (a b : ℕ) → under g.axes a b ≡ true → splits g s [] b ≡ true → splits g s [] a ≡ true
  splits-up a b u h = go (splits-cases b h)
    where
      go : (level_of b ≡ 0) ⊎ ((level_of b < 16) × (g.limit < sources_in g.axes s b)) → splits g s [] a ≡ true
      go (inl z) = splits-root g s [] a (omega (arith, (under-facts g.axes a b u).level))
      go (inr (l, m)) = splits-more a (omega (arith, (under-facts g.axes a b u).level)) (omega (arith, count-up g.axes s a b u (omega arith)))

  module _ (known : axes_known g.axes ≡ true) where
    heavy-node : (n k : ℕ) → level_of k ≡ n → ValidKey g.axes k → (level_of k ≡ 0) ⊎ (g.limit < sources_in g.axes s k) → Mem k (nodes g s [])
    heavy-node zero k e v h = subst (λ (x : ℕ). Mem x (nodes g s [])) (sym (root-only g.axes k v e)) (root-node g s [] known)
    heavy-node (suc n) k e v (inl z) = absurd (omega arith)
    heavy-node (suc n) k e v (inr m) =
        let p = parent g.axes k in
        let d : 0 < level_of k = omega arith in
        let w = parent-valid g.axes k v d in
        let u = count-up g.axes s p k (parent-under g.axes k d) v.level in
        node-down g s [] known p k (heavy-node n p (omega (arith, level-parent g.axes k)) w (inr (omega arith)))
        (record {
          splits-up = splits-more p (omega (arith, level-parent g.axes k, v.level)) (omega arith);
          its_child = its_child g.axes k w v.level d;
          is-kept = kept-some k (omega arith);
        })

    -- stored if the parent splits and the cell is kept: then the parent is stored of itself
    pub node-if : (k : ℕ) → ValidKey g.axes k → 0 < level_of k → splits g s [] (parent g.axes k) ≡ true → kept g s [] k ≡ true → Mem k (nodes g s [])
    node-if k v d sp kp =
        let p = parent g.axes k in
        let w = parent-valid g.axes k v d in
        node-down g s [] known p k (heavy-node (level_of p) p refl w (go (splits-cases p sp))) (record { splits-up = sp; its_child = its_child g.axes k w v.level d; is-kept = kp })
      where
        go : (level_of (parent g.axes k) ≡ 0) ⊎ ((level_of (parent g.axes k) < 16) × (g.limit < sources_in g.axes s (parent g.axes k)))
            → (level_of (parent g.axes k) ≡ 0) ⊎ (g.limit < sources_in g.axes s (parent g.axes k))
        go (inl z) = inl z
        go (inr (l, m)) = inr m

    -- what holds a stored cell and is larger splits
    pub above-splits : (a b : ℕ) → Mem b (nodes g s []) → under g.axes a b ≡ true → level_of a < level_of b → splits g s [] a ≡ true
    above-splits a b m u l =
        splits-up a (parent g.axes b) (under_parent g.axes a b u l) (node-up g s [] known b m (omega arith)).1.splits-up
