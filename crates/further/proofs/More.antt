-- One source more: cells stay, those that split go on splitting, and all that is new lies at the new source.
use mathlib.Core.Path.{◌≡◌, refl, sym, ap, ◌∙◌, subst}
use mathlib.Core.Bool.{Bool, true, false, ◌&&◌, ◌||◌}
use mathlib.Core.List.{List, [], ◌∷◌}
use mathlib.Core.Logic.{◌⊎◌, inl, inr}
use Prim.Native.Nat.{ℕ, ◌+◌, ◌-◌, ◌≤◌, ◌<◌}
use native.Mathlib.Omega.{arith}
use native.Mathlib.Nat.{add-zero}
use lib.Dec.{ltb, eqb}
use Rattle.slices.specs.Lists.{bit, count, Mem}
use Rattle.slices.proofs.Tests.{clash, refute, lt-or-le}
use Rattle.slices.proofs.Lists.{count-append}
use Rattle.morton.specs.Keys.{deepest, level_of, axes_known, parent, under, holds}
use Rattle.morton.proofs.Cells.{level-parent}
use Rattle.refine.specs.Counts.{count_at, sources_in}
use Rattle.tree.specs.Leaves.{cell_of}
use Rattle.tree.proofs.Ranges.{parent-under}
use Rattle.growth.specs.declared.Rule.{Rule}
use Rattle.growth.specs.Nodes.{splits, kept, nodes}
use Rattle.growth.proofs.Kids.{splits-root}
use Rattle.growth.proofs.Leaves.{holds-cell}
use Rattle.growth.proofs.Sorted.{node-good}
use Rattle.growth.proofs.Members.{root-node, node-up}
use Rattle.further.specs.Further.{further}
use Rattle.further.proofs.Cells.{root-only, holds-up}
use Rattle.further.proofs.Alone.{splits-is, splits-cases, splits-more, kept-cases, kept-all, kept-some, node-if}

module _ (d : ℕ) (s : List ℕ) (code : ℕ) where
  -- a cell that holds the new source has one more
  pub count-more : (k : ℕ) → sources_in d (further s code) k ≡ sources_in d s k + bit (holds d k code)
  unfolding count_at count
  count-more k = count-append (holds d k) s (code ∷ []) ∙ ap (λ (n : ℕ). count (holds d k) s + n) (add-zero (bit (holds d k code)))

  pub count-stays : (k : ℕ) → sources_in d s k ≤ sources_in d (further s code) k
  count-stays k = omega (arith, count-more k)

  pub count_same : (k : ℕ) → holds d k code ≡ false → sources_in d (further s code) k ≡ sources_in d s k
  count_same k h = count-more k ∙ ap (λ (b : Bool). sources_in d s k + bit b) h ∙ add-zero (sources_in d s k)

module _ (g : Rule) (s : List ℕ) (code : ℕ) where
  pub splits-stays : (k : ℕ) → splits g s [] k ≡ true → splits g (further s code) [] k ≡ true
  splits-stays k h = go (splits-cases g s k h)
    where
      go : (level_of k ≡ 0) ⊎ ((level_of k < 16) × (g.limit < sources_in g.axes s k)) → splits g (further s code) [] k ≡ true
      go (inl z) = splits-root g (further s code) [] k z
      go (inr (l, m)) = splits-more g (further s code) k l (omega (arith, count-stays g.axes s code k))

  pub splits-same : (k : ℕ) → holds g.axes k code ≡ false → splits g (further s code) [] k ≡ splits g s [] k
  splits-same k h =
      splits-is g (further s code) k
      ∙ ap (λ (n : ℕ). eqb (level_of k) 0 || (ltb (level_of k) deepest && ltb g.limit n)) (count_same g.axes s code k h)
      ∙ sym (splits-is g s k)

  -- a cell that starts to split holds the new source
  pub starts-to-split : (k : ℕ) → splits g s [] k ≡ false → splits g (further s code) [] k ≡ true → holds g.axes k code ≡ true
  starts-to-split k f t = go (holds g.axes k code) refl
    where
      go : (b : Bool) → holds g.axes k code ≡ b → b ≡ true
      go true e = refl
      go false e = absurd (clash (sym (splits-same k e) ∙ t) f)

  pub kept-stays : (k : ℕ) → kept g s [] k ≡ true → kept g (further s code) [] k ≡ true
  kept-stays k h = go (kept-cases g s k h)
    where
      go : (g.keep ≡ true) ⊎ (0 < sources_in g.axes s k) → kept g (further s code) [] k ≡ true
      go (inl e) = kept-all g (further s code) k e
      go (inr m) = kept-some g (further s code) k (omega (arith, count-stays g.axes s code k))

  pub kept_same : (k : ℕ) → holds g.axes k code ≡ false → kept g (further s code) [] k ≡ kept g s [] k
  kept_same k h = ap (λ (n : ℕ). g.keep || ltb 0 n) (count_same g.axes s code k h)

  -- below a cell that does not hold the code there is none that does
  pub outside : (a b : ℕ) → under g.axes a b ≡ true → level_of b ≤ 16 → holds g.axes a code ≡ false → holds g.axes b code ≡ false
  outside a b u l h = refute (λ t. clash (holds-up g.axes a b code u l t) h)

  module _ (known : axes_known g.axes ≡ true) where
    -- every cell stored before is stored after
    pub node_stays : (k : ℕ) → Mem k (nodes g s []) → Mem k (nodes g (further s code) [])
    node_stays k m = go (lt-or-le 0 (level_of k))
      where
        go : (0 < level_of k) ⊎ (level_of k ≤ 0) → Mem k (nodes g (further s code) [])
        go (inl l) =
            let c = (node-up g s [] known k m l).1 in
            node-if g (further s code) known k (node-good g s [] known k m) l (splits-stays (parent g.axes k) c.splits-up) (kept-stays k c.is-kept)
        go (inr z) =
            subst (λ (x : ℕ). Mem x (nodes g (further s code) [])) (sym (root-only g.axes k (node-good g s [] known k m) (omega arith)))
            (root-node g (further s code) [] known)

    -- and every cell stored after whose parent does not hold the new source was stored before
    pub node-before : (k : ℕ) → Mem k (nodes g (further s code) []) → 0 < level_of k → holds g.axes (parent g.axes k) code ≡ false → Mem k (nodes g s [])
    node-before k m l h =
        let v = node-good g (further s code) [] known k m in
        let c = (node-up g (further s code) [] known k m l).1 in
        let o = outside (parent g.axes k) k (parent-under g.axes k l) v.level h in
        node-if g s known k v l (sym (splits-same (parent g.axes k) h) ∙ c.splits-up) (sym (kept_same k o) ∙ c.is-kept)

    -- a new node at level L + 1 is a child of the point's cell at level L
    pub record NewNode (k : ℕ) : Type 0 where
      pub deep : 0 < level_of k
      pub at : parent g.axes k ≡ cell_of g.axes (level_of k - 1) code
      pub splits-after : splits g (further s code) [] (parent g.axes k) ≡ true

    pub node-new : (k : ℕ) → Mem k (nodes g (further s code) []) → (Mem k (nodes g s []) → ⊥) → NewNode k
    node-new k m n = go (lt-or-le 0 (level_of k))
      where
        held : 0 < level_of k → (b : Bool) → holds g.axes (parent g.axes k) code ≡ b → holds g.axes (parent g.axes k) code ≡ true
        held l true e = e
        held l false e = absurd (n (node-before k m l e))

        go : (0 < level_of k) ⊎ (level_of k ≤ 0) → NewNode k
        go (inl l) = record {
          deep = l;
          at = sym (ap (λ (i : ℕ). cell_of g.axes i code) (sym (level-parent g.axes k)) ∙ holds-cell g.axes (parent g.axes k) code (held l (holds g.axes (parent g.axes k) code) refl));
          splits-after = (node-up g (further s code) [] known k m l).1.splits-up;
        }
        go (inr z) = absurd (n (subst (λ (x : ℕ). Mem x (nodes g s [])) (sym (root-only g.axes k (node-good g (further s code) [] known k m) (omega arith))) (root-node g s [] known)))
