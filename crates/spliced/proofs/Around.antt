-- The nodes after the further source: those of before, and those in the one cell that it changes.
use mathlib.Core.Path.{◌≡◌, refl, sym, ap, ◌∙◌, subst}
use mathlib.Core.Bool.{Bool, true, false}
use mathlib.Core.List.{List, [], ◌∷◌}
use mathlib.Core.Logic.{◌⊎◌, inl, inr}
use Prim.Native.Nat.{ℕ, suc, ◌≤◌, ◌<◌}
use native.Mathlib.Omega.{arith}
use Rattle.slices.specs.Lists.{Mem}
use Rattle.slices.proofs.Tests.{clash, refute, lt-or-le}
use Rattle.morton.specs.Keys.{level_of, axes_known, ValidKey, parent, under, holds}
use Rattle.morton.proofs.Cells.{level-parent}
use Rattle.refine.specs.Counts.{sources_in}
use Rattle.tree.proofs.Sourced.{under-self, under-trans}
use Rattle.tree.proofs.Ranges.{parent-under, same-level}
use Rattle.growth.specs.declared.Rule.{Rule}
use Rattle.growth.specs.Nodes.{splits, kept, nodes}
use Rattle.growth.proofs.Held.{held-under}
use Rattle.growth.proofs.Leaves.{has-source}
use Rattle.growth.proofs.Sorted.{node-good}
use Rattle.growth.proofs.Members.{root-node, node-up}
use Rattle.growth.proofs.Joined.{append_right}
use Rattle.slices.proofs.Counts.{here}
use Rattle.further.specs.Further.{further}
use Rattle.further.proofs.Cells.{root-only, count-up, under_parent}
use Rattle.further.proofs.Alone.{splits-cases, splits-up, kept-some, node-if}
use Rattle.further.proofs.More.{splits-stays, splits-same, kept_same, node_stays}
use Rattle.spliced.specs.Gap.{Gap}

module _ (g : Rule) (s : List ℕ) (code cell : ℕ) (known : axes_known g.axes ≡ true) (gap : Gap g s code cell) where
  -- what is larger and holds the cell was split
  pub above-parted : (k : ℕ) → under g.axes k cell ≡ true → level_of k < level_of cell → splits g s [] k ≡ true
  above-parted k u l = splits-up g s k (parent g.axes cell) (under_parent g.axes k cell u l) gap.parted

  -- a cell that holds the new source is larger than the cell and holds it, or lies in it
  pub on-way : (k : ℕ) → level_of k ≤ 16 → holds g.axes k code ≡ true → ((level_of k < level_of cell) × (under g.axes k cell ≡ true)) ⊎ (under g.axes cell k ≡ true)
  on-way k v h = go (lt-or-le (level_of k) (level_of cell))
    where
      go : (level_of k < level_of cell) ⊎ (level_of cell ≤ level_of k) → ((level_of k < level_of cell) × (under g.axes k cell ≡ true)) ⊎ (under g.axes cell k ≡ true)
      go (inl l) = inl (l, held-under g.axes k cell code (omega arith) gap.good.level h gap.holder)
      go (inr l) = inr (held-under g.axes cell k code l v gap.holder h)

  -- the cell is stored after
  pub cell-after : Mem cell (nodes g (further s code) [])
  cell-after = node-if g (further s code) known cell gap.good gap.deep
      (splits-stays g s code (parent g.axes cell) gap.parted)
      (kept-some g (further s code) cell (has-source g.axes (further s code) cell code (append_right s (code ∷ []) code (here code [])) gap.holder))

  -- a node of after that is not in the cell was a node before
  pub was-node : (k : ℕ) → Mem k (nodes g (further s code) []) → under g.axes cell k ≡ false → Mem k (nodes g s [])
  was-node k m off = start (lt-or-le 0 (level_of k))
    where
      p : ℕ
      p = parent g.axes k

      v : ValidKey g.axes k
      v = node-good g (further s code) [] known k m

      -- its parent was split
      parted : 0 < level_of k → splits g (further s code) [] p ≡ true → splits g s [] p ≡ true
      parted l sp = go (holds g.axes p code) refl
        where
          inside : ((level_of p < level_of cell) × (under g.axes p cell ≡ true)) ⊎ (under g.axes cell p ≡ true) → splits g s [] p ≡ true
          inside (inl (q, u)) = above-parted p u q
          inside (inr u) = absurd (clash (under-trans g.axes cell p k u (parent-under g.axes k l)) off)

          go : (b : Bool) → holds g.axes p code ≡ b → splits g s [] p ≡ true
          go true h = inside (on-way p (omega (arith, level-parent g.axes k, v.level)) h)
          go false h = sym (splits-same g s code p h) ∙ sp

      -- and it was kept
      was-kept : 0 < level_of k → kept g (further s code) [] k ≡ true → kept g s [] k ≡ true
      was-kept l kp = go (holds g.axes k code) refl
        where
          larger : level_of k < level_of cell → under g.axes k cell ≡ true → (level_of (parent g.axes cell) ≡ 0) ⊎ ((level_of (parent g.axes cell) < 16) × (g.limit < sources_in g.axes s (parent g.axes cell))) → kept g s [] k ≡ true
          larger q u (inl z) = absurd (omega (arith, l, q, z, level-parent g.axes cell))
          larger q u (inr (_, n)) = kept-some g s k
              (omega (arith, n, count-up g.axes s k (parent g.axes cell) (under_parent g.axes k cell u q) (omega (arith, level-parent g.axes cell, gap.good.level))))

          inside : ((level_of k < level_of cell) × (under g.axes k cell ≡ true)) ⊎ (under g.axes cell k ≡ true) → kept g s [] k ≡ true
          inside (inl (q, u)) = larger q u (splits-cases g s (parent g.axes cell) gap.parted)
          inside (inr u) = absurd (clash u off)

          go : (b : Bool) → holds g.axes k code ≡ b → kept g s [] k ≡ true
          go true h = inside (on-way k v.level h)
          go false h = sym (kept_same g s code k h) ∙ kp

      start : (0 < level_of k) ⊎ (level_of k ≤ 0) → Mem k (nodes g s [])
      start (inl l) =
          let c = (node-up g (further s code) [] known k m l).1 in
          node-if g s known k v l (parted l c.splits-up) (was-kept l c.is-kept)
      start (inr z) = subst (λ (x : ℕ). Mem x (nodes g s [])) (sym (root-only g.axes k v (omega arith))) (root-node g s [] known)

  -- a node other than the cell that holds the new source was split, and is
  pub holder-parted : (k : ℕ) → Mem k (nodes g s []) → (k ≡ cell → ⊥) → holds g.axes k code ≡ true → splits g s [] k ≡ true
  holder-parted k m other h = go (on-way k (node-good g s [] known k m).level h)
    where
      go : ((level_of k < level_of cell) × (under g.axes k cell ≡ true)) ⊎ (under g.axes cell k ≡ true) → splits g s [] k ≡ true
      go (inl (q, u)) = above-parted k u q
      go (inr u) = absurd (other (gap.lowest k m u))

  -- so each other node is split after if it was before
  pub splits-as : (k : ℕ) → Mem k (nodes g s []) → (k ≡ cell → ⊥) → splits g (further s code) [] k ≡ splits g s [] k
  splits-as k m other = go (holds g.axes k code) refl
    where
      go : (b : Bool) → holds g.axes k code ≡ b → splits g (further s code) [] k ≡ splits g s [] k
      go true h = let e = holder-parted k m other h in splits-stays g s code k e ∙ sym e
      go false h = splits-same g s code k h
