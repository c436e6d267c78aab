-- The nodes as a set: the root is one, each other's parent is one that splits, and a kept child of one that splits is one.
use mathlib.Core.Path.{◌≡◌, sym}
use mathlib.Core.Bool.{true}
use mathlib.Core.List.{List}
use Prim.Native.Nat.{ℕ, ◌<◌}
use Rattle.slices.specs.Lists.{Mem}
use Rattle.morton.specs.Keys.{level_of, axes_known, parent}
use Rattle.tree.proofs.Perm.{perm-mem}
use Rattle.growth.specs.declared.Rule.{Rule}
use Rattle.growth.specs.Nodes.{nodes}
use Rattle.growth.specs.ByLevel.{nodes_by_level}
use Rattle.growth.proofs.Kids.{Kid}
use Rattle.growth.proofs.Cells.{level-root, level-up, level-down}
use Rattle.growth.proofs.Renumbered.{nodes-arranged}

module _ (g : Rule) (s t : List ℕ) where
  by_level : (k : ℕ) → Mem k (nodes g s t) → Mem k (nodes_by_level g s t)
  by_level = perm-mem (nodes g s t) (nodes_by_level g s t) (nodes-arranged g s t)

  in_order : (k : ℕ) → Mem k (nodes_by_level g s t) → Mem k (nodes g s t)
  in_order = perm-mem (nodes_by_level g s t) (nodes g s t) (λ x. sym (nodes-arranged g s t x))

  module _ (known : axes_known g.axes ≡ true) where
    pub root-node : Mem 0 (nodes g s t)
    root-node = in_order 0 (level-root g s t known)

    pub node-up : (k : ℕ) → Mem k (nodes g s t) → 0 < level_of k → Mem (parent g.axes k) (nodes g s t) × Kid g s t (parent g.axes k) k
    node-up k m h = let r = level-up g s t known k (by_level k m) h in (in_order (parent g.axes k) r.0, r.1)

    pub node-down : (k j : ℕ) → Mem k (nodes g s t) → Kid g s t k j → Mem j (nodes g s t)
    node-down k j m c = in_order j (level-down g s t known k j (by_level k m) c)
