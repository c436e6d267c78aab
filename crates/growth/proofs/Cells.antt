-- The cells of each level: each but the root is a kept child of a cell that splits.
use mathlib.Core.Path.{◌≡◌, refl, sym, ap, ◌∙◌, subst}
use mathlib.Core.Bool.{Bool, true, false, ◌&&◌, ◌||◌, cond}
use mathlib.Core.List.{List, [], ◌++◌}
use mathlib.Core.Logic.{◌⊎◌, inl, inr}
use Prim.Native.Nat.{ℕ, zero, suc, ◌+◌, ◌*◌, ◌-◌, ◌^◌, ◌≤◌, ◌<◌}
use native.Mathlib.Omega.{arith}
use native.Mathlib.Nat.{not-suc-le-zero, eq-or-lt_of_le, le_of_suc-le-suc}
use native.Mathlib.Numerals.{add-one}
use lib.Dec.{eqb}
use lib.Pow.{pow_pos}
use borrow.Author.Tests.{ltb-true, eqb-true, eq-eqb}
use Rattle.slices.specs.Lists.{filter, range, Mem}
use Rattle.slices.proofs.Tests.{and_l}
use Rattle.slices.proofs.Counts.{here}
use Rattle.slices.proofs.Members.{mem-cases, mem-filter, filter-mem, mem-map, mem-range}
use Rattle.morton.specs.Keys.{level_of, code_of, axes_known, ValidKey, parent, child, children}
use Rattle.morton.proofs.Checks.{axes-facts}
use Rattle.morton.proofs.Arithmetic.{child-valid}
use Rattle.morton.proofs.Cells.{key-level}
use Rattle.anchors.proofs.Laws.{parent-child}
use Rattle.growth.specs.declared.Rule.{Rule}
use Rattle.growth.specs.Nodes.{splits, kept, kids}
use Rattle.growth.specs.ByLevel.{cells_at, nodes_to, nodes_by_level}
use Rattle.growth.proofs.Joined.{append_left, append_right, mem-append, concat-mem, mem-concat}
use Rattle.growth.proofs.Kids.{Kid, kid-facts, facts-kid, splits-level, child-below, root-good}

module _ (g : Rule) (s t : List ℕ) (known : axes_known g.axes ≡ true) where
  -- the cells of a level
  pub cell-facts : (l k : ℕ) → Mem k (cells_at g s t l) → (level_of k ≡ l) × ValidKey g.axes k
  unfolding cells_at
  cell-facts zero k m = go (mem-cases k 0 [] m)
    where
      go : (0 ≡ k) ⊎ Mem k [] → (level_of k ≡ 0) × ValidKey g.axes k
      go (inl e) = subst (λ (x : ℕ). (level_of x ≡ 0) × ValidKey g.axes x) e (refl, root-good g s t known)
      go (inr (i, l, _)) = absurd (not-suc-le-zero l)
  cell-facts (suc l) k m =
      let r = mem-concat (kids g s t) (cells_at g s t l) k m in
      let c = kid-facts g s t r.0 k r.2 in
      let f = cell-facts l r.0 r.1 in
      let b = child-below g s t known r.0 k f.1 (splits-level g s t r.0 c.splits-up) c.its_child in
      (b.level ∙ ap suc f.0, b.good)

  cell-up : (l k : ℕ) → Mem k (cells_at g s t (suc l)) → Mem (parent g.axes k) (cells_at g s t l) × Kid g s t (parent g.axes k) k
  unfolding cells_at
  cell-up l k m =
      let r = mem-concat (kids g s t) (cells_at g s t l) k m in
      let c = kid-facts g s t r.0 k r.2 in
      let b = child-below g s t known r.0 k (cell-facts l r.0 r.1).1 (splits-level g s t r.0 c.splits-up) c.its_child in
      (subst (λ (x : ℕ). Mem x (cells_at g s t l)) (sym b.up) r.1, subst (λ (x : ℕ). Kid g s t x k) (sym b.up) c)

  cell-down : (l k j : ℕ) → Mem k (cells_at g s t l) → Kid g s t k j → Mem j (cells_at g s t (suc l))
  unfolding cells_at
  cell-down l k j m c = concat-mem (kids g s t) (cells_at g s t l) k j m (facts-kid g s t k j c)

  -- the nodes are the cells of all levels
  to_mem : (n l k : ℕ) → l ≤ n → Mem k (cells_at g s t l) → Mem k (nodes_to g s t n)
  unfolding nodes_to
  to_mem zero l k h m = let e : l ≡ 0 = omega arith in subst (λ (x : ℕ). Mem k (cells_at g s t x)) e m
  to_mem (suc n) l k h m = go (eq-or-lt_of_le h) (λ q. to_mem n l k q m)
    where
      go : (l ≡ suc n) ⊎ (l < suc n) → (l ≤ n → Mem k (nodes_to g s t n)) → Mem k (nodes_to g s t n ++ cells_at g s t (suc n))
      go (inl e) rest = append_right (nodes_to g s t n) (cells_at g s t (suc n)) k (subst (λ (x : ℕ). Mem k (cells_at g s t x)) e m)
      go (inr q) rest = append_left (nodes_to g s t n) (cells_at g s t (suc n)) k (rest (le_of_suc-le-suc q))

  pub mem-to : (n k : ℕ) → Mem k (nodes_to g s t n) → (l : ℕ) × (l ≤ n) × Mem k (cells_at g s t l)
  unfolding nodes_to
  mem-to zero k m = (0, omega arith, m)
  mem-to (suc n) k m = go (mem-append (nodes_to g s t n) (cells_at g s t (suc n)) k m) (mem-to n k)
    where
      go : Mem k (nodes_to g s t n) ⊎ Mem k (cells_at g s t (suc n)) → (Mem k (nodes_to g s t n) → (l : ℕ) × (l ≤ n) × Mem k (cells_at g s t l)) → (l : ℕ) × (l ≤ suc n) × Mem k (cells_at g s t l)
      go (inl q) rest = let r = rest q in (r.0, omega (arith, r.1), r.2)
      go (inr q) rest = (suc n, omega arith, q)

  pub level-node : (l k : ℕ) → l ≤ 16 → Mem k (cells_at g s t l) → Mem k (nodes_by_level g s t)
  unfolding nodes_by_level
  level-node l k h m = to_mem 16 l k h m

  pub level-cell : (k : ℕ) → Mem k (nodes_by_level g s t) → Mem k (cells_at g s t (level_of k))
  unfolding nodes_by_level
  level-cell k m = let r = mem-to 16 k m in subst (λ (l : ℕ). Mem k (cells_at g s t l)) (sym (cell-facts r.0 k r.2).0) r.2

  -- what is known of a node: its key is valid
  pub level-good : (k : ℕ) → Mem k (nodes_by_level g s t) → ValidKey g.axes k
  level-good k m = (cell-facts (level_of k) k (level-cell k m)).1

  -- the root is a node
  pub level-root : Mem 0 (nodes_by_level g s t)
  unfolding cells_at
  level-root = level-node 0 0 (omega arith) (here 0 [])

  -- each other node's parent is a node that splits, and the node is kept
  pub level-up : (k : ℕ) → Mem k (nodes_by_level g s t) → 0 < level_of k → Mem (parent g.axes k) (nodes_by_level g s t) × Kid g s t (parent g.axes k) k
  level-up k m h =
      let v = level-good k m in
      let e : level_of k ≡ suc (level_of k - 1) = omega arith in
      let r = cell-up (level_of k - 1) k (subst (λ (l : ℕ). Mem k (cells_at g s t l)) e (level-cell k m)) in
      (level-node (level_of k - 1) (parent g.axes k) (omega (arith, v.level)) r.0, r.1)

  -- a kept child of a node that splits is a node
  pub level-down : (k j : ℕ) → Mem k (nodes_by_level g s t) → Kid g s t k j → Mem j (nodes_by_level g s t)
  level-down k j m c = level-node (suc (level_of k)) j (splits-level g s t k c.splits-up) (cell-down (level_of k) k j (level-cell k m) c)
