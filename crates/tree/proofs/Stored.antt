-- The nodes of a tree by their keys: each cell that holds a node is one, and a leaf holds no other.
use mathlib.Core.Path.{◌≡◌, refl, sym, ap, ◌∙◌, subst}
use mathlib.Core.Bool.{Bool, true, false, ◌&&◌}
use mathlib.Core.List.{List}
use Prim.Native.Nat.{ℕ, zero, suc, ◌+◌, ◌*◌, ◌^◌, ◌≤◌, ◌<◌}
use native.Mathlib.Omega.{arith}
use native.Mathlib.Decide.{dec_lt}
use lib.ListN.{length, get_or}
use Rattle.slices.specs.Lists.{Mem, Distinct}
use Rattle.slices.proofs.Tests.{clash}
use Rattle.morton.specs.Keys.{level_of, code_of, parent, under}
use Rattle.morton.proofs.Cells.{level_begins, code_at}
use Rattle.tree.specs.Nodes.{cell_at, stored, leaf, own_of}
use Rattle.tree.specs.WellFormed.{Run}
use Rattle.tree.proofs.Under.{facts-under}
pub use Rattle.tree.proofs.Members.{stored-mem, mem-stored, own_at, sourced-by}
pub use Rattle.tree.proofs.Ranges.{distinct}
use Rattle.tree.proofs.Rules.{Ascending, Tree, WellFormed}
use Rattle.tree.proofs.Ranges as R
use Rattle.tree.proofs.Laws.{parent-at, holder-at}
use Rattle.tree.proofs.Leaves.{leaf-alone}

module _ (d : ℕ) (keys : List ℕ) (w : Ascending d keys) where
  pub code_lt : (x : ℕ) → Mem x keys → code_of x < 2 ^ (d * level_of x)
  code_lt x (i, l, e) = subst (λ k. code_of k < 2 ^ (d * level_of k)) e (R.code_lt d keys w i l)

  pub level-le : (x : ℕ) → Mem x keys → level_of x ≤ 16
  level-le x (i, l, e) = subst (λ k. level_of k ≤ 16) e (R.level-le d keys w i l)

module _ (d : ℕ) (keys : List ℕ) (asc : Ascending d keys) (parents : (i : ℕ) → 0 < i → i < length keys → stored keys (parent d (get_or keys i 0)) ≡ true) where
  tree : Tree d keys
  tree = record { ascending = asc; parents = parents }

  pub parent-mem : (k : ℕ) → Mem k keys → 0 < level_of k → Mem (parent d k) keys
  parent-mem k (i, l, e) h = go (dec_lt 0 i)
    where
      go : Dec (0 < i) → Mem (parent d k) keys
      go (yes p) = let (m, s, q) = parent-at d keys tree i p l in (m, omega arith, q ∙ ap (parent d) e)
      go (no n) = let z : i ≡ 0 = omega arith in absurd (omega (arith, ap level_of (sym e ∙ ap (λ x. get_or keys x 0) z ∙ asc.root)))

  -- each cell that holds a node is a node
  pub above-mem : (k l : ℕ) → Mem k keys → l ≤ level_of k → Mem (cell_at d l k) keys
  above-mem k l (i, s, e) h =
      let u : under d (cell_at d l k) k ≡ true = facts-under d (cell_at d l k) k (record { level = omega (arith, level_begins d l k h); code = rw (level_begins d l k h) (sym (code_at d l k h)) }) in
      let (m, g, q) = holder-at d keys tree (cell_at d l k) i s (subst (λ x. under d (cell_at d l k) x ≡ true) (sym e) u) in
      (m, omega arith, q)

  -- the only node at or under a leaf is the leaf
  pub leaf-under : (x s : ℕ) → leaf d keys x ≡ true → Mem s keys → under d x s ≡ true → x ≡ s
  unfolding leaf
  leaf-under x s lx (j, lj, ej) u =
      let (i, li, ei) = stored-mem keys x (Rattle.slices.proofs.Tests.and_l _ _ lx) in
      sym ei ∙ ap (λ n. get_or keys n 0) (leaf-alone d keys tree i j li lj (subst (λ y. leaf d keys y ≡ true) (sym ei) lx) (rw (ei, ej) u)) ∙ ej

-- a run is a leaf's
pub run-facts : (d : ℕ) (keys own begin : List ℕ) → WellFormed d keys own begin → (p j : ℕ) → Run own begin j p
    → (j < length keys) × (leaf d keys (get_or keys j 0) ≡ true) × (0 < own_of keys own (get_or keys j 0))
run-facts d keys own begin w p j r =
    let lk : j < length keys = omega (arith, w.owns, r.node) in
    (lk, go lk (leaf d keys (get_or keys j 0)) refl, rw (own_at keys own (distinct d keys w.ascending) w.owns j lk) (omega (arith, r.from, r.to)))
  where
    go : j < length keys → (t : Bool) → leaf d keys (get_or keys j 0) ≡ t → leaf d keys (get_or keys j 0) ≡ true
    go lk true e = e
    go lk false e = absurd (omega (arith, w.inner j lk e, r.from, r.to))
