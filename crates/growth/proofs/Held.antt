-- Each source lies in one leaf.
use mathlib.Core.Path.{◌≡◌, sym, ap, ◌∙◌}
use mathlib.Core.Bool.{true, ◌&&◌}
use mathlib.Core.List.{List}
use mathlib.Core.Logic.{⊎_elim}
use Prim.Native.Nat.{ℕ, ◌+◌, ◌*◌, ◌-◌, ◌/◌, ◌^◌, ◌≤◌, ◌<◌}
use native.Mathlib.Omega.{arith}
use native.Mathlib.Nat.{mul-add}
use lib.Pow.{shr-shr}
use borrow.Author.Tests.{le-leb, eq-eqb}
use Rattle.slices.specs.Lists.{bit, count, Mem}
use Rattle.slices.proofs.Tests.{and_l, and_r, both, lt-or-le}
use Rattle.slices.proofs.Counts.{count-one}
use Rattle.morton.specs.Keys.{deepest, level_of, code_of, above, axes_known, under, holds}
use Rattle.tree.specs.Nodes.{leaf}
use Rattle.tree.proofs.Stored.{stored-mem, distinct, leaf-under}
use Rattle.tree.specs.Leaves.{cell_of}
use Rattle.growth.specs.declared.Rule.{Rule}
use Rattle.growth.specs.Nodes.{nodes}
use Rattle.growth.proofs.Sorted.{node-good, nodes-ascending, nodes-tree}
use Rattle.growth.proofs.Leaves.{holds-code, cell_holds, source-leaf}

pub leaf-mem : (d : ℕ) (keys : List ℕ) (k : ℕ) → leaf d keys k ≡ true → Mem k keys
unfolding leaf
leaf-mem d keys k h = stored-mem keys k (and_l _ _ h)

above-above : (d m n c : ℕ) → above d n (above d m c) ≡ above d (m + n) c
above-above d m n c = shr-shr c (d * m) (d * n) ∙ ap (λ (x : ℕ). c / 2 ^ x) (sym (mul-add d m n))

-- of two cells that hold a code the deeper lies in the other
pub held-under : (d j k c : ℕ) → level_of j ≤ level_of k → level_of k ≤ 16 → holds d j c ≡ true → holds d k c ≡ true → under d j k ≡ true
held-under d j k c l h hj hk =
    let e : (deepest - level_of k) + (level_of k - level_of j) ≡ deepest - level_of j = omega arith in
    both (le-leb (level_of j) (level_of k) l)
    (eq-eqb (above d (level_of k - level_of j) (code_of k)) (code_of j)
    (ap (above d (level_of k - level_of j)) (sym (holds-code d k c hk))
    ∙ above-above d (deepest - level_of k) (level_of k - level_of j) c
    ∙ ap (λ (n : ℕ). above d n c) e
    ∙ holds-code d j c hj))

module _ (g : Rule) (s t : List ℕ) (known : axes_known g.axes ≡ true) where
  ordered-leaf : (j k c : ℕ) → level_of j ≤ level_of k → leaf g.axes (nodes g s t) j ≡ true → leaf g.axes (nodes g s t) k ≡ true
      → holds g.axes j c ≡ true → holds g.axes k c ≡ true → j ≡ k
  ordered-leaf j k c l lj lk hj hk =
      let m = leaf-mem g.axes (nodes g s t) k lk in
      leaf-under g.axes (nodes g s t) (nodes-ascending g s t known) (nodes-tree g s t known).parents j k lj m
      (held-under g.axes j k c l (node-good g s t known k m).level hj hk)

  -- no code is held by two leaves
  pub one-leaf : (j k c : ℕ) → leaf g.axes (nodes g s t) j ≡ true → leaf g.axes (nodes g s t) k ≡ true
      → holds g.axes j c ≡ true → holds g.axes k c ≡ true → j ≡ k
  one-leaf j k c lj lk hj hk =
      ⊎_elim
      (λ (l : level_of j < level_of k). ordered-leaf j k c (omega arith) lj lk hj hk)
      (λ (l : level_of k ≤ level_of j). sym (ordered-leaf k j c l lk lj hk hj))
      (lt-or-le (level_of j) (level_of k))

  -- a source's code is held by exactly one
  pub held-once : (c : ℕ) → Mem c s → c < 2 ^ (g.axes * 16) → count (λ k. leaf g.axes (nodes g s t) k && holds g.axes k c) (nodes g s t) ≡ 1
  held-once c m h =
      let r = source-leaf g s t known c m h in
      let k = cell_of g.axes r.0 c in
      let lk : leaf g.axes (nodes g s t) k ≡ true = r.3 in
      let hk = cell_holds g.axes r.0 c r.2 in
      count-one (λ x. leaf g.axes (nodes g s t) x && holds g.axes x c) (nodes g s t) (distinct g.axes (nodes g s t) (nodes-ascending g s t known)) k
      (leaf-mem g.axes (nodes g s t) k lk)
      (λ x mx hx. one-leaf x k c (and_l _ _ hx) lk (and_r (leaf g.axes (nodes g s t) x) _ hx) hk)
      ∙ ap bit (both lk hk)
