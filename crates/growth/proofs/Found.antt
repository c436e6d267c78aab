-- Lookup in the tree that grew: each source's code is held, and the climb from the depth ends at the node in whose run the source stands.
use mathlib.Core.Path.{◌≡◌, refl, sym, ap, ◌∙◌}
use mathlib.Core.Bool.{Bool, true, false, cond}
use mathlib.Core.List.{List}
use mathlib.Core.Logic.{◌⊎◌, inl, inr}
use Prim.Native.Nat.{ℕ, zero, suc, ◌*◌, ◌-◌, ◌^◌, ◌≤◌, ◌<◌}
use native.Mathlib.Omega.{arith}
use native.Mathlib.Nat.{eq-or-lt_of_le}
use lib.Dec.{eqb}
use lib.ListN.{length, get_or}
use borrow.Author.Tests.{eqb-true, lt-ltb}
use Rattle.slices.specs.Lists.{Mem}
use Rattle.slices.proofs.Tests.{refute}
use Rattle.slices.proofs.Counts.{pos-count}
use Rattle.morton.specs.Keys.{deepest, level_of, above, axes_known, holds}
use Rattle.morton.proofs.Cells.{key-level}
use Rattle.tree.specs.Nodes.{leaf}
use Rattle.tree.specs.Order.{depth_of}
use Rattle.tree.specs.WellFormed.{Run}
use Rattle.tree.proofs.Runs.{run_of}
use Rattle.tree.specs.Leaves.{cell_of, climbed, leaf_level, held, leaf_key}
use Rattle.growth.specs.declared.Rule.{Rule}
use Rattle.growth.specs.Nodes.{nodes}
use Rattle.growth.specs.Columns.{own_column, begin_column, order_column}
use Rattle.growth.proofs.Leaves.{cell_holds, holds-cell, source-leaf}
use Rattle.growth.proofs.Held.{leaf-mem, one-leaf}
use Rattle.growth.proofs.Arranged.{Codes, order-times, order-length}
use Rattle.growth.proofs.Runs.{begin-at, own-order, placed}
use Rattle.growth.proofs.Formed.{node-depth, depth-most}

module _ (g : Rule) (s t : List ℕ) (known : axes_known g.axes ≡ true) where
  module _ (k c : ℕ) (lk : leaf g.axes (nodes g s t) k ≡ true) (hk : holds g.axes k c ≡ true) where
    -- the leaf that holds a code is the only one on the code's way up
    pub only-level : (l : ℕ) → l ≤ 16 → leaf g.axes (nodes g s t) (cell_of g.axes l c) ≡ true → l ≡ level_of k
    only-level l h f =
        sym (key-level l (above g.axes (deepest - l) c) (omega arith))
        ∙ ap level_of (one-leaf g s t known (cell_of g.axes l c) k c f lk (cell_holds g.axes l c h) hk)

    climbs : (l : ℕ) → level_of k ≤ l → l ≤ 16 → climbed g.axes (nodes g s t) c l ≡ level_of k
    unfolding climbed
    climbs zero a b = omega arith
    climbs (suc l) a b = go (eq-or-lt_of_le a) (λ q. climbs l (omega arith) (omega arith))
      where
        go : (level_of k ≡ suc l) ⊎ (level_of k < suc l) → (level_of k < suc l → climbed g.axes (nodes g s t) c l ≡ level_of k)
            → cond (leaf g.axes (nodes g s t) (cell_of g.axes (suc l) c)) (suc l) (climbed g.axes (nodes g s t) c l) ≡ level_of k
        go (inl e) rest =
            let same : cell_of g.axes (suc l) c ≡ k = ap (λ (n : ℕ). cell_of g.axes n c) (sym e) ∙ holds-cell g.axes k c hk in
            ap (λ (b : Bool). cond b (suc l) (climbed g.axes (nodes g s t) c l)) (ap (leaf g.axes (nodes g s t)) same ∙ lk) ∙ sym e
        go (inr q) rest =
            let none : leaf g.axes (nodes g s t) (cell_of g.axes (suc l) c) ≡ false = refute (λ f. omega (arith, only-level (suc l) b f)) in
            ap (λ (b : Bool). cond b (suc l) (climbed g.axes (nodes g s t) c l)) none ∙ rest q

    -- it is the one that lookup finds
    pub found-level : leaf_level g.axes (nodes g s t) c ≡ level_of k
    found-level = climbs (depth_of (nodes g s t)) (node-depth g s t known k (leaf-mem g.axes (nodes g s t) k lk)) (depth-most g s t known)

    pub found-key : leaf_key g.axes (nodes g s t) c ≡ k
    found-key = ap (λ (n : ℕ). cell_of g.axes n c) found-level ∙ holds-cell g.axes k c hk

  -- each source's code is held by a leaf
  pub source-held : (c : ℕ) → Mem c s → c < 2 ^ (g.axes * 16) → held g.axes (nodes g s t) c ≡ true
  source-held c m h =
      let r = source-leaf g s t known c m h in
      let e = found-level (cell_of g.axes r.0 c) c r.3 (cell_holds g.axes r.0 c r.2) in
      let l = key-level r.0 (above g.axes (deepest - r.0) c) (omega (arith, r.2)) in
      lt-ltb 0 (leaf_level g.axes (nodes g s t) c) (omega (arith, e, l, r.1))

  module _ (codes : Codes g.axes s) where
    pub sources-held : (i : ℕ) → i < length s → held g.axes (nodes g s t) (get_or s i 0) ≡ true
    sources-held i l = source-held (get_or s i 0) (i, l, refl) (codes i l)

    -- each source index stands in one place of the order column, and each place in the run of a node
    pub source-place : (i : ℕ) → i < length s → (p : ℕ) × (p < length s) × (get_or (order_column g.axes (nodes g s t) s) p 0 ≡ i)
    source-place i h =
        let one = order-times g s t known codes i h in
        let r = pos-count (λ x. eqb x i) (order_column g.axes (nodes g s t) s) (omega (arith, one)) in
        (r.1.0, omega (arith, r.1.1, order-length g s t known codes), r.1.2 ∙ eqb-true r.0 i r.2)

    pub place-run : (p : ℕ) → p < length s → (j : ℕ) × Run (own_column g.axes (nodes g s t) s) (begin_column (own_column g.axes (nodes g s t) s)) j p
    place-run p h =
        run_of (own_column g.axes (nodes g s t) s) (begin_column (own_column g.axes (nodes g s t) s)) (begin-at g.axes (nodes g s t) s) p
        (omega (arith, own-order g.axes (nodes g s t) s, order-length g s t known codes))

  -- a source's leaf is the node in whose run its index stands
  pub source-found : (j p : ℕ) → Run (own_column g.axes (nodes g s t) s) (begin_column (own_column g.axes (nodes g s t) s)) j p
      → leaf_key g.axes (nodes g s t) (get_or s (get_or (order_column g.axes (nodes g s t) s) p 0) 0) ≡ get_or (nodes g s t) j 0
  source-found j p r =
      let f = placed g.axes (nodes g s t) s j p r in
      found-key (get_or (nodes g s t) j 0) (get_or s (get_or (order_column g.axes (nodes g s t) s) p 0) 0) f.is_leaf f.inside
