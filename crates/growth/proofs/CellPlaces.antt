-- Order 10's Z4 in a build: from a cell's begin on, as many places of the order column as its total hold the sources in the cell, and no others.
use mathlib.Core.Path.{◌≡◌, refl, sym, ap, ap₂, ◌∙◌, subst}
use mathlib.Core.Bool.{Bool, true, false, ◌&&◌, cond}
use mathlib.Core.List.{List, [], ◌∷◌, map}
use Prim.Native.Nat.{ℕ, zero, suc, ◌+◌, ◌*◌, ◌-◌, ◌^◌, ◌≤◌, ◌<◌}
use native.Mathlib.Omega.{arith}
use native.Mathlib.Nat.{not-suc-le-zero, zero-add}
use lib.ListN.{length, get_or, take, drop, length-take}
use lib.Seq.{get_or-take, get_or-drop}
use Rattle.slices.specs.Lists.{count, filter, range, Mem}
use Rattle.slices.proofs.Tests.{and_l, and_r}
use Rattle.slices.proofs.Counts.{pos-count}
use Rattle.slices.proofs.Members.{filter-mem, range-mem}
use Rattle.morton.specs.Keys.{key, level_of, axes_known, under, holds}
use Rattle.tree.specs.Nodes.{leaf}
use Rattle.tree.specs.Sources.{has_part, leaf_sources}
use Rattle.tree.specs.WellFormed.{most_sources, Run}
use Rattle.growth.specs.declared.Rule.{Rule}
use Rattle.growth.specs.Columns.{own_column, begin_column, indices_in, order_column}
use Rattle.growth.proofs.Arranged.{Codes}
use Rattle.growth.proofs.Held.{held-once}
use Rattle.growth.proofs.Runs.{length-own, leaf-part, placed}
use Rattle.tree.proofs.Sums.{places-are}
use Rattle.tree.proofs.Sourced.{under-trans}
use Rattle.tree.proofs.Stored.{level-le}
use Rattle.growth.specs.Nodes.{nodes}
use Rattle.growth.proofs.Sorted.{nodes-tree}
use Rattle.growth.proofs.Formed.{keys, own, begin, order, total, formed}
use Rattle.growth.proofs.CellTotals.{holds-under, under-holds, leaf-in}

-- a member of a part is in the column, at its place
part-place : (own begin order : List ℕ) (j x : ℕ) → Mem x (leaf_sources own begin order j) → (q : ℕ) × (q < get_or own j 0) × (get_or order (get_or begin j 0 + q) 0 ≡ x)
unfolding leaf_sources
part-place own begin order j x m = go (has_part own begin order j) m
  where
    go : (b : Bool) → Mem x (cond b (take (get_or own j 0) (drop (get_or begin j 0) order)) []) → (q : ℕ) × (q < get_or own j 0) × (get_or order (get_or begin j 0 + q) 0 ≡ x)
    go false (q, l, e) = absurd (not-suc-le-zero l)
    go true (q, l, e) =
        let s : q < get_or own j 0 = omega (arith, length-take (get_or own j 0) (drop (get_or begin j 0) order)) in
        (q, s, sym (get_or-take (get_or own j 0) (drop (get_or begin j 0) order) q 0 s ∙ get_or-drop (get_or begin j 0) order q 0) ∙ e)

-- a source in a cell is among the cell's indices
indexed : (d : ℕ) (s : List ℕ) (k x : ℕ) → x < length s → holds d k (get_or s x 0) ≡ true → Mem x (indices_in d s k)
unfolding indices_in
indexed d s k x h hj = filter-mem (λ i. holds d k (get_or s i 0)) (range 0 (length s)) x (range-mem (length s) x h) hj

module _ (g : Rule) (s t : List ℕ) (known : axes_known g.axes ≡ true) (codes : Codes g.axes s) (few : length s ≤ most_sources) (i : ℕ) (l : i < length (nodes g s t)) where
  low : (x : ℕ) → Mem x (nodes g s t) → level_of x ≤ 16
  low = level-le g.axes (nodes g s t) (nodes-tree g s t known).ascending

  -- each place holds the index of a source in the cell
  pub place-holds : (p : ℕ) → get_or (begin g s t known) i 0 ≤ p → p < get_or (begin g s t known) i 0 + get_or (total g s t known) i 0
      → (get_or (order g s t known) p 0 < length s) × (holds g.axes (get_or (keys g s t known) i 0) (get_or s (get_or (order g s t known) p 0) 0) ≡ true)
  place-holds p a b =
      let (j, u, r) = (places-are g.axes (keys g s t known) (own g s t known) (begin g s t known) (total g s t known) (formed g s t known codes few) i p l).0 (a, b) in
      let q = placed g.axes (keys g s t known) s j p r in (
        q.index,
        under-holds g.axes (get_or (keys g s t known) i 0) (get_or s (get_or (order g s t known) p 0) 0)
            (under-trans g.axes (get_or (keys g s t known) i 0) (get_or (keys g s t known) j 0) (key 16 (get_or s (get_or (order g s t known) p 0) 0)) u
            (holds-under g.axes (get_or (keys g s t known) j 0) (get_or s (get_or (order g s t known) p 0) 0) (low (get_or (keys g s t known) j 0) (j, q.node, refl)) q.inside)),
      )

  -- and each source in the cell has its index at such a place
  pub source-placed : (x : ℕ) → x < length s → holds g.axes (get_or (keys g s t known) i 0) (get_or s x 0) ≡ true
      → (p : ℕ) × (get_or (begin g s t known) i 0 ≤ p) × (p < get_or (begin g s t known) i 0 + get_or (total g s t known) i 0) × (get_or (order g s t known) p 0 ≡ x)
  source-placed x h hk =
      let one = held-once g s t known (get_or s x 0) (x, h, refl) (codes x h) in
      let (k, mk, e) = pos-count (λ k. leaf g.axes (nodes g s t) k && holds g.axes k (get_or s x 0)) (nodes g s t) (omega (arith, one)) in
      at k mk (and_l (leaf g.axes (nodes g s t) k) (holds g.axes k (get_or s x 0)) e) (and_r (leaf g.axes (nodes g s t) k) (holds g.axes k (get_or s x 0)) e)
    where
      at : (k : ℕ) → Mem k (nodes g s t) → leaf g.axes (nodes g s t) k ≡ true → holds g.axes k (get_or s x 0) ≡ true
          → (p : ℕ) × (get_or (begin g s t known) i 0 ≤ p) × (p < get_or (begin g s t known) i 0 + get_or (total g s t known) i 0) × (get_or (order g s t known) p 0 ≡ x)
      at k (j, lj, ej) lf hj =
          let part : leaf_sources (own g s t known) (begin g s t known) (order g s t known) j ≡ indices_in g.axes s k =
          leaf-part g.axes (nodes g s t) s j lj ∙ ap (λ y. cond (leaf g.axes (nodes g s t) y) (indices_in g.axes s y) []) ej ∙ ap (λ b. cond b (indices_in g.axes s k) []) lf in
          let (q, lq, eq) = part-place (own g s t known) (begin g s t known) (order g s t known) j x (subst (λ (ys : List ℕ). Mem x ys) (sym part) (indexed g.axes s k x h hj)) in
          let u = leaf-in g s t known codes (get_or (nodes g s t) i 0) (i, l, refl) (get_or s x 0) k (j, lj, ej) lf hj hk in
          let run : Run (own g s t known) (begin g s t known) j (get_or (begin g s t known) j 0 + q) = record { node = omega (arith, length-own g.axes (nodes g s t) s); from = omega arith; to = omega arith } in
          let w = (places-are g.axes (keys g s t known) (own g s t known) (begin g s t known) (total g s t known) (formed g s t known codes few) i (get_or (begin g s t known) j 0 + q) l).1
          (j, subst (λ y. under g.axes (get_or (nodes g s t) i 0) y ≡ true) (sym ej) u, run) in
          (get_or (begin g s t known) j 0 + q, w.0, w.1, eq)
