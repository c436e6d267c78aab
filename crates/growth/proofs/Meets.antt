-- Demand 3 for a tree that is built: each leaf meets each source that the tree was built from exactly once.
use mathlib.Core.Path.{◌≡◌, sym, ap, ◌∙◌, subst}
use mathlib.Core.Bool.{true}
use mathlib.Core.List.{List}
use Prim.Native.Nat.{ℕ, ◌≤◌, ◌<◌}
use lib.ListN.{length, get_or}
use Rattle.slices.specs.Lists.{bit}
use Rattle.morton.specs.Keys.{axes_known}
use Rattle.morton.specs.Anchors.{close}
use Rattle.tree.specs.Nodes.{leaf}
use Rattle.tree.specs.WellFormed.{most_sources, formed, Run}
use Rattle.tree.specs.Totals.{total_column}
use Rattle.tree.proofs.Verdict.{formed-of}
use Rattle.rows.specs.Lists.{u_row, v_row}
use Rattle.rows.specs.Demand3.{brings, meetings}
use Rattle.rows.proofs.Demand3.{demand-3}
use Rattle.tree.specs.Leaves.{leaf_key}
use Rattle.growth.specs.declared.Rule.{Rule}
use Rattle.growth.specs.Nodes.{nodes}
use Rattle.growth.specs.Columns.{own_column, begin_column}
use Rattle.growth.proofs.Held.{leaf-mem}
use Rattle.growth.proofs.Arranged.{Codes}
use Rattle.growth.proofs.Formed.{well-formed}
use Rattle.growth.proofs.Found.{source-place, place-run, source-found}

module _ (g : Rule) (s t : List ℕ) (known : axes_known g.axes ≡ true) (codes : Codes g.axes s) (few : length s ≤ most_sources) where
  abbrev pub own : List ℕ
  own = own_column g.axes (nodes g s t) s

  abbrev pub begin : List ℕ
  begin = begin_column (own_column g.axes (nodes g s t) s)

  -- the U and V rows of the tree
  abbrev pub u : ℕ → List ℕ
  u = u_row g.axes (nodes g s t) own

  abbrev pub v : ℕ → List ℕ
  v = v_row g.axes (nodes g s t) own

  -- the leaf of source number x
  abbrev pub leaf_of : ℕ → ℕ
  leaf_of x = leaf_key g.axes (nodes g s t) (get_or s x 0)

  -- it is a node, in whose run a place is the source's
  source-run : (x : ℕ) → x < length s → (j : ℕ) × (p : ℕ) × Run own begin j p × (get_or (nodes g s t) j 0 ≡ leaf_of x)
  source-run x h =
      let (p, l, e) = source-place g s t known codes x h in
      let (j, r) = place-run g s t known codes p l in
      (j, p, r, sym (source-found g s t known j p r) ∙ ap leaf_of e)

  grown : formed g.axes (nodes g s t) own begin ≡ true
  grown = formed-of g.axes (nodes g s t) own begin (total_column g.axes (nodes g s t) own) (well-formed g s t known codes few)

  module _ (b x : ℕ) (lb : leaf g.axes (nodes g s t) b ≡ true) (h : x < length s) where
    -- over its own U row and the V rows of itself and all its ancestors
    pub meets-once : meetings g.axes u v b (leaf_of x) ≡ 1
    meets-once =
        let (i, l, e) = leaf-mem g.axes (nodes g s t) b lb in
        let (j, p, r, q) = source-run x h in
        let once = (demand-3 g.axes (nodes g s t) own begin grown known).1.once i j p l (subst (λ (k : ℕ). leaf g.axes (nodes g s t) k ≡ true) (sym e) lb) r in
        sym (ap (λ (k : ℕ). meetings g.axes u v k (leaf_of x)) e) ∙ sym (ap (meetings g.axes u v (get_or (nodes g s t) i 0)) q) ∙ once

    -- and in U exactly when the two leaves' cells at the coarser one's level coincide or touch
    pub meets-near : brings g.axes (leaf_of x) (u b) ≡ bit (close g.axes b (leaf_of x))
    meets-near =
        let (i, l, e) = leaf-mem g.axes (nodes g s t) b lb in
        let (j, p, r, q) = source-run x h in
        let near = (demand-3 g.axes (nodes g s t) own begin grown known).2.near i j p l (subst (λ (k : ℕ). leaf g.axes (nodes g s t) k ≡ true) (sym e) lb) r in
        subst (λ (k : ℕ). brings g.axes (leaf_of x) (u k) ≡ bit (close g.axes k (leaf_of x))) e
        (subst (λ (k : ℕ). brings g.axes k (u (get_or (nodes g s t) i 0)) ≡ bit (close g.axes (get_or (nodes g s t) i 0) k)) q near)
