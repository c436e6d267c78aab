-- Where the order column holds the sources, the totals are the sources in the cells: the rule asked by totals is the rule.
use mathlib.Core.Path.{◌≡◌, refl, sym, ap, ◌∙◌, subst}
use mathlib.Core.Bool.{true, ◌||◌}
use mathlib.Core.List.{List}
use Prim.Native.Nat.{ℕ, zero, suc, ◌<◌}
use native.Mathlib.Omega.{arith}
use lib.Dec.{ltb}
use lib.ListN.{length, get_or}
use borrow.Author.Tests.{ltb-true, lt-ltb}
use Rattle.slices.proofs.Tests.{or-not, or_right}
use Rattle.morton.specs.Keys.{axes_known, level_of}
use Rattle.refine.specs.Counts.{sources_in}
use Rattle.tree.specs.WellFormed.{well_formed}
use Rattle.tree.proofs.Rules.{Formed, all-facts}
use Rattle.tree.proofs.Column.{column-root}
use Rattle.tree.proofs.Ranges.{level-pos}
use Rattle.full.specs.Full.{has_children}
use Rattle.growth.specs.declared.Rule.{Rule}
use Rattle.growth.proofs.Arranged.{Codes}
use Rattle.further.specs.Built.{GrownRight}
use Rattle.further.specs.Points.{SourcesRight}
use Rattle.further.proofs.Columns.{points-total}
use Rattle.further.proofs.Ordered.{formed-tree, formed-beside, formed-distinct}
use Rattle.grown_right.specs.Grown.{splits_by, Grown}

module _ (g : Rule) (s keys own begin total order : List ℕ) (known : axes_known g.axes ≡ true) (codes : Codes g.axes s)
    (formed : well_formed g.axes keys own begin total ≡ true) (p : SourcesRight g.axes s keys own begin order) where
  w : Formed g.axes keys own begin total
  w = all-facts g.axes keys own begin total formed

  -- a node's total is the number of sources in its cell
  at : (i : ℕ) → i < length keys → get_or total i 0 ≡ sources_in g.axes s (get_or keys i 0)
  at i l =
      w.totalled i l
      ∙ points-total g.axes s keys own begin order (formed-tree g s keys own begin order known codes total formed) (formed-distinct g s keys own begin order known codes total formed)
      (formed-beside g s keys own begin order known codes total formed) p (get_or keys i 0) (i, l, refl)

  all-sources : get_or total 0 0 ≡ length s
  all-sources = column-root g.axes keys own begin total formed ∙ p.whole

  below : (i : ℕ) → 0 < i → i < length keys → 0 < level_of (get_or keys i 0)
  below i a l = level-pos g.axes keys w.rows.tree.ascending i a l

  pub grown-right : Grown g keys total → GrownRight g s keys
  grown-right r = record {
    root = r.root ∙ ap (λ (n : ℕ). g.keep || ltb 0 n) all-sources;
    inner = λ k (i, l, e) h. subst (λ (x : ℕ). has_children g.axes keys x ≡ splits_by g x (sources_in g.axes s x)) e
        (r.inner.splits i (later i k e h) l ∙ ap (splits_by g (get_or keys i 0)) (at i l));
    sourced = λ off k (i, l, e) h. ltb-true 0 (sources_in g.axes s k) (subst (λ (x : ℕ). ltb 0 (sources_in g.axes s x) ≡ true) e
        (ap (ltb 0) (sym (at i l)) ∙ or-not g.keep _ (r.inner.stored i (later i k e h) l) off));
    all = r.all;
  }
    where
      later : (i k : ℕ) → get_or keys i 0 ≡ k → 0 < level_of k → 0 < i
      later zero k e h = absurd (omega (arith, h, ap level_of (sym e ∙ w.rows.tree.ascending.root)))
      later (suc i) k e h = omega arith

  pub right-grown : GrownRight g s keys → Grown g keys total
  right-grown r = record {
    root = r.root ∙ sym (ap (λ (n : ℕ). g.keep || ltb 0 n) all-sources);
    inner = record {
      stored = λ i a l. or_right g.keep _ (λ off. ap (ltb 0) (at i l) ∙ lt-ltb 0 (sources_in g.axes s (get_or keys i 0)) (r.sourced off (get_or keys i 0) (i, l, refl) (below i a l)));
      splits = λ i a l. r.inner (get_or keys i 0) (i, l, refl) (below i a l) ∙ sym (ap (splits_by g (get_or keys i 0)) (at i l));
    };
    all = r.all;
  }
