-- The runs of a salvage, from where they began.
use mathlib.Core.Path.{◌≡◌, refl, sym, ap, ap₂, ◌∙◌, subst}
use mathlib.Core.Bool.{Bool, true, false, ◌&&◌, cond}
use mathlib.Core.List.{List, [], ◌∷◌, ◌++◌, map}
use Prim.Native.Nat.{ℕ, ◌+◌, ◌≤◌, ◌<◌}
use native.Mathlib.Omega.{arith}
use lib.Dec.{leb}
use lib.ListN.{length, get_or, take, drop, length-map}
use borrow.Author.Tests.{leb-true}
use Rattle.slices.specs.Lists.{sum, concat_map, filled}
use Rattle.slices.proofs.Lists.{get_d_map}
use Rattle.slices.proofs.Tests.{and_r}
use Rattle.tree.specs.Nodes.{leaf}
use Rattle.tree.specs.WellFormed.{most_sources}
use Rattle.salvaged.specs.Nodes.{Input}
use Rattle.salvaged.specs.Columns.{new_keys, old_own, old_begin, run_fits, new_count, new_own, new_order_of}
use Rattle.salvaged.proofs.Formed.{own-length, own_at}
use Rattle.run_copies.specs.Runs.{runs, Copiable}
use Rattle.salvage_list.specs.Listed.{Listable}

module _ (i : Input) where
  -- a count that is kept is that of a run that fits
  count_fits : (k : ℕ) → 0 < new_count i k → old_begin i k + new_count i k ≤ length i.order
  unfolding new_count
  count_fits k = go (leaf i.axes (new_keys i) k && run_fits i k) refl
    where
      go : (b : Bool) → (leaf i.axes (new_keys i) k && run_fits i k) ≡ b → 0 < cond b (old_own i k) 0 → old_begin i k + cond b (old_own i k) 0 ≤ length i.order
      go true e l = leb-true (old_begin i k + old_own i k) (length i.order) (and_r (leaf i.axes (new_keys i) k) _ e)
      go false e l = absurd (omega arith)

  runs_of : (ks : List ℕ) → runs i.order (map (old_begin i) ks) (map (new_count i) ks) ≡ concat_map (λ k. take (new_count i k) (drop (old_begin i k) i.order)) ks
  unfolding runs concat_map
  runs_of [] = refl
  runs_of (k ∷ ks) = ap (λ (l : List ℕ). take (new_count i k) (drop (old_begin i k) i.order) ++ l) (runs_of ks)

  order_is : runs i.order (map (old_begin i) (new_keys i)) (new_own i) ≡ new_order_of i
  unfolding new_order_of new_own
  order_is = runs_of (new_keys i)

  module _ (order key own begin total : List ℕ) (ok : Listable i order key own begin total) where
    pub copiable : Copiable i.order begin own order
    copiable = record {
      begins = ap length ok.begins ∙ length-map (new_keys i) (old_begin i) ∙ sym (ap length ok.owns ∙ own-length i);
      within = λ q l p.
          let h : q < length (new_keys i) = omega (arith, ap length ok.owns, own-length i) in
          let b : get_or begin q 0 ≡ old_begin i (get_or (new_keys i) q 0) = ap (λ (s : List ℕ). get_or s q 0) ok.begins ∙ get_d_map (old_begin i) (new_keys i) q h in
          let o : get_or own q 0 ≡ new_count i (get_or (new_keys i) q 0) = ap (λ (s : List ℕ). get_or s q 0) ok.owns ∙ own_at i q h in
          omega (arith, count_fits (get_or (new_keys i) q 0) (omega arith));
      fits = subst (λ (os : List ℕ). sum os ≤ length order) (sym ok.owns) ok.placed;
    }

    pub order-left : (out : List ℕ) → out ≡ filled (length order) (runs i.order begin own) → out ≡ filled (length order) (new_order_of i)
    order-left out e = e ∙ ap (filled (length order)) (ap₂ (runs i.order) ok.begins ok.owns ∙ order_is)

    -- the begins can be worked out
    pub addable : (length begin ≡ length own) × (sum own ≤ most_sources)
    addable = (copiable.begins, subst (λ (os : List ℕ). sum os ≤ most_sources) (sym ok.owns) ok.few)
