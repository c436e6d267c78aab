-- The weight 1: the sources that a leaf meets are all sources.
use mathlib.Core.Path.{◌≡◌, refl, sym, ap, ap₂, ◌∙◌, subst}
use mathlib.Core.Bool.{Bool, true, false, ◌&&◌, cond}
use mathlib.Core.List.{List, [], ◌∷◌, map}
use Prim.Native.Nat.{ℕ, zero, suc, ◌+◌, ◌≤◌, ◌<◌}
use native.Mathlib.Omega.{arith}
use lib.Dec.{ltb}
use lib.ListN.{length, get_or}
use borrow.Author.Tests.{ltb-true}
use Rattle.slices.specs.Lists.{sum, range, Mem}
use Rattle.slices.proofs.Sums.{sum_same}
use Rattle.morton.specs.Keys.{under, ancestors}
use Rattle.tree.specs.Nodes.{leaf, own_of, sourced}
use Rattle.tree.proofs.Sourced.{under-self, sourced-total}
use Rattle.rows.specs.Demand3.{Once}
use Rattle.sums.specs.Adding.{added}
use Rattle.tree.specs.Totals.{total_in}
use Rattle.sums.specs.Right.{sources_met}
use Rattle.sums.proofs.Adding.{Adds, naturals, added-sum, total-same, total-one}
use Rattle.sums.proofs.Weights.{cell_weight, node_weight, weights}
use Rattle.sums.proofs.Facts.{Tree}

pub ones : (a n : ℕ) → added 0 ◌+◌ (λ _. 1) (range a n) ≡ n
unfolding added range
ones a zero = refl
ones a (suc n) = omega (arith, ones (suc a) n)

module _ (d : ℕ) (keys own begin : List ℕ) (t : Tree d keys own begin) where
  abbrev weight : ℕ → ℕ
  weight = node_weight 0 ◌+◌ naturals d keys own begin t.distinct t.owns t.begins (λ _. 1)

  pub cell-total : (k : ℕ) → cell_weight 0 ◌+◌ naturals d keys weight k ≡ total_in d keys own k
  unfolding total_in
  cell-total k =
      total-same 0 ◌+◌ naturals (λ j. cond (under d k j) (weight j) 0) (λ j. cond (under d k j) (own_of keys own j) 0) keys
      (λ j m. ap (λ n. cond (under d k j) n 0) (ones (own_of keys begin j) (own_of keys own j)))
      ∙ added-sum (λ j. cond (under d k j) (own_of keys own j) 0) keys

  row-total : (row : List ℕ) → added 0 ◌+◌ (cell_weight 0 ◌+◌ naturals d keys weight) row ≡ sum (map (total_in d keys own) row)
  row-total row = total-same 0 ◌+◌ naturals (cell_weight 0 ◌+◌ naturals d keys weight) (total_in d keys own) row (λ x m. cell-total x) ∙ added-sum (total_in d keys own) row

  -- the totals in the rows of a leaf
  pub totals-met : (u v : ℕ → List ℕ) → Once d keys own begin u v → (b : ℕ) → Mem b keys → leaf d keys b ≡ true
      → sum (map (total_in d keys own) (u b)) + sum (map (λ a. sum (map (total_in d keys own) (v a))) (ancestors d b)) ≡ sum own
  totals-met u v once b mb lb =
      ap₂ ◌+◌ (sym (row-total (u b)))
      (sym (total-same 0 ◌+◌ naturals _ (λ a. sum (map (total_in d keys own) (v a))) (ancestors d b) (λ a m. row-total (v a)) ∙ added-sum (λ a. sum (map (total_in d keys own) (v a))) (ancestors d b)))
      ∙ weights 0 ◌+◌ naturals d keys own begin t.distinct t.owns t.begins (λ _. 1) t.runs u v once b mb lb
      ∙ ones 0 (sum own)

  -- a leaf's total is what it owns
  pub leaf-total : (s : ℕ) → leaf d keys s ≡ true → Mem s keys → total_in d keys own s ≡ own_of keys own s
  unfolding total_in
  leaf-total s ls ms = sym (added-sum (λ j. cond (under d s j) (own_of keys own j) 0) keys)
      ∙ total-one 0 ◌+◌ naturals (under d s) (own_of keys own) keys t.distinct s ms (λ x m h. sym (t.alone s x ls m h)) (under-self d s)

  pub sources-met : (u v : ℕ → List ℕ) → Once d keys own begin u v → (b : ℕ) → Mem b keys → leaf d keys b ≡ true
      → ((s : ℕ) → Mem s (u b) → Mem s keys × (leaf d keys s ≡ true)) → sources_met d keys own u v b ≡ sum own
  sources-met u v once b mb lb leaves =
      ap (◌+ sum (map (λ a. sum (map (total_in d keys own) (v a))) (ancestors d b)))
      (sum_same (own_of keys own) (total_in d keys own) (u b) (λ s m. let r = leaves s m in sym (leaf-total s r.1 r.0)))
      ∙ totals-met u v once b mb lb

  -- a sourced cell has a source
  pub total-pos : (c : ℕ) → sourced d keys own c ≡ true → 0 < total_in d keys own c
  total-pos c h = ltb-true 0 (total_in d keys own c) (sym (sourced-total d keys own c) ∙ h)
