-- Totals node by node.
use mathlib.Core.Path.{◌≡◌, sym, ap, ◌∙◌}
use mathlib.Core.List.{List}
use Prim.Native.Nat.{ℕ, ◌+◌, ◌-◌, ◌≤◌, ◌<◌}
use native.Mathlib.Omega.{arith}
use native.Mathlib.Decide.{dec_lt}
use lib.ListN.{length, get_or, set, length-set, length-map}
use lib.Seq.{get_or-set_same, get_or-set_other, ext_get_or}
use Rattle.slices.proofs.Lists.{get_d_map}
use Rattle.slices.proofs.Sums.{sum_mono, sum-whole}
use Rattle.tree.specs.Order.{end_of}
use Rattle.tree.specs.Totals.{total_in, total_column}
use Rattle.tree.proofs.Rules.{WellFormed, Formed, facts, rows_of}
use Rattle.tree.proofs.Ends.{ends}
use Rattle.tree.proofs.Sums.{total-is, total-last}
use Rattle.node_totals.specs.Totals.{Counted}

module _ (d : ℕ) (key begin : List ℕ) (sources : ℕ) (own : List ℕ) (c : Counted d key begin sources own) where
  w : WellFormed d key own begin
  w = facts d key own begin c.sound

  f : Formed d key own begin (total_column d key own)
  f = record {
    owns = w.owns;
    begins = w.begins;
    totals = length-map key (total_in d key own);
    some = w.some;
    rows = rows_of d key own begin w;
    totalled = λ i l. get_d_map (total_in d key own) key i l;
  }

  pub begins-many : length begin ≡ length key
  begins-many = w.begins

  pub begins-rise : (q : ℕ) → q < length key → end_of key q < length key → get_or begin q 0 ≤ get_or begin (end_of key q) 0
  begins-rise q l h = omega (arith, w.runs q l, w.runs (end_of key q) h, sum_mono own q (end_of key q) (omega (arith, (ends key q l).after)))

  pub end-rises : (q e : ℕ) → q < length key → e ≡ end_of key q → e < length key → get_or begin q 0 ≤ get_or begin e 0
  end-rises q e l z h = omega (arith, begins-rise q l (omega arith), ap (λ n. get_or begin n 0) z)

  pub begins-most : (q : ℕ) → q < length key → get_or begin q 0 ≤ sources
  begins-most q l = omega (arith, w.runs q l, sum-whole own q, c.many)

  pub total-between : (q : ℕ) → q < length key → end_of key q < length key → get_or begin (end_of key q) 0 - get_or begin q 0 ≡ total_in d key own (get_or key q 0)
  total-between q l h = sym (total-is d key own begin (total_column d key own) f q l h) ∙ get_d_map (total_in d key own) key q l

  pub total-rest : (q : ℕ) → q < length key → length key ≤ end_of key q → sources - get_or begin q 0 ≡ total_in d key own (get_or key q 0)
  total-rest q l h = ap (λ n. n - get_or begin q 0) (sym c.many) ∙ sym (total-last d key own begin (total_column d key own) f q l h) ∙ get_d_map (total_in d key own) key q l

-- the first q totals stand
pub record Filled (d : ℕ) (key begin : List ℕ) (sources : ℕ) (total : List ℕ) (q : ℕ) : Type 0 where
  pub within : q ≤ length key
  pub placed : length total ≡ length key
  pub done : (own : List ℕ) → Counted d key begin sources own → (p : ℕ) → p < q → get_or total p 0 ≡ total_in d key own (get_or key p 0)

module _ (d : ℕ) (key begin : List ℕ) (sources : ℕ) where
  module _ (total : List ℕ) (q : ℕ) (s : Filled d key begin sources total q) (l : q < length key) where
    filled_more : (x : ℕ) → ((own : List ℕ) → Counted d key begin sources own → x ≡ total_in d key own (get_or key q 0)) → Filled d key begin sources (set total q x) (q + 1)
    filled_more x h = record { within = omega arith; placed = length-set total q x ∙ s.placed; done = λ own c p g. go own c p g (dec_lt p q) }
      where
        go : (own : List ℕ) → Counted d key begin sources own → (p : ℕ) → p < q + 1 → Dec (p < q) → get_or (set total q x) p 0 ≡ total_in d key own (get_or key p 0)
        go own c p g (yes a) = get_or-set_other total q p x 0 (λ z. omega arith) ∙ s.done own c p a
        go own c p g (no a) =
            let z : p ≡ q = omega arith in
            ap (λ y. get_or (set total q x) y 0) z ∙ get_or-set_same total q x 0 (omega (arith, s.placed)) ∙ h own c ∙ ap (λ y. total_in d key own (get_or key y 0)) (sym z)

    pub filled-between : (e : ℕ) → e ≡ end_of key q → e < length key → Filled d key begin sources (set total q (get_or begin e 0 - get_or begin q 0)) (q + 1)
    filled-between e z h = filled_more (get_or begin e 0 - get_or begin q 0) (λ own c. ap (λ n. get_or begin n 0 - get_or begin q 0) z ∙ total-between d key begin sources own c q l (omega arith))

    pub filled-rest : (e : ℕ) → e ≡ end_of key q → length key ≤ e → Filled d key begin sources (set total q (sources - get_or begin q 0)) (q + 1)
    filled-rest e z h = filled_more (sources - get_or begin q 0) (λ own c. total-rest d key begin sources own c q l (omega arith))

  pub filled-all : (total : List ℕ) (q : ℕ) → Filled d key begin sources total q → length key ≤ q → (own : List ℕ) → Counted d key begin sources own → total ≡ total_column d key own
  filled-all total q s h own c = ext_get_or 0 total (total_column d key own) (s.placed ∙ sym (length-map key (total_in d key own)))
      (λ p l. s.done own c p (omega (arith, s.placed)) ∙ sym (get_d_map (total_in d key own) key p (omega (arith, s.placed))))
