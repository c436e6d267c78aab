-- In Z order the nodes at or under a node are those from its number up to its end, so the readings of its cell are those of one run of the order column:
-- from its begin on, as many as its total.
use mathlib.Core.Path.{◌≡◌, refl, sym, ap, ap₂, ◌∙◌, subst}
use mathlib.Core.Bool.{Bool, true, false, ◌&&◌, cond}
use mathlib.Core.List.{List, [], ◌∷◌, map}
use Prim.Native.Nat.{ℕ, zero, suc, ◌+◌, ◌-◌, ◌≤◌, ◌<◌}
use native.Mathlib.Omega.{arith}
use native.Mathlib.Nat.{zero-add, add-zero}
use lib.Dec.{leb, ltb}
use lib.IntN.{ℤ, pos, ◌+ℤ◌}
use lib.ListN.{length, get_or, take}
use borrow.Author.Tests.{le-leb, lt-leb, lt-ltb, le-ltb}
use Rattle.slices.specs.Lists.{sum, range, Mem}
use Rattle.slices.proofs.Lists.{length-range, get_or-range}
use Rattle.slices.proofs.Members.{mem-range}
use Rattle.morton.specs.Keys.{under}
use Rattle.tree.specs.Nodes.{own_of}
use Rattle.slices.proofs.Sums.{sum-take, sum_mono}
use Rattle.tree.specs.WellFormed.{formed}
use Rattle.tree.specs.Order.{end_of}
use Rattle.tree.proofs.Rules.{facts, rows_of}
use Rattle.tree.proofs.Ends.{ends}
use Rattle.tree.proofs.Laws.{under-range}
use Rattle.tree.proofs.Stored.{own_at}
use Rattle.sums.specs.Adding.{added, addedℤ}
use Rattle.tree.specs.Totals.{total_in}
use Rattle.sums.specs.Sums.{places, reading_at, node_readings, cell_readings}
use Rattle.sums.proofs.Adding.{Adds, naturals, wholes, total-same, total-none, total-last, total-parts, total-at}
use Rattle.sums.proofs.Weights.{cell_weight, node_weight}
use Rattle.sums.proofs.Counts.{ones, cell-total}
use Rattle.sums.proofs.Facts.{Tree, tree-facts}

-- the nodes at or under cell k are those from number i up to number j
record Span (d : ℕ) (keys : List ℕ) (k i j : ℕ) : Type 0 where
  first : i < length keys
  up : i ≤ j
  within : j ≤ length keys
  are : (m : ℕ) → m < length keys → under d k (get_or keys m 0) ≡ (leb i m && ltb m j)

in-range : (a n m : ℕ) → Mem m (range a n) → (a ≤ m) × (m < a + n)
in-range a n m (i, l, e) = let h : i < n = omega (arith, length-range a n) in (omega (arith, get_or-range a n i h), omega (arith, get_or-range a n i h))

module _ {M : Type 0} (o : M) (plus : M → M → M) (A : Adds o plus) where
  -- of a range, those from i up to j
  window : (g : ℕ → M) (i j n : ℕ) → i ≤ j → j ≤ n → added o plus (λ m. cond (leb i m && ltb m j) (g m) o) (range 0 n) ≡ added o plus g (range i (j - i))
  window g i j n p q =
      let e : n ≡ i + ((j - i) + (n - j)) = omega arith in
      ap (λ x. added o plus f (range 0 x)) e ∙ total-parts o plus A f 0 i ((j - i) + (n - j))
      ∙ ap₂ plus lower (total-parts o plus A f (0 + i) (j - i) (n - j) ∙ ap₂ plus middle upper ∙ A.comm _ o ∙ A.none _)
      ∙ A.none _
    where
      f : ℕ → M
      f m = cond (leb i m && ltb m j) (g m) o

      lower : added o plus f (range 0 i) ≡ o
      lower = total-same o plus A f (λ _. o) (range 0 i) (λ m r. let l = (in-range 0 i m r).1 in rw (lt-leb i m (omega arith))) ∙ total-none o plus A (range 0 i)

      upper : added o plus f (range ((0 + i) + (j - i)) (n - j)) ≡ o
      upper = total-same o plus A f (λ _. o) (range ((0 + i) + (j - i)) (n - j))
          (λ m r. let l = (in-range ((0 + i) + (j - i)) (n - j) m r).0 in rw (le-leb i m (omega arith), le-ltb m j (omega arith))) ∙ total-none o plus A (range ((0 + i) + (j - i)) (n - j))

      middle : added o plus f (range (0 + i) (j - i)) ≡ added o plus g (range i (j - i))
      middle = total-same o plus A f g (range (0 + i) (j - i))
          (λ m r. let l = in-range (0 + i) (j - i) m r in rw (le-leb i m (omega (arith, l.0)), lt-ltb m j (omega (arith, l.1))))
          ∙ ap (λ x. added o plus g (range x (j - i))) (zero-add i)

  module _ (d : ℕ) (keys own begin : List ℕ) (t : Tree d keys own begin) (w : ℕ → M) where
    abbrev weigh : ℕ → M
    weigh = node_weight o plus A d keys own begin t.distinct t.owns t.begins w

    abbrev run : ℕ → M
    run m = added o plus w (range (get_or begin m 0) (get_or own m 0))

    abbrev upto : ℕ → ℕ
    upto m = sum (take m own)

    -- runs one after the other are one run
    joined : (i n : ℕ) → i + n ≤ length own → added o plus run (range i n) ≡ added o plus w (range (upto i) (upto (i + n) - upto i))
    unfolding added range
    joined i zero h =
        let e : 0 ≡ upto (i + 0) - upto i = omega (arith, ap upto (add-zero i)) in
        ap (λ x. added o plus w (range (upto i) x)) e
    joined i (suc n) h =
        let l : i + n < length own = omega arith in
        let up = sum_mono own i (i + n) (omega arith) in
        let begins : get_or begin (i + n) 0 ≡ upto i + (upto (i + n) - upto i) = t.runs (i + n) l ∙ omega arith in
        let next : i + suc n ≡ suc (i + n) = omega arith in
        let size : (upto (i + n) - upto i) + get_or own (i + n) 0 ≡ upto (i + suc n) - upto i = omega (arith, sum-take own (i + n), ap upto next) in
        total-last o plus A run i n
        ∙ ap₂ plus (joined i n (omega arith)) (ap (λ a. added o plus w (range a (get_or own (i + n) 0))) begins)
        ∙ sym (total-parts o plus A w (upto i) (upto (i + n) - upto i) (get_or own (i + n) 0))
        ∙ ap (λ x. added o plus w (range (upto i) x)) size

    span-weight : (k i j : ℕ) → Span d keys k i j → cell_weight o plus A d keys weigh k ≡ added o plus w (range (upto i) (upto j - upto i))
    span-weight k i j s =
        let whole : i + (j - i) ≡ j = omega (arith, s.up) in
        total-at o plus A (λ x. cond (under d k x) (weigh x) o) keys
        ∙ total-same o plus A (λ m. cond (under d k (get_or keys m 0)) (weigh (get_or keys m 0)) o) (λ m. cond (leb i m && ltb m j) (run m) o) (range 0 (length keys))
        (λ m r. let l = mem-range (length keys) m r in
        ap₂ (λ b y. cond b y o) (s.are m l) (ap₂ (λ a n. added o plus w (range a n)) (own_at keys begin t.distinct t.begins m l) (own_at keys own t.distinct t.owns m l)))
        ∙ window run i j (length keys) s.up s.within
        ∙ joined i (j - i) (omega (arith, s.up, s.within, t.owns))
        ∙ ap (λ n. added o plus w (range (upto i) (upto n - upto i))) whole

module _ (d : ℕ) (keys own begin : List ℕ) (formed' : formed d keys own begin ≡ true) (i : ℕ) (l : i < length keys) where
  t : Tree d keys own begin
  t = tree-facts d keys own begin formed'

  abbrev k : ℕ
  k = get_or keys i 0

  -- Z1: the nodes under a node are those up to its end
  span : Span d keys k i (end_of keys i)
  span = let e = ends keys i l in record {
    first = l;
    up = omega (arith, e.after);
    within = e.within;
    are = λ m h. under-range d keys (rows_of d keys own begin (facts d keys own begin formed')).tree i m l h;
  }

  -- the cell's total, by the weight 1
  span-total : total_in d keys own k ≡ sum (take (end_of keys i) own) - sum (take i own)
  span-total = sym (cell-total d keys own begin t k) ∙ span-weight 0 ◌+◌ naturals d keys own begin t (λ _. 1) k i (end_of keys i) span ∙ ones (sum (take i own)) (sum (take (end_of keys i) own) - sum (take i own))

  -- the cell's readings are those of one run: from the node's begin on, as many as its total
  pub run-readings : (order : List ℕ) (readings : List ℤ)
      → cell_readings d keys own begin order readings k ≡ addedℤ (reading_at order readings) (range (get_or begin i 0) (total_in d keys own k))
  unfolding cell_readings node_readings
  run-readings order readings =
      span-weight (pos 0) ◌+ℤ◌ wholes d keys own begin t (reading_at order readings) k i (end_of keys i) span
      ∙ ap₂ (λ a n. addedℤ (reading_at order readings) (range a n)) (sym (t.runs i (omega (arith, t.owns)))) (sym span-total)
