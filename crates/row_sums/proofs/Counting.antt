-- Counts of a row's keys, found by key.
use mathlib.Core.Path.{◌≡◌, refl, sym, ap, ◌∙◌, subst}
use mathlib.Core.List.{List, map}
use Prim.Native.Nat.{ℕ, suc, ◌+◌, ◌≤◌, ◌<◌, zero-le}
use native.Mathlib.Omega.{arith}
use native.Mathlib.Numerals.{add-one}
use lib.ListN.{length, get_or, take, length-map}
use lib.Seq.{take_all}
use Rattle.slices.specs.Lists.{sum}
use Rattle.slices.proofs.Lists.{get_d_map}
use Rattle.slices.proofs.Sums.{sum-take, sum-whole}
use Rattle.tree.specs.Nodes.{own_of}
use Rattle.tree.specs.Finding.{FoundNode}
use Rattle.tree.proofs.Stored.{own_at}
use Rattle.row_sums.specs.Readings.{Counts, sources_in}
use Rattle.row_sums.proofs.Found.{own-none}
use Rattle.std.specs.Prelude.{None, Some, Option}

module _ (d : ℕ) (keys count : List ℕ) (c : Counts d keys count) (k : ℕ) (a : Option ℕ) (h : FoundNode d keys k a) where
  pub count-in : (i : ℕ) → a ≡ Some i → i < length count
  count-in i e = omega (arith, (subst (FoundNode d keys k) e h).0, c.counts)

  pub count-is : (i : ℕ) → a ≡ Some i → get_or count i 0 ≡ own_of keys count k
  count-is i e = let (l, q) = subst (FoundNode d keys k) e h in sym (ap (own_of keys count) (sym q) ∙ own_at keys count c.distinct c.counts i l)

  pub count_none : a ≡ None → 0 ≡ own_of keys count k
  count_none e = sym (own-none keys count k (subst (FoundNode d keys k) e h c.ordered))

pub record Counting (keys count row : List ℕ) (sources i : ℕ) : Type 0 where
  pub upto : i ≤ length row
  pub is : sources ≡ sum (take i (map (own_of keys count) row))

module _ (keys count row : List ℕ) where
  pub counting-start : Counting keys count row 0 0
  unfolding sum
  counting-start = record { upto = zero-le; is = refl }

  module _ (sources i : ℕ) (c : Counting keys count row sources i) where
    next : i < length row → (n : ℕ) → n ≡ own_of keys count (get_or row i 0) → sources + n ≡ sum (take (suc i) (map (own_of keys count) row))
    next l n e = omega (arith, c.is, sum-take (map (own_of keys count) row) i, get_d_map (own_of keys count) row i l)

    pub counting-few : i < length row → (n : ℕ) → n ≡ own_of keys count (get_or row i 0) → sources + n ≤ sources_in keys count row
    counting-few l n e = omega (arith, next l n e, sum-whole (map (own_of keys count) row) (suc i))

    pub counting_more : i < length row → (n : ℕ) → n ≡ own_of keys count (get_or row i 0) → Counting keys count row (sources + n) (i + 1)
    counting_more l n e = record { upto = omega arith; is = rw (add-one i) (next l n e) }

    pub counting-done : length row ≤ i → sources ≡ sources_in keys count row
    counting-done h = c.is ∙ ap sum (take_all i (map (own_of keys count) row) (omega (arith, length-map row (own_of keys count))))
