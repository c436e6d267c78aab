-- What is kept of cells, and the loop along a row.
use mathlib.Core.Path.{◌≡◌, refl, sym, ap, ap₂, ◌∙◌, subst}
use mathlib.Core.Bool.{Bool, true, false}
use mathlib.Core.List.{List, [], ◌∷◌, map}
use mathlib.Core.Logic.{⊎_elim, ◌≢◌}
use Prim.Native.Nat.{ℕ, suc, ◌+◌, ◌*◌, ◌≤◌, ◌<◌}
use native.Mathlib.Omega.{arith}
use native.Mathlib.Numerals.{add-one}
use lib.IntN.{ℤ}
use lib.ListN.{length, get_or, set, drop, replicate, length-replicate, get_or-replicate, length-set}
use lib.Seq.{get_or-set_same, get_or-set_other}
use Rattle.slices.specs.Lists.{sum}
use Rattle.slices.proofs.Tests.{same_or_not}
use Rattle.slices.proofs.Sums.{sum-next, sum_to}
use Rattle.tree.specs.Nodes.{own_of, stored}
use Rattle.tree.specs.Finding.{FoundNode}
use Rattle.tree.specs.WellFormed.{most_sources}
use Rattle.tree.proofs.Stored.{own_at, stored-mem}
use Rattle.row_sums.specs.Readings.{sources_in}
use Rattle.row_sums.proofs.Found.{own-none}
use Rattle.cell_sums.specs.Lifted.{run_lifted, cell_lifted, row_lifted}
use Rattle.cell_sums.specs.Kept.{Kept, Summed}
use Rattle.cell_sums.proofs.Runs.{run_none, run-size}
use Rattle.std.specs.Prelude.{None, Some, Option}

module _ (keys total begin order : List ℕ) (readings : List ℤ) where
  abbrev cell : ℕ → ℕ
  cell k = cell_lifted keys total begin order readings k

  none-lifted : (k : ℕ) → stored keys k ≡ false → 0 ≡ cell k
  none-lifted k e = sym (ap (run_lifted order readings (own_of keys begin k)) (own-none keys total k e) ∙ run_none order readings (own_of keys begin k))

  -- the loop along a row: what was added so far and the rest are all
  pub record Adding (row : List ℕ) (s n i : ℕ) : Type 0 where
    pub upto : i ≤ length row
    pub sum_is : s + sum (map (λ k. cell_lifted keys total begin order readings k) (drop i row)) ≡ row_lifted keys total begin order readings row
    pub count-is : n + sum (map (own_of keys total) (drop i row)) ≡ sources_in keys total row

  -- ---- the table
  pub kept-start : (k : ℕ) → stored keys k ≡ false → Kept keys total begin order readings (replicate 1536 k) (replicate 1536 0) (replicate 1536 0)
  kept-start k e = record {
    names_size = length-replicate {A = ℕ} 1536 k;
    held_size = length-replicate {A = ℕ} 1536 0;
    counts_size = length-replicate {A = ℕ} 1536 0;
    sums = λ s h. get_or-replicate {A = ℕ} 1536 s 0 0 h ∙ none-lifted k e ∙ ap cell (sym (get_or-replicate {A = ℕ} 1536 s k 0 h));
    sources = λ s h. get_or-replicate {A = ℕ} 1536 s 0 0 h ∙ sym (own-none keys total k e) ∙ ap (own_of keys total) (sym (get_or-replicate {A = ℕ} 1536 s k 0 h));
  }

  module _ (names held counts : List ℕ) (t : Kept keys total begin order readings names held counts) (s k : ℕ) (h : s < 1536) where
    pub kept_in : (s < length names) × (s < length held) × (s < length counts)
    kept_in = (omega (arith, t.names_size), omega (arith, t.held_size), omega (arith, t.counts_size))

    pub kept-hit : get_or names s 0 ≡ k → (get_or held s 0 ≡ cell k) × (get_or counts s 0 ≡ own_of keys total k)
    kept-hit e = (t.sums s h ∙ ap cell e, t.sources s h ∙ ap (own_of keys total) e)

    pub kept_more : (x n : ℕ) → x ≡ cell k → n ≡ own_of keys total k → Kept keys total begin order readings (set names s k) (set held s x) (set counts s n)
    kept_more x n e q = record {
      names_size = length-set names s k ∙ t.names_size;
      held_size = length-set held s x ∙ t.held_size;
      counts_size = length-set counts s n ∙ t.counts_size;
      sums = λ r l. column held x cell kept_in.1 e t.sums r l;
      sources = λ r l. column counts n (own_of keys total) kept_in.2 q t.sources r l;
    }
      where
        column : (xs : List ℕ) (x : ℕ) (f : ℕ → ℕ) → s < length xs → x ≡ f k → ((r : ℕ) → r < 1536 → get_or xs r 0 ≡ f (get_or names r 0)) → (r : ℕ) → r < 1536 → get_or (set xs s x) r 0 ≡ f (get_or (set names s k) r 0)
        column xs x f m e was r l = ⊎_elim
            (λ (same : r ≡ s). subst (λ y. get_or (set xs s x) y 0 ≡ f (get_or (set names s k) y 0)) (sym same) (get_or-set_same xs s x 0 m ∙ e ∙ ap f (sym (get_or-set_same names s k 0 kept_in.0))))
            (λ (other : r ≢ s). get_or-set_other xs s r x 0 other ∙ was r l ∙ ap f (sym (get_or-set_other names s r k 0 other)))
            (same_or_not r s)

module _ (d : ℕ) (keys total begin order : List ℕ) (readings : List ℤ) (sums : List ℕ) (m : Summed d keys total begin order readings sums) where
  -- ---- a node found by its key
  module _ (k : ℕ) (a : Option ℕ) (f : FoundNode d keys k a) where
    pub cell-none : a ≡ None → (0 ≡ cell keys total begin order readings k) × (0 ≡ own_of keys total k)
    cell-none e =
        let none : stored keys k ≡ false = subst (FoundNode d keys k) e f m.columns.ordered in
        (none-lifted keys total begin order readings k none, sym (own-none keys total k none))

    module _ (i : ℕ) (e : a ≡ Some i) where
      at : (i < length keys) × (get_or keys i 0 ≡ k)
      at = subst (FoundNode d keys k) e f

      pub cell_in : (i < length total) × (i < length begin)
      cell_in = (omega (arith, at.0, m.columns.counts), omega (arith, at.0, m.columns.begins))

      pub cell-run : get_or begin i 0 + get_or total i 0 ≤ length order
      cell-run = m.columns.runs i at.0

      pub cell-count : get_or total i 0 ≡ own_of keys total k
      cell-count = sym (ap (own_of keys total) (sym at.1) ∙ own_at keys total m.columns.distinct m.columns.counts i at.0)

      cell-begin : get_or begin i 0 ≡ own_of keys begin k
      cell-begin = sym (ap (own_of keys begin) (sym at.1) ∙ own_at keys begin m.columns.distinct m.columns.begins i at.0)

      pub cell-sum : (x : ℕ) → x ≡ run_lifted order readings (get_or begin i 0) (get_or total i 0) → x ≡ cell keys total begin order readings k
      cell-sum x q = q ∙ ap₂ (run_lifted order readings) cell-begin cell-count

  -- ---- sizes
  pub cell-within : (k : ℕ) → own_of keys begin k + own_of keys total k ≤ length order
  cell-within k = go (stored keys k) refl
    where
      go : (b : Bool) → stored keys k ≡ b → own_of keys begin k + own_of keys total k ≤ length order
      go false e = omega (arith, own-none keys total k e, own-none keys begin k e)
      go true e =
          let (i, l, q) = stored-mem keys k e in
          omega (
            arith,
            ap (own_of keys total) (sym q) ∙ own_at keys total m.columns.distinct m.columns.counts i l,
            ap (own_of keys begin) (sym q) ∙ own_at keys begin m.columns.distinct m.columns.begins i l,
            m.columns.runs i l,
          )

  pub cell-size : (k : ℕ) → cell keys total begin order readings k ≤ own_of keys total k * 2199023255552
  cell-size k = run-size order readings m.read (own_of keys begin k) (own_of keys total k) (cell-within k)

  pub row-size : (row : List ℕ) → row_lifted keys total begin order readings row ≤ sources_in keys total row * 2199023255552
  unfolding sum
  row-size [] = omega arith
  row-size (k ∷ row) = omega (arith, cell-size k, row-size row)

  module _ (row : List ℕ) where
    pub add_start : Adding keys total begin order readings row 0 0 0
    add_start = record { upto = omega arith; sum_is = omega arith; count-is = omega arith }

    module _ (few : sources_in keys total row ≤ most_sources) (s n i : ℕ) (v : Adding keys total begin order readings row s n i) (l : i < length row) (x c : ℕ) (e : x ≡ cell keys total begin order readings (get_or row i 0)) (q : c ≡ own_of keys total (get_or row i 0)) where
      sum-next' : s + x + sum (map (cell keys total begin order readings) (drop (suc i) row)) ≡ row_lifted keys total begin order readings row
      sum-next' = omega (arith, v.sum_is, sum-next (cell keys total begin order readings) row i l)

      count_next : n + c + sum (map (own_of keys total) (drop (suc i) row)) ≡ sources_in keys total row
      count_next = omega (arith, v.count-is, sum-next (own_of keys total) row i l)

      pub add-fits : (s + x < 18446744073709551616) × (n + c ≤ most_sources)
      add-fits = (omega (arith, sum-next', row-size row), omega (arith, count_next))

      pub add-more : Adding keys total begin order readings row (s + x) (n + c) (i + 1)
      add-more = rw (add-one i) (record { upto = l; sum_is = sum-next'; count-is = count_next })

    pub add_done : (s n i : ℕ) → Adding keys total begin order readings row s n i → length row ≤ i → (s ≡ row_lifted keys total begin order readings row) × (n ≡ sources_in keys total row)
    add_done s n i v h = (
      omega (arith, v.sum_is, sum_to (cell keys total begin order readings) row i (λ j p q. absurd (omega arith))),
      omega (arith, v.count-is, sum_to (own_of keys total) row i (λ j p q. absurd (omega arith))),
    )
