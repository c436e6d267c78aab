-- Tests of a row, and what the rows bring added up.
use mathlib.Core.Path.{◌≡◌, refl, sym, ap, ◌∙◌, subst}
use mathlib.Core.Bool.{Bool, true, false, ◌&&◌, ◌||◌, not, cond}
use mathlib.Core.List.{List, [], ◌∷◌, map}
use Prim.Native.Nat.{ℕ, zero, suc, ◌+◌, ◌*◌, ◌-◌, ◌/◌, ◌^◌, ◌≤◌, ◌<◌, min}
use native.Mathlib.Omega.{arith}
use native.Mathlib.Nat.{zero-add}
use native.Mathlib.Numerals.{add-one}
use lib.Dec.{leb, ltb, eqb}
use lib.ListN.{length, get_or, take, drop, length-map, drop_of_length-le}
use lib.Seq.{drop-cons, take_all}
use borrow.Author.Tests.{lt-ltb, le-ltb, le-leb, lt-leb, eq-eqb, ne_eqb, not-true}
use Rattle.refusal.specs.declared.Refusal.TheVariants.{Tree, Room}
use Rattle.slices.specs.Lists.{any, sum, range}
use Rattle.slices.proofs.Lists.{length-range, get_or-range, get_d_map}
use Rattle.slices.proofs.Sums.{sum-take, sum-whole}
use Rattle.slices.proofs.Tests.{both, refute, clash}
use Rattle.slices.proofs.Counts.{any-intro}
use Rattle.morton.specs.Keys.{level_of, code_of, above, valid}
use Rattle.tree.specs.WellFormed.{most_sources}
use Rattle.salvaged.specs.Nodes.{Input}
use Rattle.salvaged.specs.Columns.{new_sources}
use Rattle.salvaged.specs.Changes.{key_at, valid_row, first_row}
use Rattle.kept_sources.specs.Rows.{below, below_row, lowest, row_fits, may_count, counts, row_count, rows_sum, sources_check, Readable}
use Rattle.kept_sources.proofs.Rows.{sources-rows, sources-most}
use Rattle.refusal.specs.Outcome.{accepted}
use Rattle.std.specs.Prelude.{Err}

-- ---- a cell below another

pub below-not : (d k j : ℕ) → level_of j ≤ level_of k → false ≡ below d k j
below-not d k j h = let e : ltb (level_of k) (level_of j) ≡ false = le-ltb (level_of k) (level_of j) h in rw e

pub below_code : (d k j u : ℕ) → u ≡ above d (level_of j - level_of k) (code_of j) → level_of k < level_of j → eqb u (code_of k) ≡ below d k j
below_code d k j u e h = let f : ltb (level_of k) (level_of j) ≡ true = lt-ltb (level_of k) (level_of j) h in rw (e, f)

module _ (d : ℕ) (rows : List ℕ) (k : ℕ) where
  any-more : (j : ℕ) → j < length rows → (b : Bool) → below_row d k (get_or rows j 0) ≡ b → any (below_row d k) (drop j rows) ≡ (b || any (below_row d k) (drop (suc j) rows))
  unfolding any
  any-more j l b e = ap (any (below_row d k)) (drop-cons rows j 0 l) ∙ ap (λ (b : Bool). b || any (below_row d k) (drop (suc j) rows)) e

  low-skip : (j : ℕ) → j < length rows → below_row d k (get_or rows j 0) ≡ false → any (below_row d k) (drop j rows) ≡ any (below_row d k) rows → any (below_row d k) (drop (j + 1) rows) ≡ any (below_row d k) rows
  low-skip j l e s = ap (λ (n : ℕ). any (below_row d k) (drop n rows)) (add-one j) ∙ sym (any-more j l false e) ∙ s

  low-not : (j : ℕ) → j < length rows → below_row d k (get_or rows j 0) ≡ true → false ≡ lowest d rows k
  low-not j l e = let a : any (below_row d k) rows ≡ true = any-intro (below_row d k) rows (get_or rows j 0) (j, l, refl) e in rw a

  pub low-all : (j : ℕ) → length rows ≤ j → any (below_row d k) (drop j rows) ≡ any (below_row d k) rows → true ≡ lowest d rows k
  low-all j l s = let a : any (below_row d k) rows ≡ false = sym s ∙ ap (any (below_row d k)) (drop_of_length-le rows l) ∙ none in rw a
    where
      none : any (below_row d k) [] ≡ false
      none = unfold any in refl

  pub invalid-skip : (j : ℕ) → j < length rows → valid d (get_or rows j 0) ≡ false → any (below_row d k) (drop j rows) ≡ any (below_row d k) rows → any (below_row d k) (drop (j + 1) rows) ≡ any (below_row d k) rows
  invalid-skip j l e = low-skip j l (rw e)

  pub valid-skip : (j : ℕ) → j < length rows → valid d (get_or rows j 0) ≡ true → below d k (get_or rows j 0) ≡ false → any (below_row d k) (drop j rows) ≡ any (below_row d k) rows
      → any (below_row d k) (drop (j + 1) rows) ≡ any (below_row d k) rows
  valid-skip j l e f = low-skip j l (rw (e, f))

  pub valid-not : (j : ℕ) → j < length rows → valid d (get_or rows j 0) ≡ true → below d k (get_or rows j 0) ≡ true → false ≡ lowest d rows k
  valid-not j l e f = low-not j l (both e f)

-- ---- what a row brings

module _ (i : Input) (row : ℕ) where
  -- by the tests
  by_tests : (exact a b : Bool) → may_count i row ≡ a → counts i row ≡ b → cond (a && cond exact b true) (get_or i.own row 0) 0 ≡ row_count i exact row
  unfolding row_count
  by_tests exact a b e f = rw (e, f)

  pub count-invalid : (exact : Bool) → valid_row i row ≡ false → 0 ≡ row_count i exact row
  count-invalid exact e = by_tests exact false (counts i row) (rw e) refl

  module _ (v : valid_row i row ≡ true) where
    pub count_past : (exact : Bool) → row_fits i row ≡ false → 0 ≡ row_count i exact row
    count_past exact e = by_tests exact false (counts i row) (rw (v, e)) refl

    module _ (f : row_fits i row ≡ true) where
      pub count_most : (exact : Bool) → exact ≡ false → get_or i.own row 0 ≡ row_count i exact row
      count_most exact e = subst (λ x. get_or i.own row 0 ≡ row_count i x row) (sym e) (by_tests false true (counts i row) (both v f) refl)

      exactly : (exact b : Bool) → exact ≡ true → counts i row ≡ b → cond b (get_or i.own row 0) 0 ≡ row_count i exact row
      exactly exact b e g = subst (λ x. cond b (get_or i.own row 0) 0 ≡ row_count i x row) (sym e) (by_tests true true b (both v f) g)

      pub count-root : (exact : Bool) → exact ≡ true → key_at i row ≡ 0 → 0 ≡ row_count i exact row
      count-root exact e z = let q : eqb (key_at i row) 0 ≡ true = eq-eqb (key_at i row) 0 z in exactly exact false e (rw q)

      module _ (exact : Bool) (e : exact ≡ true) (n : key_at i row ≡ 0 → ⊥) where
        pub count-repeat : first_row i row ≡ false → 0 ≡ row_count i exact row
        count-repeat g = let q : eqb (key_at i row) 0 ≡ false = ne_eqb (key_at i row) 0 n in exactly exact false e (rw (q, g))

        pub count_by : (b : Bool) → first_row i row ≡ true → lowest i.axes i.key (key_at i row) ≡ b → cond b (get_or i.own row 0) 0 ≡ row_count i exact row
        count_by b g h = let q : eqb (key_at i row) 0 ≡ false = ne_eqb (key_at i row) 0 n in exactly exact b e (rw (q, g) h)

-- ---- all rows

module _ (i : Input) (exact : Bool) where
  abbrev all : List ℕ
  all = map (row_count i exact) (range 0 (length i.key))

  pub record Adding (s row : ℕ) : Type 0 where
    pub within : row ≤ length i.key
    pub adds : s ≡ sum (take row (map (row_count i exact) (range 0 (length i.key))))
    pub small : s ≤ 1048576

  all-length : length all ≡ length i.key
  all-length = length-map (range 0 (length i.key)) (row_count i exact) ∙ length-range 0 (length i.key)

  all-sum : rows_sum i exact ≡ sum all
  unfolding rows_sum
  all-sum = refl

  pub adding-start : Adding 0 0
  unfolding sum
  adding-start = record { within = omega arith; adds = refl; small = omega arith }

  module _ (s row n : ℕ) (a : Adding s row) (l : row < length i.key) (e : n ≡ row_count i exact row) where
    next : sum (take (suc row) all) ≡ s + n
    next =
        let g : get_or all row 0 ≡ n = get_d_map (row_count i exact) (range 0 (length i.key)) row (omega (arith, length-range 0 (length i.key))) ∙ ap (row_count i exact) (get_or-range 0 (length i.key) row l ∙ zero-add row) ∙ sym e in
        omega (arith, sum-take all row, a.adds)

    pub adding-more : n ≤ 1048576 - s → Adding (s + n) (row + 1)
    adding-more h = record {
      within = omega arith;
      adds = sym next ∙ ap (λ (m : ℕ). sum (take m all)) (sym (add-one row));
      small = omega (arith, a.small);
    }

    pub adding-over : 1048576 - s < n → 1048577 ≡ min (rows_sum i exact) 1048577
    adding-over h = omega (arith, all-sum, sum-whole all (suc row), next, a.small)

  pub adding-done : (s row : ℕ) → Adding s row → length i.key ≤ row → s ≡ min (rows_sum i exact) 1048577
  adding-done s row a h = omega (arith, all-sum, a.adds, a.small, ap sum (take_all row all (omega (arith, all-length))))

-- ---- the verdict

module _ (i : Input) (ok : Readable i) (places s : ℕ) where
  pub settled : s ≡ min (rows_sum i false) 1048577 → s ≤ 1048576 → s ≤ places → accepted ≡ sources_check i places
  unfolding sources_check
  settled e a b =
      let m = sources-most i ok in
      rw (le-leb (new_sources i) 1048576 (omega arith), le-leb (new_sources i) places (omega arith))

  module _ (e : s ≡ min (rows_sum i true) 1048577) where
    pub too_many : 1048576 < s → Err Tree ≡ sources_check i places
    unfolding sources_check
    too_many h = rw (lt-leb (new_sources i) 1048576 (omega (arith, sources-rows i ok)))

    module _ (a : s ≤ 1048576) where
      pub no-places : places < s → Err (Room 2) ≡ sources_check i places
      unfolding sources_check
      no-places h = rw (le-leb (new_sources i) 1048576 (omega (arith, sources-rows i ok)), lt-leb (new_sources i) places (omega (arith, sources-rows i ok)))

      pub all_placed : s ≤ places → accepted ≡ sources_check i places
      unfolding sources_check
      all_placed h = rw (le-leb (new_sources i) 1048576 (omega (arith, sources-rows i ok)), le-leb (new_sources i) places (omega (arith, sources-rows i ok)))
