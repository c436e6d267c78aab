-- The loop from a node up to the root: what was added so far, and what is still to come, are all.
use mathlib.Core.Path.{◌≡◌, refl, sym, ap, ap₂, ◌∙◌, subst}
use mathlib.Core.Bool.{false}
use mathlib.Core.List.{List, map}
use Prim.Native.Nat.{ℕ, zero, suc, ◌+◌, ◌-◌, ◌*◌, ◌≤◌, ◌<◌, zero-le}
use native.Mathlib.Omega.{arith}
use native.Mathlib.Numerals.{add-one}
use native.Mathlib.Nat.{le_refl}
use lib.IntN.{ℤ, pos, nat_abs, ◌+ℤ◌, +ℤ_idl, +ℤ_idr, +ℤ_assoc}
use lib.ListN.{length, get_or, take, drop, length-drop}
use lib.Seq.{length-take-le}
use mir.Syntax.{w64}
use mir.Val.{SFits, to_z, of_z}
use mir.Facts.{to_z-of_z}
use Rattle.slices.specs.Lists.{sum}
use Rattle.slices.proofs.Tests.{clash}
use Rattle.morton.specs.Keys.{level_of, parent, upwards, ValidKey}
use Rattle.morton.proofs.Cells.{level-parent}
use Rattle.tree.specs.Nodes.{stored}
use Rattle.tree.specs.WellFormed.{most_sources}
use Rattle.tree.specs.Finding.{FoundNode}
use Rattle.tree.proofs.Stored.{mem-stored}
use Rattle.tree.proofs.Leaves.{place_is}
use Rattle.rows.specs.Written.{row_at, row_of}
use Rattle.sums.specs.Adding.{added, addedℤ}
use Rattle.sums.specs.Sums.{node_readings}
use Rattle.sums.proofs.Flat.{climbs}
use Rattle.row_sums.specs.Readings.{largest, Read, Columns, sources_in}
use Rattle.row_sums.specs.Climb.{Climb, far_readings, far_cells, far_count}
use Rattle.row_sums.proofs.Whole.{sum-size, word_holds, read_back}
use Rattle.std.specs.Prelude.{None, Some, Option}

module _ (d : ℕ) (keys total begin order : List ℕ) (readings : List ℤ) (starts flat : List ℕ) where
  abbrev row : ℕ → List ℕ
  row a = row_of keys starts flat a

  abbrev g : ℕ → ℤ
  g a = addedℤ (node_readings keys total begin order readings) (row a)

  abbrev n : ℕ → ℕ
  n a = sources_in keys total (row a)

  abbrev all : ℕ → ℤ
  all b = far_readings d keys total begin order readings starts flat b

  abbrev cells : ℕ → ℕ
  cells b = far_cells d keys starts flat b

  abbrev count : ℕ → ℕ
  count b = far_count d keys total starts flat b

  level-up : (k : ℕ) → 0 < level_of k → level_of k ≡ suc (level_of (parent d k))
  level-up k h = omega (arith, level-parent d k)

  all-root : (k : ℕ) → level_of k ≡ 0 → all k ≡ g k
  unfolding upwards added
  all-root k e = ap (λ m. addedℤ g (upwards m d k)) e ∙ +ℤ_idr (g k)

  all_more : (k : ℕ) → 0 < level_of k → all k ≡ g k +ℤ all (parent d k)
  unfolding upwards added
  all_more k h = ap (λ m. addedℤ g (upwards m d k)) (level-up k h)

  cells-root : (k : ℕ) → level_of k ≡ 0 → cells k ≡ length (row k)
  unfolding upwards sum
  cells-root k e = ap (λ m. sum (map (λ a. length (row a)) (upwards m d k))) e ∙ omega arith

  cells-more : (k : ℕ) → 0 < level_of k → cells k ≡ length (row k) + cells (parent d k)
  unfolding upwards sum
  cells-more k h = ap (λ m. sum (map (λ a. length (row a)) (upwards m d k))) (level-up k h)

  count-root : (k : ℕ) → level_of k ≡ 0 → count k ≡ n k
  unfolding upwards sum
  count-root k e = ap (λ m. sum (map n (upwards m d k))) e ∙ omega arith

  count-more : (k : ℕ) → 0 < level_of k → count k ≡ n k + count (parent d k)
  unfolding upwards sum
  count-more k h = ap (λ m. sum (map n (upwards m d k))) (level-up k h)

  pub record Climbing (node : ℕ) (s : ℤ) (c at : ℕ) : Type 0 where
    pub within : at < length keys
    pub met : ℕ
    pub met_is : met + count (get_or keys at 0) ≡ count (get_or keys node 0)
    pub size : nat_abs s ≤ met * largest
    pub sum_is : s +ℤ all (get_or keys at 0) ≡ all (get_or keys node 0)
    pub cells_is : c + cells (get_or keys at 0) ≡ cells (get_or keys node 0)

  module _ (node : ℕ) (p : Climb d keys total begin order readings starts flat node) where
    pub climb-start : Climbing node (pos 0) 0 node
    climb-start = record { within = p.within; met = 0; met_is = omega arith; size = zero-le; sum_is = +ℤ_idl _; cells_is = omega arith }

    module _ (s : ℤ) (c at : ℕ) (i : Climbing node s c at) where
      pub start-in : at + 1 < length starts
      start-in = omega (arith, p.starts_right.entries, i.within)

      pub part_up : get_or starts at 0 ≤ get_or starts (at + 1) 0
      part_up = rw (add-one at) (p.starts_right.rises at i.within)

      pub part_in : get_or starts (at + 1) 0 ≤ length flat
      part_in = rw (add-one at) (omega (arith, climbs starts (length keys) p.starts_right.rises (suc at) (length keys) i.within (le_refl _), p.starts_right.last))

      abbrev part : List ℕ
      part = take (get_or starts (at + 1) 0 - get_or starts at 0) (drop (get_or starts at 0) flat)

      abbrev k : ℕ
      k = get_or keys at 0

      part-is : part ≡ row k
      part-is = ap (λ j. take (get_or starts j 0 - get_or starts at 0) (drop (get_or starts at 0) flat)) (add-one at) ∙ ap (row_at starts flat) (sym (place_is keys p.columns.distinct at i.within))

      part-size : get_or starts (at + 1) 0 - get_or starts at 0 ≡ length (row k)
      part-size = sym (length-take-le (get_or starts (at + 1) 0 - get_or starts at 0) (drop (get_or starts at 0) flat) (omega (arith, length-drop (get_or starts at 0) flat, part_in))) ∙ ap length part-is

      pub key-valid : ValidKey d k
      key-valid = p.valid k (at, i.within, refl)

      least : (n k ≤ count k) × (length (row k) ≤ cells k)
      least = go (level_of k) refl
        where
          go : (m : ℕ) → level_of k ≡ m → (n k ≤ count k) × (length (row k) ≤ cells k)
          go zero e = (omega (arith, count-root k e), omega (arith, cells-root k e))
          go (suc m) e = (omega (arith, count-more k (omega arith)), omega (arith, cells-more k (omega arith)))

      pub row-asks : Columns d keys total begin order × Read order readings × (sources_in keys total part ≤ most_sources)
      row-asks = (p.columns, p.read, omega (arith, ap (sources_in keys total) part-is, least.0, i.met_is, p.few))

      pub cells_few : c + (get_or starts (at + 1) 0 - get_or starts at 0) ≤ most_sources
      cells_few = omega (arith, part-size, least.1, i.cells_is, p.cells_few)

      module _ (r : ℤ) (e : r ≡ addedℤ (node_readings keys total begin order readings) part) (m : nat_abs r ≤ sources_in keys total part * largest) where
        back : to_z w64 (of_z w64 r) ≡ r
        back = read_back r (sources_in keys total part) m row-asks.2

        r-is : r ≡ g k
        r-is = e ∙ ap (addedℤ (node_readings keys total begin order readings)) part-is

        plus-is : s +ℤ to_z w64 (of_z w64 r) ≡ s +ℤ g k
        plus-is = ap (s +ℤ◌) (back ∙ r-is)

        plus-size : nat_abs (s +ℤ to_z w64 (of_z w64 r)) ≤ (i.met + n k) * largest
        plus-size = omega (arith, sum-size s (to_z w64 (of_z w64 r)), ap nat_abs back, m, i.size, ap (sources_in keys total) part-is)

        met-few : i.met + n k ≤ most_sources
        met-few = omega (arith, least.0, i.met_is, p.few)

        pub climb-fits : SFits w64 (s +ℤ to_z w64 (of_z w64 r))
        climb-fits = word_holds (s +ℤ to_z w64 (of_z w64 r)) (omega (arith, plus-size, met-few))

        kept : to_z w64 (of_z w64 (s +ℤ to_z w64 (of_z w64 r))) ≡ s +ℤ to_z w64 (of_z w64 r)
        kept = to_z-of_z climb-fits

        abbrev s' : ℤ
        s' = to_z w64 (of_z w64 (s +ℤ to_z w64 (of_z w64 r)))

        abbrev c' : ℕ
        c' = c + (get_or starts (at + 1) 0 - get_or starts at 0)

        size' : nat_abs s' ≤ (i.met + n k) * largest
        size' = rw kept plus-size

        pub climb-done : level_of k ≡ 0 → (s' ≡ all (get_or keys node 0)) × (c' ≡ cells (get_or keys node 0)) × (nat_abs s' ≤ most_sources * largest)
        climb-done z = (
          kept ∙ plus-is ∙ ap (s +ℤ◌) (sym (all-root k z)) ∙ i.sum_is,
          omega (arith, part-size, cells-root k z, i.cells_is),
          omega (arith, size', met-few),
        )

        module _ (deep : 0 < level_of k) (up : ℕ) (is-parent : up ≡ parent d k) (a : Option ℕ) (h : FoundNode d keys up a) where
          pub climb-more : (j : ℕ) → a ≡ Some j → Climbing node s' c' j × (level_of (get_or keys j 0) < level_of k)
          climb-more j q =
              let (l, same) = subst (FoundNode d keys up) q h in
              let key-is : get_or keys j 0 ≡ parent d k = same ∙ is-parent in (
                record {
                  within = l;
                  met = i.met + n k;
                  met_is = omega (arith, ap count key-is, count-more k deep, i.met_is);
                  size = size';
                  sum_is = ap₂ ◌+ℤ◌ (kept ∙ plus-is) (ap all key-is) ∙ +ℤ_assoc s (g k) (all (parent d k)) ∙ ap (s +ℤ◌) (sym (all_more k deep)) ∙ i.sum_is;
                  cells_is = omega (arith, ap cells key-is, cells-more k deep, part-size, i.cells_is);
                },
                omega (arith, ap level_of key-is, level-parent d k),
              )

          pub climb-lost : a ≡ None → ⊥
          climb-lost q =
              let none : stored keys up ≡ false = subst (FoundNode d keys up) q h p.columns.ordered in
              clash (mem-stored keys (parent d k) (p.parents k (at, i.within, refl) deep)) (subst (λ x. stored keys x ≡ false) is-parent none)
