-- The sums of a leaf, where all arguments have passed.
use mathlib.Core.Path.{◌≡◌, refl, sym, ap, ap₂, ◌∙◌, subst}
use mathlib.Core.Bool.{Bool, true, false}
use mathlib.Core.List.{List, [], ◌∷◌, map}
use Prim.Native.Nat.{ℕ, suc, ◌+◌, ◌-◌, ◌*◌, ◌≤◌, ◌<◌}
use native.Mathlib.Omega.{arith}
use lib.IntN.{ℤ, pos, nat_abs, ◌+ℤ◌}
use lib.ListN.{length, get_or, take, drop}
use mir.Syntax.{w64}
use mir.Val.{to_z, of_z}
use Rattle.slices.specs.Lists.{sum, range, Mem}
use Rattle.slices.proofs.Counts.{here, there}
use Rattle.slices.proofs.Sums.{sum_same, sum_less, sum-take, sum-whole}
use Rattle.morton.specs.Keys.{ancestors, ValidKey}
use Rattle.tree.specs.Columns.{columns}
use Rattle.tree.specs.Nodes.{own_of, leaf}
use Rattle.tree.specs.Order.{end_of}
use Rattle.tree.specs.WellFormed.{most_sources, well_formed, formed}
use Rattle.tree.specs.Totals.{total_in}
use Rattle.tree.proofs.Rules as Rules
use Rattle.tree.proofs.Rules.{all-facts}
use Rattle.tree.proofs.Sums.{total-to}
use Rattle.tree.proofs.Stored.{own_at}
use Rattle.tree.proofs.Leaves.{place_is}
use Rattle.tree.proofs.Verdict.{formed-of}
use Rattle.rows.specs.Lists.{u_row, v_row}
use Rattle.rows.specs.Written.{row_at, row_of, Gives}
use Rattle.sums.specs.Adding.{added, addedℤ}
use Rattle.sums.specs.Sums.{reading_at, node_readings, cell_readings, near_sum, far_sum, additions, plain_sum}
use Rattle.sums.specs.Right.{StartsRight, ListsRight, sources_met}
use Rattle.sums.proofs.Adding.{wholes, total-same}
use Rattle.sums.proofs.Facts.{Tree, tree-facts}
use Rattle.sums.proofs.Lines.{ancestor-mem}
use Rattle.sums.proofs.Counts.{total-pos}
use Rattle.sums.proofs.Right.{lists-right, v-sourced}
use Rattle.sums.proofs.Flat.{right-flat}
use Rattle.sums.proofs.Spans.{run-readings}
use Rattle.sums.proofs.Together.{together}
use Rattle.list_rows.proofs.Entries.{node-valid}
use Rattle.list_rows.proofs.Rows.{total_of}
use Rattle.list_check.proofs.Starts as S
use Rattle.list_check.proofs.Path.{met_is}
use Rattle.row_sums.specs.Readings.{largest, Read, Counts, Columns, sources_in}
use Rattle.row_sums.specs.Climb.{Climb, far_readings, far_cells, far_count}
use Rattle.row_sums.proofs.Whole.{read_back}
use Rattle.sourced.proofs.Checks.{passed}
use Rattle.sum_check.specs.Checks.{sum_check}
use Rattle.sum_check.specs.Answers.{near_of, far_of, additions_of, sums_of}
use Rattle.sum_check.specs.declared.Sums.{Sums}
use Rattle.sum_check.proofs.Checks.{well, counted, all-sources, known, Checked, checked}
use Rattle.sum_check.proofs.Readings.{all_small}
use Rattle.refusal.specs.Outcome.{accepted}

-- entries of at least 1 each
length-le : (f : ℕ → ℕ) (xs : List ℕ) → ((x : ℕ) → Mem x xs → 0 < f x) → length xs ≤ sum (map f xs)
unfolding sum
length-le f [] h = omega arith
length-le f (x ∷ xs) h = omega (arith, h x (here x xs), length-le f xs (λ y m. h y (there x y xs m)))

module _ (d : ℕ) (keys own begin total : List ℕ) (readings : List ℤ) (order us uk vs vk : List ℕ) (node : ℕ) (pre : sum_check d (columns keys own begin total) order readings us uk vs vk node ≡ accepted) where
  k : Checked d keys own begin total readings order us uk vs vk node
  k = checked d keys own begin total readings order us uk vs vk node pre

  formed' : formed d keys own begin ≡ true
  formed' = formed-of d keys own begin total (well d keys own begin total k.readings-read.tree)

  w : Rules.Formed d keys own begin total
  w = all-facts d keys own begin total (well d keys own begin total k.readings-read.tree)

  t : Tree d keys own begin
  t = tree-facts d keys own begin formed'

  abbrev b : ℕ
  b = get_or keys node 0

  mb : Mem b keys
  mb = (node, k.within, refl)

  pub rows : StartsRight keys us uk × StartsRight keys vs vk × ListsRight d keys own (row_of keys us uk) (row_of keys vs vk)
  rows = right-flat d keys own begin formed' us uk vs vk k.flat

  pub gives : Gives keys (u_row d keys own) (row_of keys us uk) × Gives keys (v_row d keys own) (row_of keys vs vk)
  gives = lists-right d keys own begin formed' (row_of keys us uk) (row_of keys vs vk) rows.2

  -- ---- what the sums ask
  pub counts : Counts d keys own
  counts = let n = known d keys own begin total k.readings-read.tree in record { counts = t.owns; distinct = t.distinct; axes = n.axes; ordered = n.ascend }

  near-columns : Columns d keys own begin order
  near-columns = record {
    counts = t.owns;
    begins = t.begins;
    distinct = t.distinct;
    axes = counts.axes;
    ordered = counts.ordered;
    runs = λ i l. omega (arith, w.rows.runs i l, sum-take own i, sum-whole own (suc i), k.arranged.entries);
  }

  pub far-columns : Columns d keys total begin order
  far-columns = record {
    counts = w.totals;
    begins = t.begins;
    distinct = t.distinct;
    axes = counts.axes;
    ordered = counts.ordered;
    runs = λ i l. omega (arith, total-to d keys own begin total w i l, sum-whole own (end_of keys i), k.arranged.entries);
  }

  reads : Read order readings
  reads = record { indexed = λ p l. omega (arith, k.arranged.below p l, k.readings-read.number); small = all_small readings k.readings-read.sizes }

  -- ---- near
  pub start-in : node + 1 < length us
  start-in = S.start-in keys us uk rows.0 node k.within

  pub part_up : get_or us node 0 ≤ get_or us (node + 1) 0
  part_up = S.part_up keys us uk rows.0 node k.within

  pub part_in : get_or us (node + 1) 0 ≤ length uk
  part_in = S.part_in keys us uk rows.0 node k.within

  abbrev part : List ℕ
  part = take (get_or us (node + 1) 0 - get_or us node 0) (drop (get_or us node 0) uk)

  row_is : part ≡ row_of keys us uk b
  row_is = S.part-is keys us uk rows.0 node k.within ∙ ap (row_at us uk) (sym (place_is keys t.distinct node k.within))

  part-is : part ≡ u_row d keys own b
  part-is = row_is ∙ gives.0 b mb

  pub adds : sources_met d keys own (row_of keys us uk) (row_of keys vs vk) b ≡ sum own
  adds = rows.2.adds b mb k.is_leaf

  near-few : sources_in keys own part ≤ most_sources
  near-few = omega (arith, ap (sources_in keys own) row_is, adds, w.rows.most)

  pub near-asks : Columns d keys own begin order × Read order readings × (sources_in keys own part ≤ most_sources)
  near-asks = (near-columns, reads, near-few)

  pub count-asks : Counts d keys own × (sources_in keys own part ≤ most_sources)
  count-asks = (counts, near-few)

  -- ---- far
  pub total-in : (x : ℕ) → Mem x keys → own_of keys total x ≡ total_in d keys own x
  total-in x (i, l, e) = subst (λ y. own_of keys total y ≡ total_in d keys own y) e (own_at keys total t.distinct w.totals i l ∙ w.totalled i l)

  pub far-few : far_count d keys total vs vk b ≤ sum own
  far-few = omega (arith, adds, met_is d keys own total us uk vs vk (counted d keys own begin total k.readings-read.tree) (record { near = rows.0; far = rows.1 }) rows.2.passing node k.within)

  pub cells_few : far_cells d keys vs vk b ≤ far_count d keys total vs vk b
  cells_few = sum_less (λ a. length (row_of keys vs vk a)) (λ a. sources_in keys total (row_of keys vs vk a)) (ancestors d b) (λ a m.
      let ma = ancestor-mem d keys own begin t b a mb m in
      length-le (own_of keys total) (row_of keys vs vk a) (λ x n.
      let q = rows.2.passing.v_passes a x ma n in
      omega (arith, total-in x q.0, total-pos d keys own begin t x (v-sourced d keys own a x q.1))))

  pub climb : Climb d keys total begin order readings vs vk node
  climb = record {
    columns = far-columns;
    read = reads;
    starts_right = rows.1;
    valid = node-valid d keys own (passed d keys own begin total k.readings-read.tree);
    parents = t.parents;
    within = k.within;
    few = omega (arith, far-few, w.rows.most);
    cells_few = omega (arith, far-few, cells_few, w.rows.most);
  }

  cell-is : (x : ℕ) → Mem x keys → node_readings keys total begin order readings x ≡ cell_readings d keys own begin order readings x
  unfolding node_readings
  cell-is x (i, l, e) = subst (λ y. addedℤ (reading_at order readings) (range (own_of keys begin y) (own_of keys total y)) ≡ cell_readings d keys own begin order readings y) e
      (ap₂ (λ a n. addedℤ (reading_at order readings) (range a n)) (own_at keys begin t.distinct t.begins i l) (own_at keys total t.distinct w.totals i l ∙ w.totalled i l)
      ∙ sym (run-readings d keys own begin formed' i l order readings))

  pub far-is : far_readings d keys total begin order readings vs vk b ≡ far_of d (columns keys own begin total) order readings node
  unfolding far_sum
  far-is = total-same (pos 0) ◌+ℤ◌ wholes (λ a. addedℤ (node_readings keys total begin order readings) (row_of keys vs vk a)) (λ a. addedℤ (cell_readings d keys own begin order readings) (v_row d keys own a)) (ancestors d b) (λ a m.
      let ma = ancestor-mem d keys own begin t b a mb m in
      total-same (pos 0) ◌+ℤ◌ wholes (node_readings keys total begin order readings) (cell_readings d keys own begin order readings) (row_of keys vs vk a) (λ x n. cell-is x (rows.2.passing.v_passes a x ma n).0)
      ∙ ap (addedℤ (cell_readings d keys own begin order readings)) (gives.1 a ma))

  pub cells_is : far_cells d keys vs vk b ≡ sum (map (λ a. length (v_row d keys own a)) (ancestors d b))
  cells_is = sum_same (λ a. length (row_of keys vs vk a)) (λ a. length (v_row d keys own a)) (ancestors d b) (λ a m. ap length (gives.1 a (ancestor-mem d keys own begin t b a mb m)))

  -- ---- together
  module _ (near : ℤ) (near-is : near ≡ addedℤ (node_readings keys own begin order readings) part) (near-size : nat_abs near ≤ sources_in keys own part * largest)
      (sources : ℕ) (sources-is : sources ≡ sources_in keys own part)
      (far : ℤ) (cells : ℕ) (far-sum : far ≡ far_readings d keys total begin order readings vs vk b) (far-cells : cells ≡ far_cells d keys vs vk b) (far-size : nat_abs far ≤ most_sources * largest) where
    pub adds_fit : sources + cells ≤ 2097152
    adds_fit = omega (arith, near-few, cells_few, far-few, w.rows.most)

    near_same : to_z w64 (of_z w64 near) ≡ near_of d (columns keys own begin total) order readings node
    unfolding near_sum
    near_same = read_back near (sources_in keys own part) near-size near-few ∙ near-is ∙ ap (addedℤ (node_readings keys own begin order readings)) part-is

    far-same : to_z w64 (of_z w64 far) ≡ far_of d (columns keys own begin total) order readings node
    far-same = read_back far most_sources far-size (omega arith) ∙ far-sum ∙ far-is

    additions-same : sources + cells ≡ additions_of d (columns keys own begin total) order readings node
    unfolding additions
    additions-same = ap₂ ◌+◌ (sources-is ∙ ap (sources_in keys own) part-is) (far-cells ∙ cells_is)

    abbrev sums : ℤ → ℤ → ℕ → Sums
    sums near far n = record { near = near; far = far; additions = n }

    pub answered : sums (to_z w64 (of_z w64 near)) (to_z w64 (of_z w64 far)) (sources + cells) ≡ sums_of d (columns keys own begin total) order readings node
    answered = ap (λ x. sums x (to_z w64 (of_z w64 far)) (sources + cells)) near_same ∙ ap₂ (sums (near_of d (columns keys own begin total) order readings node)) far-same additions-same

  pub told : near_of d (columns keys own begin total) order readings node +ℤ far_of d (columns keys own begin total) order readings node ≡ plain_sum readings
  told = together d keys own begin order readings formed' (u_row d keys own) (v_row d keys own) (λ x m. refl) (λ x m. refl) k.arranged k.readings-read.number b mb k.is_leaf
