-- The nodes of a survey that has passed its checks: how much is far of each, and what a leaf's two sums are together.
use mathlib.Core.Path.{◌≡◌, refl, sym, ap, ap₂, ◌∙◌, subst}
use mathlib.Core.Bool.{Bool, true, false, ◌&&◌, cond}
use mathlib.Core.List.{List, [], ◌∷◌, map}
use Prim.Native.Nat.{ℕ, zero, suc, ◌+◌, ◌-◌, ◌*◌, ◌≤◌, ◌<◌}
use native.Mathlib.Omega.{arith}
use native.Mathlib.Nat.{zero-add}
use lib.Dec.{eqb}
use lib.IntN.{ℤ, pos, nat_abs, ◌+ℤ◌, ◌-ℤ◌, +ℤ_invr}
use lib.ListN.{length, get_or}
use borrow.Author.Tests.{eq-eqb}
use Rattle.slices.specs.Lists.{sum, bit, range, Mem}
use Rattle.slices.proofs.Tests.{and_l, and_r}
use Rattle.slices.proofs.Sums.{sum_same}
use Rattle.morton.specs.Keys.{level_of, parent, ancestors}
use Rattle.tree.specs.Columns.{columns}
use Rattle.tree.specs.Nodes.{own_of, leaf, stored}
use Rattle.tree.specs.Finding.{TreeKeys}
use Rattle.tree.specs.WellFormed.{most_sources, formed}
use Rattle.tree.proofs.Rules as Rules
use Rattle.tree.proofs.Rules.{facts, all-facts}
use Rattle.tree.proofs.Ranges.{level-pos}
use Rattle.tree.proofs.Leaves.{place_is}
use Rattle.tree.proofs.Verdict.{formed-of}
use Rattle.rows.specs.Lists.{u_row, v_row}
use Rattle.rows.specs.Written.{row_at, row_of}
use Rattle.rows.proofs.RowTests.{u-leaf}
use Rattle.sums.specs.Adding.{addedℤ}
use Rattle.sums.specs.Sums.{reading_at, node_readings, near_sum, far_sum, additions, plain_sum}
use Rattle.sums.specs.Right.{StartsRight, ListsRight, lists_are}
use Rattle.sums.proofs.Flat.{right-flat, lists-are}
use Rattle.sums.proofs.Adding.{wholes, total-same}
use Rattle.sums.specs.Arrangement.{AllIndices}
use Rattle.sums.proofs.Arrangement.{total-arranged}
use Rattle.sums.proofs.Arranged.{arranges-iff}
use Rattle.sums.proofs.Counts.{leaf-total}
use Rattle.sums.proofs.Facts.{Tree, tree-facts}
use Rattle.sums.proofs.Lines.{Line, line}
use Rattle.sums.proofs.Together.{together}
use Rattle.list_rows.specs.Entries.{Counted}
use Rattle.list_rows.proofs.Entries.{tree-keys}
use Rattle.list_check.specs.Checks.{Started}
use Rattle.list_check.proofs.Path.{met_is, root-v, root-no-u, root-no-v}
use Rattle.row_sums.specs.Readings.{largest, Read, sources_in}
use Rattle.row_sums.specs.Climb.{far_readings, far_cells, far_count}
use Rattle.cell_sums.specs.Lifted.{run_lifted, row_lifted, Before}
use Rattle.cell_sums.specs.Kept.{Summed}
use Rattle.cell_sums.proofs.Kept.{row-size}
use Rattle.cell_sums.proofs.Lifts.{Lifts, lifts-plus, lifts-all, row-lifts, run-lifts}
use Rattle.sourced.proofs.Checks.{passed}
use Rattle.sum_check.specs.Checks.{sum_check}
use Rattle.sum_check.proofs.Checks as C
use Rattle.sum_check.proofs.Readings.{all_small}
use Rattle.sum_check.proofs.Leaf as L
use Rattle.survey_check.specs.Answers.{agrees, additions_at}
use Rattle.survey_check.specs.Pass.{Passed, far_lifted, RowAsked, FarKnown}
use Rattle.survey_check.proofs.Ancestors.{up_more, up-part}
use Rattle.refusal.specs.Outcome.{accepted}

module _ (d : ℕ) (keys own begin total : List ℕ) (readings : List ℤ) (order us uk vs vk : List ℕ) (p : Passed d keys own begin total readings order us uk vs vk) where
  read : C.Read d keys own begin total readings
  read = C.read d keys own begin total readings p.read

  formed' : formed d keys own begin ≡ true
  formed' = formed-of d keys own begin total (C.well d keys own begin total read.tree)

  pub w : Rules.WellFormed d keys own begin
  w = facts d keys own begin formed'

  t : Tree d keys own begin
  t = tree-facts d keys own begin formed'

  pub known : TreeKeys d keys
  known = tree-keys d keys own (passed d keys own begin total read.tree)

  pub counted : Counted d keys own total
  counted = C.counted d keys own begin total read.tree

  pub row-at : (starts flat : List ℕ) (i : ℕ) → i < length keys → row_of keys starts flat (get_or keys i 0) ≡ row_at starts flat i
  row-at starts flat i l = ap (row_at starts flat) (place_is keys t.distinct i l)

  lists : StartsRight keys us uk × StartsRight keys vs vk × ListsRight d keys own (row_of keys us uk) (row_of keys vs vk)
  lists =
      let s = passed d keys own begin total read.tree in
      right-flat d keys own begin formed' us uk vs vk ((lists-are d keys own s.begin s.sound us uk vs vk).0 (and_l _ _ p.built))

  started : Started keys us uk vs vk
  started = record { near = lists.0; far = lists.1 }

  pub root-far : row_at vs vk 0 ≡ []
  root-far = root-v d keys own total us uk vs vk counted started (root-no-u d keys own total us uk vs vk counted started lists.2) (root-no-v d keys own total us uk vs vk counted started lists.2)

  arranged : AllIndices order (sum own)
  arranged = (arranges-iff order (sum own)).0 (and_r (lists_are d keys own us uk vs vk) _ p.built)

  pub reads : Read order readings
  reads = record { indexed = λ q l. omega (arith, arranged.below q l, read.number); small = all_small readings read.sizes }

  pub entries : length order ≡ sum own
  entries = arranged.entries

  pub most : sum own ≤ most_sources
  most = w.total

  -- each leaf has passed the sum check's own checks
  leaf-done : (i : ℕ) → i < length keys → leaf d keys (get_or keys i 0) ≡ true → sum_check d (columns keys own begin total) order readings us uk vs vk i ≡ accepted
  leaf-done i l y = sym (C.sum_done d keys own begin total readings order us uk vs vk i p.read true (C.a-node d keys i l true (sym y)) refl true (sym p.built) refl)

  -- ---- a node below the root: a leaf stands under it
  module _ (i : ℕ) (some : 0 < i) (l : i < length keys) where
    abbrev k : ℕ
    k = get_or keys i 0

    pub deep : 0 < level_of k
    deep = level-pos d keys w.ascending i some l

    under : Line d keys own begin t k
    under = line d keys own begin t k (i, l, refl) deep

    abbrev j : ℕ
    j = under.node.0

    there : sum_check d (columns keys own begin total) order readings us uk vs vk j ≡ accepted
    there = leaf-done j under.node.1 (subst (λ x. leaf d keys x ≡ true) (sym under.node.2) under.leaf's)

    ends : under.end ≡ get_or keys j 0
    ends = sym under.node.2

    above : Mem k (ancestors d (get_or keys j 0))
    above = subst (λ x. Mem k (ancestors d x)) ends under.above

    pub u_starts : StartsRight keys us uk
    u_starts = (L.rows d keys own begin total readings order us uk vs vk j there).0

    pub v_starts : StartsRight keys vs vk
    v_starts = (L.rows d keys own begin total readings order us uk vs vk j there).1

    far-few : far_count d keys total vs vk k ≤ sum own
    far-few = omega (arith, up-part d (λ a. sources_in keys total (row_of keys vs vk a)) (get_or keys j 0) k above, L.far-few d keys own begin total readings order us uk vs vk j there)

    pub cells_few : far_cells d keys vs vk k ≤ most_sources
    cells_few = omega (
      arith,
      up-part d (λ a. length (row_of keys vs vk a)) (get_or keys j 0) k above,
      L.cells_few d keys own begin total readings order us uk vs vk j there,
      L.far-few d keys own begin total readings order us uk vs vk j there,
      most,
    )

    row-few : sources_in keys total (row_at vs vk i) ≤ most_sources
    row-few = omega (arith, up_more d (λ a. sources_in keys total (row_of keys vs vk a)) k deep, far-few, ap (sources_in keys total) (row-at vs vk i l), most)

    module _ (sums : List ℕ) (before : Before order readings sums) where
      pub summed : Summed d keys total begin order readings sums
      summed = record { columns = L.far-columns d keys own begin total readings order us uk vs vk j there; read = reads; before = before }

      pub far-asked : RowAsked d keys total begin order readings sums vs vk i
      far-asked = record { summed = summed; starts_right = v_starts; within = l; few = row-few }

      size : (xs : List ℕ) → sum (map (λ a. row_lifted keys total begin order readings (row_of keys vs vk a)) xs) ≤ sum (map (λ a. sources_in keys total (row_of keys vs vk a)) xs) * 2199023255552
      unfolding sum
      size [] = omega arith
      size (a ∷ xs) = omega (arith, size xs, row-size d keys total begin order readings sums summed (row_of keys vs vk a))

      pub far-size : far_lifted d keys total begin order readings vs vk k ≤ 2305843009213693952
      far-size = omega (arith, size (ancestors d k), far-few, most)

    -- ---- a leaf
    module _ (y : leaf d keys k ≡ true) where
      here : sum_check d (columns keys own begin total) order readings us uk vs vk i ≡ accepted
      here = leaf-done i l y

      met_all : sources_in keys total (row_at us uk i) + far_count d keys total vs vk k ≡ sum own
      met_all = sym (met_is d keys own total us uk vs vk counted (record { near = u_starts; far = v_starts }) (L.rows d keys own begin total readings order us uk vs vk i here).2.passing i l)
          ∙ L.adds d keys own begin total readings order us uk vs vk i here

      pub near-asked : (sums : List ℕ) → Before order readings sums → RowAsked d keys total begin order readings sums us uk i
      near-asked sums before = record { summed = summed sums before; starts_right = u_starts; within = l; few = omega (arith, met_all, most) }

      agree : near_sum d keys own begin order readings (u_row d keys own) k +ℤ far_sum d keys own begin order readings (v_row d keys own) k ≡ plain_sum readings
      agree = together d keys own begin order readings formed' (u_row d keys own) (v_row d keys own) (λ x m. refl) (λ x m. refl)
          arranged read.number k (i, l, refl) y

      pub agrees-here : 1 ≡ bit (agrees d (columns keys own begin total) order readings k)
      unfolding agrees
      agrees-here =
          let z = near_sum d keys own begin order readings (u_row d keys own) k +ℤ far_sum d keys own begin order readings (v_row d keys own) k in
          let e : nat_abs (z -ℤ plain_sum readings) ≡ 0 = ap (λ x. nat_abs (x -ℤ plain_sum readings)) agree ∙ ap nat_abs (+ℤ_invr (plain_sum readings)) in
          sym (ap bit (ap₂ ◌&&◌ y (eq-eqb (nat_abs (z -ℤ plain_sum readings)) 0 e)))

      u-entry : (x : ℕ) → Mem x (row_of keys us uk k) → Mem x keys × (leaf d keys x ≡ true)
      u-entry x n = let q = (L.rows d keys own begin total readings order us uk vs vk i here).2.passing.u_passes k x (i, l, refl) n in (q.0, u-leaf d keys own k x q.1)

      -- a leaf owns what is in its cell
      owns : (x : ℕ) → Mem x (row_of keys us uk k) → own_of keys total x ≡ own_of keys own x
      owns x n = let q = u-entry x n in L.total-in d keys own begin total readings order us uk vs vk i here x q.0 ∙ leaf-total d keys own begin t x q.1 q.0

      near-row : row_at us uk i ≡ u_row d keys own k
      near-row = sym (row-at us uk i l) ∙ (L.gives d keys own begin total readings order us uk vs vk i here).0 k (i, l, refl)

      near-is : addedℤ (node_readings keys total begin order readings) (row_at us uk i) ≡ near_sum d keys own begin order readings (u_row d keys own) k
      unfolding near_sum node_readings
      near-is = ap (addedℤ (node_readings keys total begin order readings)) (sym (row-at us uk i l))
          ∙ total-same (pos 0) ◌+ℤ◌ wholes (node_readings keys total begin order readings) (node_readings keys own begin order readings) (row_of keys us uk k)
          (λ x n. ap (λ c. addedℤ (reading_at order readings) (range (own_of keys begin x) c)) (owns x n))
          ∙ ap (addedℤ (node_readings keys own begin order readings)) (row-at us uk i l ∙ near-row)

      module _ (sums : List ℕ) (before : Before order readings sums) (near count met listed : ℕ)
          (near-sum : near ≡ row_lifted keys total begin order readings (row_at us uk i)) (near-count : count ≡ sources_in keys total (row_at us uk i))
          (far-known : FarKnown d keys total begin order readings vs vk i met listed) where
        m : Summed d keys total begin order readings sums
        m = summed sums before

        near-lifts : Lifts near (near_sum d keys own begin order readings (u_row d keys own) k) count
        near-lifts = ap pos near-sum ∙ row-lifts d keys total begin order readings sums m (row_at us uk i) ∙ ap₂ (λ x c. x +ℤ pos (c * largest)) near-is (sym near-count)

        far-lifts : Lifts met (far_sum d keys own begin order readings (v_row d keys own) k) (far_count d keys total vs vk k)
        far-lifts = ap pos far-known.met_is
            ∙ lifts-all (λ a. row_lifted keys total begin order readings (row_of keys vs vk a)) (λ a. addedℤ (node_readings keys total begin order readings) (row_of keys vs vk a)) (λ a. sources_in keys total (row_of keys vs vk a)) (ancestors d k) (λ a. row-lifts d keys total begin order readings sums m (row_of keys vs vk a))
            ∙ ap (λ x. x +ℤ pos (far_count d keys total vs vk k * largest)) (L.far-is d keys own begin total readings order us uk vs vk i here)

        all-lifts : Lifts (get_or sums (length order) 0) (plain_sum readings) (sum own)
        all-lifts = ap pos (before.is (length order) (omega arith))
            ∙ run-lifts order readings reads 0 (length order) (omega arith)
            ∙ ap₂ (λ x c. x +ℤ pos (c * largest)) (ap (λ n. addedℤ (reading_at order readings) (range 0 n)) entries
            ∙ total-arranged (pos 0) ◌+ℤ◌ wholes (λ i. get_or readings i (pos 0)) order (sum own) arranged
            ∙ ap (λ n. addedℤ (λ i. get_or readings i (pos 0)) (range 0 n)) (sym read.number)) entries

        -- the two sums as they were added up are together the sum of all
        pub sums-agree : near + met ≡ get_or sums (length order) 0
        sums-agree = ap nat_abs (lifts-plus near met (near_sum d keys own begin order readings (u_row d keys own) k) (far_sum d keys own begin order readings (v_row d keys own) k) count (far_count d keys total vs vk k) near-lifts far-lifts
            ∙ ap₂ (λ x c. x +ℤ pos (c * largest)) agree (ap (◌+ far_count d keys total vs vk k) near-count ∙ met_all) ∙ sym all-lifts)

        pub sums-fit : near + met < 18446744073709551616
        sums-fit = omega (arith, far-size sums before, far-known.met_is, near-sum, near-count, row-size d keys total begin order readings sums m (row_at us uk i), met_all, most)

        pub additions-is : count + listed ≡ additions_at d (columns keys own begin total) order readings k
        unfolding additions
        additions-is = ap₂ ◌+◌ (near-count ∙ ap (sources_in keys total) (sym (row-at us uk i l)) ∙ sum_same (own_of keys total) (own_of keys own) (row_of keys us uk k) owns ∙ ap (sources_in keys own) (row-at us uk i l ∙ near-row))
            (far-known.listed_is ∙ L.cells_is d keys own begin total readings order us uk vs vk i here)
            ∙ sym (ap (λ b. cond b (additions d keys own (u_row d keys own) (v_row d keys own) k) 0) y)

        pub additions-fit : count + listed ≤ 2097152
        additions-fit = omega (arith, near-count, met_all, far-known.listed_is, cells_few, most)

  -- ---- a node that is no leaf
  pub inner-agrees : (b : ℕ) → leaf d keys b ≡ false → 0 ≡ bit (agrees d (columns keys own begin total) order readings b)
  unfolding agrees
  inner-agrees b n = sym (ap (λ x. bit (x && eqb (nat_abs (near_sum d keys own begin order readings (u_row d keys own) b +ℤ far_sum d keys own begin order readings (v_row d keys own) b -ℤ plain_sum readings)) 0)) n)

  pub inner-additions : (b : ℕ) → leaf d keys b ≡ false → 0 ≡ additions_at d (columns keys own begin total) order readings b
  inner-additions b n = sym (ap (λ x. cond x (additions d keys own (u_row d keys own) (v_row d keys own) b) 0) n)
