-- What a build returns, for every build that is not refused: a well-formed tree over all sources, each in one leaf's part of the
-- order column, and the tender's third demand for the sources handed in.
use mathlib.Core.Path.{◌≡◌, sym, ap, ◌∙◌}
use mathlib.Core.Bool.{Bool, true, cond}
use mathlib.Core.List.{List, []}
use Prim.Native.Nat.{ℕ, ◌+◌, ◌*◌, ◌-◌, ◌≤◌, ◌<◌}
use native.Mathlib.Omega.{arith}
use lib.Dec.{eqb}
use lib.ListN.{length, get_or, drop, replicate, length-append}
use borrow.Author.Tests.{eqb-true}
use Rattle.refusal.specs.declared.Refusal.TheVariants.{Source}
use Rattle.refusal.specs.Chain.{ask, ◌then◌}
use Rattle.refusal.proofs.Chain.{asked, both-done}
use Rattle.slices.specs.Lists.{filter, sum, range, bit, filled}
use Rattle.slices.specs.Order.{ascending}
use Rattle.morton.specs.Keys.{axes_known, holds}
use Rattle.morton.specs.Anchors.{close}
use Rattle.axes.proofs.Known.{axes-known}
use Rattle.space.specs.Cells.{frame_of, inside}
use Rattle.space.proofs.Batches.{codes-length, row_inside}
use Rattle.tree.specs.Nodes.{leaf}
use Rattle.tree.specs.Order.{depth_of}
use Rattle.tree.specs.WellFormed.{well_formed, most_sources, Run}
use Rattle.tree.specs.Sources.{leaf_sources, cell_sources}
use Rattle.tree.proofs.Verdict.{formed-of}
use Rattle.tree.proofs.Column.{column-root}
use Rattle.tree.proofs.CellRuns.{cell-length}
use Rattle.rows.specs.Lists.{u_row, v_row}
use Rattle.rows.specs.Demand3.{brings, meetings, Far, Few}
use Rattle.rows.proofs.Demand3.{demand-3}
use Rattle.tree.specs.Leaves.{leaf_key}
use Rattle.growth.specs.Columns.{indices_in}
use Rattle.growth.proofs.Arranged.{length-indices, order-arranged, order-length}
use Rattle.growth.proofs.Formed.{well-formed, own-total, depth-most}
use Rattle.growth.proofs.CellTotals.{total_here}
use Rattle.growth.proofs.CellPlaces.{place-holds, source-placed}
use Rattle.growth.proofs.Found.{source-found}
use Rattle.growth.proofs.Runs.{leaf-part}
use Rattle.growth.proofs.Meets.{meets-once, meets-near}
use Rattle.space.specs.Rows.{rows_of, rows_inside, wall_of}
use Rattle.laying.specs.Points.{codes_of}
use Rattle.laying.specs.Outcomes.{asked_outcome, inside_outcome, work_outcome}
use Rattle.laying.proofs.Calls.{Called, checked}
use Rattle.build.specs.Asked.{Asked, rule_of, built_keys, built_own, built_begins, built_totals, built_order}
use Rattle.build.specs.Outcomes.{column_outcome, build_outcome}
use Rattle.build.proofs.Growing.{codes-lt}
use Rattle.refusal.specs.Outcome.{accepted}

module _ (a : Asked) where
  -- the number of axes, how many sources are handed in, and the level-16 code of each
  abbrev pub axes : ℕ
  axes = a.box.axes

  abbrev pub count : ℕ
  count = rows_of a.box a.sources

  abbrev pub sources : List ℕ
  sources = codes_of a.box a.sources

  -- the leaf of source number x
  abbrev pub leaf_of : ℕ → ℕ
  leaf_of x = leaf_key axes (built_keys a) (get_or sources x 0)

  -- the U and V rows of the tree
  abbrev pub u : ℕ → List ℕ
  u = u_row axes (built_keys a) (built_own a)

  abbrev pub v : ℕ → List ℕ
  v = v_row axes (built_keys a) (built_own a)

  abbrev targets : List ℕ
  targets = codes_of a.box a.targets

  as_many : length sources ≡ count
  as_many = codes-length count (frame_of a.box) a.sources

  pub record Demand3 : Type 0 where
    -- each leaf meets each source exactly once, over its own U row and the V rows of itself and all its ancestors
    pub once : (b x : ℕ) → leaf axes (built_keys a) b ≡ true → x < count → meetings axes u v b (leaf_of x) ≡ 1
    -- in U exactly when the two leaves' cells at the coarser one's level coincide or touch
    pub near : (b x : ℕ) → leaf axes (built_keys a) b ≡ true → x < count → brings axes (leaf_of x) (u b) ≡ bit (close axes b (leaf_of x))
    -- no V row pairs touching cells, and none is too long
    pub far : Far axes (built_keys a) v
    pub few : Few axes (built_keys a) v

-- a build that is not refused, with so much work, room in the order column and room in the node columns
module _ (a : Asked) (work order nodes : ℕ) (done : build_outcome a work order nodes ≡ accepted) where
  points-done : a.early then asked_outcome a.box a.sources a.targets a.order then inside_outcome a.box a.sources a.targets ≡ accepted
  points-done = (both-done _ (work_outcome a.box a.sources a.held work) (both-done _ (column_outcome a order nodes) done).0).0

  asked-done : asked_outcome a.box a.sources a.targets a.order ≡ accepted
  asked-done = (both-done a.early (asked_outcome a.box a.sources a.targets a.order) (both-done _ (inside_outcome a.box a.sources a.targets) points-done).0).1

  checks : Called a.box a.sources a.targets a.order
  checks = checked a.box a.sources a.targets a.order asked-done

  pub built-axes : axes_known (axes a) ≡ true
  built-axes = axes-known (axes a) checks.box.least checks.box.most

  pub built-few : count a ≤ most_sources
  built-few = checks.few

  few : length (sources a) ≤ most_sources
  few = omega (arith, as_many a, built-few)

  -- every source is inside the box
  pub built-inside : (x : ℕ) → x < count a → inside (frame_of a.box) (drop (x * axes a) a.sources) ≡ true
  unfolding inside_outcome
  built-inside x h =
      let inner = (both-done (a.early then asked_outcome a.box a.sources a.targets a.order) (inside_outcome a.box a.sources a.targets) points-done).1 in
      let first = (both-done (ask (eqb (rows_inside a.box a.sources) (count a)) (Source (wall_of a.box a.sources))) _ inner).0 in
      let all : rows_inside a.box a.sources ≡ count a = eqb-true (rows_inside a.box a.sources) (count a) (asked _ _ first) in
      row_inside (count a) x (frame_of a.box) a.sources (omega (arith, all))

  -- the tree is well formed
  pub built-formed : well_formed (axes a) (built_keys a) (built_own a) (built_begins a) (built_totals a) ≡ true
  unfolding built_keys built_own built_begins built_totals
  built-formed = well-formed (rule_of a) (sources a) (targets a) built-axes (codes-lt a.box a.sources) few

  -- each total is the number of the sources whose code lies in that cell
  pub built-totals : (j : ℕ) → j < length (built_keys a) → get_or (built_totals a) j 0 ≡ length (filter (λ x. holds (axes a) (get_or (built_keys a) j 0) (get_or (sources a) x 0)) (range 0 (count a)))
  unfolding built_keys built_own built_totals indices_in
  built-totals j h =
      total_here (rule_of a) (sources a) (targets a) built-axes (codes-lt a.box a.sources) j h
      ∙ sym (length-indices (axes a) (sources a) (get_or (built_keys a) j 0))
      ∙ ap (λ (n : ℕ). length (filter (λ x. holds (axes a) (get_or (built_keys a) j 0) (get_or (sources a) x 0)) (range 0 n))) (as_many a)

  -- what all leaves own is the number of sources
  pub built-total : sum (built_own a) ≡ count a
  unfolding built_keys built_own
  built-total = own-total (rule_of a) (sources a) (targets a) built-axes (codes-lt a.box a.sources) ∙ as_many a

  -- and so is the root's total
  pub built-root : get_or (built_totals a) 0 0 ≡ count a
  built-root = column-root (axes a) (built_keys a) (built_own a) (built_begins a) (built_totals a) built-formed ∙ built-total

  -- its depth is at most 16
  pub built-depth : depth_of (built_keys a) ≤ 16
  unfolding built_keys
  built-depth = depth-most (rule_of a) (sources a) (targets a) built-axes

  -- the order column is an arrangement of all source indices
  pub built-order : ascending (built_order a) ≡ range 0 (count a)
  unfolding built_keys built_order
  built-order = order-arranged (rule_of a) (sources a) (targets a) built-axes (codes-lt a.box a.sources) ∙ ap (range 0) (as_many a)

  -- a leaf's part of it: the indices of the sources whose code lies in that leaf, ascending
  pub built-part : (j : ℕ) → j < length (built_keys a) → leaf (axes a) (built_keys a) (get_or (built_keys a) j 0) ≡ true
      → leaf_sources (built_own a) (built_begins a) (built_order a) j ≡ filter (λ x. holds (axes a) (get_or (built_keys a) j 0) (get_or (sources a) x 0)) (range 0 (count a))
  unfolding built_own built_begins built_order indices_in
  built-part j h l =
      leaf-part (axes a) (built_keys a) (sources a) j h
      ∙ ap (λ (b : Bool). cond b (indices_in (axes a) (sources a) (get_or (built_keys a) j 0)) []) l
      ∙ ap (λ (n : ℕ). filter (λ x. holds (axes a) (get_or (built_keys a) j 0) (get_or (sources a) x 0)) (range 0 n)) (as_many a)

  order-long : length (built_order a) ≡ sum (built_own a)
  unfolding built_keys built_own built_order
  order-long =
      order-length (rule_of a) (sources a) (targets a) built-axes (codes-lt a.box a.sources)
      ∙ sym (own-total (rule_of a) (sources a) (targets a) built-axes (codes-lt a.box a.sources))

  -- any cell's part of the slice that the call was lent for it: as many entries as the cell's total
  pub built-cell : (room j : ℕ) → j < length (built_keys a) → length (cell_sources (built_totals a) (built_begins a) (filled room (built_order a)) j) ≡ get_or (built_totals a) j 0
  built-cell room = cell-length (axes a) (built_keys a) (built_own a) (built_begins a) (built_totals a) (filled room (built_order a)) built-formed
      (omega (arith, order-long, length-append (built_order a) (replicate (room - length (built_order a)) 0)))

  -- each holds the index of a source in the cell
  pub built-cell-holds : (j p : ℕ) → j < length (built_keys a) → get_or (built_begins a) j 0 ≤ p → p < get_or (built_begins a) j 0 + get_or (built_totals a) j 0
      → (get_or (built_order a) p 0 < length (sources a)) × (holds (axes a) (get_or (built_keys a) j 0) (get_or (sources a) (get_or (built_order a) p 0) 0) ≡ true)
  unfolding built_keys built_own built_begins built_totals built_order
  built-cell-holds j p l = place-holds (rule_of a) (sources a) (targets a) built-axes (codes-lt a.box a.sources) few j l p

  -- and each source in the cell has its index there
  pub built-cell-all : (j x : ℕ) → j < length (built_keys a) → x < length (sources a) → holds (axes a) (get_or (built_keys a) j 0) (get_or (sources a) x 0) ≡ true
      → (p : ℕ) × (get_or (built_begins a) j 0 ≤ p) × (p < get_or (built_begins a) j 0 + get_or (built_totals a) j 0) × (get_or (built_order a) p 0 ≡ x)
  unfolding built_keys built_own built_begins built_totals built_order
  built-cell-all j x l = source-placed (rule_of a) (sources a) (targets a) built-axes (codes-lt a.box a.sources) few j l x

  -- a source whose index stands in a node's run has that node as its leaf
  pub built-leaf : (j p : ℕ) → Run (built_own a) (built_begins a) j p → leaf_of a (get_or (built_order a) p 0) ≡ get_or (built_keys a) j 0
  unfolding built_keys built_own built_begins built_order
  built-leaf j p r = source-found (rule_of a) (sources a) (targets a) built-axes j p r

  -- the tender's third demand
  built-once : (b x : ℕ) → leaf (axes a) (built_keys a) b ≡ true → x < count a → meetings (axes a) (u a) (v a) b (leaf_of a x) ≡ 1
  unfolding built_keys built_own
  built-once b x l h = meets-once (rule_of a) (sources a) (targets a) built-axes (codes-lt a.box a.sources) few b x l (omega (arith, as_many a))

  built-near : (b x : ℕ) → leaf (axes a) (built_keys a) b ≡ true → x < count a → brings (axes a) (leaf_of a x) (u a b) ≡ bit (close (axes a) b (leaf_of a x))
  unfolding built_keys built_own
  built-near b x l h = meets-near (rule_of a) (sources a) (targets a) built-axes (codes-lt a.box a.sources) few b x l (omega (arith, as_many a))

  pub built-demand-3 : Demand3 a
  built-demand-3 =
      let whole = demand-3 (axes a) (built_keys a) (built_own a) (built_begins a) (formed-of (axes a) (built_keys a) (built_own a) (built_begins a) (built_totals a) built-formed) built-axes in
      record { once = built-once; near = built-near; far = whole.3; few = whole.4 }
