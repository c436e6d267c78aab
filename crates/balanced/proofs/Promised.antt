-- Document 02, order 9: what holds of the tree that the call has written, where it was not refused.
use mathlib.Core.Path.{◌≡◌, sym, ap, ap₂, ◌∙◌}
use mathlib.Core.Bool.{true}
use mathlib.Core.List.{List}
use Prim.Native.Nat.{ℕ, ◌≤◌, ◌<◌}
use native.Mathlib.Omega.{arith}
use lib.Dec.{eqb}
use lib.Ieee.{Float}
use lib.ListN.{length, get_or}
use borrow.Author.Tests.{eqb-true}
use Rattle.slices.specs.Lists.{range}
use Rattle.slices.specs.Order.{ascending}
use Rattle.slices.proofs.Counts.{pos-count}
use Rattle.space.specs.declared.Box.{Box}
use Rattle.space.specs.Cells.{frame_of}
use Rattle.space.specs.Rows.{rows_of}
use Rattle.space.proofs.Batches.{codes-length}
use Rattle.laying.specs.Points.{codes_of}
use Rattle.tree.specs.Columns.{Columns, columns}
use Rattle.tree.specs.Order.{depth_of}
use Rattle.tree.specs.Totals.{total_column}
use Rattle.tree.specs.WellFormed.{well_formed, Run}
use Rattle.tree.proofs.Verdict.{formed-of}
use Rattle.rows.specs.Demand3.{Runs, Once, Near, Far, Few}
use Rattle.rows.specs.Lists.{u_row, v_row}
use Rattle.rows.proofs.Demand3.{demand-3}
use Rattle.growth.specs.Columns.{own_column, begin_column, order_column}
use Rattle.growth.proofs.Arranged.{once-times}
use Rattle.growth.proofs.Runs.{Placed, placed, own-order}
use Rattle.balance.specs.Balance.{Tree, Contains, Balanced, Balances}
use Rattle.balance.proofs.Balance as B
use Rattle.balance.proofs.Columns as C
use Rattle.balanced.specs.Outcomes.{given_check, new_keys, new_own, new_begins, new_totals, new_order_of}
use Rattle.balanced.proofs.Tests.{beside, own-given, order-given, begin-given, total-given}
use Rattle.balanced.proofs.Verdict.{passed}
use Rattle.balanced.proofs.Finish.{keys-known, settles}
use Rattle.refusal.specs.Outcome.{accepted}

-- the tree that the call writes
module _ (b : Box) (points : List Float) (t : Columns) (order : List ℕ) where
  -- its U and V rows
  abbrev pub u : ℕ → List ℕ
  u = u_row b.axes (new_keys b points t order) (new_own b points t order)

  abbrev pub v : ℕ → List ℕ
  v = v_row b.axes (new_keys b points t order) (new_own b points t order)

  -- the tender's third demand
  pub record Demand3 : Type 0 where
    -- each place of the order column lies in the run of one leaf
    pub runs : Runs b.axes (new_keys b points t order) (new_own b points t order) (new_begins b points t order)
    -- each leaf meets each source exactly once, over its own U row and the V rows of itself and all its ancestors
    pub once : Once b.axes (new_keys b points t order) (new_own b points t order) (new_begins b points t order) u v
    -- in U exactly when the two leaves' cells at the coarser one's level coincide or touch
    pub near : Near b.axes (new_keys b points t order) (new_own b points t order) (new_begins b points t order) u
    -- no V row pairs touching cells, and none is too long
    pub far : Far b.axes (new_keys b points t order) v
    pub few : Few b.axes (new_keys b points t order) v

  -- every column is the given one
  pub record Same : Type 0 where
    pub keys : new_keys b points t order ≡ t.keys
    pub own : new_own b points t order ≡ t.own
    pub begins : new_begins b points t order ≡ t.begin
    pub totals : new_totals b points t order ≡ t.total
    pub places : new_order_of b points t order ≡ order

module _ (b : Box) (points : List Float) (keys own begin total order : List ℕ) (ok : given_check b points (columns keys own begin total) order ≡ accepted) where
  -- it contains all cells of the given tree, is balanced, and every tree with these properties contains it
  pub is-least : Balances b.axes keys (new_keys b points (columns keys own begin total) order)
  is-least = B.balances-depth-first b.axes keys (B.tree_of b.axes keys (keys-known b points keys own begin total order ok))

  -- it is as deep as the given tree
  pub as-deep : depth_of (new_keys b points (columns keys own begin total) order) ≡ depth_of keys
  as-deep = B.as-deep b.axes keys (new_keys b points (columns keys own begin total) order) (B.tree_of b.axes keys (keys-known b points keys own begin total order ok)) is-least

  -- a balanced tree comes back the same
  pub comes_back : Balanced b.axes keys → new_keys b points (columns keys own begin total) order ≡ keys
  comes_back = B.same_keys b.axes keys (keys-known b points keys own begin total order ok)

  -- and so do all its columns
  pub all-come-back : Balanced b.axes keys → Same b points (columns keys own begin total) order
  all-come-back even =
      let p = passed b points keys own begin total order ok in
      let s = codes_of b points in
      let bs = beside b points keys own begin total order p.tree p.formed p.inside in
      let same = comes_back even in
      let owned = own-given b.axes s keys own begin order p.tree bs p.given in
      let own_same : new_own b points (columns keys own begin total) order ≡ own = ap (λ (ks : List ℕ). own_column b.axes ks s) same ∙ sym owned in
      record {
        keys = same;
        own = own_same;
        begins = ap begin_column (own_same ∙ owned) ∙ sym (begin-given b.axes s keys own begin order p.tree bs p.given);
        totals = ap₂ (total_column b.axes) same own_same ∙ sym (total-given b.axes keys own begin total p.formed);
        places = ap (λ (ks : List ℕ). order_column b.axes ks s) same ∙ sym (order-given b.axes s keys own begin order p.tree bs p.given);
      }

  -- no tree with these properties has fewer cells
  pub fewest : (other : List ℕ) → Tree b.axes other → Contains keys other → Balanced b.axes other → length (new_keys b points (columns keys own begin total) order) ≤ length other
  fewest other = B.fewest-depth-first b.axes keys other (B.tree_of b.axes keys (keys-known b points keys own begin total order ok))

  few : length (codes_of b points) ≤ 1048576
  few = omega (arith, codes-length (rows_of b points) (frame_of b) points, (settles b points keys own begin total order ok).few)

  -- it is well formed
  pub well-formed : well_formed b.axes (new_keys b points (columns keys own begin total) order) (new_own b points (columns keys own begin total) order)
      (new_begins b points (columns keys own begin total) order) (new_totals b points (columns keys own begin total) order) ≡ true
  well-formed = let s = settles b points keys own begin total order ok in C.well-formed b.axes _ (codes_of b points) s.tree s.once few

  -- and its order column has each point once
  pub order-arranged : ascending (new_order_of b points (columns keys own begin total) order) ≡ range 0 (length (codes_of b points))
  order-arranged = let s = settles b points keys own begin total order ok in C.order-arranged b.axes _ (codes_of b points) s.tree s.once

  -- the point at a place in a node's run is in that node's cell, which is a leaf
  pub point-placed : (j p : ℕ) → Run (new_own b points (columns keys own begin total) order) (new_begins b points (columns keys own begin total) order) j p
      → Placed b.axes (new_keys b points (columns keys own begin total) order) (codes_of b points) j p
  point-placed = placed b.axes (new_keys b points (columns keys own begin total) order) (codes_of b points)

  -- demand 3 holds of it
  pub meets-demand-3 : Demand3 b points (columns keys own begin total) order
  meets-demand-3 =
      let s = settles b points keys own begin total order ok in
      let whole = demand-3 b.axes _ (new_own b points (columns keys own begin total) order) (new_begins b points (columns keys own begin total) order)
      (formed-of b.axes _ _ _ (new_totals b points (columns keys own begin total) order) well-formed) s.tree.axes in
      record { runs = whole.0; once = whole.1; near = whole.2; far = whole.3; few = whole.4 }

  -- and each point has a place in the run of a leaf
  pub has-place : (x : ℕ) → x < length (codes_of b points)
      → (j : ℕ) × (p : ℕ) × Run (new_own b points (columns keys own begin total) order) (new_begins b points (columns keys own begin total) order) j p × (get_or (new_order_of b points (columns keys own begin total) order) p 0 ≡ x)
  has-place x h =
      let cells = new_keys b points (columns keys own begin total) order in
      let one = once-times b.axes cells (codes_of b points) (settles b points keys own begin total order ok).once x h in
      let r = pos-count (λ y. eqb y x) (new_order_of b points (columns keys own begin total) order) (omega (arith, one)) in
      let (j, run) = meets-demand-3.runs.one r.1.0 (omega (arith, r.1.1, own-order b.axes cells (codes_of b points))) in
      (j, r.1.0, run, r.1.2 ∙ eqb-true r.0 x r.2)
