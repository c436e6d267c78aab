-- A call with room for its columns takes every sound input and gives it back; and what a call gave, by the same rooms.
use mathlib.Core.Path.{◌≡◌, sym, ap, ◌∙◌, subst}
use mathlib.Core.Bool.{Bool, true, ◌&&◌}
use mathlib.Core.List.{List, []}
use Prim.Native.Nat.{ℕ, ◌≤◌, min}
use native.Mathlib.Omega.{arith}
use lib.Dec.{leb, eqb}
use lib.ListN.{length}
use borrow.Author.Tests.{le-leb, leb-true, eq-eqb}
use Rattle.refusal.specs.declared.Refusal.{Refusal}
use Rattle.refusal.specs.declared.Refusal.TheVariants.{Dims, Shape, Tree as NoTree, Room}
use Rattle.refusal.specs.Chain.{ask, ◌then◌}
use Rattle.refusal.specs.Left.{left}
use Rattle.refusal.proofs.Chain.{asked, both-done, after-done}
use Rattle.slices.specs.Lists.{sum, filled}
use Rattle.slices.proofs.Tests.{both}
use Rattle.slices.proofs.Lists.{filled_none}
use Rattle.morton.specs.Keys.{axes_known}
use Rattle.tree.specs.WellFormed.{most_sources, well_formed}
use Rattle.tree.proofs.Rules.{Formed, all-facts}
use Rattle.rows.specs.Lists.{u_row, v_row}
use Rattle.rows.specs.Demand3.{Runs, Once, Near, Far, Few}
use Rattle.salvaged.specs.declared.Salvaged.{Salvaged}
use Rattle.salvaged.specs.Nodes.{Input}
use Rattle.salvaged.specs.Columns.{new_keys, new_own, new_sources, new_begins, new_totals, new_order_of}
use Rattle.salvaged.specs.Changes.{changed_keys, change_codes}
use Rattle.salvaged.specs.Answers.{Rooms, node_room, salvage_check, counts}
use Rattle.salvaged.proofs.Formed as F
use Rattle.salvaged.proofs.Again.{again, Unchanged, comes_back, salvaged-formed}
use Rattle.salvage_promises.specs.Promises.{GivenBack}
use Rattle.refusal.specs.Outcome.{Answer, Outcome, accepted}
use Rattle.std.specs.Prelude.{Ok}

-- one more check that passes
one_more : (o : Outcome) (t : Bool) (f : Refusal) → o ≡ accepted → t ≡ true → o then ask t f ≡ accepted
one_more o t f d e = after-done o (ask t f) d ∙ ap (λ (b : Bool). ask b f) e

module _ (i : Input) (r : Rooms) where
  pub record Passes : Type 0 where
    pub known : axes_known i.axes ≡ true
    pub shape : eqb (length i.own) (length i.key) && eqb (length i.begin) (length i.key) ≡ true
    pub few : new_sources i ≤ most_sources
    pub order : new_sources i ≤ r.order
    pub nodes : length (new_keys i) ≤ node_room r

  -- the six checks, where each passes
  all_pass : Passes → length (changed_keys i) ≤ min r.codes r.changed → salvage_check i r ≡ accepted
  unfolding salvage_check
  all_pass p c =
      one_more _ (leb (length (changed_keys i)) (min r.codes r.changed)) (Room 10)
      (one_more _ (leb (length (new_keys i)) (node_room r)) (Room 3)
      (one_more _ (leb (new_sources i) r.order) (Room 2)
      (one_more _ (leb (new_sources i) most_sources) NoTree
      (one_more _ (eqb (length i.own) (length i.key) && eqb (length i.begin) (length i.key)) Shape
      (ap (λ (b : Bool). ask b Dims) p.known) p.shape)
      (le-leb (new_sources i) most_sources p.few))
      (le-leb (new_sources i) r.order p.order))
      (le-leb (length (new_keys i)) (node_room r) p.nodes))
      (le-leb (length (changed_keys i)) (min r.codes r.changed) c)

  -- and what a call that was not refused has passed
  pub all-passed : salvage_check i r ≡ accepted → Passes
  unfolding salvage_check
  all-passed done =
      let a = (both-done _ (ask (leb (length (changed_keys i)) (min r.codes r.changed)) (Room 10)) done).0 in
      let b = both-done _ (ask (leb (length (new_keys i)) (node_room r)) (Room 3)) a in
      let c = both-done _ (ask (leb (new_sources i) r.order) (Room 2)) b.0 in
      let e = both-done _ (ask (leb (new_sources i) most_sources) NoTree) c.0 in
      let f = both-done _ (ask (eqb (length i.own) (length i.key) && eqb (length i.begin) (length i.key)) Shape) e.0 in
      record {
        known = asked (axes_known i.axes) Dims f.0;
        shape = asked _ Shape f.1;
        few = leb-true (new_sources i) most_sources (asked (leb (new_sources i) most_sources) NoTree e.1);
        order = leb-true (new_sources i) r.order (asked (leb (new_sources i) r.order) (Room 2) c.1);
        nodes = leb-true (length (new_keys i)) (node_room r) (asked (leb (length (new_keys i)) (node_room r)) (Room 3) b.1);
      }

  module _ (known : axes_known i.axes ≡ true) (total : List ℕ) (sound : well_formed i.axes i.key i.own i.begin total ≡ true) (full : length i.order ≡ sum i.own)
      (order : sum i.own ≤ r.order) (nodes : length i.key ≤ node_room r) where
    same : Unchanged i total
    same = comes_back i known total sound full

    formed : Formed i.axes i.key i.own i.begin total
    formed = all-facts i.axes i.key i.own i.begin total sound

    passes : Passes
    passes = record {
      known = known;
      shape = both (eq-eqb (length i.own) (length i.key) formed.owns) (eq-eqb (length i.begin) (length i.key) formed.begins);
      few = subst (λ (l : List ℕ). sum l ≤ most_sources) (sym same.own) formed.rows.most;
      order = subst (λ (l : List ℕ). sum l ≤ r.order) (sym same.own) order;
      nodes = subst (λ (l : List ℕ). length l ≤ node_room r) (sym same.keys) nodes;
    }

    -- a sound input is taken, with no room for changes at all
    pub taken : salvage_check i r ≡ accepted
    taken = all_pass passes (subst (λ (l : List ℕ). length l ≤ min r.codes r.changed) (sym same.changes) (omega arith))

    stays : (n : ℕ) (answer column : List ℕ) → answer ≡ column → left (salvage_check i r) n answer ≡ filled n column
    stays n answer column e = ap (λ o. left o n answer) taken ∙ ap (filled n) e

    -- and given back as it is
    pub given_back : GivenBack i r total
    given_back = record {
      check = taken;
      answer = after-done (salvage_check i r) (Ok (counts i)) taken ∙ counted;
      order = stays r.order (new_order_of i) i.order same.order;
      keys = stays r.keys (new_keys i) i.key same.keys;
      own = stays r.own (new_own i) i.own same.own;
      begins = stays r.begins (new_begins i) i.begin same.begins;
      totals = stays r.totals (new_totals i) total same.totals;
      codes = stays r.codes (change_codes i) [] same.codes ∙ filled_none r.codes;
      changed = stays r.changed (changed_keys i) [] same.changes ∙ filled_none r.changed;
    }
      where
        tree : ℕ → ℕ → ℕ → Answer Salvaged
        tree n s c = Ok (record { nodes = n; sources = s; changes = c })

        counted : ◌≡◌ {A = Answer Salvaged} (Ok (counts i)) (Ok (record { nodes = length i.key; sources = sum i.own; changes = 0 }))
        counted =
            ap (λ (l : List ℕ). tree (length l) (new_sources i) (length (changed_keys i))) same.keys
            ∙ ap (λ (l : List ℕ). tree (length i.key) (sum l) (length (changed_keys i))) same.own
            ∙ ap (λ (l : List ℕ). tree (length i.key) (sum i.own) (length l)) same.changes

-- ---- of a call that was not refused

module _ (i : Input) (r : Rooms) (done : salvage_check i r ≡ accepted) where
  p : Passes i r
  p = all-passed i r done

  -- demand 3 holds of what it gave
  pub meets-demand-3 : Runs i.axes (new_keys i) (new_own i) (new_begins i)
      × Once i.axes (new_keys i) (new_own i) (new_begins i) (u_row i.axes (new_keys i) (new_own i)) (v_row i.axes (new_keys i) (new_own i))
      × Near i.axes (new_keys i) (new_own i) (new_begins i) (u_row i.axes (new_keys i) (new_own i))
      × Far i.axes (new_keys i) (v_row i.axes (new_keys i) (new_own i))
      × Few i.axes (new_keys i) (v_row i.axes (new_keys i) (new_own i))
  meets-demand-3 = F.demand-3 i p.known p.few

  -- what it gave is taken again by the same rooms, and given back as it is
  pub taken-again : salvage_check (again i) r ≡ accepted
  taken-again = taken (again i) r p.known (new_totals i) (salvaged-formed i r done) (F.order-length i) p.order p.nodes

  pub given-back-again : GivenBack (again i) r (new_totals i)
  given-back-again = given_back (again i) r p.known (new_totals i) (salvaged-formed i r done) (F.order-length i) p.order p.nodes
