-- Salvage of what a salvage gave changes nothing; and both theorems of a call that was not refused.
use mathlib.Core.Path.{◌≡◌}
use mathlib.Core.Bool.{true, ◌&&◌}
use mathlib.Core.List.{List, []}
use Prim.Native.Nat.{ℕ, ◌≤◌, min}
use lib.Dec.{leb, eqb}
use lib.ListN.{length}
use borrow.Author.Tests.{leb-true}
use Rattle.refusal.specs.declared.Refusal.TheVariants.{Dims, Shape, Tree as NoTree, Room}
use Rattle.refusal.specs.Chain.{ask, ◌then◌}
use Rattle.refusal.proofs.Chain.{asked, both-done}
use Rattle.slices.specs.Lists.{sum}
use Rattle.morton.specs.Keys.{axes_known}
use Rattle.tree.specs.WellFormed.{most_sources, well_formed}
use Rattle.salvaged.specs.Nodes.{Input, input}
use Rattle.salvaged.specs.Columns.{new_keys, new_own, new_sources, new_begins, new_totals, new_order_of}
use Rattle.salvaged.specs.Changes.{changed_keys, change_codes}
use Rattle.salvaged.specs.Answers.{Rooms, node_room, salvage_check}
use Rattle.salvaged.proofs.Formed.{well-formed, order-length}
use Rattle.salvaged.proofs.Same as S
use Rattle.refusal.specs.Outcome.{accepted}

-- what it gave, as an input
abbrev pub again : Input → Input
again i = input i.axes (new_keys i) (new_own i) (new_begins i) (new_order_of i)

pub record Unchanged (i : Input) (total : List ℕ) : Type 0 where
  pub keys : new_keys i ≡ i.key
  pub own : new_own i ≡ i.own
  pub begins : new_begins i ≡ i.begin
  pub totals : new_totals i ≡ total
  pub order : new_order_of i ≡ i.order
  pub changes : changed_keys i ≡ []
  pub codes : change_codes i ≡ []

module _ (i : Input) (known : axes_known i.axes ≡ true) where
  -- a well-formed input whose order column is exactly as long as its total comes back the same with an empty list
  pub comes_back : (total : List ℕ) → well_formed i.axes i.key i.own i.begin total ≡ true → length i.order ≡ sum i.own → Unchanged i total
  comes_back total w full = record {
    keys = S.same_keys i total known w full;
    own = S.same-own i total known w full;
    begins = S.same-begins i total known w full;
    totals = S.same-totals i total known w full;
    order = S.same-order i total known w full;
    changes = S.no-changes i total known w full;
    codes = S.no-codes i total known w full;
  }

pub again-same : (i : Input) → axes_known i.axes ≡ true → new_sources i ≤ most_sources → Unchanged (again i) (new_totals i)
again-same i known few = comes_back (again i) known (new_totals i) (well-formed i known few) (order-length i)

-- ---- of a call that was not refused

module _ (i : Input) (r : Rooms) (done : salvage_check i r ≡ accepted) where
  parts : (axes_known i.axes ≡ true) × (new_sources i ≤ most_sources)
  unfolding salvage_check
  parts =
      let a = (both-done _ (ask (leb (length (changed_keys i)) (min r.codes r.changed)) (Room 10)) done).0 in
      let b = (both-done _ (ask (leb (length (new_keys i)) (node_room r)) (Room 3)) a).0 in
      let c = (both-done _ (ask (leb (new_sources i) r.order) (Room 2)) b).0 in
      let e = both-done _ (ask (leb (new_sources i) most_sources) NoTree) c in
      let f = both-done _ (ask (eqb (length i.own) (length i.key) && eqb (length i.begin) (length i.key)) Shape) e.0 in
      (asked (axes_known i.axes) Dims f.0, leb-true (new_sources i) most_sources (asked (leb (new_sources i) most_sources) NoTree e.1))

  pub salvaged-formed : well_formed i.axes (new_keys i) (new_own i) (new_begins i) (new_totals i) ≡ true
  salvaged-formed = well-formed i parts.0 parts.1

  pub salvaged-again : Unchanged (again i) (new_totals i)
  salvaged-again = again-same i parts.0 parts.1
