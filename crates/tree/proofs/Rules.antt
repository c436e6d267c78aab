-- The well-formed rule as facts of each node's number, and that the test and the facts are one.
use mathlib.Core.Path.{◌≡◌, refl, sym, ap, ◌∙◌}
use mathlib.Core.Bool.{Bool, true, false, ◌&&◌, ◌||◌, not}
use mathlib.Core.List.{List, [], ◌∷◌}
use mathlib.Core.Logic.{◌↔◌}
use Prim.Native.Nat.{ℕ, zero, suc, ◌+◌, ◌-◌, ◌≤◌, ◌<◌}
use native.Mathlib.Omega.{arith}
use lib.Dec.{leb, ltb, eqb}
use lib.ListN.{length, get_or, take}
use borrow.Author.Tests.{ltb-true, leb-true, eqb-true, eqb-false, lt-ltb, le-leb, eq-eqb, ne_eqb}
use Rattle.slices.specs.Lists.{sum}
use Rattle.slices.specs.Every.{every}
use Rattle.slices.proofs.Tests.{and_l, and_r, both}
use Rattle.slices.proofs.Every.{every-at, every-all}
use Rattle.morton.specs.Keys.{valid, parent}
use Rattle.tree.specs.Nodes.{stored, leaf}
use Rattle.tree.specs.WellFormed.{most_sources, one_length, parents_stored, leaves_own, runs_add, totals_right}
use Rattle.tree.proofs.Clauses.{parents-facts, facts-parents, leaves-facts, facts-leaves, runs-facts, facts-runs}
use Rattle.tree.specs.Order.{before, in_order}
use Rattle.tree.specs.Totals.{total_in}
use Rattle.tree.specs.WellFormed.{keys_ascend, formed, well_formed}

pub record Ascending (d : ℕ) (keys : List ℕ) : Type 0 where
  pub root : get_or keys 0 0 ≡ 0
  pub sound : (i : ℕ) → i < length keys → valid d (get_or keys i 0) ≡ true
  pub ordered : (i : ℕ) → suc i < length keys → before d (get_or keys i 0) (get_or keys (suc i) 0) ≡ true

-- keys in order, each with its parent
pub record Tree (d : ℕ) (keys : List ℕ) : Type 0 where
  pub ascending : Ascending d keys
  pub parents : (i : ℕ) → 0 < i → i < length keys → stored keys (parent d (get_or keys i 0)) ≡ true

-- all but the totals
pub record Rows (d : ℕ) (keys own begin : List ℕ) : Type 0 where
  pub tree : Tree d keys
  pub inner : (i : ℕ) → i < length keys → leaf d keys (get_or keys i 0) ≡ false → get_or own i 0 ≡ 0
  pub runs : (i : ℕ) → i < length keys → get_or begin i 0 ≡ sum (take i own)
  pub most : sum own ≤ most_sources

-- the same as in document 01, flat: what the crates above ask of a tree, and no totals
pub record WellFormed (d : ℕ) (keys own begin : List ℕ) : Type 0 where
  pub owns : length own ≡ length keys
  pub begins : length begin ≡ length keys
  pub some : 0 < length keys
  pub ascending : Ascending d keys
  pub parents : (i : ℕ) → 0 < i → i < length keys → stored keys (parent d (get_or keys i 0)) ≡ true
  pub inner : (i : ℕ) → i < length keys → leaf d keys (get_or keys i 0) ≡ false → get_or own i 0 ≡ 0
  pub runs : (i : ℕ) → i < length keys → get_or begin i 0 ≡ sum (take i own)
  pub total : sum own ≤ most_sources

pub record Formed (d : ℕ) (keys own begin total : List ℕ) : Type 0 where
  pub owns : length own ≡ length keys
  pub begins : length begin ≡ length keys
  pub totals : length total ≡ length keys
  pub some : 0 < length keys
  pub rows : Rows d keys own begin
  pub totalled : (i : ℕ) → i < length keys → get_or total i 0 ≡ total_in d keys own (get_or keys i 0)

module _ (d : ℕ) (keys : List ℕ) where
  pub ascend-facts : keys_ascend d keys ≡ true → Ascending d keys
  unfolding keys_ascend in_order
  ascend-facts h =
      let b : every (length keys) (λ i. valid d (get_or keys i 0)) ≡ true = and_l _ _ (and_r (eqb (get_or keys 0 0) 0) _ h) in
      let c = and_r (every (length keys) (λ i. valid d (get_or keys i 0))) _ (and_r (eqb (get_or keys 0 0) 0) _ h) in
      record {
        root = eqb-true (get_or keys 0 0) 0 (and_l _ _ h);
        sound = every-at (λ i. valid d (get_or keys i 0)) (length keys) b;
        ordered = λ i l. every-at (λ i. before d (get_or keys i 0) (get_or keys (suc i) 0)) (length keys - 1) c i (omega arith);
      }

  pub facts-ascend : Ascending d keys → keys_ascend d keys ≡ true
  unfolding keys_ascend in_order
  facts-ascend a =
      both (eq-eqb (get_or keys 0 0) 0 a.root)
      (both (every-all (λ i. valid d (get_or keys i 0)) (length keys) a.sound)
      (every-all (λ i. before d (get_or keys i 0) (get_or keys (suc i) 0)) (length keys - 1) (λ i l. a.ordered i (omega arith))))

  module _ (own total : List ℕ) where
    pub total-facts : totals_right d keys own total ≡ true → (length total ≡ length keys) × ((i : ℕ) → i < length keys → get_or total i 0 ≡ total_in d keys own (get_or keys i 0))
    unfolding totals_right
    total-facts h = (
      eqb-true (length total) (length keys) (and_l _ _ h),
      λ i l. eqb-true (get_or total i 0) (total_in d keys own (get_or keys i 0)) (every-at (λ i. eqb (get_or total i 0) (total_in d keys own (get_or keys i 0))) (length keys) (and_r (eqb (length total) (length keys)) _ h) i l),
    )

    pub facts-total : length total ≡ length keys → ((i : ℕ) → i < length keys → get_or total i 0 ≡ total_in d keys own (get_or keys i 0)) → totals_right d keys own total ≡ true
    unfolding totals_right
    facts-total e f =
        both (eq-eqb (length total) (length keys) e)
        (every-all (λ i. eqb (get_or total i 0) (total_in d keys own (get_or keys i 0))) (length keys) (λ i l. eq-eqb (get_or total i 0) (total_in d keys own (get_or keys i 0)) (f i l)))

module _ (d : ℕ) (keys own begin : List ℕ) where
  pub facts : formed d keys own begin ≡ true → WellFormed d keys own begin
  unfolding formed
  facts h =
      let one : one_length keys own begin ≡ true = and_l _ _ h in
      let r0 = and_r (eqb (length own) (length keys)) _ one in
      let owns : length own ≡ length keys = eqb-true (length own) (length keys) (and_l _ _ one) in
      let r1 = and_r (one_length keys own begin) _ h in
      let r2 = and_r (keys_ascend d keys) _ r1 in
      let r3 = and_r (parents_stored d keys) _ r2 in
      let runs = runs-facts own begin (and_r (leaves_own d keys own) _ r3) in
      record {
        owns = owns;
        begins = eqb-true (length begin) (length keys) (and_l _ _ r0);
        some = ltb-true 0 (length keys) (and_r (eqb (length begin) (length keys)) _ r0);
        ascending = ascend-facts d keys (and_l _ _ r1);
        parents = parents-facts d keys (and_l _ _ r2);
        inner = leaves-facts d keys own (and_l _ _ r3);
        runs = λ i l. runs.0 i (omega arith);
        total = runs.1;
      }

  pub tested : WellFormed d keys own begin → formed d keys own begin ≡ true
  unfolding formed
  tested w =
      both (both (eq-eqb (length own) (length keys) w.owns) (both (eq-eqb (length begin) (length keys) w.begins) (lt-ltb 0 (length keys) w.some)))
      (both (facts-ascend d keys w.ascending)
      (both (facts-parents d keys w.parents)
      (both (facts-leaves d keys own w.inner)
      (facts-runs own begin (λ i l. w.runs i (omega (arith, w.owns))) w.total))))

  pub well-formed-iff : (formed d keys own begin ≡ true) ↔ WellFormed d keys own begin
  well-formed-iff = (facts, tested)

  pub rows_of : WellFormed d keys own begin → Rows d keys own begin
  rows_of w = record { tree = record { ascending = w.ascending; parents = w.parents }; inner = w.inner; runs = w.runs; most = w.total }

module _ (d : ℕ) (keys own begin total : List ℕ) where
  pub well : Formed d keys own begin total → WellFormed d keys own begin
  well w = record {
    owns = w.owns;
    begins = w.begins;
    some = w.some;
    ascending = w.rows.tree.ascending;
    parents = w.rows.tree.parents;
    inner = w.rows.inner;
    runs = w.rows.runs;
    total = w.rows.most;
  }

  pub all-facts : well_formed d keys own begin total ≡ true → Formed d keys own begin total
  unfolding well_formed
  all-facts h =
      let w = facts d keys own begin (and_l _ _ h) in
      let (totals, totalled) = total-facts d keys own total (and_r (formed d keys own begin) _ h) in
      record { owns = w.owns; begins = w.begins; totals = totals; some = w.some; rows = rows_of d keys own begin w; totalled = totalled }

  pub all_tested : Formed d keys own begin total → well_formed d keys own begin total ≡ true
  unfolding well_formed
  all_tested w = both (tested d keys own begin (well w)) (facts-total d keys own total w.totals w.totalled)
