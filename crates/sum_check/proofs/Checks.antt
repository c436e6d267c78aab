-- The chain of refusals, and what is known where it has passed.
use mathlib.Core.Path.{◌≡◌, refl, sym, ap, ap₂, ◌∙◌, subst}
use mathlib.Core.Bool.{Bool, true, false, ◌&&◌}
use mathlib.Core.List.{List}
use Prim.Native.Nat.{ℕ, ◌≤◌, ◌<◌}
use native.Mathlib.Omega.{arith}
use lib.Dec.{ltb, eqb}
use lib.IntN.{ℤ}
use lib.ListN.{length, get_or}
use borrow.Author.Tests.{eq-eqb, ne_eqb, eqb-true, ltb-true, le-ltb, lt-ltb}
use Rattle.slices.specs.Lists.{sum}
use Rattle.slices.proofs.Tests.{and_l, and_r, both}
use Rattle.refusal.specs.declared.Refusal.{Refusal}
use Rattle.refusal.specs.declared.Refusal.TheVariants.{Dims, Shape, Tree, NotLeaf, NotBuilt, Reading}
use Rattle.refusal.specs.Chain.{ask, ◌then◌}
use Rattle.refusal.proofs.Chain.{both-done, asked}
use Rattle.morton.specs.Keys.{axes_known}
use Rattle.tree.specs.Columns.{columns}
use Rattle.tree.specs.Nodes.{leaf}
use Rattle.tree.specs.Finding.{TreeKeys}
use Rattle.tree.specs.WellFormed.{well_formed}
use Rattle.tree.proofs.Column.{column-root}
use Rattle.tree.proofs.Rules.{all-facts}
use Rattle.sourced.specs.Answers.{tree_check}
use Rattle.sourced.proofs.Checks.{passed, passed-totals}
use Rattle.sums.specs.Right.{Flat, lists_are}
use Rattle.sums.specs.Arrangement.{AllIndices, arranges}
use Rattle.sums.proofs.Flat.{lists-are}
use Rattle.sums.proofs.Arranged.{arranges-iff}
use Rattle.list_rows.specs.Entries.{Counted}
use Rattle.list_rows.proofs.Entries.{tree-keys}
use Rattle.sum_check.specs.Checks.{first_large, readings_check, is_leaf_at, is_built, sum_check}
use Rattle.refusal.specs.Outcome.{Outcome, accepted}
use Rattle.std.specs.Prelude.{Err}

module _ (d : ℕ) (keys own begin total : List ℕ) where
  module _ (done : tree_check d (columns keys own begin total) ≡ accepted) where
    pub well : well_formed d keys own begin total ≡ true
    well = asked (well_formed d keys own begin total) Tree (both-done (ask (axes_known d) Dims) (ask (well_formed d keys own begin total) Tree) done).1

    pub counted : Counted d keys own total
    counted = record { tree = passed d keys own begin total done; totals = passed-totals d keys own begin total done }

    pub all-sources : get_or total 0 0 ≡ sum own
    all-sources = column-root d keys own begin total well

    pub root_in : 0 < length total
    root_in = let w = all-facts d keys own begin total well in omega (arith, w.totals, w.some)

    pub known : TreeKeys d keys
    known = tree-keys d keys own (passed d keys own begin total done)

    module _ (order us uk vs vk : List ℕ) where
      pub not-lists : (r : Bool) → r ≡ lists_are d keys own us uk vs vk → r ≡ false → false ≡ is_built d (columns keys own begin total) order us uk vs vk
      not-lists r e n = sym (ap (λ b. b && arranges order (sum own)) (sym e ∙ n))

      pub by_order : (r : Bool) → r ≡ lists_are d keys own us uk vs vk → r ≡ true → (b : Bool) → b ≡ arranges order (get_or total 0 0) → b ≡ is_built d (columns keys own begin total) order us uk vs vk
      by_order r e y b q = q ∙ ap (arranges order) all-sources ∙ sym (ap (λ z. z && arranges order (sum own)) (sym e ∙ y))

  module _ (readings : List ℤ) where
    abbrev check : Outcome
    check = readings_check d (columns keys own begin total) readings

    pub not-tree : (r : Refusal) → tree_check d (columns keys own begin total) ≡ Err r → Err r ≡ check
    not-tree r e = sym (ap (λ o. o then ask (eqb (length readings) (sum own)) Shape then ask (eqb (first_large readings) (length readings)) (Reading (first_large readings))) e)

    module _ (done : tree_check d (columns keys own begin total) ≡ accepted) where
      pub other-number : (length readings ≡ get_or total 0 0 → ⊥) → Err Shape ≡ check
      other-number n = sym (ap₂ (λ o b. o then ask b Shape then ask (eqb (first_large readings) (length readings)) (Reading (first_large readings))) done (ne_eqb (length readings) (sum own) (λ e. n (e ∙ sym (all-sources done)))))

      module _ (same : length readings ≡ get_or total 0 0) (large : ℕ) (is : large ≡ first_large readings) where
        front : tree_check d (columns keys own begin total) then ask (eqb (length readings) (sum own)) Shape ≡ accepted
        front = ap₂ (λ o b. o then ask b Shape) done (eq-eqb (length readings) (sum own) (same ∙ all-sources done))

        pub too_large : (large ≡ length readings → ⊥) → Err (Reading large) ≡ check
        too_large n = ap (λ i. Err (Reading i)) is ∙ sym (ap₂ (λ o b. o then ask b (Reading (first_large readings))) front (ne_eqb (first_large readings) (length readings) (λ e. n (is ∙ e))))

        pub readings-done : large ≡ length readings → accepted ≡ check
        readings-done e = sym (ap₂ (λ o b. o then ask b (Reading (first_large readings))) front (eq-eqb (first_large readings) (length readings) (sym is ∙ e)))

    -- what has passed
    pub record Read : Type 0 where
      pub tree : tree_check d (columns keys own begin total) ≡ accepted
      pub number : length readings ≡ sum own
      pub sizes : first_large readings ≡ length readings

    pub read : check ≡ accepted → Read
    read e =
        let (a, b) = both-done (tree_check d (columns keys own begin total) then ask (eqb (length readings) (sum own)) Shape) (ask (eqb (first_large readings) (length readings)) (Reading (first_large readings))) e in
        let (t, n) = both-done (tree_check d (columns keys own begin total)) (ask (eqb (length readings) (sum own)) Shape) a in
        record { tree = t; number = eqb-true (length readings) (sum own) (asked _ Shape n); sizes = eqb-true (first_large readings) (length readings) (asked _ (Reading (first_large readings)) b) }

    module _ (order us uk vs vk : List ℕ) (node : ℕ) where
      abbrev whole : Outcome
      whole = sum_check d (columns keys own begin total) order readings us uk vs vk node

      abbrev built : Bool
      built = is_built d (columns keys own begin total) order us uk vs vk

      pub not-read : (r : Refusal) → check ≡ Err r → Err r ≡ whole
      not-read r e = sym (ap (λ o. o then ask (is_leaf_at d keys node) (NotLeaf node) then ask built NotBuilt) e)

      module _ (done : check ≡ accepted) (r : Bool) (e : r ≡ is_leaf_at d keys node) where
        pub not-leaf : r ≡ false → Err (NotLeaf node) ≡ whole
        not-leaf n = sym (ap₂ (λ o b. o then ask b (NotLeaf node) then ask built NotBuilt) done (sym e ∙ n))

        module _ (y : r ≡ true) (b : Bool) (q : b ≡ built) where
          front-leaf : check then ask (is_leaf_at d keys node) (NotLeaf node) ≡ accepted
          front-leaf = ap₂ (λ o b. o then ask b (NotLeaf node)) done (sym e ∙ y)

          pub sum_done : b ≡ true → accepted ≡ whole
          sum_done h = sym (ap₂ (λ o b. o then ask b NotBuilt) front-leaf (sym q ∙ h))

          pub not-built : b ≡ false → Err NotBuilt ≡ whole
          not-built h = sym (ap₂ (λ o b. o then ask b NotBuilt) front-leaf (sym q ∙ h))

      pub record Checked : Type 0 where
        pub readings-read : Read
        pub within : node < length keys
        pub is_leaf : leaf d keys (get_or keys node 0) ≡ true
        pub flat : Flat d keys own us uk vs vk
        pub arranged : AllIndices order (sum own)

      pub checked : whole ≡ accepted → Checked
      checked e =
          let (a, b) = both-done (check then ask (is_leaf_at d keys node) (NotLeaf node)) (ask built NotBuilt) e in
          let (c, l) = both-done check (ask (is_leaf_at d keys node) (NotLeaf node)) a in
          let r = read c in
          let t = passed d keys own begin total r.tree in
          let h = asked (is_leaf_at d keys node) (NotLeaf node) l in
          let g = asked built NotBuilt b in
          record {
            readings-read = r;
            within = ltb-true node (length keys) (and_l _ _ h);
            is_leaf = and_r (ltb node (length keys)) _ h;
            flat = (lists-are d keys own t.begin t.sound us uk vs vk).0 (and_l _ _ g);
            arranged = (arranges-iff order (sum own)).0 (and_r (lists_are d keys own us uk vs vk) _ g);
          }

-- a number past the columns
pub no_node : (d : ℕ) (keys : List ℕ) (node : ℕ) → length keys ≤ node → false ≡ is_leaf_at d keys node
no_node d keys node h = sym (ap (λ b. b && leaf d keys (get_or keys node 0)) (le-ltb node (length keys) h))

pub a-node : (d : ℕ) (keys : List ℕ) (node : ℕ) → node < length keys → (r : Bool) → r ≡ leaf d keys (get_or keys node 0) → r ≡ is_leaf_at d keys node
a-node d keys node h r e = e ∙ sym (ap (λ b. b && leaf d keys (get_or keys node 0)) (lt-ltb node (length keys) h))
