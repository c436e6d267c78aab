-- The clauses of the rule that no order of the nodes is in, as facts of each node.
use mathlib.Core.Path.{◌≡◌, refl, sym, ap, ◌∙◌}
use mathlib.Core.Bool.{Bool, true, false, ◌&&◌, ◌||◌, not}
use mathlib.Core.List.{List, [], ◌∷◌}
use mathlib.Core.Logic.{◌↔◌}
use Prim.Native.Nat.{ℕ, zero, suc, ◌+◌, ◌-◌, ◌≤◌, ◌<◌}
use native.Mathlib.Omega.{arith}
use lib.Dec.{leb, ltb, eqb}
use lib.ListN.{length, get_or, take}
use borrow.Author.Tests.{ltb-true, leb-true, eqb-true, eqb-false, lt-ltb, le-leb, eq-eqb, ne_eqb}
use Rattle.slices.specs.Lists.{any, sum}
use Rattle.slices.specs.Every.{every}
use Rattle.slices.proofs.Tests.{and_l, and_r, both}
use Rattle.morton.specs.Keys.{valid, parent}
use Rattle.tree.specs.Nodes.{stored, leaf}
use Rattle.tree.specs.WellFormed.{most_sources, parents_stored, leaves_own, runs_add}
use Rattle.slices.proofs.Every.{every-at, every-all}
use Rattle.slices.proofs.Tests.{or-not, or_right}

module _ (d : ℕ) (keys : List ℕ) where
  pub parents-facts : parents_stored d keys ≡ true → (i : ℕ) → 0 < i → i < length keys → stored keys (parent d (get_or keys i 0)) ≡ true
  unfolding parents_stored
  parents-facts h i p l = or-not (eqb i 0) _ (every-at (λ i. eqb i 0 || stored keys (parent d (get_or keys i 0))) (length keys) h i l) (ne_eqb i 0 (λ e. omega arith))

  pub facts-parents : ((i : ℕ) → 0 < i → i < length keys → stored keys (parent d (get_or keys i 0)) ≡ true) → parents_stored d keys ≡ true
  unfolding parents_stored
  facts-parents f = every-all (λ i. eqb i 0 || stored keys (parent d (get_or keys i 0))) (length keys)
      (λ i l. or_right (eqb i 0) _ (λ e. let n = eqb-false i 0 e in f i (omega arith) l))

  module _ (own : List ℕ) where
    pub leaves-facts : leaves_own d keys own ≡ true → (i : ℕ) → i < length keys → leaf d keys (get_or keys i 0) ≡ false → get_or own i 0 ≡ 0
    unfolding leaves_own
    leaves-facts h i l f = eqb-true (get_or own i 0) 0 (or-not (leaf d keys (get_or keys i 0)) _ (every-at (λ i. leaf d keys (get_or keys i 0) || eqb (get_or own i 0) 0) (length keys) h i l) f)

    pub facts-leaves : ((i : ℕ) → i < length keys → leaf d keys (get_or keys i 0) ≡ false → get_or own i 0 ≡ 0) → leaves_own d keys own ≡ true
    unfolding leaves_own
    facts-leaves f = every-all (λ i. leaf d keys (get_or keys i 0) || eqb (get_or own i 0) 0) (length keys)
        (λ i l. or_right (leaf d keys (get_or keys i 0)) _ (λ e. eq-eqb (get_or own i 0) 0 (f i l e)))

module _ (own begin : List ℕ) where
  pub runs-facts : runs_add own begin ≡ true → ((i : ℕ) → i < length own → get_or begin i 0 ≡ sum (take i own)) × (sum own ≤ most_sources)
  unfolding runs_add
  runs-facts h = (
    λ i l. eqb-true (get_or begin i 0) (sum (take i own)) (every-at (λ i. eqb (get_or begin i 0) (sum (take i own))) (length own) (and_l _ _ h) i l),
    leb-true (sum own) most_sources (and_r (every (length own) (λ i. eqb (get_or begin i 0) (sum (take i own)))) _ h),
  )

  pub facts-runs : ((i : ℕ) → i < length own → get_or begin i 0 ≡ sum (take i own)) → sum own ≤ most_sources → runs_add own begin ≡ true
  unfolding runs_add
  facts-runs f t = both (every-all (λ i. eqb (get_or begin i 0) (sum (take i own))) (length own) (λ i l. eq-eqb (get_or begin i 0) (sum (take i own)) (f i l))) (le-leb (sum own) most_sources t)
