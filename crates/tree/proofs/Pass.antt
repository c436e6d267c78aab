-- The pass over the rows: what is known after i of them, and that the first wrong row decides.
use mathlib.Core.Path.{◌≡◌, refl, sym, ap, ◌∙◌}
use mathlib.Core.Bool.{Bool, true, false, ◌&&◌}
use mathlib.Core.List.{List}
use Prim.Native.Nat.{ℕ, zero, suc, ◌+◌, ◌*◌, ◌-◌, ◌≤◌, ◌<◌}
use native.Mathlib.Omega.{arith}
use native.Mathlib.Nat.{mul-zero}
use native.Mathlib.Decide.{dec_lt}
use lib.ListN.{length, get_or, take}
use Rattle.slices.specs.Lists.{sum}
use Rattle.slices.proofs.Tests.{and_l, and_r, both, clash, refute}
use Rattle.morton.specs.Keys.{valid}
use Rattle.tree.specs.WellFormed.{most_sources, parents_stored, leaves_own, runs_add}
use Rattle.tree.proofs.Clauses.{parents-facts, facts-parents, leaves-facts, facts-leaves, runs-facts, facts-runs}
use Rattle.slices.proofs.Sums.{sum-take, sum-whole}
use Rattle.tree.proofs.Adding.{Added, add_start, add-more, add_done}
use Rattle.tree.specs.WellFormed.{keys_ascend}
use Rattle.tree.specs.Pass.{follows, may_own, rows_right, Rooted}
use Rattle.tree.proofs.Rules.{Ascending, Tree, Rows, ascend-facts, facts-ascend}
use Rattle.tree.proofs.Follow.{Follows, follow-facts, valid-next, rows-tree, tree-follows, inner-may, may-inner}

module _ (d : ℕ) (keys own begin : List ℕ) where
  pub rows-facts : length own ≡ length keys → rows_right d keys own begin ≡ true → Rows d keys own begin
  unfolding rows_right
  rows-facts same h =
      let r2 = and_r (keys_ascend d keys) _ h in
      let r3 = and_r (parents_stored d keys) _ r2 in
      let runs = runs-facts own begin (and_r (leaves_own d keys own) _ r3) in
      record {
        tree = record { ascending = ascend-facts d keys (and_l _ _ h); parents = parents-facts d keys (and_l _ _ r2) };
        inner = leaves-facts d keys own (and_l _ _ r3);
        runs = λ i l. runs.0 i (omega arith);
        most = runs.1;
      }

  pub facts-rows : length own ≡ length keys → Rows d keys own begin → rows_right d keys own begin ≡ true
  unfolding rows_right
  facts-rows same w =
      both (facts-ascend d keys w.tree.ascending)
      (both (facts-parents d keys w.tree.parents)
      (both (facts-leaves d keys own w.inner)
      (facts-runs own begin (λ i l. w.runs i (omega arith)) w.most)))

pub record Passed (d : ℕ) (keys own begin : List ℕ) (run i : ℕ) : Type 0 where
  pub some : 1 ≤ i
  pub most : i ≤ length keys
  pub sound : (j : ℕ) → j < i → valid d (get_or keys j 0) ≡ true
  pub steps : (j : ℕ) → suc j < i → follows d (get_or keys j 0) (get_or keys (suc j) 0) ≡ true
  pub may : (j : ℕ) → suc j < i → may_own (get_or keys j 0) (get_or keys (suc j) 0) (get_or own j 0) ≡ true
  pub added : Added own begin run i

module _ (d : ℕ) (keys own begin : List ℕ) (r : Rooted d keys own begin) where
  broken : (Rows d keys own begin → ⊥) → false ≡ rows_right d keys own begin
  broken f = sym (refute (λ h. f (rows-facts d keys own begin r.owns h)))

  pub pass-start : Passed d keys own begin 0 1
  pass-start = record {
    some = omega arith;
    most = r.some;
    sound = λ j h. let e : j ≡ 0 = omega arith in rw (e, r.root, mul-zero);
    steps = λ j h. absurd (omega arith);
    may = λ j h. absurd (omega arith);
    added = add_start own begin (omega (arith, r.some, r.owns)) r.first r.rootless;
  }

  pub pass-done : (run i : ℕ) → Passed d keys own begin run i → length keys ≤ i → true ≡ rows_right d keys own begin
  pass-done run i a h =
      let sound : (j : ℕ) → j < length keys → valid d (get_or keys j 0) ≡ true = λ j l. a.sound j (omega arith) in
      let steps : (j : ℕ) → suc j < length keys → Follows d (get_or keys j 0) (get_or keys (suc j) 0) = λ j l. follow-facts d (get_or keys j 0) (get_or keys (suc j) 0) (a.steps j (omega arith)) in
      let t = rows-tree d keys r.root r.some steps sound in
      let runs = add_done own begin run i a.added (omega (arith, r.owns)) in
      sym (facts-rows d keys own begin r.owns (record {
        tree = t;
        inner = may-inner d keys own t r.rootless (λ j l. a.may j (omega arith));
        runs = λ j l. runs.0 j (omega (arith, r.owns));
        most = runs.1;
      }))

  module _ (run i : ℕ) (a : Passed d keys own begin run i) (l : i < length keys) where
    back : suc (i - 1) ≡ i
    back = omega (arith, a.some)

    pub last-valid : valid d (get_or keys (i - 1) 0) ≡ true
    last-valid = a.sound (i - 1) (omega (arith, a.some))

    pub bad-row : follows d (get_or keys (i - 1) 0) (get_or keys i 0) ≡ false → false ≡ rows_right d keys own begin
    bad-row b = broken (λ w. clash (rw back at (tree-follows d keys own w.tree (i - 1) (omega (arith, a.some)))) b)

    pub bad-own : may_own (get_or keys (i - 1) 0) (get_or keys i 0) (get_or own (i - 1) 0) ≡ false → false ≡ rows_right d keys own begin
    bad-own b = broken (λ w. clash (rw back at (inner-may d keys own w.tree w.inner (i - 1) (omega (arith, a.some)))) b)

    pub bad-begin : (get_or begin i 0 ≡ run → ⊥) → false ≡ rows_right d keys own begin
    bad-begin n = broken (λ w. n (w.runs i l ∙ sym a.added.adds))

    pub too_many : most_sources - run < get_or own i 0 → false ≡ rows_right d keys own begin
    too_many n = broken (λ w.
        let lo : i < length own = omega (arith, r.owns) in
        omega (arith, w.most, a.added.adds, a.added.small, sum-take own i, sum-whole own (suc i)))

    pub pass-more : follows d (get_or keys (i - 1) 0) (get_or keys i 0) ≡ true → may_own (get_or keys (i - 1) 0) (get_or keys i 0) (get_or own (i - 1) 0) ≡ true
        → get_or begin i 0 ≡ run → get_or own i 0 ≤ most_sources - run → Passed d keys own begin (run + get_or own i 0) (i + 1)
    pass-more f o e n = record {
      some = omega arith;
      most = omega arith;
      sound = λ j h. here j h (dec_lt j i);
      steps = λ j h. step j h (dec_lt (suc j) i);
      may = λ j h. mays j h (dec_lt (suc j) i);
      added = add-more own begin run i a.added (omega (arith, r.owns)) e n;
    }
      where
        here : (j : ℕ) → j < i + 1 → Dec (j < i) → valid d (get_or keys j 0) ≡ true
        here j h (yes k) = a.sound j k
        here j h (no k) = let e : j ≡ i = omega arith in rw e (valid-next d (get_or keys (i - 1) 0) (get_or keys i 0) last-valid (follow-facts d (get_or keys (i - 1) 0) (get_or keys i 0) f))

        step : (j : ℕ) → suc j < i + 1 → Dec (suc j < i) → follows d (get_or keys j 0) (get_or keys (suc j) 0) ≡ true
        step j h (yes k) = a.steps j k
        step j h (no k) = let e : suc j ≡ i = omega arith in let g : j ≡ i - 1 = omega arith in rw (e, g) f

        mays : (j : ℕ) → suc j < i + 1 → Dec (suc j < i) → may_own (get_or keys j 0) (get_or keys (suc j) 0) (get_or own j 0) ≡ true
        mays j h (yes k) = a.may j k
        mays j h (no k) = let e : suc j ≡ i = omega arith in let g : j ≡ i - 1 = omega arith in rw (e, g) o
