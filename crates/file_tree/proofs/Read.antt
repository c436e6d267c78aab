-- The pass over rows whose numbers were read: the laws of `tree` at those numbers.
use mathlib.Core.Path.{◌≡◌, refl, sym, ap, ap₂, ◌∙◌, subst}
use mathlib.Core.Bool.{Bool, true, false, ◌&&◌}
use mathlib.Core.List.{List}
use Prim.Native.Nat.{ℕ, suc, ◌+◌, ◌-◌, ◌%◌, ◌≤◌, ◌<◌}
use native.Mathlib.Omega.{arith}
use lib.Dec.{eqb}
use lib.ListN.{length, get_or, set, replicate}
use borrow.Author.Tests.{eqb-true, eq-eqb}
use Rattle.slices.proofs.Tests.{and_r, clash, refute}
use Rattle.morton.specs.Keys.{axes_known, level_of}
use Rattle.tree.specs.WellFormed.{most_sources, well_formed}
use Rattle.tree.specs.Pass.{follows, may_own, rows_right, Rooted, Rowed}
use Rattle.tree.proofs.Pass as P
use Rattle.tree.proofs.Waiting as W
use Rattle.tree.proofs.Rules.{all-facts}
use Rattle.tree.proofs.Follow.{root-no-leaf}
use Rattle.slices.specs.Lists.{sum}
use Rattle.sums.specs.Tells.{Tells}
use Rattle.sums.proofs.Tells.{tell-true, tell-false}
use Rattle.file_tree.specs.Rows.{OneLength, RootRow}

-- ---- row i against the one before it

module _ (d : ℕ) (keys own begin : List ℕ) (r : Rooted d keys own begin) (run i : ℕ) (a : P.Passed d keys own begin run i) (l : i < length keys) (p k : ℕ) (ep : p ≡ get_or keys (i - 1) 0) (ek : k ≡ get_or keys i 0) where
  follow-is : follows d p k ≡ follows d (get_or keys (i - 1) 0) (get_or keys i 0)
  follow-is = ap₂ (follows d) ep ek

  pub bad-row : (b : Bool) → b ≡ follows d p k → b ≡ false → false ≡ rows_right d keys own begin
  bad-row b e f = P.bad-row d keys own begin r run i a l (sym follow-is ∙ sym e ∙ f)

  module _ (o : ℕ) (eo : o ≡ get_or own (i - 1) 0) where
    own_is : may_own p k o ≡ may_own (get_or keys (i - 1) 0) (get_or keys i 0) (get_or own (i - 1) 0)
    own_is = ap₂ (λ (x y : ℕ). may_own x y o) ep ek ∙ ap (may_own (get_or keys (i - 1) 0) (get_or keys i 0)) eo

    pub bad-own : (b : Bool) → b ≡ may_own p k o → b ≡ false → false ≡ rows_right d keys own begin
    bad-own b e f = P.bad-own d keys own begin r run i a l (sym own_is ∙ sym e ∙ f)

    module _ (g : ℕ) (eg : g ≡ get_or begin i 0) where
      pub bad-begin : (g ≡ run → ⊥) → false ≡ rows_right d keys own begin
      bad-begin n = P.bad-begin d keys own begin r run i a l (λ e. n (eg ∙ e))

      module _ (m : ℕ) (em : m ≡ get_or own i 0) where
        pub too_many : most_sources - run < m → false ≡ rows_right d keys own begin
        too_many n = P.too_many d keys own begin r run i a l (subst (λ x. most_sources - run < x) em n)

        pub pass-more : (b c : Bool) → b ≡ follows d p k → b ≡ true → c ≡ may_own p k o → c ≡ true → g ≡ run → m ≤ most_sources - run → P.Passed d keys own begin (run + m) (i + 1)
        pass-more b c e f h q z n = subst (λ x. P.Passed d keys own begin (run + x) (i + 1)) (sym em)
            (P.pass-more d keys own begin r run i a l (sym follow-is ∙ sym e ∙ f) (sym own_is ∙ sym h ∙ q) (sym eg ∙ z) (subst (λ x. x ≤ most_sources - run) em n))

-- ---- the total of row i

module _ (d : ℕ) (keys own begin total : List ℕ) (r : Rowed d keys own begin total) (w : List ℕ) (n i : ℕ) (a : W.Totalled d keys own total w n) (e : n ≡ suc i)
    (k o t : ℕ) (ek : k ≡ get_or keys i 0) (eo : o ≡ get_or own i 0) (et : t ≡ get_or total i 0) where
  pub level_in : k % 32768 ≤ 16
  level_in = subst (λ x. x % 32768 ≤ 16) (sym ek) (W.level_in d keys own begin total r w n i a e)

  pub long : length w ≡ 18
  long = a.waits.long

  pub sum_fits : o + get_or w (k % 32768 + 1) 0 ≤ 2097152
  sum_fits = subst (λ x. x + get_or w (k % 32768 + 1) 0 ≤ 2097152) (sym eo) (subst (λ x. get_or own i 0 + get_or w (x % 32768 + 1) 0 ≤ 2097152) (sym ek) (W.sum_fits d keys own begin total r w n i a e))

  pub more-fits : get_or (set w (k % 32768 + 1) 0) (k % 32768) 0 + (o + get_or w (k % 32768 + 1) 0) ≤ 3145728
  more-fits = subst (λ x. get_or (set w (k % 32768 + 1) 0) (k % 32768) 0 + (x + get_or w (k % 32768 + 1) 0) ≤ 3145728) (sym eo)
      (subst (λ x. get_or (set w (x % 32768 + 1) 0) (x % 32768) 0 + (get_or own i 0 + get_or w (x % 32768 + 1) 0) ≤ 3145728) (sym ek) (W.more-fits d keys own begin total r w n i a e))

  sum_is : o + get_or w (k % 32768 + 1) 0 ≡ get_or own i 0 + get_or w (level_of (get_or keys i 0) + 1) 0
  sum_is = ap₂ (λ (x y : ℕ). x + get_or w (y % 32768 + 1) 0) eo ek

  pub bad-total : (t ≡ o + get_or w (k % 32768 + 1) 0 → ⊥) → false ≡ well_formed d keys own begin total
  bad-total h = W.bad-total d keys own begin total r w n i a e (λ q. h (et ∙ q ∙ sym sum_is))

  pub totals-more : t ≡ o + get_or w (k % 32768 + 1) 0 → W.Totalled d keys own total (set (set w (k % 32768 + 1) 0) (k % 32768) (get_or (set w (k % 32768 + 1) 0) (k % 32768) 0 + (o + get_or w (k % 32768 + 1) 0))) i
  totals-more h = subst (λ x. W.Totalled d keys own total (set (set w (k % 32768 + 1) 0) (k % 32768) (get_or (set w (k % 32768 + 1) 0) (k % 32768) 0 + (x + get_or w (k % 32768 + 1) 0))) i) (sym eo)
      (subst (λ x. W.Totalled d keys own total (set (set w (x % 32768 + 1) 0) (x % 32768) (get_or (set w (x % 32768 + 1) 0) (x % 32768) 0 + (get_or own i 0 + get_or w (x % 32768 + 1) 0))) i) (sym ek)
      (W.totals-more d keys own begin total r w n i a e (sym et ∙ h ∙ sum_is) _ refl _ refl))

-- ---- lengths, first row, rows

module _ (d : ℕ) (known : axes_known d ≡ true) (keys own begin total : List ℕ) where
  no : (well_formed d keys own begin total ≡ true → ⊥) → false ≡ well_formed d keys own begin total
  no f = sym (refute f)

  pub other_length : (b : Bool) → Tells (OneLength keys own begin total) b → b ≡ false → false ≡ well_formed d keys own begin total
  other_length b t e = no (λ h. let w = all-facts d keys own begin total h in tell-false b t e (record { some = w.some; owns = w.owns; begins = w.begins; totals = w.totals }))

  pub other-root : (b : Bool) → Tells (RootRow keys own begin) b → b ≡ false → false ≡ well_formed d keys own begin total
  unfolding sum
  other-root b t e = no (λ h. let w = all-facts d keys own begin total h in tell-false b t e (record {
    root = w.rows.tree.ascending.root;
    rootless = w.rows.inner 0 w.some (root-no-leaf d keys own w.rows.tree);
    first = w.rows.runs 0 w.some;
  }))

  pub rooted : (b c : Bool) → Tells (OneLength keys own begin total) b → b ≡ true → Tells (RootRow keys own begin) c → c ≡ true → Rooted d keys own begin
  rooted b c t e u f =
      let x = tell-true b t e in
      let y = tell-true c u f in
      record { axes = known; owns = x.owns; begins = x.begins; some = x.some; root = y.root; rootless = y.rootless; first = y.first }

  pub other-rows : (b : Bool) → b ≡ rows_right d keys own begin → b ≡ false → false ≡ well_formed d keys own begin total
  other-rows b e f = no (λ h. let w = all-facts d keys own begin total h in clash (P.facts-rows d keys own begin w.owns w.rows) (sym e ∙ f))

  pub rowed : (b c : Bool) → Tells (OneLength keys own begin total) b → b ≡ true → c ≡ rows_right d keys own begin → c ≡ true → Rowed d keys own begin total
  rowed b c t e u f = let x = tell-true b t e in record { owns = x.owns; begins = x.begins; totals = x.totals; some = x.some; rows = sym u ∙ f }

-- ---- what a test of lengths and of the first row tells

module _ (keys own begin total : List ℕ) where
  pub by_length : (n o b t : ℕ) → n ≡ length keys → o ≡ length own → b ≡ length begin → t ≡ length total → 1 ≤ n → o ≡ n → b ≡ n → Tells (OneLength keys own begin total) (eqb t n)
  by_length n o b t en eo eb et h ho hb = go (eqb t n) refl
    where
      go : (r : Bool) → eqb t n ≡ r → Tells (OneLength keys own begin total) r
      go true q = let z = eqb-true t n q in record { some = omega arith; owns = omega arith; begins = omega arith; totals = omega arith }
      go false q = λ x. clash (eq-eqb t n (et ∙ x.totals ∙ sym en)) q

  pub by-root : (k o b : ℕ) → k ≡ get_or keys 0 0 → o ≡ get_or own 0 0 → b ≡ get_or begin 0 0 → k ≡ 0 → o ≡ 0 → Tells (RootRow keys own begin) (eqb b 0)
  by-root k o b ek eo eb hk ho = go (eqb b 0) refl
    where
      go : (r : Bool) → eqb b 0 ≡ r → Tells (RootRow keys own begin) r
      go true q = record { root = sym ek ∙ hk; rootless = sym eo ∙ ho; first = sym eb ∙ eqb-true b 0 q }
      go false q = λ x. clash (eq-eqb b 0 (eb ∙ x.first)) q
