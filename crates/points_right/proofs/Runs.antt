-- A run looked at place by place, and all runs of a tree.
use mathlib.Core.Path.{◌≡◌, refl, ap, subst}
use mathlib.Core.Bool.{Bool, true, false}
use mathlib.Core.List.{List}
use mathlib.Core.Logic.{⊎_elim}
use Prim.Native.Nat.{ℕ, suc, ◌+◌, ◌*◌, ◌-◌, ◌≤◌, ◌<◌}
use native.Mathlib.Omega.{arith}
use native.Mathlib.Nat.{mul-le-mul_right, suc-mul}
use lib.ListN.{length, get_or}
use Rattle.slices.specs.Lists.{sum}
use Rattle.slices.proofs.Tests.{clash, lt-or-le}
use Rattle.slices.proofs.Sums.{sum-take, sum-whole}
use Rattle.tree.proofs.Rules.{Formed}
use Rattle.points_right.specs.Points.{RunRight, PointsRight}

module _ (n : ℕ) (held : ℕ → ℕ → Bool) (order : List ℕ) (k from : ℕ) where
  -- the places before p are right, and an entry below `low` may not come next
  pub record Upto (low p : ℕ) : Type 0 where
    pub past : from ≤ p
    pub done : RunRight n held order k from p
    pub none : p ≤ from → low ≡ 0
    pub next : from < p → low ≡ suc (get_or order (p - 1) 0)

  pub upto-start : Upto 0 from
  upto-start = record {
    past = omega arith;
    done = record { index = λ p a b. absurd (omega arith); inside = λ p a b. absurd (omega arith); rises = λ p a b. absurd (omega arith) };
    none = λ _. refl;
    next = λ h. absurd (omega arith);
  }

  module _ (low p : ℕ) (u : Upto low p) where
    at_last : (q : ℕ) → p ≤ q → q < p + 1 → p ≡ q
    at_last q i b = omega arith

    back : p + 1 - 1 ≡ p
    back = omega arith

    pub upto-more : low ≤ get_or order p 0 → get_or order p 0 < n → held k (get_or order p 0) ≡ true → Upto (get_or order p 0 + 1) (p + 1)
    upto-more h l e = record {
      past = omega (arith, u.past);
      done = record {
        index = λ q a b. ⊎_elim (λ (i : q < p). u.done.index q a i) (λ (i : p ≤ q). subst (λ (x : ℕ). get_or order x 0 < n) (at_last q i b) l) (lt-or-le q p);
        inside = λ q a b. ⊎_elim (λ (i : q < p). u.done.inside q a i) (λ (i : p ≤ q). subst (λ (x : ℕ). held k (get_or order x 0) ≡ true) (at_last q i b) e) (lt-or-le q p);
        rises = λ q a b. ⊎_elim (λ (i : suc q < p). u.done.rises q a i) (λ (i : p ≤ suc q). step q a (at_last (suc q) i b)) (lt-or-le (suc q) p);
      };
      none = λ i. absurd (omega (arith, u.past));
      next = λ i. omega (arith, ap (λ (x : ℕ). get_or order x 0) back);
    }
      where
        step : (q : ℕ) → from ≤ q → p ≡ suc q → get_or order q 0 < get_or order (suc q) 0
        step q a s =
            let o : p - 1 ≡ q = omega arith in
            let m = u.next (omega arith) in
            omega (arith, m, ap (λ (x : ℕ). get_or order x 0) o, ap (λ (x : ℕ). get_or order x 0) s, h)

    pub upto_done : (to : ℕ) → to ≤ p → RunRight n held order k from to
    upto_done to h = record {
      index = λ q a b. u.done.index q a (omega arith);
      inside = λ q a b. u.done.inside q a (omega arith);
      rises = λ q a b. u.done.rises q a (omega arith);
    }

    -- where it stops, the run is wrong
    module _ (to : ℕ) (l : p < to) where
      pub not-rising : get_or order p 0 < low → RunRight n held order k from to → ⊥
      not-rising h r = ⊎_elim (λ (i : from < p). later i) (λ (i : p ≤ from). omega (arith, u.none i)) (lt-or-le from p)
        where
          later : from < p → ⊥
          later i =
              let o : suc (p - 1) ≡ p = omega arith in
              omega (arith, u.next i, r.rises (p - 1) (omega arith) (omega arith), ap (λ (x : ℕ). get_or order x 0) o, h)

      pub not-index : n ≤ get_or order p 0 → RunRight n held order k from to → ⊥
      not-index h r = omega (arith, r.index p u.past l)

      pub not-inside : held k (get_or order p 0) ≡ false → RunRight n held order k from to → ⊥
      not-inside h r = clash (r.inside p u.past l) h

module _ (n : ℕ) (held : ℕ → ℕ → Bool) (keys own begin order : List ℕ) where
  -- the runs of the nodes before j are right
  abbrev pub Before : ℕ → Type 0
  Before j = (i : ℕ) → i < j → RunRight n held order (get_or keys i 0) (get_or begin i 0) (get_or begin i 0 + get_or own i 0)

  pub before-start : Before 0
  before-start i l = absurd (omega arith)

  pub before_more : (j : ℕ) → Before j → RunRight n held order (get_or keys j 0) (get_or begin j 0) (get_or begin j 0 + get_or own j 0) → Before (j + 1)
  before_more j b r i l = ⊎_elim (λ (q : i < j). b i q)
      (λ (q : j ≤ i). subst (λ (x : ℕ). RunRight n held order (get_or keys x 0) (get_or begin x 0) (get_or begin x 0 + get_or own x 0)) (same i q l) r) (lt-or-le i j)
    where
      same : (i : ℕ) → j ≤ i → i < j + 1 → j ≡ i
      same i q l = omega arith

  pub before-done : (j : ℕ) → Before j → length keys ≤ j → length order ≡ n → sum own ≡ n → PointsRight n held keys own begin order
  before-done j b h e s = record { many = e; whole = s; runs = λ i l. b i (omega arith) }

-- a run ends within the sources of the tree
pub run_ends : (d : ℕ) (keys own begin total : List ℕ) → Formed d keys own begin total → (j : ℕ) → j < length keys → get_or begin j 0 + get_or own j 0 ≤ sum own
run_ends d keys own begin total w j l = omega (arith, w.rows.runs j l, sum-take own j, sum-whole own (suc j))

-- a point's numbers stand in the slice
pub rows_fit : (i n d m : ℕ) → i < n → n * d ≤ m → i * d + d ≤ m
rows_fit i n d m l h = omega (arith, mul-le-mul_right {m = suc i} {n = n} d l, suc-mul i d)
