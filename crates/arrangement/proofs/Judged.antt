-- All windows together: an arrangement, or none.
use mathlib.Core.Path.{◌≡◌, refl, sym, ap, ◌∙◌, subst}
use mathlib.Core.Bool.{true, false}
use mathlib.Core.List.{List}
use mathlib.Core.Logic.{⊎_elim}
use Prim.Native.Nat.{ℕ, ◌+◌, ◌-◌, ◌≤◌, ◌<◌, zero-le}
use native.Mathlib.Omega.{arith}
use lib.Dec.{eqb}
use lib.ListN.{length, get_or}
use borrow.Author.Tests.{eqb-true}
use Rattle.slices.specs.Lists.{count}
use Rattle.slices.proofs.Tests.{refute, lt-or-le}
use Rattle.slices.proofs.Counts.{count-zero}
use Rattle.slices.proofs.Same.{times}
use Rattle.sums.specs.Arrangement.{AllIndices, arranges}
use Rattle.sums.proofs.Arrangement.{each-once, none-past}
use Rattle.sums.proofs.Arranged.{arranges-iff, times-distinct}
use Rattle.arrangement.specs.Windows.{window, AllBelow, OnceFrom}

-- the entries before place i are below n
pub record Below (order : List ℕ) (n i : ℕ) : Type 0 where
  pub upto : i ≤ length order
  pub all : (j : ℕ) → j < i → get_or order j 0 < n

module _ (order : List ℕ) (n : ℕ) where
  pub below-start : Below order n 0
  below-start = record { upto = zero-le; all = λ j h. absurd (omega arith) }

  pub below_more : (i : ℕ) → Below order n i → i < length order → get_or order i 0 < n → Below order n (i + 1)
  below_more i b l h = record {
    upto = omega arith;
    all = λ j g. ⊎_elim (λ (q : j < i). b.all j q) (λ (q : i ≤ j). let e : i ≡ j = omega arith in subst (λ k. get_or order k 0 < n) e h) (lt-or-le j i);
  }

  pub below-done : (i : ℕ) → Below order n i → length order ≤ i → AllBelow order n
  below-done i b h j l = b.all j (omega (arith, b.upto))

  pub below_fails : (i : ℕ) → i < length order → n ≤ get_or order i 0 → AllBelow order n → ⊥
  below_fails i l h all = omega (arith, all i l)

  -- no index below `from` stands twice
  abbrev pub Upto : ℕ → Type 0
  Upto from = (v : ℕ) → v < from → times v order ≤ 1

  pub upto-start : Upto 0
  upto-start v h = absurd (omega arith)

  pub upto-more : (from : ℕ) → Upto from → OnceFrom order from → Upto (from + window)
  upto-more from u o v h = ⊎_elim (λ (q : v < from). u v q)
      (λ (q : from ≤ v). let e : from + (v - from) ≡ v = omega arith in subst (λ x. times x order ≤ 1) e (o (v - from) (omega arith))) (lt-or-le v from)

  -- what is no arrangement
  pub not-long : (length order ≡ n → ⊥) → arranges order n ≡ false
  not-long h = refute (λ t. h ((arranges-iff order n).0 t).entries)

  pub not-below : (AllBelow order n → ⊥) → arranges order n ≡ false
  not-below h = refute (λ t. h ((arranges-iff order n).0 t).below)

  pub not-once : (from : ℕ) → (OnceFrom order from → ⊥) → arranges order n ≡ false
  not-once from h = refute (λ t. h (λ v g. let a = (arranges-iff order n).0 t in
      ⊎_elim (λ (q : from + v < n). omega (arith, each-once order n a (from + v) q)) (λ (q : n ≤ from + v). omega (arith, none-past order n a (from + v) q)) (lt-or-le (from + v) n)))

  pub all_once : length order ≡ n → AllBelow order n → (from : ℕ) → Upto from → n ≤ from → arranges order n ≡ true
  all_once e below from u h = (arranges-iff order n).1 (record {
    entries = e;
    below = below;
    once = times-distinct order (λ v. ⊎_elim (λ (q : v < from). u v q)
        (λ (q : from ≤ v). omega (arith, count-zero (λ c. eqb c v) order (λ c (j, lj, ej) g. omega (arith, eqb-true c v g, below j lj)))) (lt-or-le v from));
  })
