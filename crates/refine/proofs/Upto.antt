-- Counts added up are counts of all the cells before and at a place.
use mathlib.Core.Path.{◌≡◌, sym, ap, ◌∙◌}
use mathlib.Core.Bool.{◌&&◌}
use mathlib.Core.List.{List}
use mathlib.Core.Logic.{⊎_elim}
use Prim.Native.Nat.{ℕ, zero, suc, ◌+◌, ◌/◌, ◌^◌, ◌≤◌, ◌<◌}
use native.Mathlib.Nat.{zero-add}
use native.Mathlib.Omega.{arith}
use lib.Dec.{leb, ltb, eqb}
use lib.ListN.{length, take}
use lib.Seq.{take_all}
use borrow.Author.Tests.{ltb-true, eq-eqb, ne_eqb, lt-ltb, le-ltb, le-leb, lt-leb}
use Rattle.slices.specs.Lists.{bit, count, sum}
use Rattle.slices.proofs.Tests.{lt-or-le}
use Rattle.slices.proofs.Counts.{count_add, count-ext, count-zero}
use Rattle.slices.proofs.Sorted.{count-le}
use Rattle.slices.proofs.Sums.{sum-take}
use Rattle.refine.specs.Cells.{up_to_cell, CellCounts, CellSums, RunningSums}

-- how many codes lie in the cells before n
abbrev pub before_cell : ℕ → List ℕ → ℕ → ℕ
before_cell w codes n = count (λ c. ltb (c / 2 ^ w) n) codes

-- at most x is before the next
up-to-next : (y x : ℕ) → leb y x ≡ ltb y (suc x)
up-to-next y x = ⊎_elim (λ (h : x < y). rw (lt-leb y x h, le-ltb y (suc x) h)) (λ (h : y ≤ x). rw (le-leb y x h, lt-ltb y (suc x) (omega arith))) (lt-or-le x y)

pub up-to-is : (w : ℕ) (codes : List ℕ) (x : ℕ) → up_to_cell w codes x ≡ before_cell w codes (suc x)
up-to-is w codes x = count-ext (λ c. leb (c / 2 ^ w) x) (λ c. ltb (c / 2 ^ w) (suc x)) codes (λ c m. up-to-next (c / 2 ^ w) x)

pub before-none : (w : ℕ) (codes : List ℕ) → before_cell w codes 0 ≡ 0
before-none w codes = count-zero (λ c. ltb (c / 2 ^ w) 0) codes (λ c m h. absurd (omega (arith, ltb-true (c / 2 ^ w) 0 h)))

-- those before hi are those before lo and those between
between : (y lo hi : ℕ) → lo ≤ hi → bit (ltb y hi) ≡ bit (ltb y lo) + bit (leb lo y && ltb y hi)
between y lo hi h =
    ⊎_elim
    (λ (a : y < lo). rw (lt-ltb y hi (omega arith), lt-ltb y lo a, lt-leb lo y a))
    (λ (a : lo ≤ y). rw (le-ltb y lo a, le-leb lo y a) (sym (zero-add _)))
    (lt-or-le y lo)

pub before_split : (w : ℕ) (codes : List ℕ) (lo hi : ℕ) → lo ≤ hi
    → before_cell w codes hi ≡ before_cell w codes lo + count (λ c. leb lo (c / 2 ^ w) && ltb (c / 2 ^ w) hi) codes
before_split w codes lo hi h =
    count_add (λ c. ltb (c / 2 ^ w) hi) (λ c. ltb (c / 2 ^ w) lo) (λ c. leb lo (c / 2 ^ w) && ltb (c / 2 ^ w) hi) codes (λ c m. between (c / 2 ^ w) lo hi h)

-- and one cell more
one_more : (y n : ℕ) → bit (ltb y (suc n)) ≡ bit (ltb y n) + bit (eqb y n)
one_more y n =
    ⊎_elim
    (λ (a : y < n). rw (lt-ltb y (suc n) (omega arith), lt-ltb y n a, ne_eqb y n (omega arith)))
    (λ (a : n ≤ y). ⊎_elim
    (λ (b : n < y). rw (le-ltb y (suc n) b, le-ltb y n a, ne_eqb y n (omega arith)))
    (λ (b : y ≤ n). rw (lt-ltb y (suc n) (omega arith), le-ltb y n a, eq-eqb y n (omega arith)))
    (lt-or-le n y))
    (lt-or-le y n)

module _ (w : ℕ) (codes counts : List ℕ) (c : CellCounts w codes counts) where
  summed : (n : ℕ) → n ≤ length counts → sum (take n counts) ≡ before_cell w codes n
  unfolding sum
  summed zero h = sym (before-none w codes)
  summed (suc n) h =
      sum-take counts n
      ∙ omega (arith, summed n (omega arith), c.each n h, count_add (λ c. ltb (c / 2 ^ w) (suc n)) (λ c. ltb (c / 2 ^ w) n) (λ c. eqb (c / 2 ^ w) n) codes (λ c m. one_more (c / 2 ^ w) n))

  -- no more than there are codes
  pub counts-few : sum counts ≤ length codes
  counts-few =
      omega (
        arith,
        ap sum (take_all (length counts) counts (omega arith)),
        summed (length counts) (omega arith),
        count-le (λ c. ltb (c / 2 ^ w) (length counts)) codes,
      )

  pub sums-are : (sums : List ℕ) → length sums ≡ length counts → RunningSums counts sums → CellSums w codes sums
  sums-are sums e r = record { each = λ x h. r.each x (omega arith) ∙ summed (suc x) (omega arith) ∙ sym (up-to-is w codes x) }
