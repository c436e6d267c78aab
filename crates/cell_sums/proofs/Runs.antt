-- A lifted reading, runs of them, and the loop that adds up what is before each place.
use mathlib.Core.Path.{◌≡◌, refl, sym, ap, ap₂, ◌∙◌, subst}
use mathlib.Core.Bool.{Bool, true, false, cond}
use mathlib.Core.List.{List}
use mathlib.Core.Logic.{⊎_elim}
use Prim.{tt}
use Prim.Native.Nat.{ℕ, zero, suc, ◌+◌, ◌-◌, ◌*◌, ◌^◌, ◌≤◌, ◌<◌}
use native.Mathlib.Omega.{arith}
use native.Mathlib.Nat.{zero-add}
use native.Mathlib.Numerals.{add-one}
use lib.Dec.{ltb, T}
use lib.IntN.{ℤ, pos, negsuc, nat_abs, sub_ℕ, ◌+ℤ◌}
use lib.ListN.{length, get_or, set, length-set}
use lib.Seq.{get_or-set_same, get_or-set_other}
use lib.Signed.{non_neg}
use borrow.Author.Tests.{ltb-true}
use mir.Syntax.{w64}
use mir.Val.{Fits, SFits, to_z, of_z}
use mir.Facts.{to_z-of_z}
use Rattle.slices.specs.Lists.{sum, range}
use Rattle.slices.proofs.Tests.{lt-or-le}
use Rattle.tree.specs.WellFormed.{most_sources}
use Rattle.sums.specs.Adding.{added}
use Rattle.sums.specs.Sums.{reading_at}
use Rattle.sums.proofs.Adding.{naturals, added-sum, total-last, total-parts}
use Rattle.row_sums.specs.Readings.{largest, Read}
use Rattle.row_sums.proofs.Whole.{sum-size, word_holds}
use Rattle.cell_sums.specs.Lifted.{lift, run_lifted, Before}

-- ---- one reading
sub-pos : (l a : ℕ) → suc a ≤ l → sub_ℕ l (suc a) ≡ pos (nat_abs (sub_ℕ l (suc a)))
sub-pos l a h = go (ltb l (suc a)) refl
  where
    go : (b : Bool) → ltb l (suc a) ≡ b → cond b (negsuc (suc a - suc l)) (pos (l - suc a)) ≡ pos (nat_abs (cond b (negsuc (suc a - suc l)) (pos (l - suc a))))
    go true e = let q = ltb-true l (suc a) e in absurd (omega arith)
    go false e = refl

pub lift-is : (x : ℤ) → nat_abs x ≤ largest → x +ℤ pos largest ≡ pos (lift x)
lift-is (pos a) h = refl
lift-is (negsuc a) h = sub-pos largest a h

pub lift-small : (x : ℤ) → nat_abs x ≤ largest → lift x ≤ 2199023255552
lift-small x h = omega (arith, sum-size x (pos largest))

module _ (x : ℤ) (h : nat_abs x ≤ largest) (f : SFits w64 x) where
  pub lift-fits : SFits w64 (to_z w64 (of_z w64 x) +ℤ pos largest)
  lift-fits = rw (to_z-of_z f) (word_holds (x +ℤ pos largest) (omega (arith, sum-size x (pos largest))))

  lifted-is : to_z w64 (of_z w64 (to_z w64 (of_z w64 x) +ℤ pos largest)) ≡ pos (lift x)
  lifted-is = to_z-of_z lift-fits ∙ ap (◌+ℤ pos largest) (to_z-of_z f) ∙ lift-is x h

  pub lift-casts : T (non_neg (to_z w64 (of_z w64 (to_z w64 (of_z w64 x) +ℤ pos largest)))) × Fits w64 (nat_abs (to_z w64 (of_z w64 (to_z w64 (of_z w64 x) +ℤ pos largest))))
  lift-casts = let q : lift x < 2 ^ 64 = omega (arith, lift-small x h) in subst (λ z. T (non_neg z) × Fits w64 (nat_abs z)) (sym lifted-is) (tt, record { fits = q })

  pub lift-returns : nat_abs (to_z w64 (of_z w64 (to_z w64 (of_z w64 x) +ℤ pos largest))) ≡ lift x
  lift-returns = ap nat_abs lifted-is

-- ---- runs
module _ (order : List ℕ) (readings : List ℤ) where
  abbrev g : ℕ → ℕ
  g p = lift (reading_at order readings p)

  pub run_none : (from : ℕ) → run_lifted order readings from 0 ≡ 0
  unfolding run_lifted range sum
  run_none from = refl

  pub run-last : (from n : ℕ) → run_lifted order readings from (suc n) ≡ run_lifted order readings from n + lift (reading_at order readings (from + n))
  unfolding run_lifted
  run-last from n = sym (added-sum g (range from (suc n))) ∙ total-last 0 ◌+◌ naturals g from n ∙ ap (◌+ g (from + n)) (added-sum g (range from n))

  pub run-parts : (m n : ℕ) → run_lifted order readings 0 (m + n) ≡ run_lifted order readings 0 m + run_lifted order readings m n
  unfolding run_lifted
  run-parts m n = sym (added-sum g (range 0 (m + n))) ∙ total-parts 0 ◌+◌ naturals g 0 m n
      ∙ ap₂ ◌+◌ (added-sum g (range 0 m)) (ap (λ a. added 0 ◌+◌ g (range a n)) (zero-add m) ∙ added-sum g (range m n))

  module _ (r : Read order readings) where
    pub reading_small : (p : ℕ) → p < length order → nat_abs (reading_at order readings p) ≤ largest
    reading_small p l = r.small (get_or order p 0) (r.indexed p l)

    pub run-size : (from n : ℕ) → from + n ≤ length order → run_lifted order readings from n ≤ n * 2199023255552
    run-size from zero h = omega (arith, run_none from)
    run-size from (suc n) h = omega (arith, run-last from n, run-size from n (omega arith), lift-small (reading_at order readings (from + n)) (reading_small (from + n) (omega arith)))

  -- ---- the sums before each place
  pub record Filling (sums : List ℕ) (s i : ℕ) : Type 0 where
    pub upto : i ≤ length order
    pub size : length order < length sums
    pub now : s ≡ run_lifted order readings 0 i
    pub is : (p : ℕ) → p ≤ i → get_or sums p 0 ≡ run_lifted order readings 0 p

  pub fill_start : (sums : List ℕ) → length order < length sums → Filling (set sums 0 0) 0 0
  fill_start sums h = record {
    upto = omega arith;
    size = omega (arith, length-set sums 0 0);
    now = sym (run_none 0);
    is = λ p l. let e : p ≡ 0 = omega arith in ap (λ q. get_or (set sums 0 0) q 0) e ∙ get_or-set_same sums 0 0 0 (omega arith) ∙ sym (ap (run_lifted order readings 0) e ∙ run_none 0);
  }

  module _ (r : Read order readings) (few : length order ≤ most_sources) (sums : List ℕ) (s i : ℕ) (f : Filling sums s i) (l : i < length order) where
    pub fill-index : get_or order i 0 < length readings
    fill-index = r.indexed i l

    back : to_z w64 (of_z w64 (reading_at order readings i)) ≡ reading_at order readings i
    back = to_z-of_z (word_holds (reading_at order readings i) (omega (arith, reading_small r i l)))

    pub fill-asks : nat_abs (to_z w64 (of_z w64 (reading_at order readings i))) ≤ largest
    fill-asks = rw back (reading_small r i l)

    module _ (x : ℕ) (e : x ≡ lift (to_z w64 (of_z w64 (reading_at order readings i)))) where
      next-is : s + x ≡ run_lifted order readings 0 (i + 1)
      next-is =
          let z : 0 + i ≡ i = zero-add i in
          ap₂ ◌+◌ f.now (e ∙ ap lift back ∙ ap (λ p. lift (reading_at order readings p)) (sym z)) ∙ sym (run-last 0 i) ∙ ap (run_lifted order readings 0) (sym (add-one i))

      pub fill-fits : s + x < 18446744073709551616
      fill-fits = omega (arith, next-is, run-size r 0 (i + 1) (omega arith))

      pub fill_more : Filling (set sums (i + 1) (s + x)) (s + x) (i + 1)
      fill_more = record {
        upto = omega arith;
        size = omega (arith, length-set sums (i + 1) (s + x), f.size);
        now = next-is;
        is = λ p h. ⊎_elim (λ (q : p < i + 1). get_or-set_other sums (i + 1) p (s + x) 0 (λ z. omega arith) ∙ f.is p (omega arith))
            (λ (q : i + 1 ≤ p). let z : p ≡ i + 1 = omega arith in ap (λ n. get_or (set sums (i + 1) (s + x)) n 0) z ∙ get_or-set_same sums (i + 1) (s + x) 0 (omega (arith, f.size)) ∙ next-is ∙ ap (run_lifted order readings 0) (sym z))
            (lt-or-le p (i + 1));
      }

  pub fill_done : (sums : List ℕ) (s i : ℕ) → Filling sums s i → length order ≤ i → Before order readings sums
  fill_done sums s i f h = record { size = f.size; is = λ p l. f.is p (omega arith) }

  -- ---- a run, in two reads
  module _ (sums : List ℕ) (b : Before order readings sums) (from count : ℕ) (h : from + count ≤ length order) where
    parts : get_or sums (from + count) 0 ≡ get_or sums from 0 + run_lifted order readings from count
    parts = b.is (from + count) h ∙ run-parts from count ∙ ap (◌+ run_lifted order readings from count) (sym (b.is from (omega arith)))

    pub run_up : get_or sums from 0 ≤ get_or sums (from + count) 0
    run_up = omega (arith, parts)

    pub run_is : get_or sums (from + count) 0 - get_or sums from 0 ≡ run_lifted order readings from count
    run_is = omega (arith, parts)
