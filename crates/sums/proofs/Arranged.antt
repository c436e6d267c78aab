-- The test of an order column, and what it tests.
use mathlib.Core.Path.{◌≡◌, refl, sym, ap, ◌∙◌, subst}
use mathlib.Core.Bool.{Bool, true, false}
use mathlib.Core.List.{List, [], ◌∷◌}
use mathlib.Core.Logic.{◌↔◌, ⊎_elim}
use Prim.Native.Nat.{ℕ, zero, suc, ◌≤◌, ◌<◌}
use native.Mathlib.Omega.{arith}
use native.Mathlib.Nat.{not-suc-le-zero, le_of_suc-le-suc}
use lib.Dec.{eqb}
use lib.ListN.{length, get_or}
use borrow.Author.Tests.{eq-eqb}
use Rattle.slices.specs.Lists.{count, range, Mem, Distinct}
use Rattle.slices.specs.Order.{ascending}
use Rattle.slices.proofs.Tests.{lt-or-le}
use Rattle.slices.proofs.Counts.{count-pos}
use Rattle.slices.proofs.Sorted.{count_yes}
use Rattle.slices.proofs.Members.{distinct_cons}
use Rattle.slices.proofs.Lists.{length-ascending, length-range}
use Rattle.slices.proofs.Rows.{count-ascending}
use Rattle.slices.proofs.Same.{times}
use Rattle.sums.specs.Arrangement.{AllIndices, arranges}
use Rattle.sums.proofs.Arrangement.{each-once, none-past, range-arranged, arranged}
use Rattle.sums.proofs.Flat.{same_true, true_same}

member-times : (x : ℕ) (xs : List ℕ) → Mem x xs → 0 < times x xs
member-times x xs (i, l, e) = count-pos (λ c. eqb c x) xs i l (eq-eqb (get_or xs i 0) x e)

pub times-distinct : (xs : List ℕ) → ((x : ℕ) → times x xs ≤ 1) → Distinct xs
unfolding count
times-distinct [] t = λ i j li lj e. absurd (not-suc-le-zero li)
times-distinct (x ∷ xs) t = distinct_cons x xs (λ m. omega (arith, t x, count_yes (λ c. eqb c x) x xs (eq-eqb x x refl), member-times x xs m)) (times-distinct xs (λ y. omega (arith, t y)))

module _ (order : List ℕ) (n : ℕ) where
  back : ascending order ≡ range 0 n → AllIndices order n
  back e = record {
    entries = sym (length-ascending order) ∙ ap length e ∙ length-range 0 n;
    below = λ i l. ⊎_elim (λ (h : get_or order i 0 < n). h) (λ (h : n ≤ get_or order i 0). absurd (omega (arith, none (get_or order i 0) h, member-times (get_or order i 0) order (i, l, refl)))) (lt-or-le (get_or order i 0) n);
    once = times-distinct order (λ x. ⊎_elim (λ (h : x < n). omega (arith, one x h)) (λ (h : n ≤ x). omega (arith, none x h)) (lt-or-le x n));
  }
    where
      as-often : (x : ℕ) → times x order ≡ times x (range 0 n)
      as-often x = sym (count-ascending (λ c. eqb c x) order) ∙ ap (times x) e

      one : (x : ℕ) → x < n → times x order ≡ 1
      one x h = as-often x ∙ each-once (range 0 n) n (range-arranged n) x h

      none : (x : ℕ) → n ≤ x → times x order ≡ 0
      none x h = as-often x ∙ none-past (range 0 n) n (range-arranged n) x h

  pub arranges-iff : arranges order n ≡ true ↔ AllIndices order n
  unfolding arranges
  arranges-iff = (λ h. back (same_true (ascending order) (range 0 n) h), λ a. true_same (ascending order) (range 0 n) (arranged order n a))
