-- An arrangement of the indices below n has each of them once: sorted it is 0, 1, .. n - 1, and whatever is added up over it is added up over those.
use mathlib.Core.Path.{◌≡◌, refl, sym, ap, ◌∙◌, subst}
use mathlib.Core.Bool.{Bool, true, false, ◌&&◌, cond}
use mathlib.Core.List.{List, [], ◌∷◌, map}
use mathlib.Core.Logic.{⊎_elim}
use Prim.Native.Nat.{ℕ, zero, suc, ◌+◌, ◌≤◌, ◌<◌}
use native.Mathlib.Omega.{arith}
use native.Mathlib.Nat.{zero-add, add-zero, not-suc-le-zero}
use native.Mathlib.Decide.{dec_lt}
use lib.Dec.{leb, eqb}
use lib.ListN.{length, get_or}
use borrow.Author.Tests.{eqb-true}
use Rattle.slices.specs.Lists.{count, sum, range, Mem, Distinct}
use Rattle.slices.specs.Order.{insert, ascending, AllFrom, Sorted}
use Rattle.slices.proofs.Tests.{lt-or-le}
use Rattle.slices.proofs.Counts.{count-zero, count-few, pos-count, length-count}
use Rattle.slices.proofs.Rows.{count-split, count-ascending}
use Rattle.slices.proofs.Lists.{length-range, get_or-range}
use Rattle.slices.proofs.Members.{range-distinct}
use Rattle.slices.proofs.Order.{ascending-sorted}
use Rattle.slices.proofs.Same.{times, sorted-same}
use Rattle.sums.specs.Adding.{added}
use Rattle.sums.specs.Arrangement.{AllIndices}
use Rattle.sums.proofs.Adding.{Adds, total-at}

-- n numbers of at most 1 that add up to n
module _ (g : ℕ → ℕ) (most : (v : ℕ) → g v ≤ 1) where
  ones-le : (a n : ℕ) → sum (map g (range a n)) ≤ n
  unfolding sum range
  ones-le a zero = omega arith
  ones-le a (suc n) = omega (arith, most a, ones-le (suc a) n)

  ones : (n a v : ℕ) → sum (map g (range a n)) ≡ n → v < n → g (a + v) ≡ 1
  unfolding sum range
  ones zero a v e l = absurd (not-suc-le-zero l)
  ones (suc n) a zero e l = rw (add-zero a) (omega (arith, most a, ones-le (suc a) n))
  ones (suc n) a (suc v) e l =
      let f : a + suc v ≡ suc a + v = omega arith in
      rw f (ones n (suc a) v (omega (arith, most a, ones-le (suc a) n)) (omega arith))

module _ (order : List ℕ) (n : ℕ) (a : AllIndices order n) where
  less : (x : ℕ) → Mem x order → x < n
  less x (i, l, e) = rw e at (a.below i l)

  few : (v : ℕ) → times v order ≤ 1
  few v = count-few (λ x. eqb x v) order a.once (λ x y mx my hx hy. eqb-true x v hx ∙ sym (eqb-true y v hy))

  pub each-once : (v : ℕ) → v < n → times v order ≡ 1
  each-once v l =
      let e : sum (map (λ v. times v order) (range 0 n)) ≡ n = sym (count-split (λ _. true) (λ x. x) order n (λ x m h. less x m)) ∙ sym (length-count order) ∙ a.entries in
      rw zero-add at (ones (λ v. times v order) few n 0 v e l)

  pub none-past : (v : ℕ) → n ≤ v → times v order ≡ 0
  none-past v l = count-zero (λ x. eqb x v) order (λ x m h. omega (arith, less x m, eqb-true x v h))

  pub has-each : (v : ℕ) → v < n → Mem v order
  has-each v l = let r = pos-count (λ x. eqb x v) order (omega (arith, each-once v l)) in subst (λ x. Mem x order) (eqb-true r.0 v r.2) r.1

range-from : (b a n : ℕ) → b ≤ a → AllFrom b (range a n)
unfolding AllFrom range
range-from b a zero h = tt
range-from b a (suc n) h = (h, range-from b (suc a) n (omega arith))

range-sorted : (a n : ℕ) → Sorted (range a n)
unfolding Sorted range
range-sorted a zero = tt
range-sorted a (suc n) = (range-from a (suc a) n (omega arith), range-sorted (suc a) n)

pub range-arranged : (n : ℕ) → AllIndices (range 0 n) n
range-arranged n = record {
  entries = length-range 0 n;
  below = λ i l. let h : i < n = omega (arith, length-range 0 n) in omega (arith, get_or-range 0 n i h);
  once = range-distinct n;
}

-- sorted, it is 0, 1, .. n - 1
pub arranged : (order : List ℕ) (n : ℕ) → AllIndices order n → ascending order ≡ range 0 n
arranged order n a = sorted-same (ascending order) (range 0 n) (ascending-sorted order) (range-sorted 0 n)
    (λ v. count-ascending (λ x. eqb x v) order ∙ ⊎_elim (λ h. each-once order n a v h ∙ sym (each-once (range 0 n) n (range-arranged n) v h))
    (λ h. none-past order n a v h ∙ sym (none-past (range 0 n) n (range-arranged n) v h)) (lt-or-le v n))

module _ {M : Type 0} (o : M) (plus : M → M → M) (A : Adds o plus) (f : ℕ → M) where
  total-insert : (x : ℕ) (xs : List ℕ) → added o plus f (insert x xs) ≡ plus (f x) (added o plus f xs)
  unfolding added insert
  total-insert x [] = refl
  total-insert x (y ∷ ys) = go (leb x y) (total-insert x ys)
    where
      go : (b : Bool) → added o plus f (insert x ys) ≡ plus (f x) (added o plus f ys) → added o plus f (cond b (x ∷ y ∷ ys) (y ∷ insert x ys)) ≡ plus (f x) (plus (f y) (added o plus f ys))
      go true e = refl
      go false e = ap (plus (f y)) e ∙ sym (A.assoc (f y) (f x) (added o plus f ys)) ∙ ap (λ z. plus z (added o plus f ys)) (A.comm (f y) (f x)) ∙ A.assoc (f x) (f y) (added o plus f ys)

  pub total-ascending : (xs : List ℕ) → added o plus f (ascending xs) ≡ added o plus f xs
  unfolding added ascending
  total-ascending [] = refl
  total-ascending (x ∷ xs) = total-insert x (ascending xs) ∙ ap (plus (f x)) (total-ascending xs)

  -- place by place, or index by index
  pub total-arranged : (order : List ℕ) (n : ℕ) → AllIndices order n → added o plus (λ p. f (get_or order p 0)) (range 0 n) ≡ added o plus f (range 0 n)
  total-arranged order n a =
      ap (λ m. added o plus (λ p. f (get_or order p 0)) (range 0 m)) (sym a.entries)
      ∙ sym (total-at o plus A f order) ∙ sym (total-ascending order) ∙ ap (added o plus f) (arranged order n a)
