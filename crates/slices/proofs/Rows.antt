-- What a filter keeps, what a sort keeps, and both: a row; and a count taken apart by the value of a function.
use mathlib.Core.Path.{◌≡◌, refl, sym, ap, ◌∙◌, subst}
use mathlib.Core.Bool.{Bool, true, false, ◌&&◌, cond}
use mathlib.Core.List.{List, [], ◌∷◌, map}
use mathlib.Core.Logic.{◌↔◌}
use Prim.Native.Nat.{ℕ, zero, suc, ◌+◌, ◌<◌}
use native.Mathlib.Omega.{arith}
use native.Mathlib.Nat.{zero-add, not-suc-le-zero, add_left_comm}
use native.Mathlib.Decide.{dec_lt}
use lib.Dec.{leb, ltb, eqb}
use lib.ListN.{get_or}
use borrow.Author.Tests.{ltb-true, eqb-true, lt-ltb, le-ltb, eq-eqb, ne_eqb}
use Rattle.slices.specs.Lists.{filter, bit, count, sum, range, Mem}
use Rattle.slices.specs.Order.{insert, ascending}
use Rattle.slices.proofs.Tests.{and_l, and_r, clash}
use Rattle.slices.proofs.Counts.{count-pos, pos-count, count-zero, count_add, count-ext, sum-range}

-- a count, by the value of a function
count-below : (q : ℕ → Bool) (f : ℕ → ℕ) (xs : List ℕ) (m : ℕ) → count (λ x. q x && ltb (f x) m) xs ≡ sum (map (λ v. count (λ x. q x && eqb (f x) v) xs) (range 0 m))
unfolding sum range
count-below q f xs zero = count-zero (λ x. q x && ltb (f x) 0) xs (λ x m h. not-suc-le-zero (ltb-true (f x) 0 (and_r (q x) _ h)))
count-below q f xs (suc m) = rw (sum-range (λ v. count (λ x. q x && eqb (f x) v) xs) 0 m, zero-add m, ← count-below q f xs m)
    (count_add (λ x. q x && ltb (f x) (suc m)) (λ x. q x && ltb (f x) m) (λ x. q x && eqb (f x) m) xs (λ x i. split (q x) (f x)))
  where
    split : (b : Bool) (n : ℕ) → bit (b && ltb n (suc m)) ≡ bit (b && ltb n m) + bit (b && eqb n m)
    split false n = refl
    split true n = go (dec_lt n m) (dec_lt m n)
      where
        go : Dec (n < m) → Dec (m < n) → bit (ltb n (suc m)) ≡ bit (ltb n m) + bit (eqb n m)
        go (yes l) _ = rw (lt-ltb n m l, lt-ltb n (suc m) (omega arith), ne_eqb n m (λ e. omega arith))
        go (no k) (yes l) = rw (le-ltb n m (omega arith), le-ltb n (suc m) l, ne_eqb n m (λ e. omega arith))
        go (no k) (no j) = rw (le-ltb n m (omega arith), lt-ltb n (suc m) (omega arith), eq-eqb n m (omega arith))

pub count-split : (q : ℕ → Bool) (f : ℕ → ℕ) (xs : List ℕ) (m : ℕ) → ((x : ℕ) → Mem x xs → q x ≡ true → f x < m)
    → count q xs ≡ sum (map (λ v. count (λ x. q x && eqb (f x) v) xs) (range 0 m))
count-split q f xs m h = count-ext q (λ x. q x && ltb (f x) m) xs (λ x i. go x i (q x) refl) ∙ count-below q f xs m
  where
    go : (x : ℕ) → Mem x xs → (b : Bool) → q x ≡ b → q x ≡ (q x && ltb (f x) m)
    go x i true e = rw (e, lt-ltb (f x) m (h x i e))
    go x i false e = rw e

-- a filter, a sort, and both: a row
pub count-filter : (p q : ℕ → Bool) (xs : List ℕ) → count p (filter q xs) ≡ count (λ x. q x && p x) xs
unfolding count filter
count-filter p q [] = refl
count-filter p q (x ∷ xs) = go (q x) (count-filter p q xs)
  where
    go : (b : Bool) → count p (filter q xs) ≡ count (λ x. q x && p x) xs → count p (cond b (x ∷ filter q xs) (filter q xs)) ≡ bit (b && p x) + count (λ x. q x && p x) xs
    go true e = rw e
    go false e = e ∙ sym (zero-add _)

pub count-insert : (p : ℕ → Bool) (x : ℕ) (xs : List ℕ) → count p (insert x xs) ≡ bit (p x) + count p xs
unfolding count insert
count-insert p x [] = refl
count-insert p x (y ∷ ys) = go (leb x y) (count-insert p x ys)
  where
    go : (b : Bool) → count p (insert x ys) ≡ bit (p x) + count p ys → count p (cond b (x ∷ y ∷ ys) (y ∷ insert x ys)) ≡ bit (p x) + (bit (p y) + count p ys)
    go true e = refl
    go false e = rw e (add_left_comm _ _ _)

pub count-ascending : (p : ℕ → Bool) (xs : List ℕ) → count p (ascending xs) ≡ count p xs
unfolding count ascending
count-ascending p [] = refl
count-ascending p (x ∷ xs) = count-insert p x (ascending xs) ∙ ap (bit (p x) +◌) (count-ascending p xs)

pub count-row : (p q : ℕ → Bool) (xs : List ℕ) → count p (ascending (filter q xs)) ≡ count (λ x. q x && p x) xs
count-row p q xs = count-ascending p (filter q xs) ∙ count-filter p q xs

pub row-mem : (q : ℕ → Bool) (xs : List ℕ) (c : ℕ) → Mem c (ascending (filter q xs)) → Mem c xs × (q c ≡ true)
row-mem q xs c m =
    let pos = count-pos (λ x. eqb x c) (ascending (filter q xs)) m.0 m.1 (eq-eqb (get_or (ascending (filter q xs)) m.0 0) c m.2) in
    let r = pos-count (λ x. q x && eqb x c) xs (rw (count-row (λ x. eqb x c) q xs) at pos) in
    let same = eqb-true r.0 c (and_r (q r.0) _ r.2) in
    (subst (λ x. Mem x xs) same r.1, subst (λ x. q x ≡ true) same (and_l _ _ r.2))

-- a number that a list holds once or not, by a test: it is a member if the test passes
pub occurs : (s : ℕ) (xs : List ℕ) (t : Bool) → count (λ x. eqb x s) xs ≡ bit t → Mem s xs ↔ (t ≡ true)
occurs s xs true e = (
  λ m. refl,
  λ h. let r = pos-count (λ x. eqb x s) xs (omega arith) in
      subst (λ x. Mem x xs) (eqb-true r.0 s r.2) r.1,
)
occurs s xs false e = (λ m. absurd (omega (arith, e, count-pos (λ x. eqb x s) xs m.0 m.1 (eq-eqb (get_or xs m.0 0) s m.2))), λ h. absurd (clash h refl))
