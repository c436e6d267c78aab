-- A strictly ascending list whose entries are all in another adds up to less than it, or is the same list.
use mathlib.Core.Path.{◌≡◌, refl, sym, ap, ap₂, ◌∙◌, subst}
use mathlib.Core.Bool.{Bool, true, false, ◌&&◌}
use mathlib.Core.List.{List, [], ◌∷◌, map}
use mathlib.Core.Logic.{◌⊎◌, inl, inr, ⊎_elim}
use Prim.Native.Nat.{ℕ, zero, suc, ◌+◌, ◌≤◌, ◌<◌, suc-le-suc, zero-le}
use native.Mathlib.Omega.{arith}
use native.Mathlib.Nat.{not-suc-le-zero, le_of_suc-le-suc}
use lib.Dec.{eqb}
use lib.ListN.{length, get_or}
use borrow.Author.Tests.{eqb-true, eq-eqb}
use Rattle.slices.specs.Lists.{filter, count, sum, Mem, Distinct}
use Rattle.slices.specs.Order.{ascending, AllFrom, Sorted}
use Rattle.slices.proofs.Counts.{here, there, count-pos, pos-count, count-few}
use Rattle.slices.proofs.Sums.{sum_less}
use Rattle.slices.proofs.Sorted.{count_yes}
use Rattle.slices.proofs.Rows.{count-row, row-mem}
use Rattle.slices.proofs.Order.{ascending-sorted}
use Rattle.slices.proofs.Members.{mem-cases}
use Rattle.slices.proofs.Same.{times}
use Rattle.slices.proofs.Tests.{and_r, both, lt-or-le}
use Rattle.sums.specs.Right.{Strict}

strict-rest : (x : ℕ) (xs : List ℕ) → Strict (x ∷ xs) → Strict xs
strict-rest x xs s i l = s (suc i) (suc-le-suc l)

-- the head is below all others
strict-head : (x : ℕ) (xs : List ℕ) → Strict (x ∷ xs) → (z : ℕ) → Mem z xs → x < z
strict-head x [] s z (i, l, e) = absurd (not-suc-le-zero l)
strict-head x (y ∷ ys) s z m = go (mem-cases z y ys m) (s 0 (omega arith)) (λ n. strict-head y ys (strict-rest x (y ∷ ys) s) z n)
  where
    go : (y ≡ z) ⊎ Mem z ys → x < y → (Mem z ys → y < z) → x < z
    go (inl e) first ih = omega arith
    go (inr n) first ih = omega (arith, ih n)

pub record Part (g : ℕ → ℕ) (l m : List ℕ) : Type 0 where
  pub least : sum (map g l) ≤ sum (map g m)
  pub same : sum (map g l) ≡ sum (map g m) → l ≡ m

module _ (g : ℕ → ℕ) where
  pub part : (m l : List ℕ) → Strict l → Strict m → ((x : ℕ) → Mem x l → Mem x m) → ((x : ℕ) → Mem x m → 0 < g x) → Part g l m
  unfolding sum
  part [] [] sl sm sub pos = record { least = omega arith; same = λ e. refl }
  part [] (x ∷ l) sl sm sub pos = absurd (not-suc-le-zero (sub x (here x l)).1)
  part (y ∷ m) [] sl sm sub pos = record { least = zero-le; same = λ e. absurd (omega (arith, pos y (here y m))) }
  part (y ∷ m) (x ∷ l) sl sm sub pos = go (mem-cases x y m (sub x (here x l))) (λ l. part m l)
    where
      sm' : Strict m
      sm' = strict-rest y m sm

      pos' : (z : ℕ) → Mem z m → 0 < g z
      pos' z n = pos z (there y z m n)

      -- entries above y are in the rest
      past : (z : ℕ) → y < z → Mem z (y ∷ m) → Mem z m
      past z h n = which (mem-cases z y m n)
        where
          which : (y ≡ z) ⊎ Mem z m → Mem z m
          which (inl e) = absurd (omega arith)
          which (inr r) = r

      go : (y ≡ x) ⊎ Mem x m → ((l : List ℕ) → Strict l → Strict m → ((x : ℕ) → Mem x l → Mem x m) → ((x : ℕ) → Mem x m → 0 < g x) → Part g l m) → Part g (x ∷ l) (y ∷ m)
      go (inl e) ih =
          let r = ih l (strict-rest x l sl) sm' (λ z n. past z (omega (arith, strict-head x l sl z n)) (sub z (there x z l n))) pos' in
          let q : g x ≡ g y = ap g (sym e) in
          record { least = omega (arith, r.least); same = λ h. ap₂ (λ (a : ℕ) (b : List ℕ). a ∷ b) (sym e) (r.same (omega arith)) }
      go (inr n) ih =
          let lt = strict-head y m sm x n in
          let r = ih (x ∷ l) sl sm' (λ z k. past z (above z (mem-cases z x l k) lt) (sub z k)) pos' in
          record { least = omega (arith, r.least); same = λ h. absurd (omega (arith, r.least, pos y (here y m))) }
        where
          above : (z : ℕ) → (x ≡ z) ⊎ Mem z l → y < x → y < z
          above z (inl e) lt = omega arith
          above z (inr k) lt = omega (arith, strict-head x l sl z k)

-- rows are strictly ascending
strict_of : (l : List ℕ) → Sorted l → ((x : ℕ) → times x l ≤ 1) → Strict l
unfolding Sorted AllFrom count
strict_of [] s t i l = absurd (not-suc-le-zero l)
strict_of (x ∷ []) s t i l = absurd (not-suc-le-zero (le_of_suc-le-suc l))
strict_of (x ∷ y ∷ xs) s t zero l = ⊎_elim (λ (h : x < y). h) (λ (h : y ≤ x). absurd (twice (omega (arith, s.0.0)))) (lt-or-le x y)
  where
    twice : y ≡ x → ⊥
    twice e = omega (arith, t x, count_yes (λ c. eqb c x) x (y ∷ xs) (eq-eqb x x refl), count_yes (λ c. eqb c x) y xs (eq-eqb y x e))
strict_of (x ∷ y ∷ xs) s t (suc i) l = strict_of (y ∷ xs) s.1 (λ z. omega (arith, t z)) i (le_of_suc-le-suc l)

pub row-strict : (q : ℕ → Bool) (xs : List ℕ) → Distinct xs → Strict (ascending (filter q xs))
row-strict q xs dist = strict_of (ascending (filter q xs)) (ascending-sorted (filter q xs))
    (λ x. rw (count-row (λ c. eqb c x) q xs) (count-few _ xs dist (λ y z my mz hy hz. eqb-true y x (and_r (q y) _ hy) ∙ sym (eqb-true z x (and_r (q z) _ hz)))))

pub mem-row : (q : ℕ → Bool) (xs : List ℕ) (c : ℕ) → Mem c xs → q c ≡ true → Mem c (ascending (filter q xs))
mem-row q xs c m h =
    let pos : 0 < count (λ x. q x && eqb x c) xs = count-pos (λ x. q x && eqb x c) xs m.0 m.1 (rw m.2 (both h (eq-eqb c c refl))) in
    let r = pos-count (λ x. eqb x c) (ascending (filter q xs)) (rw (count-row (λ x. eqb x c) q xs) pos) in
    subst (λ x. Mem x (ascending (filter q xs))) (eqb-true r.0 c r.2) r.1

-- a row handed in, all of whose entries pass, is part of the row
pub row-part : (g : ℕ → ℕ) (q : ℕ → Bool) (xs row : List ℕ) → Distinct xs → Strict row → ((x : ℕ) → Mem x row → Mem x xs × (q x ≡ true)) → ((x : ℕ) → Mem x xs → q x ≡ true → 0 < g x)
    → Part g row (ascending (filter q xs))
row-part g q xs row dist s passes pos = part g (ascending (filter q xs)) row s (row-strict q xs dist)
    (λ x m. let r = passes x m in mem-row q xs x r.0 r.1) (λ x m. let r = row-mem q xs x m in pos x r.0 r.1)

pub empty : (l : List ℕ) → ((x : ℕ) → Mem x l → ⊥) → l ≡ []
empty [] none = refl
empty (x ∷ l) none = absurd (none x (here x l))

-- sums whose terms are at most another's, and no less together
module _ (f g : ℕ → ℕ) where
  pub sums-tight : (xs : List ℕ) → ((x : ℕ) → Mem x xs → f x ≤ g x) → sum (map f xs) ≡ sum (map g xs) → (x : ℕ) → Mem x xs → f x ≡ g x
  unfolding sum
  sums-tight [] h e x (i, l, q) = absurd (not-suc-le-zero l)
  sums-tight (y ∷ ys) h e x m =
      let rest : (z : ℕ) → Mem z ys → f z ≤ g z = λ z n. h z (there y z ys n) in
      let first = h y (here y ys) in
      let le = sum_less f g ys rest in
      let here-same : f y ≡ g y = omega arith in
      go (mem-cases x y ys m) here-same (sums-tight ys rest (omega arith) x)
    where
      go : (y ≡ x) ⊎ Mem x ys → f y ≡ g y → (Mem x ys → f x ≡ g x) → f x ≡ g x
      go (inl q) s ih = subst (λ z. f z ≡ g z) q s
      go (inr n) s ih = ih n
