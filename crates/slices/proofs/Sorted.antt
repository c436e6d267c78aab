-- Counts in a sorted list, by the element at a place; and a count between two bounds, in any list.
use mathlib.Core.Path.{◌≡◌, refl, ◌∙◌}
use mathlib.Core.Bool.{Bool, true, false, ◌&&◌}
use mathlib.Core.Logic.{⊎_elim}
use mathlib.Core.List.{List, [], ◌∷◌}
use Prim.Native.Nat.{ℕ, zero, suc, ◌+◌, ◌-◌, ◌≤◌, ◌<◌}
use native.Mathlib.Nat.{not-suc-le-zero, le_of_suc-le-suc}
use native.Mathlib.Omega.{arith}
use borrow.Author.Tests.{lt-ltb, le-ltb, le-leb, lt-leb}
use lib.Dec.{leb, ltb}
use lib.ListN.{length, get_or}
use Rattle.slices.specs.Lists.{count}
use Rattle.slices.specs.Order.{AllFrom, Sorted, count_below, count_in}
use Rattle.slices.proofs.Tests.{lt-or-le}

-- one more for a head that passes
pub count_yes : (p : ℕ → Bool) (x : ℕ) (xs : List ℕ) → p x ≡ true → count p (x ∷ xs) ≡ suc (count p xs)
unfolding count
count_yes p x xs e = rw e (omega arith)

pub count_no : (p : ℕ → Bool) (x : ℕ) (xs : List ℕ) → p x ≡ false → count p (x ∷ xs) ≡ count p xs
unfolding count
count_no p x xs e = rw e (omega arith)

pub count-le : (p : ℕ → Bool) (l : List ℕ) → count p l ≤ length l
unfolding count
count-le p [] = omega arith
count-le p (x ∷ xs) = go (p x) refl (count-le p xs)
  where
    go : (t : Bool) → p x ≡ t → count p xs ≤ length xs → count p (x ∷ xs) ≤ length (x ∷ xs)
    go true e i = omega (arith, count_yes p x xs e)
    go false e i = omega (arith, count_no p x xs e)

pub below-yes : (x y : ℕ) (ys : List ℕ) → y < x → count_below x (y ∷ ys) ≡ suc (count_below x ys)
below-yes x y ys h = count_yes (λ c. ltb c x) y ys (lt-ltb y x h)

pub below-no : (x y : ℕ) (ys : List ℕ) → x ≤ y → count_below x (y ∷ ys) ≡ count_below x ys
below-no x y ys h = count_no (λ c. ltb c x) y ys (le-ltb y x h)

pub from_at : (y : ℕ) (l : List ℕ) (k : ℕ) → AllFrom y l → k < length l → y ≤ get_or l k 0
unfolding AllFrom
from_at y [] k f h = absurd (not-suc-le-zero h)
from_at y (z ∷ zs) zero f h = f.0
from_at y (z ∷ zs) (suc k) f h = from_at y zs k f.1 (le_of_suc-le-suc h)

none_below : (x y : ℕ) (l : List ℕ) → AllFrom y l → x ≤ y → count_below x l ≡ 0
unfolding AllFrom count
none_below x y [] f h = refl
none_below x y (z ∷ zs) f h =
    let i : count_below x zs ≡ 0 = none_below x y zs f.1 h in
    let g : x ≤ z = omega (arith, f.0) in
    below-no x z zs g ∙ i

-- in a sorted list the element at k settles how many are below x
pub settles : (x : ℕ) (l : List ℕ) (k : ℕ) → Sorted l → k < length l
    → (get_or l k 0 < x → k < count_below x l) × (x ≤ get_or l k 0 → count_below x l ≤ k)
unfolding Sorted
settles x [] k s h = absurd (not-suc-le-zero h)
settles x (y ∷ ys) zero s h =
    (λ b. omega (arith, below-yes x y ys b), λ a. omega (arith, below-no x y ys a, none_below x y ys s.0 a))
settles x (y ∷ ys) (suc k) s h =
    let i = settles x ys k s.1 (le_of_suc-le-suc h) in
    let f : y ≤ get_or ys k 0 = from_at y ys k s.0 (le_of_suc-le-suc h) in (
      λ b. omega (arith, below-yes x y ys (omega arith), i.0 b),
      λ a. ⊎_elim (λ l. omega (arith, below-yes x y ys l, i.1 a)) (λ l. omega (arith, below-no x y ys l, i.1 a)) (lt-or-le y x),
    )

-- a count between two bounds is a difference of two counts below
module _ (lo hi : ℕ) where
  in-yes : (y : ℕ) (ys : List ℕ) → lo ≤ y → y < hi → count_in lo hi (y ∷ ys) ≡ suc (count_in lo hi ys)
  in-yes y ys a b = count_yes (λ c. leb lo c && ltb c hi) y ys (rw (le-leb lo y a, lt-ltb y hi b))

  in-low : (y : ℕ) (ys : List ℕ) → y < lo → count_in lo hi (y ∷ ys) ≡ count_in lo hi ys
  in-low y ys a = count_no (λ c. leb lo c && ltb c hi) y ys (rw (lt-leb lo y a))

  in-high : (y : ℕ) (ys : List ℕ) → lo ≤ y → hi ≤ y → count_in lo hi (y ∷ ys) ≡ count_in lo hi ys
  in-high y ys a b = count_no (λ c. leb lo c && ltb c hi) y ys (rw (le-leb lo y a, le-ltb y hi b))

  in-ordered : lo ≤ hi → (l : List ℕ) → count_in lo hi l + count_below lo l ≡ count_below hi l
  unfolding count
  in-ordered h [] = refl
  in-ordered h (y ∷ ys) =
      let i = in-ordered h ys in
      ⊎_elim
      (λ a. omega (arith, i, in-low y ys a, below-yes lo y ys a, below-yes hi y ys (omega arith)))
      (λ a. ⊎_elim
      (λ b. omega (arith, i, in-yes y ys a b, below-no lo y ys a, below-yes hi y ys b))
      (λ b. omega (arith, i, in-high y ys a b, below-no lo y ys a, below-no hi y ys b))
      (lt-or-le y hi))
      (lt-or-le y lo)

  in-empty : hi ≤ lo → (l : List ℕ) → (count_in lo hi l ≡ 0) × (count_below hi l ≤ count_below lo l)
  unfolding count
  in-empty h [] = omega arith
  in-empty h (y ∷ ys) =
      let i = in-empty h ys in
      ⊎_elim
      (λ a. ⊎_elim
      (λ b. omega (arith, i, in-low y ys a, below-yes lo y ys a, below-yes hi y ys b))
      (λ b. omega (arith, i, in-low y ys a, below-yes lo y ys a, below-no hi y ys b))
      (lt-or-le y hi))
      (λ a. omega (arith, i, in-high y ys a (omega arith), below-no lo y ys a, below-no hi y ys (omega arith)))
      (lt-or-le y lo)

  pub in_is : (l : List ℕ) → count_in lo hi l ≡ count_below hi l - count_below lo l
  in_is l = ⊎_elim (λ h. omega (arith, in-ordered (omega arith) l)) (λ h. omega (arith, in-empty h l)) (lt-or-le lo hi)
