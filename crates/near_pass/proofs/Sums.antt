-- Sums over those of a list that pass a test.
use mathlib.Core.Path.{◌≡◌, refl, ap, ◌∙◌}
use mathlib.Core.Bool.{Bool, true, false, cond}
use mathlib.Core.List.{List, [], ◌∷◌, map}
use Prim.Native.Nat.{ℕ, suc, ◌+◌, ◌*◌, ◌≤◌, zero-le}
use native.Mathlib.Omega.{arith}
use lib.Dec.{leb}
use Rattle.slices.specs.Lists.{filter, bit, sum, Mem}
use Rattle.slices.specs.Order.{insert, ascending}
use Rattle.slices.proofs.Sums.{sum_same, sum_both}

module _ (f : ℕ → ℕ) where
  pub filter-le : (p : ℕ → Bool) (xs : List ℕ) → sum (map f (filter p xs)) ≤ sum (map f xs)
  unfolding filter sum
  filter-le p [] = zero-le
  filter-le p (x ∷ xs) = go (p x) (filter-le p xs)
    where
      go : (b : Bool) → sum (map f (filter p xs)) ≤ sum (map f xs) → sum (map f (cond b (x ∷ filter p xs) (filter p xs))) ≤ f x + sum (map f xs)
      go true h = omega arith
      go false h = omega arith

  -- what fails the test adds nothing
  pub filter-sum : (p : ℕ → Bool) (xs : List ℕ) → sum (map f (filter p xs)) ≡ sum (map (λ x. cond (p x) (f x) 0) xs)
  unfolding filter sum
  filter-sum p [] = refl
  filter-sum p (x ∷ xs) = go (p x) (filter-sum p xs)
    where
      go : (b : Bool) → sum (map f (filter p xs)) ≡ sum (map (λ x. cond (p x) (f x) 0) xs)
          → sum (map f (cond b (x ∷ filter p xs) (filter p xs))) ≡ cond b (f x) 0 + sum (map (λ x. cond (p x) (f x) 0) xs)
      go true h = ap (λ (n : ℕ). f x + n) h
      go false h = omega arith

  -- a test in two parts
  pub filter_parts : (p q r : ℕ → Bool) (xs : List ℕ) → ((x : ℕ) → Mem x xs → bit (r x) ≡ bit (p x) + bit (q x)) → sum (map f (filter r xs)) ≡ sum (map f (filter p xs)) + sum (map f (filter q xs))
  filter_parts p q r xs h =
      filter-sum r xs
      ∙ sum_same (λ x. cond (r x) (f x) 0) (λ x. cond (p x) (f x) 0 + cond (q x) (f x) 0) xs (λ x m. at (r x) (p x) (q x) (f x) (h x m))
      ∙ sum_both (λ x. cond (p x) (f x) 0) (λ x. cond (q x) (f x) 0) xs
      ∙ omega (arith, filter-sum p xs, filter-sum q xs)
    where
      at : (r p q : Bool) (n : ℕ) → bit r ≡ bit p + bit q → cond r n 0 ≡ cond p n 0 + cond q n 0
      at true true true n e = absurd (omega arith)
      at true true false n e = omega arith
      at true false true n e = omega arith
      at true false false n e = absurd (omega arith)
      at false true q n e = absurd (omega arith)
      at false false true n e = absurd (omega arith)
      at false false false n e = refl

  insert-sum : (x : ℕ) (xs : List ℕ) → sum (map f (insert x xs)) ≡ f x + sum (map f xs)
  unfolding insert sum
  insert-sum x [] = refl
  insert-sum x (y ∷ ys) = go (leb x y) (insert-sum x ys)
    where
      go : (b : Bool) → sum (map f (insert x ys)) ≡ f x + sum (map f ys) → sum (map f (cond b (x ∷ y ∷ ys) (y ∷ insert x ys))) ≡ f x + (f y + sum (map f ys))
      go true h = refl
      go false h = omega arith

  pub ascending-sum : (xs : List ℕ) → sum (map f (ascending xs)) ≡ sum (map f xs)
  unfolding ascending sum
  ascending-sum [] = refl
  ascending-sum (x ∷ xs) = insert-sum x (ascending xs) ∙ ap (λ (n : ℕ). f x + n) (ascending-sum xs)

  -- each at most so often another
  pub scaled : (g : ℕ → ℕ) (n : ℕ) → ((x : ℕ) → f x ≤ g x * n) → (xs : List ℕ) → sum (map f xs) ≤ sum (map g xs) * n
  unfolding sum
  scaled g n h [] = zero-le
  scaled g n h (x ∷ xs) = omega (arith, h x, scaled g n h xs)
