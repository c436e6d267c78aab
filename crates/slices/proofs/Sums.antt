-- Sums over a list.
use mathlib.Core.Path.{◌≡◌, refl, sym, ap, ◌∙◌, subst}
use mathlib.Core.Bool.{Bool, true, false, cond}
use mathlib.Core.List.{List, [], ◌∷◌, map}
use Prim.Native.Nat.{ℕ, zero, suc, ◌+◌, ◌≤◌, ◌<◌, zero-le, suc-le-suc}
use native.Mathlib.Omega.{arith}
use native.Mathlib.Nat.{not-suc-le-zero, le_of_suc-le-suc, zero-add}
use native.Mathlib.Decide.{dec_lt}
use lib.Dec.{ltb}
use lib.ListN.{length, get_or, take, drop}
use Rattle.slices.specs.Lists.{bit, count, sum, Mem}
use Rattle.slices.proofs.Counts.{here, there}

pub sum_same : (f g : ℕ → ℕ) (xs : List ℕ) → ((x : ℕ) → Mem x xs → f x ≡ g x) → sum (map f xs) ≡ sum (map g xs)
unfolding sum
sum_same f g [] h = refl
sum_same f g (x ∷ xs) h = omega (arith, h x (here x xs), sum_same f g xs (λ y m. h y (there x y xs m)))

pub sum_both : (f g : ℕ → ℕ) (xs : List ℕ) → sum (map (λ x. f x + g x) xs) ≡ sum (map f xs) + sum (map g xs)
unfolding sum
sum_both f g [] = refl
sum_both f g (x ∷ xs) = omega (arith, sum_both f g xs)

pub sum-none : (f : ℕ → ℕ) (xs : List ℕ) → ((x : ℕ) → Mem x xs → f x ≡ 0) → sum (map f xs) ≡ 0
unfolding sum
sum-none f [] h = refl
sum-none f (x ∷ xs) h = omega (arith, h x (here x xs), sum-none f xs (λ y m. h y (there x y xs m)))

pub sum-swap : (f : ℕ → ℕ → ℕ) (xs ys : List ℕ) → sum (map (λ x. sum (map (f x) ys)) xs) ≡ sum (map (λ y. sum (map (λ x. f x y) xs)) ys)
unfolding sum
sum-swap f [] ys = sym (sum-none (λ y. 0) ys (λ x m. refl))
sum-swap f (x ∷ xs) ys = omega (arith, sum-swap f xs ys, sum_both (f x) (λ y. sum (map (λ x. f x y) xs)) ys)

-- how many pass a test, as a sum
pub sum-bits : (p : ℕ → Bool) (xs : List ℕ) → sum (map (λ x. bit (p x)) xs) ≡ count p xs
unfolding sum count
sum-bits p [] = refl
sum-bits p (x ∷ xs) = omega (arith, sum-bits p xs)

-- n, as often as a test passes
pub sum-times : (p : ℕ → Bool) (n : ℕ) (xs : List ℕ) → count p xs ≤ 1 → sum (map (λ x. cond (p x) n 0) xs) ≡ cond (ltb 0 (count p xs)) n 0
unfolding sum count
sum-times p n [] h = refl
sum-times p n (x ∷ xs) h = go (p x) refl (sum-times p n xs)
  where
    go : (b : Bool) → p x ≡ b → (count p xs ≤ 1 → sum (map (λ x. cond (p x) n 0) xs) ≡ cond (ltb 0 (count p xs)) n 0)
        → cond (p x) n 0 + sum (map (λ x. cond (p x) n 0) xs) ≡ cond (ltb 0 (bit (p x) + count p xs)) n 0
    go true e ih =
        let few : bit true + count p xs ≤ 1 = subst (λ b. bit b + count p xs ≤ 1) e h in
        let z : count p xs ≡ 0 = omega arith in
        rw (e, ih (omega arith), z) (omega arith)
    go false e ih =
        let few : bit false + count p xs ≤ 1 = subst (λ b. bit b + count p xs ≤ 1) e h in
        let z : count p xs ≡ bit false + count p xs = omega arith in
        rw (e, ih (omega arith)) (zero-add _ ∙ ap (λ m. cond (ltb 0 m) n 0) z)

-- a term is not more than the sum, and a sum above 0 has a term above 0
pub sum-term : (f : ℕ → ℕ) (xs : List ℕ) (x : ℕ) → Mem x xs → f x ≤ sum (map f xs)
unfolding sum
sum-term f [] x (i, l, e) = absurd (omega arith)
sum-term f (y ∷ ys) x (zero, l, e) = omega (arith, ap f e)
sum-term f (y ∷ ys) x (suc i, l, e) = omega (arith, sum-term f ys x (i, le_of_suc-le-suc l, e))

pub sum-pos : (f : ℕ → ℕ) (xs : List ℕ) → 0 < sum (map f xs) → (x : ℕ) × Mem x xs × (0 < f x)
unfolding sum
sum-pos f [] h = absurd (omega arith)
sum-pos f (x ∷ xs) h = go (dec_lt 0 (f x)) (sum-pos f xs)
  where
    go : Dec (0 < f x) → (0 < sum (map f xs) → (y : ℕ) × Mem y xs × (0 < f y)) → (y : ℕ) × Mem y (x ∷ xs) × (0 < f y)
    go (yes l) ih = (x, here x xs, l)
    go (no n) ih = let (y, m, p) = ih (omega arith) in (y, there x y xs m, p)

-- smaller terms have a smaller sum
pub sum_less : (f g : ℕ → ℕ) (xs : List ℕ) → ((x : ℕ) → Mem x xs → f x ≤ g x) → sum (map f xs) ≤ sum (map g xs)
unfolding sum
sum_less f g [] h = zero-le
sum_less f g (x ∷ xs) h = omega (arith, h x (here x xs), sum_less f g xs (λ y m. h y (there x y xs m)))

-- ---- the terms up to a place

pub sum-take : (xs : List ℕ) (i : ℕ) → sum (take (suc i) xs) ≡ sum (take i xs) + get_or xs i 0
unfolding sum
sum-take [] zero = refl
sum-take [] (suc i) = refl
sum-take (x ∷ xs) zero = omega arith
sum-take (x ∷ xs) (suc i) = omega (arith, sum-take xs i)

pub sum_mono : (xs : List ℕ) (i j : ℕ) → i ≤ j → sum (take i xs) ≤ sum (take j xs)
unfolding sum
sum_mono xs zero j h = zero-le
sum_mono xs (suc i) zero h = absurd (not-suc-le-zero h)
sum_mono [] (suc i) (suc j) h = zero-le
sum_mono (x ∷ xs) (suc i) (suc j) h = omega (arith, sum_mono xs i j (le_of_suc-le-suc h))

pub sum-whole : (xs : List ℕ) (i : ℕ) → sum (take i xs) ≤ sum xs
unfolding sum
sum-whole xs zero = zero-le
sum-whole [] (suc i) = zero-le
sum-whole (x ∷ xs) (suc i) = omega (arith, sum-whole xs i)

pub sum-all : (xs : List ℕ) → sum (take (length xs) xs) ≡ sum xs
unfolding sum
sum-all [] = refl
sum-all (x ∷ xs) = omega (arith, sum-all xs)

-- ---- the terms from a place on

pub sum-next : (f : ℕ → ℕ) (xs : List ℕ) (i : ℕ) → i < length xs → sum (map f (drop i xs)) ≡ f (get_or xs i 0) + sum (map f (drop (suc i) xs))
unfolding sum
sum-next f [] i l = absurd (not-suc-le-zero l)
sum-next f (x ∷ xs) zero l = refl
sum-next f (x ∷ xs) (suc i) l = sum-next f xs i (le_of_suc-le-suc l)

pub sum-late : (f : ℕ → ℕ) (xs : List ℕ) (i : ℕ) → sum (map f (drop i xs)) ≤ sum (map f xs)
unfolding sum
sum-late f xs zero = omega arith
sum-late f [] (suc i) = zero-le
sum-late f (x ∷ xs) (suc i) = omega (arith, sum-late f xs i)

-- those before it are 0
pub sum-from : (f : ℕ → ℕ) (xs : List ℕ) (i : ℕ) → ((j : ℕ) → j < i → j < length xs → f (get_or xs j 0) ≡ 0) → sum (map f xs) ≡ sum (map f (drop i xs))
unfolding sum
sum-from f xs zero h = refl
sum-from f [] (suc i) h = refl
sum-from f (x ∷ xs) (suc i) h = omega (arith, h 0 (omega arith) (omega arith), sum-from f xs i (λ j l m. h (suc j) (suc-le-suc l) (suc-le-suc m)))

-- those from it on are 0
pub sum_to : (f : ℕ → ℕ) (xs : List ℕ) (i : ℕ) → ((j : ℕ) → i ≤ j → j < length xs → f (get_or xs j 0) ≡ 0) → sum (map f (drop i xs)) ≡ 0
unfolding sum
sum_to f [] zero h = refl
sum_to f (x ∷ xs) zero h = omega (arith, h 0 zero-le (omega arith), sum_to f xs zero (λ j l m. h (suc j) zero-le (suc-le-suc m)))
sum_to f [] (suc i) h = refl
sum_to f (x ∷ xs) (suc i) h = sum_to f xs i (λ j l m. h (suc j) (suc-le-suc l) (suc-le-suc m))
