-- Filters, counts and concatenations of two lists joined; lengths and places of ranges and of filled lists.
use mathlib.Core.Path.{◌≡◌, refl, sym, ap, ◌∙◌}
use mathlib.Core.Bool.{Bool, true, false, cond}
use mathlib.Core.List.{List, [], ◌∷◌, ◌++◌, map, append_assoc, append-nil}
use Prim.Native.Nat.{ℕ, zero, suc, ◌+◌, ◌-◌, ◌≤◌, ◌<◌}
use native.Mathlib.Nat.{not-suc-le-zero, le_of_suc-le-suc, zero-add, add-zero, sub-zero}
use native.Mathlib.Omega.{arith}
use lib.ListN.{length, get_or, set, take, replicate, length-append, length-replicate, get_or-append}
use lib.Seq.{set_at, append_snoc}
use Rattle.slices.specs.Lists.{filter, bit, count, range, concat_map, filled}
use Rattle.slices.specs.Order.{AllFrom, Sorted, ascending}
use Rattle.slices.proofs.Counts.{length-count}
use Rattle.slices.proofs.Sorted.{count-le}
use Rattle.slices.proofs.Rows.{count-ascending}

-- two lists joined
pub filter-append : (p : ℕ → Bool) (xs ys : List ℕ) → filter p (xs ++ ys) ≡ filter p xs ++ filter p ys
unfolding filter
filter-append p [] ys = refl
filter-append p (x ∷ xs) ys = go (p x) (filter-append p xs ys)
  where
    go : (b : Bool) → filter p (xs ++ ys) ≡ filter p xs ++ filter p ys
        → cond b (x ∷ filter p (xs ++ ys)) (filter p (xs ++ ys)) ≡ cond b (x ∷ filter p xs) (filter p xs) ++ filter p ys
    go true e = ap (λ (t : List ℕ). x ∷ t) e
    go false e = e

pub count-append : (p : ℕ → Bool) (xs ys : List ℕ) → count p (xs ++ ys) ≡ count p xs + count p ys
unfolding count
count-append p [] ys = omega arith
count-append p (x ∷ xs) ys = omega (arith, count-append p xs ys)

pub concat_map-append : (f : ℕ → List ℕ) (xs ys : List ℕ) → concat_map f (xs ++ ys) ≡ concat_map f xs ++ concat_map f ys
unfolding concat_map
concat_map-append f [] ys = refl
concat_map-append f (x ∷ xs) ys = ap (λ (t : List ℕ). f x ++ t) (concat_map-append f xs ys) ∙ sym (append_assoc (f x) (concat_map f xs) (concat_map f ys))

-- lengths of a filter and of a sort
pub length-filter : (p : ℕ → Bool) (xs : List ℕ) → length (filter p xs) ≡ count p xs
unfolding filter count
length-filter p [] = refl
length-filter p (x ∷ xs) = go (p x) (length-filter p xs)
  where
    go : (b : Bool) → length (filter p xs) ≡ count p xs → length (cond b (x ∷ filter p xs) (filter p xs)) ≡ bit b + count p xs
    go true e = omega arith
    go false e = omega arith

pub filter-shorter : (p : ℕ → Bool) (xs : List ℕ) → length (filter p xs) ≤ length xs
filter-shorter p xs = rw length-filter (count-le p xs)

pub length-ascending : (xs : List ℕ) → length (ascending xs) ≡ length xs
length-ascending xs = length-count (ascending xs) ∙ count-ascending (λ _. true) xs ∙ sym (length-count xs)

-- a filter keeps the order
filter-from : (p : ℕ → Bool) (x : ℕ) (xs : List ℕ) → AllFrom x xs → AllFrom x (filter p xs)
unfolding filter AllFrom
filter-from p x [] f = tt
filter-from p x (y ∷ ys) f = go (p y) (filter-from p x ys f.1)
  where
    go : (b : Bool) → AllFrom x (filter p ys) → AllFrom x (cond b (y ∷ filter p ys) (filter p ys))
    go true i = (f.0, i)
    go false i = i

pub filter-sorted : (p : ℕ → Bool) (xs : List ℕ) → Sorted xs → Sorted (filter p xs)
unfolding filter Sorted
filter-sorted p [] s = tt
filter-sorted p (x ∷ xs) s = go (p x) (filter-from p x xs s.0) (filter-sorted p xs s.1)
  where
    go : (b : Bool) → AllFrom x (filter p xs) → Sorted (filter p xs) → Sorted (cond b (x ∷ filter p xs) (filter p xs))
    go true f i = (f, i)
    go false f i = i

-- a range
pub length-range : (a n : ℕ) → length (range a n) ≡ n
unfolding range
length-range a zero = refl
length-range a (suc n) = ap suc (length-range (suc a) n)

pub get_or-range : (a n i : ℕ) → i < n → get_or (range a n) i 0 ≡ a + i
unfolding range
get_or-range a zero i h = absurd (not-suc-le-zero h)
get_or-range a (suc n) zero h = omega arith
get_or-range a (suc n) (suc i) h = get_or-range (suc a) n i (le_of_suc-le-suc h) ∙ omega arith

pub range-append : (a m n : ℕ) → range a (m + n) ≡ range a m ++ range (a + m) n
unfolding range
range-append a zero n = rw (zero-add n, add-zero a)
range-append a (suc m) n =
    let e : suc m + n ≡ suc (m + n) = omega arith in
    let f : suc a + m ≡ a + suc m = omega arith in
    rw e (ap (λ (t : List ℕ). a ∷ t) (range-append (suc a) m n ∙ ap (λ (k : ℕ). range (suc a) m ++ range k n) f))

-- a filled list
pub filled_none : (n : ℕ) → filled n [] ≡ replicate n 0
filled_none n = ap (λ (k : ℕ). replicate k 0) (sub-zero n)

pub length-filled : (n : ℕ) (xs : List ℕ) → length xs ≤ n → length (filled n xs) ≡ n
length-filled n xs h = length-append xs (replicate (n - length xs) 0) ∙ ap (length xs +◌) (length-replicate (n - length xs) 0) ∙ omega arith

pub get_or-filled : (n : ℕ) (xs : List ℕ) (i : ℕ) → i < length xs → get_or (filled n xs) i 0 ≡ get_or xs i 0
get_or-filled n xs i h = get_or-append xs (replicate (n - length xs) 0) 0 i h

pub filled-full : (n : ℕ) (xs : List ℕ) → n ≤ length xs → filled n xs ≡ xs
filled-full n xs h = let e : n - length xs ≡ 0 = omega arith in ap (λ (k : ℕ). xs ++ replicate k 0) e ∙ append-nil xs

-- the next one is stored in the first unused place
pub filled-store : (n : ℕ) (xs : List ℕ) (x : ℕ) → length xs < n → set (filled n xs) (length xs) x ≡ filled n (xs ++ x ∷ [])
filled-store n xs x h =
    let e : n - length xs ≡ suc (n - (length xs + 1)) = omega arith in
    let f : length (xs ++ x ∷ []) ≡ length xs + 1 = length-append xs (x ∷ []) in
    ap (λ (k : ℕ). set (xs ++ replicate k 0) (length xs) x) e
    ∙ set_at xs 0 (replicate (n - (length xs + 1)) 0) x (length xs) refl
    ∙ sym (append_snoc xs x (replicate (n - (length xs + 1)) 0))
    ∙ ap (λ (k : ℕ). (xs ++ x ∷ []) ++ replicate (n - k) 0) (sym f)

-- what `clear_from` leaves of a slice that begins with xs
pub cleared-filled : (xs s : List ℕ) → take (length xs) s ≡ xs → take (length xs) s ++ replicate (length s - length xs) 0 ≡ filled (length s) xs
cleared-filled xs s e = ap (λ (t : List ℕ). t ++ replicate (length s - length xs) 0) e

-- an entry of a map
pub get_d_map : (f : ℕ → ℕ) (xs : List ℕ) (i : ℕ) → i < length xs → get_or (map f xs) i 0 ≡ f (get_or xs i 0)
get_d_map f [] i l = absurd (not-suc-le-zero l)
get_d_map f (x ∷ xs) zero l = refl
get_d_map f (x ∷ xs) (suc i) l = get_d_map f xs i (le_of_suc-le-suc l)
