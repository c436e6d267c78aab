-- Members of a filter, of a range and of a function's values.
use mathlib.Core.Path.{◌≡◌, refl, sym, ap, ◌∙◌}
use mathlib.Core.Bool.{Bool, true, false, cond}
use mathlib.Core.List.{List, [], ◌∷◌, map}
use mathlib.Core.Logic.{◌⊎◌, inl, inr}
use Prim.Native.Nat.{ℕ, zero, suc, ◌<◌}
use native.Mathlib.Omega.{arith}
use native.Mathlib.Nat.{not-suc-le-zero, le_of_suc-le-suc, zero-add}
use Rattle.slices.specs.Lists.{filter, range, Mem, Distinct}
use Rattle.slices.proofs.Tests.{clash}
use Rattle.slices.proofs.Counts.{here, there}
use Rattle.slices.proofs.Lists.{length-range, get_or-range}

-- a member of a list that is no empty one is its head, or a member of the rest
pub mem-cases : (y x : ℕ) (xs : List ℕ) → Mem y (x ∷ xs) → (x ≡ y) ⊎ Mem y xs
mem-cases y x xs (zero, l, e) = inl e
mem-cases y x xs (suc i, l, e) = inr (i, le_of_suc-le-suc l, e)

-- ---- the values of a function

pub map-mem : (f : ℕ → ℕ) (xs : List ℕ) (x : ℕ) → Mem x xs → Mem (f x) (map f xs)
map-mem f [] x (i, l, e) = absurd (not-suc-le-zero l)
map-mem f (z ∷ xs) x (zero, l, e) = (0, omega arith, ap f e)
map-mem f (z ∷ xs) x (suc i, l, e) = there (f z) (f x) (map f xs) (map-mem f xs x (i, le_of_suc-le-suc l, e))

pub mem-map : (f : ℕ → ℕ) (xs : List ℕ) (y : ℕ) → Mem y (map f xs) → (x : ℕ) × Mem x xs × (f x ≡ y)
mem-map f [] y (i, l, e) = absurd (not-suc-le-zero l)
mem-map f (z ∷ xs) y (zero, l, e) = (z, here z xs, e)
mem-map f (z ∷ xs) y (suc i, l, e) = let r = mem-map f xs y (i, le_of_suc-le-suc l, e) in (r.0, there z r.0 xs r.1, r.2)

-- ---- a filter

pub filter-mem : (p : ℕ → Bool) (xs : List ℕ) (x : ℕ) → Mem x xs → p x ≡ true → Mem x (filter p xs)
unfolding filter
filter-mem p [] x (i, l, e) h = absurd (not-suc-le-zero l)
filter-mem p (z ∷ xs) x m h = go (p z) refl (mem-cases x z xs m) (λ r. filter-mem p xs x r h)
  where
    go : (b : Bool) → p z ≡ b → (z ≡ x) ⊎ Mem x xs → (Mem x xs → Mem x (filter p xs)) → Mem x (cond b (z ∷ filter p xs) (filter p xs))
    go true e (inl s) rest = (0, omega arith, s)
    go true e (inr r) rest = there z x (filter p xs) (rest r)
    go false e (inl s) rest = absurd (clash h (ap p (sym s) ∙ e))
    go false e (inr r) rest = rest r

pub mem-filter : (p : ℕ → Bool) (xs : List ℕ) (x : ℕ) → Mem x (filter p xs) → Mem x xs × (p x ≡ true)
unfolding filter
mem-filter p [] x (i, l, e) = absurd (not-suc-le-zero l)
mem-filter p (z ∷ xs) x m = go (p z) refl m (mem-filter p xs x)
  where
    up : Mem x xs × (p x ≡ true) → Mem x (z ∷ xs) × (p x ≡ true)
    up r = (there z x xs r.0, r.1)

    head : p z ≡ true → (z ≡ x) ⊎ Mem x (filter p xs) → (Mem x (filter p xs) → Mem x xs × (p x ≡ true)) → Mem x (z ∷ xs) × (p x ≡ true)
    head e (inl s) rest = ((0, omega arith, s), ap p (sym s) ∙ e)
    head e (inr r) rest = up (rest r)

    go : (b : Bool) → p z ≡ b → Mem x (cond b (z ∷ filter p xs) (filter p xs)) → (Mem x (filter p xs) → Mem x xs × (p x ≡ true)) → Mem x (z ∷ xs) × (p x ≡ true)
    go true e n rest = head e (mem-cases x z (filter p xs) n) rest
    go false e n rest = up (rest n)

-- ---- a range

pub range-mem : (n i : ℕ) → i < n → Mem i (range 0 n)
range-mem n i h = (i, rw (length-range 0 n) h, get_or-range 0 n i h ∙ zero-add i)

pub mem-range : (n i : ℕ) → Mem i (range 0 n) → i < n
mem-range n i (j, l, e) =
    let lt : j < n = omega (arith, length-range 0 n) in
    omega (arith, get_or-range 0 n j lt)

-- ---- distinct numbers

-- a list is distinct where its head is no member of the rest, which is distinct
pub distinct_cons : (x : ℕ) (xs : List ℕ) → (Mem x xs → ⊥) → Distinct xs → Distinct (x ∷ xs)
distinct_cons x xs n d zero zero li lj e = refl
distinct_cons x xs n d zero (suc j) li lj e = absurd (n (j, le_of_suc-le-suc lj, sym e))
distinct_cons x xs n d (suc i) zero li lj e = absurd (n (i, le_of_suc-le-suc li, e))
distinct_cons x xs n d (suc i) (suc j) li lj e = ap suc (d i j (le_of_suc-le-suc li) (le_of_suc-le-suc lj) e)

-- the rest of a distinct list
pub distinct-rest : (x : ℕ) (xs : List ℕ) → Distinct (x ∷ xs) → Distinct xs
distinct-rest x xs d i j li lj e = omega (arith, d (suc i) (suc j) (omega arith) (omega arith) e)

pub distinct_head : (x : ℕ) (xs : List ℕ) → Distinct (x ∷ xs) → Mem x xs → ⊥
distinct_head x xs d (i, l, e) = omega (arith, d 0 (suc i) (omega arith) (omega arith) (sym e))

pub filter-distinct : (p : ℕ → Bool) (xs : List ℕ) → Distinct xs → Distinct (filter p xs)
unfolding filter
filter-distinct p [] d = d
filter-distinct p (x ∷ xs) d = go (p x) (filter-distinct p xs (distinct-rest x xs d))
  where
    go : (b : Bool) → Distinct (filter p xs) → Distinct (cond b (x ∷ filter p xs) (filter p xs))
    go true rest = distinct_cons x (filter p xs) (λ m. distinct_head x xs d (mem-filter p xs x m).0) rest
    go false rest = rest

-- values of a function that tells the members apart
pub map-distinct : (f : ℕ → ℕ) (xs : List ℕ) → ((x y : ℕ) → Mem x xs → Mem y xs → f x ≡ f y → x ≡ y) → Distinct xs → Distinct (map f xs)
map-distinct f [] tells d = d
map-distinct f (x ∷ xs) tells d =
    distinct_cons (f x) (map f xs) head (map-distinct f xs (λ y z my mz. tells y z (there x y xs my) (there x z xs mz)) (distinct-rest x xs d))
  where
    head : Mem (f x) (map f xs) → ⊥
    head m = let r = mem-map f xs (f x) m in
        distinct_head x xs d (r.1.0, r.1.1, r.1.2 ∙ tells r.0 x (there x r.0 xs r.1) (here x xs) r.2)

pub range-distinct : (n : ℕ) → Distinct (range 0 n)
range-distinct n i j li lj e =
    let hi : i < n = omega (arith, length-range 0 n) in
    let hj : j < n = omega (arith, length-range 0 n) in
    omega (arith, get_or-range 0 n i hi, get_or-range 0 n j hj)
