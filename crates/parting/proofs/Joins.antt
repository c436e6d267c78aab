-- Lists one after the other, made from ranges and filters.
use mathlib.Core.Path.{◌≡◌, refl, sym, ap, ap₂, ◌∙◌}
use mathlib.Core.Bool.{Bool, true, false, ◌&&◌, cond}
use mathlib.Core.List.{List, [], ◌∷◌, ◌++◌, map, append-nil}
use Prim.Native.Nat.{ℕ, zero, suc, ◌+◌, ◌*◌, ◌≤◌, ◌<◌}
use native.Mathlib.Omega.{arith}
use native.Mathlib.Nat.{zero-add}
use lib.ListN.{length, get_or, take, drop, length-append}
use lib.Seq.{take-suc, drop-cons}
use Rattle.slices.specs.Lists.{filter, sum, range, concat_map, Mem}
use Rattle.slices.proofs.Counts.{here, there, sum-range}
use Rattle.slices.proofs.Lists.{concat_map-append, range-append, get_or-range, length-range}
use Rattle.slices.proofs.Sums.{sum-take}

-- ---- filters
pub filter_same : (p q : ℕ → Bool) (xs : List ℕ) → ((x : ℕ) → Mem x xs → p x ≡ q x) → filter p xs ≡ filter q xs
unfolding filter
filter_same p q [] h = refl
filter_same p q (x ∷ xs) h = ap₂ (λ (b : Bool) (t : List ℕ). cond b (x ∷ t) t) (h x (here x xs)) (filter_same p q xs (λ y m. h y (there x y xs m)))

pub filter-twice : (p q : ℕ → Bool) (xs : List ℕ) → filter p (filter q xs) ≡ filter (λ x. q x && p x) xs
unfolding filter
filter-twice p q [] = refl
filter-twice p q (x ∷ xs) = go (q x) (filter-twice p q xs)
  where
    go : (b : Bool) → filter p (filter q xs) ≡ filter (λ x. q x && p x) xs
        → filter p (cond b (x ∷ filter q xs) (filter q xs)) ≡ cond (b && p x) (x ∷ filter (λ x. q x && p x) xs) (filter (λ x. q x && p x) xs)
    go true e = ap (λ (t : List ℕ). cond (p x) (x ∷ t) t) e
    go false e = e

pub filter_map : (p : ℕ → Bool) (g : ℕ → ℕ) (xs : List ℕ) → filter p (map g xs) ≡ map g (filter (λ x. p (g x)) xs)
unfolding filter
filter_map p g [] = refl
filter_map p g (x ∷ xs) = go (p (g x)) (filter_map p g xs)
  where
    go : (b : Bool) → filter p (map g xs) ≡ map g (filter (λ x. p (g x)) xs)
        → cond b (g x ∷ filter p (map g xs)) (filter p (map g xs)) ≡ map g (cond b (x ∷ filter (λ x. p (g x)) xs) (filter (λ x. p (g x)) xs))
    go true e = ap (λ (t : List ℕ). g x ∷ t) e
    go false e = e

-- ---- lists joined
pub concat-same : (f h : ℕ → List ℕ) (xs : List ℕ) → ((x : ℕ) → Mem x xs → f x ≡ h x) → concat_map f xs ≡ concat_map h xs
unfolding concat_map
concat-same f h [] e = refl
concat-same f h (x ∷ xs) e = ap₂ (λ (t u : List ℕ). t ++ u) (e x (here x xs)) (concat-same f h xs (λ y m. e y (there x y xs m)))

pub concat-map : (f : ℕ → List ℕ) (g : ℕ → ℕ) (xs : List ℕ) → concat_map f (map g xs) ≡ concat_map (λ x. f (g x)) xs
unfolding concat_map
concat-map f g [] = refl
concat-map f g (x ∷ xs) = ap (λ (t : List ℕ). f (g x) ++ t) (concat-map f g xs)

pub concat-none : (f : ℕ → List ℕ) (xs : List ℕ) → ((x : ℕ) → Mem x xs → f x ≡ []) → concat_map f xs ≡ []
unfolding concat_map
concat-none f [] e = refl
concat-none f (x ∷ xs) e = ap₂ (λ (t u : List ℕ). t ++ u) (e x (here x xs)) (concat-none f xs (λ y m. e y (there x y xs m)))

-- what passes, and nothing of the rest
pub concat-filter : (f : ℕ → List ℕ) (p : ℕ → Bool) (xs : List ℕ) → concat_map f (filter p xs) ≡ concat_map (λ x. cond (p x) (f x) []) xs
unfolding concat_map filter
concat-filter f p [] = refl
concat-filter f p (x ∷ xs) = go (p x) (concat-filter f p xs)
  where
    go : (b : Bool) → concat_map f (filter p xs) ≡ concat_map (λ x. cond (p x) (f x) []) xs
        → concat_map f (cond b (x ∷ filter p xs) (filter p xs)) ≡ cond b (f x) [] ++ concat_map (λ x. cond (p x) (f x) []) xs
    go true e = ap (λ (t : List ℕ). f x ++ t) e
    go false e = e

pub concat-one : (f : ℕ → List ℕ) (x : ℕ) → concat_map f (x ∷ []) ≡ f x
unfolding concat_map
concat-one f x = append-nil (f x)

pub concat-empty : (f : ℕ → List ℕ) → concat_map f [] ≡ []
unfolding concat_map
concat-empty f = refl

pub concat-cons : (f : ℕ → List ℕ) (x : ℕ) (xs : List ℕ) → concat_map f (x ∷ xs) ≡ f x ++ concat_map f xs
unfolding concat_map
concat-cons f x xs = refl

-- one turn more: from the front, and from the rest
pub concat-take : (f : ℕ → List ℕ) (xs : List ℕ) (i : ℕ) → i < length xs → concat_map f (take (suc i) xs) ≡ concat_map f (take i xs) ++ f (get_or xs i 0)
concat-take f xs i h = ap (concat_map f) (take-suc xs i 0 h) ∙ concat_map-append f (take i xs) (get_or xs i 0 ∷ []) ∙ ap (λ (t : List ℕ). concat_map f (take i xs) ++ t) (concat-one f (get_or xs i 0))

pub concat-drop : (f : ℕ → List ℕ) (xs : List ℕ) (i : ℕ) → i < length xs → concat_map f (drop i xs) ≡ f (get_or xs i 0) ++ concat_map f (drop (suc i) xs)
concat-drop f xs i h = ap (concat_map f) (drop-cons xs i 0 h) ∙ concat-cons f (get_or xs i 0) (drop (suc i) xs)

pub concat-length : (f : ℕ → List ℕ) (h : ℕ → ℕ) (xs : List ℕ) → ((x : ℕ) → length (f x) ≡ h x) → length (concat_map f xs) ≡ sum (map h xs)
unfolding concat_map sum
concat-length f h [] e = refl
concat-length f h (x ∷ xs) e = length-append (f x) (concat_map f xs) ∙ ap₂ ◌+◌ (e x) (concat-length f h xs e)

-- ---- ranges
pub range-one : (a : ℕ) → range a 1 ≡ a ∷ []
unfolding range
range-one a = refl

pub range_cons : (a n : ℕ) → range a (suc n) ≡ a ∷ range (suc a) n
unfolding range
range_cons a n = refl

pub range-more : (n : ℕ) → range 0 (suc n) ≡ range 0 n ++ n ∷ []
range-more n =
    let e : suc n ≡ n + 1 = omega arith in
    ap (range 0) e ∙ range-append 0 n 1 ∙ ap (λ (t : List ℕ). range 0 n ++ t) (range-one (0 + n) ∙ ap (λ (m : ℕ). m ∷ []) (zero-add n))

shifted : (f : ℕ → List ℕ) (a n x : ℕ) → concat_map f (range (a + x) n) ≡ concat_map (λ b. f (a + b)) (range x n)
unfolding concat_map range
shifted f a zero x = refl
shifted f a (suc n) x = let e : suc (a + x) ≡ a + suc x = omega arith in ap (λ (t : List ℕ). f (a + x) ++ t) (ap (λ (y : ℕ). concat_map f (range y n)) e ∙ shifted f a n (suc x))

nothing : (f h : ℕ → List ℕ) → concat_map f (range 0 0) ≡ concat_map h (range 0 0)
unfolding concat_map range
nothing f h = refl

-- p times q numbers, in p parts
pub range-parts : (f : ℕ → List ℕ) (p q : ℕ) → concat_map f (range 0 (p * q)) ≡ concat_map (λ c. concat_map (λ b. f (c * q + b)) (range 0 q)) (range 0 p)
range-parts f zero q =
    let e : 0 * q ≡ 0 = omega arith in
    ap (λ (n : ℕ). concat_map f (range 0 n)) e ∙ nothing f (λ c. concat_map (λ b. f (c * q + b)) (range 0 q))
range-parts f (suc p) q =
    let e : suc p * q ≡ p * q + q = omega arith in
    let z : 0 + p * q ≡ p * q + 0 = omega arith in
    ap (λ (n : ℕ). concat_map f (range 0 n)) e
    ∙ ap (concat_map f) (range-append 0 (p * q) q)
    ∙ concat_map-append f (range 0 (p * q)) (range (0 + p * q) q)
    ∙ ap₂ (λ (t u : List ℕ). t ++ u) (range-parts f p q) (ap (λ (n : ℕ). concat_map f (range n q)) z ∙ shifted f (p * q) q 0)
    ∙ sym (ap (concat_map (λ c. concat_map (λ b. f (c * q + b)) (range 0 q))) (range-more p)
    ∙ concat_map-append (λ c. concat_map (λ b. f (c * q + b)) (range 0 q)) (range 0 p) (p ∷ [])
    ∙ ap (λ (t : List ℕ). concat_map (λ c. concat_map (λ b. f (c * q + b)) (range 0 q)) (range 0 p) ++ t) (concat-one (λ c. concat_map (λ b. f (c * q + b)) (range 0 q)) p))

-- a part of a list, added up
pub sum-part : (xs : List ℕ) (a n : ℕ) (h : ℕ → ℕ) → ((b : ℕ) → b < n → get_or xs (a + b) 0 ≡ h b) → sum (take n (drop a xs)) ≡ sum (map h (range 0 n))
unfolding sum range
sum-part xs a zero h e = refl
sum-part xs a (suc n) h e =
    sum-take (drop a xs) n
    ∙ omega (arith, sum-part xs a n h (λ b l. e b (omega arith)), sum-range h 0 n, lib.Seq.get_or-drop a xs n 0, e n (omega arith), ap h (zero-add n))

pub mem-from : (a n x : ℕ) → Mem x (range a n) → a ≤ x
mem-from a n x (i, l, e) = omega (arith, e, get_or-range a n i (omega (arith, l, length-range a n)))
