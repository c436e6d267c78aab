-- Lists of numbers that pass a test: taken twice, by another test, by keys, by positions, and put together.
use mathlib.Core.Path.{◌≡◌, refl, sym, ap, ap₂, ◌∙◌, subst}
use mathlib.Core.Bool.{Bool, true, false, ◌&&◌, ◌||◌, cond}
use mathlib.Core.List.{List, [], ◌∷◌, ◌++◌, map, append-nil}
use Prim.Native.Nat.{ℕ, zero, suc, ◌+◌, ◌-◌, ◌≤◌, ◌<◌}
use native.Mathlib.Omega.{arith}
use native.Mathlib.Nat.{zero-add}
use native.Mathlib.Numerals.{add-one}
use lib.ListN.{length, get_or, take, drop, length-append, take-append-drop}
use lib.Seq.{get_or-take, length-take-le, take-suc}
use Rattle.slices.specs.Lists.{bit, count, filter, range, concat_map, Mem}
use Rattle.slices.specs.Order.{Sorted}
use Rattle.slices.proofs.Tests.{clash, refute}
use Rattle.slices.proofs.Counts.{here, there}
use Rattle.slices.proofs.Lists.{filter-append, length-range, get_or-range, range-append, concat_map-append}
use Rattle.slices.proofs.Members.{mem-filter, mem-range}
use Rattle.slices.proofs.Order.{from_all}
use Rattle.links.proofs.Children.{filter_none}

pub filter-ext : (p q : ℕ → Bool) (xs : List ℕ) → ((x : ℕ) → Mem x xs → p x ≡ q x) → filter p xs ≡ filter q xs
unfolding filter
filter-ext p q [] h = refl
filter-ext p q (x ∷ xs) h = ap₂ (λ (b : Bool) (l : List ℕ). cond b (x ∷ l) l) (h x (here x xs)) (filter-ext p q xs (λ y m. h y (there x y xs m)))

-- those of the numbers below n
pub filter_same : (p q : ℕ → Bool) (n : ℕ) → ((j : ℕ) → j < n → p j ≡ q j) → filter p (range 0 n) ≡ filter q (range 0 n)
filter_same p q n h = filter-ext p q (range 0 n) (λ j m. h j (mem-range n j m))

pub filter-twice : (p q : ℕ → Bool) (xs : List ℕ) → filter p (filter q xs) ≡ filter (λ x. q x && p x) xs
unfolding filter
filter-twice p q [] = refl
filter-twice p q (x ∷ xs) = go (q x) (filter-twice p q xs)
  where
    go : (b : Bool) → filter p (filter q xs) ≡ filter (λ x. q x && p x) xs → filter p (cond b (x ∷ filter q xs) (filter q xs)) ≡ cond (b && p x) (x ∷ filter (λ x. q x && p x) xs) (filter (λ x. q x && p x) xs)
    go true e = ap (λ (l : List ℕ). cond (p x) (x ∷ l) l) e
    go false e = e

pub filter_map : (p : ℕ → Bool) (f : ℕ → ℕ) (xs : List ℕ) → map f (filter (λ j. p (f j)) xs) ≡ filter p (map f xs)
unfolding filter
filter_map p f [] = refl
filter_map p f (x ∷ xs) = go (p (f x)) (filter_map p f xs)
  where
    go : (b : Bool) → map f (filter (λ j. p (f j)) xs) ≡ filter p (map f xs) → map f (cond b (x ∷ filter (λ j. p (f j)) xs) (filter (λ j. p (f j)) xs)) ≡ cond b (f x ∷ filter p (map f xs)) (filter p (map f xs))
    go true e = ap (λ (l : List ℕ). f x ∷ l) e
    go false e = e

-- a list read by numbers
by_number : (f : ℕ → ℕ) (a : ℕ) (xs : List ℕ) → ((i : ℕ) → i < length xs → f (a + i) ≡ get_or xs i 0) → map f (range a (length xs)) ≡ xs
unfolding range
by_number f a [] h = refl
by_number f a (x ∷ xs) h =
    let e : a + 0 ≡ a = omega arith in
    ap₂ (λ (y : ℕ) (l : List ℕ). y ∷ l) (ap f (sym e) ∙ h 0 (omega arith)) (by_number f (suc a) xs (λ i l. let s : suc a + i ≡ a + suc i = omega arith in ap f s ∙ h (suc i) (omega arith)))

pub keys_filter : (p : ℕ → Bool) (keys : List ℕ) → map (λ j. get_or keys j 0) (filter (λ j. p (get_or keys j 0)) (range 0 (length keys))) ≡ filter p keys
keys_filter p keys =
    filter_map p (λ j. get_or keys j 0) (range 0 (length keys)) ∙ ap (filter p) (by_number (λ j. get_or keys j 0) 0 keys (λ i l. ap (λ n. get_or keys n 0) (zero-add i)))

-- the entries at positions that pass
pub positions : (m t : ℕ → Bool) (nodes : List ℕ) (c : ℕ) → c ≤ length nodes → ((i : ℕ) → i < c → m i ≡ t (get_or nodes i 0)) → map (λ i. get_or nodes i 0) (filter m (range 0 c)) ≡ filter t (take c nodes)
positions m t nodes c fits h =
    ap (map (λ i. get_or nodes i 0)) (filter_same m (λ i. t (get_or nodes i 0)) c h) ∙ filter_map t (λ i. get_or nodes i 0) (range 0 c) ∙ ap (filter t) first
  where
    size : length (take c nodes) ≡ c
    size = length-take-le c nodes fits

    first : map (λ i. get_or nodes i 0) (range 0 c) ≡ take c nodes
    first = ap (λ n. map (λ i. get_or nodes i 0) (range 0 n)) (sym size) ∙ by_number (λ i. get_or nodes i 0) 0 (take c nodes) (λ i l. ap (λ n. get_or nodes n 0) (zero-add i) ∙ sym (get_or-take c nodes i 0 (omega (arith, size))))

pub map-twice : (f g : ℕ → ℕ) (xs : List ℕ) → map f (map g xs) ≡ map (λ x. f (g x)) xs
map-twice f g [] = refl
map-twice f g (x ∷ xs) = ap (λ (l : List ℕ). f (g x) ∷ l) (map-twice f g xs)

pub map-append : (f : ℕ → ℕ) (xs ys : List ℕ) → map f (xs ++ ys) ≡ map f xs ++ map f ys
map-append f [] ys = refl
map-append f (x ∷ xs) ys = ap (λ (l : List ℕ). f x ∷ l) (map-append f xs ys)

pub length-mapped : (f : ℕ → ℕ) (xs : List ℕ) → length (map f xs) ≡ length xs
length-mapped f [] = refl
length-mapped f (x ∷ xs) = ap suc (length-mapped f xs)

-- where those that pass one test come before those that pass another
pub filter-either : (p q : ℕ → Bool) (a n : ℕ) → ((x y : ℕ) → x < a + n → y < a + n → p x ≡ true → q y ≡ true → x < y) → filter (λ x. p x || q x) (range a n) ≡ filter p (range a n) ++ filter q (range a n)
unfolding filter range
filter-either p q a zero h = refl
filter-either p q a (suc n) h = go (p a) (q a) refl refl (filter-either p q (suc a) n (λ x y lx ly. h x y (omega arith) (omega arith)))
  where
    go : (b c : Bool) → p a ≡ b → q a ≡ c → filter (λ x. p x || q x) (range (suc a) n) ≡ filter p (range (suc a) n) ++ filter q (range (suc a) n)
        → cond (b || c) (a ∷ filter (λ x. p x || q x) (range (suc a) n)) (filter (λ x. p x || q x) (range (suc a) n)) ≡ cond b (a ∷ filter p (range (suc a) n)) (filter p (range (suc a) n)) ++ cond c (a ∷ filter q (range (suc a) n)) (filter q (range (suc a) n))
    go true true e f ih = absurd (omega (arith, h a a (omega arith) (omega arith) e f))
    go true false e f ih = ap (λ (l : List ℕ). a ∷ l) ih
    go false false e f ih = ih
    go false true e f ih =
        let none : filter p (range (suc a) n) ≡ [] = filter_none p (range (suc a) n) (λ x m. refute (λ g. before x m g)) in
        ap (λ (l : List ℕ). a ∷ l) (ih ∙ ap (λ (l : List ℕ). l ++ filter q (range (suc a) n)) none) ∙ sym (ap (λ (l : List ℕ). l ++ a ∷ filter q (range (suc a) n)) none)
      where
        before : (x : ℕ) → Mem x (range (suc a) n) → p x ≡ true → ⊥
        before x (i, l, z) g =
            let lt : i < n = rw (length-range (suc a) n) at l in
            let at = get_or-range (suc a) n i lt in
            omega (arith, at, z, h x a (omega (arith, at, z)) (omega arith) g f)

-- those that pass stand in ascending order
pub filter-sorts : (p : ℕ → Bool) (xs : List ℕ) → ((i j : ℕ) → i < j → j < length xs → p (get_or xs i 0) ≡ true → p (get_or xs j 0) ≡ true → get_or xs i 0 ≤ get_or xs j 0) → Sorted (filter p xs)
unfolding filter Sorted
filter-sorts p [] h = tt
filter-sorts p (x ∷ xs) h = go (p x) refl (filter-sorts p xs (λ i j a b. h (suc i) (suc j) (omega arith) (omega arith)))
  where
    go : (b : Bool) → p x ≡ b → Sorted (filter p xs) → Sorted (cond b (x ∷ filter p xs) (filter p xs))
    go false e s = s
    go true e s = (from_all x (filter p xs) first, s)
      where
        first : (j : ℕ) → j < length (filter p xs) → x ≤ get_or (filter p xs) j 0
        first j l =
            let ((i, li, at), pass) = mem-filter p xs (get_or (filter p xs) j 0) (j, l, refl) in
            subst (λ y. x ≤ y) at (h 0 (suc i) (omega arith) (omega arith) e (subst (λ y. p y ≡ true) (sym at) pass))

-- ---- lengths
pub filter-fewer : (p q : ℕ → Bool) (xs : List ℕ) → ((x : ℕ) → p x ≡ true → q x ≡ true) → count p xs ≤ count q xs
unfolding count
filter-fewer p q [] h = omega arith
filter-fewer p q (x ∷ xs) h = omega (arith, filter-fewer p q xs h, less (p x) (q x) (h x))
  where
    less : (a b : Bool) → (a ≡ true → b ≡ true) → bit a ≤ bit b
    less true true f = omega arith
    less true false f = absurd (clash (f refl) refl)
    less false b f = omega arith

pub filter-longer : (p : ℕ → Bool) (a b : ℕ) → a ≤ b → length (filter p (range 0 a)) ≤ length (filter p (range 0 b))
filter-longer p a b h =
    let e : b ≡ a + (b - a) = omega arith in
    let s : filter p (range 0 b) ≡ filter p (range 0 a) ++ filter p (range (0 + a) (b - a)) = ap (λ n. filter p (range 0 n)) e ∙ ap (filter p) (range-append 0 a (b - a)) ∙ filter-append p (range 0 a) (range (0 + a) (b - a)) in
    omega (arith, ap length s ∙ length-append (filter p (range 0 a)) (filter p (range (0 + a) (b - a))))

pub concat-longer : (f : ℕ → List ℕ) (i : ℕ) (xs : List ℕ) → length (concat_map f (take i xs)) ≤ length (concat_map f xs)
concat-longer f i xs =
    let s : concat_map f xs ≡ concat_map f (take i xs) ++ concat_map f (drop i xs) = ap (concat_map f) (sym (take-append-drop i xs)) ∙ concat_map-append f (take i xs) (drop i xs) in
    omega (arith, ap length s ∙ length-append (concat_map f (take i xs)) (concat_map f (drop i xs)))

pub concat-more : (f : ℕ → List ℕ) (xs : List ℕ) (i : ℕ) → i < length xs → concat_map f (take (i + 1) xs) ≡ concat_map f (take i xs) ++ f (get_or xs i 0)
unfolding concat_map
concat-more f xs i l =
    ap (λ n. concat_map f (take n xs)) (add-one i) ∙ ap (concat_map f) (take-suc xs i 0 l) ∙ concat_map-append f (take i xs) (get_or xs i 0 ∷ []) ∙ ap (λ (l : List ℕ). concat_map f (take i xs) ++ l) (append-nil (f (get_or xs i 0)))
