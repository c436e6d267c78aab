-- Members of a list, and counts of those that pass a test.
use mathlib.Core.Path.{◌≡◌, refl, sym, ap₂, ◌∙◌}
use mathlib.Core.Bool.{Bool, true, false, ◌||◌}
use mathlib.Core.List.{List, [], ◌∷◌, map}
use mathlib.Core.Logic.{◌≢◌}
use Prim.Native.Nat.{ℕ, zero, suc, ◌+◌, ◌≤◌, ◌<◌, zero-le, suc-le-suc}
use native.Mathlib.Omega.{arith}
use native.Mathlib.Nat.{zero-add, add-zero, le_of_suc-le-suc, not-suc-le-zero}
use native.Mathlib.Decide.{dec_lt}
use lib.Dec.{ltb}
use lib.ListN.{length, get_or}
use borrow.Author.Tests.{ltb-true, lt-ltb}
use Rattle.slices.specs.Lists.{any, bit, count, sum, range, Mem, Distinct}
use Rattle.slices.proofs.Tests.{refute}

pub here : (x : ℕ) (xs : List ℕ) → Mem x (x ∷ xs)
here x xs = (0, suc-le-suc zero-le, refl)

pub there : (x y : ℕ) (xs : List ℕ) → Mem y xs → Mem y (x ∷ xs)
there x y xs m = (suc m.0, suc-le-suc m.1, m.2)

-- a member that passes, and a count or `any` that sees it
pub count-pos : (p : ℕ → Bool) (xs : List ℕ) (i : ℕ) → i < length xs → p (get_or xs i 0) ≡ true → 0 < count p xs
unfolding count
count-pos p [] i l h = absurd (not-suc-le-zero l)
count-pos p (x ∷ xs) zero l h = rw h (omega arith)
count-pos p (x ∷ xs) (suc i) l h = omega (arith, count-pos p xs i (le_of_suc-le-suc l) h)

pub pos-count : (p : ℕ → Bool) (xs : List ℕ) → 0 < count p xs → (x : ℕ) × Mem x xs × (p x ≡ true)
unfolding count
pos-count p [] h = absurd (not-suc-le-zero h)
pos-count p (x ∷ xs) h = go (p x) refl h (pos-count p xs)
  where
    go : (b : Bool) → p x ≡ b → 0 < bit b + count p xs → (0 < count p xs → (y : ℕ) × Mem y xs × (p y ≡ true)) → (y : ℕ) × Mem y (x ∷ xs) × (p y ≡ true)
    go true e h ih = (x, here x xs, e)
    go false e h ih = let r = ih (omega arith) in (r.0, there x r.0 xs r.1, r.2)

pub any-count : (p : ℕ → Bool) (xs : List ℕ) → any p xs ≡ ltb 0 (count p xs)
unfolding any count
any-count p [] = refl
any-count p (x ∷ xs) = go (p x) (any-count p xs)
  where
    go : (b : Bool) → any p xs ≡ ltb 0 (count p xs) → (b || any p xs) ≡ ltb 0 (bit b + count p xs)
    go true e = sym (lt-ltb 0 (1 + count p xs) (omega arith))
    go false e = rw zero-add e

pub any-intro : (p : ℕ → Bool) (xs : List ℕ) (x : ℕ) → Mem x xs → p x ≡ true → any p xs ≡ true
any-intro p xs x m h = any-count p xs ∙ lt-ltb 0 (count p xs) (count-pos p xs m.0 m.1 (rw m.2 h))

pub any-elim : (p : ℕ → Bool) (xs : List ℕ) → any p xs ≡ true → (x : ℕ) × Mem x xs × (p x ≡ true)
any-elim p xs h = pos-count p xs (ltb-true 0 (count p xs) (sym (any-count p xs) ∙ h))

-- counts of tests that pass nowhere, at one member, or alike
count_none : (p : ℕ → Bool) (xs : List ℕ) → ((i : ℕ) → i < length xs → p (get_or xs i 0) ≡ false) → count p xs ≡ 0
unfolding count
count_none p [] none = refl
count_none p (x ∷ xs) none = rw (none 0 (omega arith), count_none p xs (λ i l. none (suc i) (omega arith)))

pub count-zero : (p : ℕ → Bool) (xs : List ℕ) → ((x : ℕ) → Mem x xs → p x ≡ true → ⊥) → count p xs ≡ 0
count-zero p xs none = count_none p xs (λ i l. refute (none (get_or xs i 0) (i, l, refl)))

count_at : (p : ℕ → Bool) (xs : List ℕ) (k : ℕ) → k < length xs → ((i : ℕ) → i < length xs → i ≢ k → p (get_or xs i 0) ≡ false)
    → count p xs ≡ bit (p (get_or xs k 0))
unfolding count
count_at p [] k l only = absurd (not-suc-le-zero l)
count_at p (x ∷ xs) zero l only = rw (count_none p xs (λ i h. only (suc i) (omega arith) (omega arith))) (add-zero _)
count_at p (x ∷ xs) (suc k) l only =
    rw (only 0 (omega arith) (omega arith)) (zero-add _ ∙ count_at p xs k (omega arith) (λ i h n. only (suc i) (omega arith) (omega arith)))

pub count-one : (p : ℕ → Bool) (xs : List ℕ) → Distinct xs → (k : ℕ) → Mem k xs → ((x : ℕ) → Mem x xs → p x ≡ true → x ≡ k) → count p xs ≡ bit (p k)
count-one p xs dist k m only = rw (← m.2)
    (count_at p xs m.0 m.1 (λ i l n. refute (λ h. n (dist i m.0 l m.1 (only (get_or xs i 0) (i, l, refl) h ∙ sym m.2)))))

pub count-few : (q : ℕ → Bool) (xs : List ℕ) → Distinct xs → ((x y : ℕ) → Mem x xs → Mem y xs → q x ≡ true → q y ≡ true → x ≡ y) → count q xs ≤ 1
count-few q xs dist same = go (dec_lt 0 (count q xs))
  where
    one : (b : Bool) → bit b ≤ 1
    one true = omega arith
    one false = omega arith

    go : Dec (0 < count q xs) → count q xs ≤ 1
    go (yes l) = let r = pos-count q xs l in rw (count-one q xs dist r.0 r.1 (λ x m h. same x r.0 m r.1 h r.2)) (one (q r.0))
    go (no n) = omega arith

pub count_add : (p q r : ℕ → Bool) (xs : List ℕ) → ((x : ℕ) → Mem x xs → bit (p x) ≡ bit (q x) + bit (r x)) → count p xs ≡ count q xs + count r xs
unfolding count
count_add p q r [] h = refl
count_add p q r (x ∷ xs) h = omega (arith, h x (here x xs), count_add p q r xs (λ y m. h y (there x y xs m)))

pub count-ext : (p q : ℕ → Bool) (xs : List ℕ) → ((x : ℕ) → Mem x xs → p x ≡ q x) → count p xs ≡ count q xs
unfolding count
count-ext p q [] h = refl
count-ext p q (x ∷ xs) h = ap₂ (λ b n. bit b + n) (h x (here x xs)) (count-ext p q xs (λ y m. h y (there x y xs m)))

pub length-count : (xs : List ℕ) → length xs ≡ count (λ _. true) xs
unfolding count
length-count [] = refl
length-count (x ∷ xs) = omega (arith, length-count xs)

-- a sum over a range, by its last term
pub sum-range : (g : ℕ → ℕ) (a n : ℕ) → sum (map g (range a (suc n))) ≡ sum (map g (range a n)) + g (a + n)
unfolding sum range
sum-range g a zero = rw (add-zero a) (omega arith)
sum-range g a (suc n) = let e : a + suc n ≡ suc a + n = omega arith in rw e (omega (arith, sum-range g (suc a) n))
