-- Members of lists that are joined.
use mathlib.Core.Path.{sym, subst}
use mathlib.Core.List.{List, [], ◌∷◌, ◌++◌}
use mathlib.Core.Logic.{◌⊎◌, inl, inr}
use Prim.Native.Nat.{ℕ, zero, suc, suc-le-suc, zero-le}
use native.Mathlib.Nat.{not-suc-le-zero, le_of_suc-le-suc}
use Rattle.slices.specs.Lists.{concat_map, Mem}
use Rattle.slices.proofs.Counts.{here, there}

pub append_left : (xs ys : List ℕ) (x : ℕ) → Mem x xs → Mem x (xs ++ ys)
append_left [] ys x (i, l, e) = absurd (not-suc-le-zero l)
append_left (z ∷ xs) ys x (zero, l, e) = (0, suc-le-suc zero-le, e)
append_left (z ∷ xs) ys x (suc i, l, e) = there z x (xs ++ ys) (append_left xs ys x (i, le_of_suc-le-suc l, e))

pub append_right : (xs ys : List ℕ) (x : ℕ) → Mem x ys → Mem x (xs ++ ys)
append_right [] ys x m = m
append_right (z ∷ xs) ys x m = there z x (xs ++ ys) (append_right xs ys x m)

pub mem-append : (xs ys : List ℕ) (x : ℕ) → Mem x (xs ++ ys) → Mem x xs ⊎ Mem x ys
mem-append [] ys x m = inr m
mem-append (z ∷ xs) ys x (zero, l, e) = inl (0, suc-le-suc zero-le, e)
mem-append (z ∷ xs) ys x (suc i, l, e) = up (mem-append xs ys x (i, le_of_suc-le-suc l, e))
  where
    up : Mem x xs ⊎ Mem x ys → Mem x (z ∷ xs) ⊎ Mem x ys
    up (inl m) = inl (there z x xs m)
    up (inr m) = inr m

module _ (f : ℕ → List ℕ) where
  pub concat-mem : (xs : List ℕ) (x y : ℕ) → Mem x xs → Mem y (f x) → Mem y (concat_map f xs)
  unfolding concat_map
  concat-mem [] x y (i, l, e) n = absurd (not-suc-le-zero l)
  concat-mem (z ∷ xs) x y (zero, l, e) n = append_left (f z) (concat_map f xs) y (subst (λ (u : ℕ). Mem y (f u)) (sym e) n)
  concat-mem (z ∷ xs) x y (suc i, l, e) n = append_right (f z) (concat_map f xs) y (concat-mem xs x y (i, le_of_suc-le-suc l, e) n)

  pub mem-concat : (xs : List ℕ) (y : ℕ) → Mem y (concat_map f xs) → (x : ℕ) × Mem x xs × Mem y (f x)
  unfolding concat_map
  mem-concat [] y (i, l, e) = absurd (not-suc-le-zero l)
  mem-concat (z ∷ xs) y m = go (mem-append (f z) (concat_map f xs) y m) (mem-concat xs y)
    where
      go : Mem y (f z) ⊎ Mem y (concat_map f xs) → (Mem y (concat_map f xs) → (x : ℕ) × Mem x xs × Mem y (f x)) → (x : ℕ) × Mem x (z ∷ xs) × Mem y (f x)
      go (inl n) rest = (z, here z xs, n)
      go (inr n) rest = let r = rest n in (r.0, there z r.0 xs r.1, r.2)
