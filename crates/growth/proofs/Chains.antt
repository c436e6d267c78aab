-- Lists in which each stands in a relation to all later ones.
use mathlib.Core.Path.{◌≡◌, refl}
use mathlib.Core.Bool.{Bool, true, false, cond}
use mathlib.Core.List.{List, [], ◌∷◌, ◌++◌}
use mathlib.Core.Logic.{◌⊎◌, inl, inr}
use Prim.Native.Nat.{ℕ, zero, suc, ◌<◌}
use native.Mathlib.Nat.{not-suc-le-zero, le_of_suc-le-suc}
use lib.ListN.{length, get_or}
use Rattle.slices.specs.Lists.{filter, concat_map, Mem}
use Rattle.slices.proofs.Counts.{here, there}
use Rattle.slices.proofs.Members.{mem-filter}
use Rattle.growth.proofs.Joined.{mem-append, mem-concat}

module _ (R : ℕ → ℕ → Type 0) where
  unfoldable pub Chain : List ℕ → Type 0
  Chain [] = Unit {0}
  Chain (x ∷ xs) = ((y : ℕ) → Mem y xs → R x y) × Chain xs

  pub chain-append : (xs ys : List ℕ) → Chain xs → Chain ys → ((x y : ℕ) → Mem x xs → Mem y ys → R x y) → Chain (xs ++ ys)
  unfolding Chain
  chain-append [] ys r q h = q
  chain-append (x ∷ xs) ys r q h = (λ y m. go y (mem-append xs ys y m), chain-append xs ys r.1 q (λ a b ma. h a b (there x a xs ma)))
    where
      go : (y : ℕ) → Mem y xs ⊎ Mem y ys → R x y
      go y (inl m) = r.0 y m
      go y (inr m) = h x y (here x xs) m

  pub chain-filter : (p : ℕ → Bool) (xs : List ℕ) → Chain xs → Chain (filter p xs)
  unfolding Chain filter
  chain-filter p [] r = tt
  chain-filter p (x ∷ xs) r = go (p x) (chain-filter p xs r.1)
    where
      go : (b : Bool) → Chain (filter p xs) → Chain (cond b (x ∷ filter p xs) (filter p xs))
      go true i = (λ y m. r.0 y (mem-filter p xs y m).0, i)
      go false i = i

  pub chain-at : (xs : List ℕ) → Chain xs → (i j : ℕ) → i < j → j < length xs → R (get_or xs i 0) (get_or xs j 0)
  unfolding Chain
  chain-at [] r i j h l = absurd (not-suc-le-zero l)
  chain-at (x ∷ xs) r i zero h l = absurd (not-suc-le-zero h)
  chain-at (x ∷ xs) r zero (suc j) h l = r.0 (get_or xs j 0) (j, le_of_suc-le-suc l, refl)
  chain-at (x ∷ xs) r (suc i) (suc j) h l = chain-at xs r.1 i j (le_of_suc-le-suc h) (le_of_suc-le-suc l)

pub chain-concat : (Q R : ℕ → ℕ → Type 0) (f : ℕ → List ℕ) (xs : List ℕ) → Chain Q xs → ((x : ℕ) → Mem x xs → Chain R (f x))
    → ((x y a b : ℕ) → Mem x xs → Mem y xs → Q x y → Mem a (f x) → Mem b (f y) → R a b) → Chain R (concat_map f xs)
unfolding Chain concat_map
chain-concat Q R f [] r each h = tt
chain-concat Q R f (x ∷ xs) r each h =
    chain-append R (f x) (concat_map f xs) (each x (here x xs))
    (chain-concat Q R f xs r.1 (λ y m. each y (there x y xs m)) (λ y z a b my mz. h y z a b (there x y xs my) (there x z xs mz)))
    (λ a b ma mb. let q = mem-concat f xs b mb in h x q.0 a b (here x xs) (there x q.0 xs q.1) (r.0 q.0 q.1) ma q.2)
