-- What depends on the nodes as a set only is the same in every order of them.
use mathlib.Core.Path.{◌≡◌, refl, sym, ap, ap₂, ◌∙◌, fun_ext}
use mathlib.Core.Bool.{Bool, true, false, ◌&&◌, ◌||◌, not, cond}
use mathlib.Core.List.{List, [], ◌∷◌, map}
use Prim.Native.Nat.{ℕ, zero, suc, ◌+◌, ◌≤◌, ◌<◌}
use native.Mathlib.Omega.{arith}
use lib.Dec.{leb, ltb, eqb}
use lib.ListN.{length, get_or}
use Rattle.slices.specs.Lists.{filter, any, count, sum, Mem}
use Rattle.slices.specs.Order.{insert, ascending}
use Rattle.slices.proofs.Counts.{any-count, length-count}
use Rattle.slices.proofs.Rows.{count-filter, count-ascending}
use Rattle.slices.proofs.Same.{ascending-same}
use Rattle.morton.specs.Keys.{under}
use Rattle.tree.specs.Nodes.{stored, child_of, leaf, own_of, sourced}
use Rattle.tree.proofs.Members.{stored-mem, mem-stored}
use Rattle.tree.specs.Order.{greatest_level, depth_of}
use Rattle.tree.specs.Totals.{total_in}
use Rattle.tree.specs.Arrangement.{Arrangement, SameTree}

-- a sum over a list, sorted or not
sum-insert : (f : ℕ → ℕ) (x : ℕ) (xs : List ℕ) → sum (map f (insert x xs)) ≡ f x + sum (map f xs)
unfolding insert sum
sum-insert f x [] = refl
sum-insert f x (y ∷ ys) = go (leb x y) (sum-insert f x ys)
  where
    go : (b : Bool) → sum (map f (insert x ys)) ≡ f x + sum (map f ys) → sum (map f (cond b (x ∷ y ∷ ys) (y ∷ insert x ys))) ≡ f x + (f y + sum (map f ys))
    go true i = refl
    go false i = omega arith

sum-ascending : (f : ℕ → ℕ) (xs : List ℕ) → sum (map f (ascending xs)) ≡ sum (map f xs)
unfolding ascending sum
sum-ascending f [] = refl
sum-ascending f (x ∷ xs) = sum-insert f x (ascending xs) ∙ ap (f x +◌) (sum-ascending f xs)

module _ (xs ys : List ℕ) (a : Arrangement xs ys) where
  pub perm-ascending : ascending xs ≡ ascending ys
  perm-ascending = ascending-same xs ys a

  pub perm-count : (p : ℕ → Bool) → count p xs ≡ count p ys
  perm-count p = sym (count-ascending p xs) ∙ ap (count p) perm-ascending ∙ count-ascending p ys

  pub perm-filter : (p : ℕ → Bool) → Arrangement (filter p xs) (filter p ys)
  perm-filter p x = count-filter (λ c. eqb c x) p xs ∙ perm-count (λ y. p y && eqb y x) ∙ sym (count-filter (λ c. eqb c x) p ys)

  -- the one law of rows: a row is `ascending (filter p keys)`
  pub perm-row : (p : ℕ → Bool) → ascending (filter p xs) ≡ ascending (filter p ys)
  perm-row p = ascending-same (filter p xs) (filter p ys) (perm-filter p)

  pub perm-any : (p : ℕ → Bool) → any p xs ≡ any p ys
  perm-any p = any-count p xs ∙ ap (ltb 0) (perm-count p) ∙ sym (any-count p ys)

  pub perm-length : length xs ≡ length ys
  perm-length = length-count xs ∙ perm-count (λ _. true) ∙ sym (length-count ys)

  pub perm-sum : (f : ℕ → ℕ) → sum (map f xs) ≡ sum (map f ys)
  perm-sum f = sym (sum-ascending f xs) ∙ ap (λ (l : List ℕ). sum (map f l)) perm-ascending ∙ sum-ascending f ys

  pub perm-stored : (k : ℕ) → stored xs k ≡ stored ys k
  perm-stored k = perm-any (eqb k)

  pub perm-mem : (k : ℕ) → Mem k xs → Mem k ys
  perm-mem k m = stored-mem ys k (sym (perm-stored k) ∙ mem-stored xs k m)

  pub perm-leaf : (d k : ℕ) → leaf d xs k ≡ leaf d ys k
  unfolding leaf
  perm-leaf d k = ap₂ (λ (s c : Bool). s && (not (eqb k 0) && not c)) (perm-stored k) (perm-any (child_of d k))

module _ (d : ℕ) (keys own keys' own' : List ℕ) (same : SameTree keys own keys' own') where
  pub same-sourced : (k : ℕ) → sourced d keys own k ≡ sourced d keys' own' k
  unfolding sourced
  same-sourced k =
      ap (λ (f : ℕ → ℕ). any (λ j. under d k j && ltb 0 (f j)) keys) (fun_ext same.owned)
      ∙ perm-any keys keys' same.arranged (λ j. under d k j && ltb 0 (own_of keys' own' j))

  pub same_total : (k : ℕ) → total_in d keys own k ≡ total_in d keys' own' k
  unfolding total_in
  same_total k =
      ap (λ (f : ℕ → ℕ). sum (map (λ j. cond (under d k j) (f j) 0) keys)) (fun_ext same.owned)
      ∙ perm-sum keys keys' same.arranged (λ j. cond (under d k j) (own_of keys' own' j) 0)
