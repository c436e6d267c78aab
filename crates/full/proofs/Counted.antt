-- Each node but the root is a child of one cell: what is counted of all cells is the number of nodes.
use mathlib.Core.Path.{◌≡◌, refl, sym, ap, ◌∙◌, subst}
use mathlib.Core.Bool.{Bool, true, false, cond}
use mathlib.Core.List.{List, [], ◌∷◌, map}
use mathlib.Core.Logic.{◌⊎◌, inl, inr}
use Prim.Native.Nat.{ℕ, zero, suc, ◌+◌, ◌*◌, ◌^◌, ◌≤◌, ◌<◌}
use native.Mathlib.Omega.{arith}
use native.Mathlib.Nat.{not-suc-le-zero, mul-zero, mul-suc}
use lib.Dec.{ltb, eqb}
use lib.ListN.{length}
use borrow.Author.Tests.{ltb-true, ltb-false, eqb-true, eq-eqb}
use Rattle.slices.specs.Lists.{bit, count, sum, Mem, Distinct}
use Rattle.slices.proofs.Tests.{and_l, and_r, both, clash}
use Rattle.slices.proofs.Sums.{sum_same, sum-swap, sum-bits, sum_less}
use Rattle.slices.proofs.Counts.{here, there, any-count, count-one, count-zero, count_add, length-count}
use Rattle.slices.proofs.Members.{mem-cases}
use Rattle.morton.specs.Keys.{axes_known, level_of, parent}
use Rattle.tree.specs.Nodes.{child_of}
use Rattle.tree.proofs.Rules.{Tree}
use Rattle.tree.proofs.Ranges.{distinct, level-pos}
use Rattle.tree.proofs.Stored.{parent-mem}
use Rattle.full.specs.Full.{has_children, Full}
use Rattle.full.proofs.Children.{has-level, kids-few, all-kids, kids-all}

-- terms none of which is more than another's, with one sum: they are equal
sum-equal : (f g : ℕ → ℕ) (xs : List ℕ) → ((x : ℕ) → Mem x xs → f x ≤ g x) → sum (map f xs) ≡ sum (map g xs) → (x : ℕ) → Mem x xs → f x ≡ g x
unfolding sum
sum-equal f g [] h e x (i, l, q) = absurd (not-suc-le-zero l)
sum-equal f g (y ∷ ys) h e x m =
    let rest = sum_less f g ys (λ z n. h z (there y z ys n)) in
    let one = h y (here y ys) in
    let tail : sum (map f ys) ≡ sum (map g ys) = omega arith in
    let head : f y ≡ g y = omega arith in
    go head (sum-equal f g ys (λ z n. h z (there y z ys n)) tail x) (mem-cases x y ys m)
  where
    go : f y ≡ g y → (Mem x ys → f x ≡ g x) → (y ≡ x) ⊎ Mem x ys → f x ≡ g x
    go head rest (inl q) = subst (λ (z : ℕ). f z ≡ g z) q head
    go head rest (inr n) = rest n

-- n for each that passes a test
sum_of : (p : ℕ → Bool) (n : ℕ) (xs : List ℕ) → sum (map (λ x. cond (p x) n 0) xs) ≡ n * count p xs
unfolding sum count
sum_of p n [] = sym (mul-zero n)
sum_of p n (x ∷ xs) = go (p x) (sum_of p n xs)
  where
    go : (b : Bool) → sum (map (λ x. cond (p x) n 0) xs) ≡ n * count p xs → cond b n 0 + sum (map (λ x. cond (p x) n 0) xs) ≡ n * (bit b + count p xs)
    go true e = omega (arith, e, mul-suc n (count p xs))
    go false e = omega (arith, e)

module _ (d : ℕ) (keys : List ℕ) (known : axes_known d ≡ true) (some : 0 < length keys) (t : Tree d keys) where
  dist : Distinct keys
  dist = distinct d keys t.ascending

  root : Mem 0 keys
  root = (0, some, t.ascending.root)

  only-root : (j : ℕ) → Mem j keys → level_of j ≡ 0 → j ≡ 0
  only-root j (zero, l, e) z = sym e ∙ t.ascending.root
  only-root j (suc i, l, e) z = absurd (omega (arith, level-pos d keys t.ascending (suc i) (omega arith) l, ap level_of e))

  -- of how many stored cells a node is a child
  parents-of : (j : ℕ) → Mem j keys → sum (map (λ k. bit (child_of d k j)) keys) ≡ bit (ltb 0 (level_of j))
  parents-of j m = sum-bits (λ k. child_of d k j) keys ∙ go (ltb 0 (level_of j)) refl
    where
      go : (b : Bool) → ltb 0 (level_of j) ≡ b → count (λ k. child_of d k j) keys ≡ bit b
      go true e =
          count-one (λ k. child_of d k j) keys dist (parent d j) (parent-mem d keys t.ascending t.parents j m (ltb-true 0 (level_of j) e))
          (λ k mk h. sym (eqb-true (parent d j) k (and_r (ltb 0 (level_of j)) _ h)))
          ∙ ap bit (both e (eq-eqb (parent d j) (parent d j) refl))
      go false e = count-zero (λ k. child_of d k j) keys (λ k mk h. clash (and_l (ltb 0 (level_of j)) _ h) e)

  -- all but the root
  below : suc (count (λ j. ltb 0 (level_of j)) keys) ≡ length keys
  below = omega (arith, length-count keys, count_add (λ _. true) (λ j. ltb 0 (level_of j)) (λ j. eqb j 0) keys one, count-one (λ j. eqb j 0) keys dist 0 root (λ x m h. eqb-true x 0 h))
    where
      one : (x : ℕ) → Mem x keys → bit true ≡ bit (ltb 0 (level_of x)) + bit (eqb x 0)
      one x m = go (ltb 0 (level_of x)) (eqb x 0) refl refl
        where
          go : (a b : Bool) → ltb 0 (level_of x) ≡ a → eqb x 0 ≡ b → 1 ≡ bit a + bit b
          go true false e f = refl
          go false true e f = refl
          go true true e f = absurd (omega (arith, ltb-true 0 (level_of x) e, ap level_of (eqb-true x 0 f)))
          go false false e f = absurd (clash (eq-eqb x 0 (only-root x m (omega (arith, ltb-false 0 (level_of x) e)))) f)

  pub children-sum : suc (sum (map (λ k. count (child_of d k) keys) keys)) ≡ length keys
  children-sum =
      ap suc (sum_same (λ k. count (child_of d k) keys) (λ k. sum (map (λ j. bit (child_of d k j)) keys)) keys (λ k m. sym (sum-bits (child_of d k) keys))
      ∙ sum-swap (λ k j. bit (child_of d k j)) keys keys
      ∙ sum_same (λ j. sum (map (λ k. bit (child_of d k j)) keys)) (λ j. bit (ltb 0 (level_of j))) keys parents-of
      ∙ sum-bits (λ j. ltb 0 (level_of j)) keys)
      ∙ below

  -- the room for the children of a cell
  abbrev room : ℕ → ℕ
  room k = cond (has_children d keys k) (2 ^ d) 0

  none : (k : ℕ) → has_children d keys k ≡ false → count (child_of d k) keys ≡ 0
  none k h = omega (arith, ltb-false 0 (count (child_of d k) keys) (sym (any-count (child_of d k) keys) ∙ h))

  fits : (k : ℕ) → Mem k keys → count (child_of d k) keys ≤ room k
  fits k m = go (has_children d keys k) refl
    where
      go : (b : Bool) → has_children d keys k ≡ b → count (child_of d k) keys ≤ cond b (2 ^ d) 0
      go true h = kids-few d keys known t k m (has-level d keys known t k h)
      go false h = omega (arith, none k h)

  rooms : sum (map room keys) ≡ 2 ^ d * count (has_children d keys) keys
  rooms = sum_of (has_children d keys) (2 ^ d) keys

  pub count-full : length keys ≡ suc (2 ^ d * count (has_children d keys) keys) → Full d keys
  count-full e k j m h mj =
      let same = sum-equal (λ k. count (child_of d k) keys) room keys fits (omega (arith, children-sum, e, rooms)) k m in
      all-kids d keys known t k m (has-level d keys known t k h) (same ∙ ap (λ (b : Bool). cond b (2 ^ d) 0) h) j mj

  pub full-count : Full d keys → length keys ≡ suc (2 ^ d * count (has_children d keys) keys)
  full-count f = sym children-sum ∙ ap suc (sum_same (λ k. count (child_of d k) keys) room keys same ∙ rooms)
    where
      same : (k : ℕ) → Mem k keys → count (child_of d k) keys ≡ room k
      same k m = go (has_children d keys k) refl
        where
          go : (b : Bool) → has_children d keys k ≡ b → count (child_of d k) keys ≡ cond b (2 ^ d) 0
          go true h = kids-all d keys known t k m (has-level d keys known t k h) (λ j mj. f k j m h mj)
          go false h = none k h
