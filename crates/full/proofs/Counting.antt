-- The rows looked at one after the other, and what the count of those with children says.
use mathlib.Core.Path.{◌≡◌, refl, sym, ap, ap₂, ◌∙◌}
use mathlib.Core.Bool.{Bool, true, false, cond}
use mathlib.Core.List.{List}
use Prim.Native.Nat.{ℕ, suc, ◌+◌, ◌*◌, ◌-◌, ◌/◌, ◌%◌, ◌^◌, ◌≤◌, ◌<◌}
use native.Mathlib.Omega.{arith}
use native.Mathlib.Nat.{zero-add, mul-mod_right, mul-div_right, div-add-mod}
use lib.Dec.{ltb, eqb}
use lib.ListN.{length, get_or, drop, drop_of_length-le}
use lib.Pow.{pow_pos}
use lib.Seq.{drop-cons}
use borrow.Author.Tests.{ltb-true, ltb-false, lt-ltb, eqb-true, eqb-false, eq-eqb}
use Rattle.slices.specs.Lists.{bit, count}
use Rattle.slices.proofs.Tests.{both, refute}
use Rattle.slices.proofs.Counts.{any-intro, any-elim}
use Rattle.morton.specs.Keys.{level_of, parent, children_room}
use Rattle.tree.specs.Nodes.{child_of}
use Rattle.tree.specs.Finding.{TreeKeys}
use Rattle.tree.proofs.Rules.{Tree}
use Rattle.tree.proofs.Leaves.{tree_of}
use Rattle.tree.proofs.Laws.{first-child, child-next}
use Rattle.sums.specs.Tells.{Tells}
use Rattle.full.specs.Full.{has_children, Full}
use Rattle.full.proofs.Counted.{count-full, full-count}

module _ (p : ℕ → Bool) (xs : List ℕ) where
  -- n of the first i pass
  pub record Passed (n i : ℕ) : Type 0 where
    pub most : i ≤ length xs
    pub few : n ≤ i
    pub rest : n + count p (drop i xs) ≡ count p xs

  pub passed_start : Passed 0 0
  passed_start = record { most = omega arith; few = omega arith; rest = zero-add (count p xs) }

  module _ (n i : ℕ) (a : Passed n i) (l : i < length xs) where
    next : count p (drop i xs) ≡ bit (p (get_or xs i 0)) + count p (drop (suc i) xs)
    unfolding count
    next = ap (count p) (drop-cons xs i 0 l)

    more : i + 1 ≡ suc i
    more = omega arith

    pub passed-one : p (get_or xs i 0) ≡ true → Passed (n + 1) (i + 1)
    passed-one e = record {
      most = omega arith;
      few = omega (arith, a.few);
      rest = omega (arith, a.rest, next, ap bit e, ap (λ (j : ℕ). count p (drop j xs)) more);
    }

    pub passed_none : p (get_or xs i 0) ≡ false → Passed n (i + 1)
    passed_none e = record {
      most = omega arith;
      few = omega (arith, a.few);
      rest = omega (arith, a.rest, next, ap bit e, ap (λ (j : ℕ). count p (drop j xs)) more);
    }

  pub passed-all : (n i : ℕ) → Passed n i → length xs ≤ i → n ≡ count p xs
  unfolding count
  passed-all n i a h =
      let none : count p (drop i xs) ≡ 0 = ap (count p) (drop_of_length-le xs {i = i} h) in
      omega (arith, a.rest, none)

-- a node's children by the next row
module _ (d : ℕ) (keys : List ℕ) (t : Tree d keys) (i : ℕ) (l : i < length keys) where
  none-next : ((suc i < length keys) × (level_of (get_or keys i 0) < level_of (get_or keys (suc i) 0)) → ⊥) → has_children d keys (get_or keys i 0) ≡ false
  none-next n = refute (λ r. let (c, m, e) = any-elim (child_of d (get_or keys i 0)) keys r in n (child-next d keys t i c l m e))

  pub has_last : length keys ≤ i + 1 → false ≡ has_children d keys (get_or keys i 0)
  has_last h = sym (none-next (λ q. omega (arith, q.0)))

  pub has-next : i + 1 < length keys → ltb (level_of (get_or keys i 0)) (level_of (get_or keys (i + 1) 0)) ≡ has_children d keys (get_or keys i 0)
  has-next h = ap (λ (j : ℕ). ltb (level_of (get_or keys i 0)) (level_of (get_or keys j 0))) more ∙ go (ltb (level_of (get_or keys i 0)) (level_of (get_or keys (suc i) 0))) refl
    where
      more : i + 1 ≡ suc i
      more = omega arith

      s : suc i < length keys
      s = omega arith

      go : (b : Bool) → ltb (level_of (get_or keys i 0)) (level_of (get_or keys (suc i) 0)) ≡ b → ltb (level_of (get_or keys i 0)) (level_of (get_or keys (suc i) 0)) ≡ has_children d keys (get_or keys i 0)
      go true e =
          let q = ltb-true (level_of (get_or keys i 0)) (level_of (get_or keys (suc i) 0)) e in
          e ∙ sym (any-intro (child_of d (get_or keys i 0)) keys (get_or keys (suc i) 0) (suc i, s, refl)
          (both (lt-ltb 0 (level_of (get_or keys (suc i) 0)) (omega (arith, q))) (eq-eqb (parent d (get_or keys (suc i) 0)) (get_or keys i 0) (first-child d keys t i s q))))
      go false e = e ∙ sym (none-next (λ q. omega (arith, q.1, ltb-false (level_of (get_or keys i 0)) (level_of (get_or keys (suc i) 0)) e)))

-- what the count says
module _ (d : ℕ) (keys : List ℕ) (w : TreeKeys d keys) (fan : ℕ) (fan-is : fan ≡ children_room d) (split : ℕ) (all : split ≡ count (has_children d keys) keys) where
  wide : fan ≡ 2 ^ d
  wide = fan-is ∙ ap (λ (b : Bool). cond b (2 ^ d) 0) w.axes

  pub fan-pos : 0 < fan
  fan-pos = omega (arith, wide, pow_pos d)

  full-rest : Full d keys → length keys - 1 ≡ fan * split
  full-rest f = omega (arith, full-count d keys w.axes w.some (tree_of d keys w) f, ap₂ ◌*◌ wide all)

  pub not-whole : ((length keys - 1) % fan ≡ 0 → ⊥) → Full d keys → ⊥
  not-whole h f = h (ap (λ (x : ℕ). x % fan) (full-rest f) ∙ mul-mod_right fan split)

  pub by_count : (length keys - 1) % fan ≡ 0 → Tells (Full d keys) (eqb ((length keys - 1) / fan) split)
  by_count h = go (eqb ((length keys - 1) / fan) split) refl
    where
      go : (b : Bool) → eqb ((length keys - 1) / fan) split ≡ b → Tells (Full d keys) b
      go true e =
          let q = eqb-true ((length keys - 1) / fan) split e in
          count-full d keys w.axes w.some (tree_of d keys w)
          (omega (arith, w.some, div-add-mod (length keys - 1) fan, h, ap (λ (x : ℕ). fan * x) q, ap₂ ◌*◌ wide all))
      go false e = λ f. eqb-false ((length keys - 1) / fan) split e (ap (λ (x : ℕ). x / fan) (full-rest f) ∙ mul-div_right split fan-pos)
