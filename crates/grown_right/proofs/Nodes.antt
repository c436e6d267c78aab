-- The nodes looked at one after the other.
use mathlib.Core.Path.{◌≡◌, refl, sym, ap, ◌∙◌, subst}
use mathlib.Core.Bool.{Bool, true, false, ◌&&◌, ◌||◌, not, beq}
use mathlib.Core.List.{List}
use mathlib.Core.Logic.{⊎_elim}
use Prim.Native.Nat.{ℕ, ◌+◌, ◌≤◌, ◌<◌}
use native.Mathlib.Omega.{arith}
use lib.Dec.{ltb}
use lib.ListN.{length, get_or}
use borrow.Author.Tests.{lt-ltb, le-ltb}
use Rattle.slices.proofs.Tests.{clash, lt-or-le}
use Rattle.morton.specs.Keys.{level_of}
use Rattle.tree.specs.Finding.{TreeKeys}
use Rattle.tree.proofs.Leaves.{tree_of}
use Rattle.sums.specs.Tells.{Tells}
use Rattle.full.specs.Full.{has_children, Full}
use Rattle.growth.specs.declared.Rule.{Rule}
use Rattle.grown_right.specs.Grown.{kept_by, splits_by, Inner, Grown}

module _ (g : Rule) (keys total : List ℕ) where
  -- those before node i are right
  pub record Upto (i : ℕ) : Type 0 where
    pub some : 0 < i
    pub stored : (j : ℕ) → 0 < j → j < i → kept_by g (get_or total j 0) ≡ true
    pub splits : (j : ℕ) → 0 < j → j < i → has_children g.axes keys (get_or keys j 0) ≡ splits_by g (get_or keys j 0) (get_or total j 0)

  pub upto-start : Upto 1
  upto-start = record { some = omega arith; stored = λ j a b. absurd (omega arith); splits = λ j a b. absurd (omega arith) }

  pub upto-more : (i : ℕ) → Upto i → kept_by g (get_or total i 0) ≡ true → has_children g.axes keys (get_or keys i 0) ≡ splits_by g (get_or keys i 0) (get_or total i 0) → Upto (i + 1)
  upto-more i u k s = record {
    some = omega arith;
    stored = λ j a b. ⊎_elim (λ (q : j < i). u.stored j a q) (λ (q : i ≤ j). subst (λ (x : ℕ). kept_by g (get_or total x 0) ≡ true) (same j q b) k) (lt-or-le j i);
    splits = λ j a b. ⊎_elim (λ (q : j < i). u.splits j a q)
        (λ (q : i ≤ j). subst (λ (x : ℕ). has_children g.axes keys (get_or keys x 0) ≡ splits_by g (get_or keys x 0) (get_or total x 0)) (same j q b) s) (lt-or-le j i);
  }
    where
      same : (j : ℕ) → i ≤ j → j < i + 1 → i ≡ j
      same j q b = omega arith

  pub upto_done : (i : ℕ) → Upto i → length keys ≤ i → Inner g keys total
  upto_done i u h = record { stored = λ j a b. u.stored j a (omega arith); splits = λ j a b. u.splits j a (omega arith) }

  pub not-stored : (i : ℕ) → Upto i → i < length keys → kept_by g (get_or total i 0) ≡ false → Inner g keys total → ⊥
  not-stored i u l h n = clash (n.stored i u.some l) h

  pub not-split : (i : ℕ) → Upto i → i < length keys → (has_children g.axes keys (get_or keys i 0) ≡ splits_by g (get_or keys i 0) (get_or total i 0) → ⊥) → Inner g keys total → ⊥
  not-split i u l h n = h (n.splits i u.some l)

-- ---- the tests
module _ (g : Rule) (n : ℕ) where
  pub kept_on : g.keep ≡ true → true ≡ kept_by g n
  kept_on e = sym (ap (λ (b : Bool). b || ltb 0 n) e)

  pub kept_off : g.keep ≡ false → ltb 0 n ≡ kept_by g n
  kept_off e = sym (ap (λ (b : Bool). b || ltb 0 n) e)

  pub splits-above : (k : ℕ) → level_of k < 16 → ltb g.limit n ≡ splits_by g k n
  splits-above k h = sym (ap (λ (b : Bool). b && ltb g.limit n) (lt-ltb (level_of k) 16 h))

  pub splits-deepest : (k : ℕ) → 16 ≤ level_of k → false ≡ splits_by g k n
  splits-deepest k h = sym (ap (λ (b : Bool). b && ltb g.limit n) (le-ltb (level_of k) 16 h))

-- two answers compared
pub apart : (a b : Bool) → not (beq a b) ≡ true → a ≡ b → ⊥
apart true true h e = clash h refl
apart true false h e = clash refl e
apart false true h e = clash e refl
apart false false h e = clash h refl

pub alike : (a b : Bool) → not (beq a b) ≡ false → a ≡ b
alike true true h = refl
alike true false h = absurd (clash refl h)
alike false true h = absurd (clash refl h)
alike false false h = refl

-- ---- all of it
module _ (g : Rule) (keys total : List ℕ) (w : TreeKeys g.axes keys) where
  first : has_children g.axes keys (get_or keys 0 0) ≡ has_children g.axes keys 0
  first = ap (has_children g.axes keys) (tree_of g.axes keys w).ascending.root

  pub not_root : (has kept : Bool) → has ≡ has_children g.axes keys (get_or keys 0 0) → kept ≡ kept_by g (get_or total 0 0) → (has ≡ kept → ⊥) → Grown g keys total → ⊥
  not_root has kept e f h r = h (e ∙ first ∙ r.root ∙ sym f)

  pub all_grown : (has kept : Bool) → has ≡ has_children g.axes keys (get_or keys 0 0) → kept ≡ kept_by g (get_or total 0 0) → has ≡ kept → Inner g keys total → (g.keep ≡ true → Full g.axes keys) → Grown g keys total
  all_grown has kept e f h i full = record { root = sym first ∙ sym e ∙ h ∙ f; inner = i; all = full }

  pub by-full : (r : Bool) → Tells (Full g.axes keys) r → (has kept : Bool) → has ≡ has_children g.axes keys (get_or keys 0 0) → kept ≡ kept_by g (get_or total 0 0) → has ≡ kept → Inner g keys total → g.keep ≡ true → Tells (Grown g keys total) r
  by-full true t has kept e f h i k = all_grown has kept e f h i (λ _. t)
  by-full false t has kept e f h i k = λ r. t (r.all k)
