-- A node that was found, and that in a tree the test of a leaf by the next row is what the rules call a leaf.
use mathlib.Core.Path.{◌≡◌, refl, sym, ap, subst, ◌∙◌}
use mathlib.Core.Bool.{Bool, true, false, ◌&&◌, ◌||◌}
use mathlib.Core.List.{List}
use Prim.Native.Nat.{ℕ, suc, ◌+◌, ◌≤◌, ◌<◌}
use native.Mathlib.Omega.{arith}
use native.Mathlib.Decide.{dec_lt}
use lib.Dec.{ltb, leb}
use lib.ListN.{length, get_or}
use borrow.Author.Tests.{lt-ltb, le-ltb, lt-leb, le-leb}
use Rattle.morton.specs.Keys.{level_of}
use Rattle.tree.specs.Nodes.{stored, leaf}
use Rattle.tree.specs.WellFormed.{keys_ascend}
use Rattle.tree.specs.Finding.{TreeKeys, FoundNode}
use Rattle.tree.proofs.Leaves.{tree_of, leaf-root}
use Rattle.tree.proofs.Laws.{leaf-is}
use Rattle.exports_nodes.specs.Nodes.{leaf_row, FirstOfLevel}
use Rattle.std.specs.Prelude.{None, Option, Some}

module _ (d : ℕ) (keys : List ℕ) (k : ℕ) (r : Option ℕ) (f : FoundNode d keys k r) where
  pub found_at : (i : ℕ) → r ≡ Some i → (i < length keys) × (get_or keys i 0 ≡ k)
  found_at i e = subst (FoundNode d keys k) e f

  pub found_none : r ≡ None → keys_ascend d keys ≡ true → stored keys k ≡ false
  found_none e = subst (FoundNode d keys k) e f

-- the test by rows, where each of its parts is known
module _ (keys : List ℕ) (i : ℕ) where
  pub row_first : i < 1 → false ≡ leaf_row keys i
  row_first h = sym (ap (λ b. b && (ltb i (length keys) && (leb (length keys) (suc i) || leb (level_of (get_or keys (suc i) 0)) (level_of (get_or keys i 0))))) (le-ltb 0 i (omega arith)))

  pub row-past : 1 ≤ i → length keys ≤ i → false ≡ leaf_row keys i
  row-past p h = sym (rw (lt-ltb 0 i (omega arith), le-ltb i (length keys) h) refl)

  pub row_last : 1 ≤ i → i < length keys → length keys ≤ i + 1 → true ≡ leaf_row keys i
  row_last p l h = sym (rw (lt-ltb 0 i (omega arith), lt-ltb i (length keys) l, le-leb (length keys) (suc i) (omega arith)) refl)

  pub row_next : 1 ≤ i → i < length keys → i + 1 < length keys → leb (level_of (get_or keys (i + 1) 0)) (level_of (get_or keys i 0)) ≡ leaf_row keys i
  row_next p l h =
      let e : i + 1 ≡ suc i = omega arith in
      sym (rw (e, lt-ltb 0 i (omega arith), lt-ltb i (length keys) l, lt-leb (length keys) (suc i) (omega arith)) refl)

  -- in a tree
  pub row_is : (d : ℕ) → TreeKeys d keys → i < length keys → leaf_row keys i ≡ leaf d keys (get_or keys i 0)
  row_is d t l = go (dec_lt 0 i)
    where
      go : Dec (0 < i) → leaf_row keys i ≡ leaf d keys (get_or keys i 0)
      go (no n) = sym (row_first (omega arith)) ∙ leaf-root d keys (tree_of d keys t) i l (omega arith)
      go (yes p) = rw (lt-ltb 0 i p, lt-ltb i (length keys) l) (sym (leaf-is d keys (tree_of d keys t) i p l))

-- ---- the rows from a number up to another one are of other levels
pub record NoneYet (keys : List ℕ) (level from i : ℕ) : Type 0 where
  pub starts : from ≤ i
  pub none : (j : ℕ) → from ≤ j → j < i → (level_of (get_or keys j 0) ≡ level → ⊥)

module _ (keys : List ℕ) (level from : ℕ) where
  pub none_yet : NoneYet keys level from from
  none_yet = record { starts = omega arith; none = λ j a b e. omega (arith, a, b) }

  pub none_more : (i : ℕ) → NoneYet keys level from i → (level_of (get_or keys i 0) ≡ level → ⊥) → NoneYet keys level from (i + 1)
  none_more i n h = record { starts = omega (arith, n.starts); none = λ j a b. go j a b (dec_lt j i) }
    where
      go : (j : ℕ) → from ≤ j → j < i + 1 → Dec (j < i) → (level_of (get_or keys j 0) ≡ level → ⊥)
      go j a b (yes l) = n.none j a l
      go j a b (no m) = let e : j ≡ i = omega arith in λ q. h (ap (λ x. level_of (get_or keys x 0)) (sym e) ∙ q)

  pub first_found : (i : ℕ) → NoneYet keys level from i → i < length keys → level_of (get_or keys i 0) ≡ level → FirstOfLevel keys level from i
  first_found i n l e = record { within = omega (arith, l); at = λ _. (n.starts, e); none = n.none }

  pub first-none : (i : ℕ) → NoneYet keys level from i → length keys ≤ i → FirstOfLevel keys level from (length keys)
  first-none i n l = record { within = omega arith; at = λ s. absurd (omega (arith, s)); none = λ j a b. n.none j a (omega (arith, b, l)) }
