-- The leaf that holds a code, as its key and the steps.
use mathlib.Core.Path.{◌≡◌, refl, sym, ap, ap₂, ◌∙◌}
use mathlib.Core.Bool.{Bool, true, false, cond}
use mathlib.Core.List.{List}
use Prim.Native.Nat.{ℕ, zero, suc, ◌-◌, ◌≤◌, ◌<◌}
use native.Mathlib.Omega.{arith}
use native.Mathlib.Nat.{not-suc-le-zero}
use lib.ListN.{length, get_or}
use borrow.Author.Tests.{ltb-true}
use Rattle.slices.proofs.Tests.{and_l}
use Rattle.morton.specs.Keys.{level_of, above}
use Rattle.morton.proofs.Cells.{key-level}
use Rattle.tree.specs.Nodes.{node_number, leaf}
use Rattle.tree.proofs.Stored.{stored-mem}
use Rattle.tree.specs.Order.{depth_of}
use Rattle.tree.specs.Leaves.{cell_of, climbed, leaf_level, held, leaf_key, steps_to, leaf_number, found_if, leaf_of}
use Rattle.tree.specs.Finding.{TreeKeys}
use Rattle.tree.proofs.Ranges.{distinct}
use Rattle.tree.proofs.Leaves.{tree_of, place_is, depth_le}
use Rattle.lookup.specs.Lookup.{holder_of, holder_at, FoundWithin, Steps}
use Rattle.lookup.specs.Single.{leaf_for}
use Rattle.lookup.specs.declared.Holder.{Holder}
use Rattle.std.specs.Prelude.{None, Option, Some}

-- ---- the climb of the definition
module _ (d : ℕ) (keys : List ℕ) (code : ℕ) where
  pub climb-le : (l : ℕ) → climbed d keys code l ≤ l
  unfolding climbed
  climb-le zero = omega arith
  climb-le (suc l) = go (leaf d keys (cell_of d (suc l) code)) (climb-le l)
    where
      go : (t : Bool) → climbed d keys code l ≤ l → cond t (suc l) (climbed d keys code l) ≤ suc l
      go true i = omega arith
      go false i = omega arith

  climb-leaf : (l : ℕ) → 0 < climbed d keys code l → leaf d keys (cell_of d (climbed d keys code l) code) ≡ true
  unfolding climbed
  climb-leaf zero h = absurd (not-suc-le-zero h)
  climb-leaf (suc l) h = go (leaf d keys (cell_of d (suc l) code)) refl h (climb-leaf l)
    where
      go : (t : Bool) → leaf d keys (cell_of d (suc l) code) ≡ t → 0 < cond t (suc l) (climbed d keys code l)
          → (0 < climbed d keys code l → leaf d keys (cell_of d (climbed d keys code l) code) ≡ true) → leaf d keys (cell_of d (cond t (suc l) (climbed d keys code l)) code) ≡ true
      go true e h rest = e
      go false e h rest = rest h

module _ (d : ℕ) (keys : List ℕ) (k : TreeKeys d keys) (code : ℕ) where
  level-le-depth : leaf_level d keys code ≤ depth_of keys
  level-le-depth = climb-le d keys code (depth_of keys)

  level-is : level_of (leaf_key d keys code) ≡ leaf_level d keys code
  level-is = key-level (leaf_level d keys code) (above d (16 - leaf_level d keys code) code) (omega (arith, level-le-depth, depth_le d keys (tree_of d keys k)))

  -- what holds the code is a leaf
  pub held-leaf : held d keys code ≡ true → leaf d keys (leaf_key d keys code) ≡ true
  held-leaf h = climb-leaf d keys code (depth_of keys) (ltb-true 0 (leaf_level d keys code) h)

  -- the leaf that holds the code has a number
  numbered : held d keys code ≡ true → (leaf_number d keys code < length keys) × (get_or keys (leaf_number d keys code) 0 ≡ leaf_key d keys code)
  unfolding leaf
  numbered h =
      let (i, li, e) = stored-mem keys (leaf_key d keys code) (and_l _ _ (climb-leaf d keys code (depth_of keys) (ltb-true 0 (leaf_level d keys code) h))) in
      let n : leaf_number d keys code ≡ i = ap (node_number keys) (sym e) ∙ place_is keys (distinct d keys (tree_of d keys k).ascending) i li in
      (omega (arith, n), ap (λ j. get_or keys j 0) n ∙ e)

  -- what a search for the leaf found
  module _ (r : Option ℕ) (q : r ≡ leaf_of d keys code) where
    pub found-leaf : (node : ℕ) → r ≡ Some node → (held d keys code ≡ true) × (node < length keys) × (get_or keys node 0 ≡ leaf_key d keys code)
    found-leaf node f = go (held d keys code) refl (sym q ∙ f)
      where
        go : (b : Bool) → held d keys code ≡ b → found_if b (leaf_number d keys code) ≡ Some node → (held d keys code ≡ true) × (node < length keys) × (get_or keys node 0 ≡ leaf_key d keys code)
        go true h g =
            let e : node ≡ leaf_number d keys code = cc in
            (h, omega (arith, e, (numbered h).0), ap (λ j. get_or keys j 0) e ∙ (numbered h).1)
        go false h g = let z : ◌≡◌ {A = ℕ} 0 1 = cc in absurd (omega arith)

    pub found_none : r ≡ None → held d keys code ≡ false
    found_none f = go (held d keys code) refl (sym q ∙ f)
      where
        go : (b : Bool) → held d keys code ≡ b → found_if b (leaf_number d keys code) ≡ None → held d keys code ≡ false
        go true h g = let z : ◌≡◌ {A = ℕ} 0 1 = cc in absurd (omega arith)
        go false h g = h

  -- with the leaf's level the steps make up the depth, and they are at most 15
  pub steps-to : held d keys code ≡ true → Steps keys (leaf_key d keys code) (steps_to d keys code)
  steps-to h = record {
    levels = omega (arith, level-is, level-le-depth);
    few = omega (arith, ltb-true 0 (leaf_level d keys code) h, depth_le d keys (tree_of d keys k));
  }

  -- ---- what a search found
  module _ (depth : ℕ) (e : depth ≡ depth_of keys) (r : Option ℕ) (q : r ≡ leaf_of d keys code) where
    told : (node : ℕ) → r ≡ Some node → (held d keys code ≡ true) × (node ≡ leaf_number d keys code)
    told node f = go (held d keys code) refl (sym q ∙ f)
      where
        go : (b : Bool) → held d keys code ≡ b → found_if b (leaf_number d keys code) ≡ Some node → (held d keys code ≡ true) × (node ≡ leaf_number d keys code)
        go true h g = (h, (cc))
        go false h g = let z : ◌≡◌ {A = ℕ} 0 1 = cc in absurd (omega arith)

    key-told : (node : ℕ) → r ≡ Some node → get_or keys node 0 ≡ leaf_key d keys code
    key-told node f = ap (λ j. get_or keys j 0) (told node f).1 ∙ (numbered (told node f).0).1

    pub holder-within : FoundWithin keys depth r
    holder-within = record {
      number = λ node f. omega (arith, (told node f).1, (numbered (told node f).0).0);
      within = λ node f. omega (arith, ap level_of (key-told node f), level-is, level-le-depth);
    }

    pub holder-told : holder_at keys depth r ≡ holder_of d keys code
    holder-told = go r refl
      where
        found : ℕ → ℕ → Option Holder
        found k s = Some (record { key = k; steps = s })

        go : (f : Option ℕ) → r ≡ f → holder_at keys depth f ≡ holder_of d keys code
        go (Some node) f =
            ap₂ found (key-told node f) (ap₂ ◌-◌ e (ap level_of (key-told node f) ∙ level-is))
            ∙ sym (ap (λ b. cond b (Some (leaf_for d keys code)) None) (told node f).0)
        go None f = none (held d keys code) refl (sym q ∙ f)
          where
            none : (b : Bool) → held d keys code ≡ b → found_if b (leaf_number d keys code) ≡ None → None ≡ holder_of d keys code
            none false h g = sym (ap (λ b. cond b (Some (leaf_for d keys code)) None) h)
            none true h g = let z : ◌≡◌ {A = ℕ} 0 1 = cc in absurd (omega arith)
