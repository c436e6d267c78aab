-- One entry of a row, and the loop over a row, at numbers that were read: the laws of `tree` and `list_rows`.
use mathlib.Core.Path.{◌≡◌, refl, sym, ap, ap₂, ◌∙◌, subst}
use mathlib.Core.Bool.{Bool, true, false}
use mathlib.Core.List.{List}
use Prim.Native.Nat.{ℕ, suc, ◌+◌, ◌-◌, ◌%◌, ◌≤◌, ◌<◌, min}
use native.Mathlib.Omega.{arith}
use lib.Dec.{leb, ltb}
use lib.ListN.{length, get_or, take, drop, length-drop}
use lib.Seq.{get_or-take, get_or-drop, length-take-le}
use borrow.Author.Tests.{lt-ltb, le-ltb}
use Rattle.morton.specs.Keys.{ValidKey}
use Rattle.tree.specs.Nodes.{leaf, stored}
use Rattle.tree.specs.Finding.{TreeKeys, FirstFrom, FoundNode}
use Rattle.tree.specs.WellFormed.{most_sources, keys_ascend}
use Rattle.tree.proofs.Leaves as L
use Rattle.tree.proofs.Finding as S
use Rattle.rows.specs.Lists.{in_u, in_v}
use Rattle.places.specs.Places.{place_of, beside}
use Rattle.list_rows.specs.declared.Row.{Row}
use Rattle.list_rows.specs.declared.Spot.{Spot}
use Rattle.list_rows.specs.Entries.{Counted, Cell, Node, Sought, takes, rises_at}
use Rattle.list_rows.specs.Rows.{too_many, RowPasses}
use Rattle.list_rows.proofs.Entries as E
use Rattle.list_rows.proofs.Rows as R
use Rattle.file_rows.specs.Parts.{part}
use Rattle.std.specs.Prelude.{None, Option, Some}

-- ---- a part of a column

module _ (xs : List ℕ) (from to : ℕ) (up : from ≤ to) (most : to ≤ length xs) where
  pub part_length : length (part xs from to) ≡ to - from
  part_length = length-take-le (to - from) (drop from xs) (omega (arith, length-drop from xs))

  pub part_in : (i : ℕ) → i < length (part xs from to) → from + i < length xs
  part_in i l = omega (arith, part_length)

  pub part_at : (i : ℕ) → i < length (part xs from to) → (r : ℕ) → r ≡ get_or xs (from + i) 0 → r ≡ get_or (part xs from to) i 0
  part_at i l r e = e ∙ sym (get_or-take (to - from) (drop from xs) i 0 (omega (arith, part_length)) ∙ get_or-drop from xs i 0)

pub rises-later : (row : List ℕ) (i b h : ℕ) → 1 ≤ i → b ≡ get_or row (i - 1) 0 → h ≡ get_or row i 0 → ltb b h ≡ rises_at row i
rises-later row i b h l eb eh = ap₂ ltb eb eh ∙ E.later-rises row i l

-- ---- leaves and the search

module _ (d : ℕ) (keys : List ℕ) where
  pub leaf-next : (t : TreeKeys d keys) (i : ℕ) → i < length keys → 1 ≤ i → i + 1 < length keys → (b h : ℕ) → b ≡ get_or keys (i + 1) 0 → h ≡ get_or keys i 0
      → leb (b % 32768) (h % 32768) ≡ leaf d keys (get_or keys i 0)
  leaf-next t i l p q b h eb eh = ap₂ (λ (x y : ℕ). leb (x % 32768) (y % 32768)) eb eh ∙ L.leaf-next d keys (L.tree_of d keys t) i l p q

  pub none_here : (k r : ℕ) → FirstFrom d keys k r → (h : ℕ) → h ≡ get_or keys r 0 → (h ≡ k → ⊥) → keys_ascend d keys ≡ true → stored keys k ≡ false
  none_here k r f h e n = S.none-stored d keys k r f (λ l q. n (e ∙ q))

  pub sought-none : (own total : List ℕ) → Counted d keys own total → (k : ℕ) (a : Option ℕ) → FoundNode d keys k a → a ≡ None → stored keys k ≡ false
  sought-none own total c k a h e = E.found_none d keys own c.tree k a h e

  pub sought-valid : (own total : List ℕ) → Counted d keys own total → (k : ℕ) (a : Option ℕ) → FoundNode d keys k a → (i : ℕ) → a ≡ Some i → ValidKey d k
  sought-valid own total c k a h i e = let r = E.found_in d keys k a h i e in E.node-valid d keys own c.tree k (i, r.0, r.1)

  pub sought-at : (k : ℕ) (a : Option ℕ) → FoundNode d keys k a → (i : ℕ) → a ≡ Some i → (p : ℕ) → p ≡ place_of d k → Sought d keys k (Some (record { node = i; place = p }))
  sought-at k a h i e p q = let r = E.found_in d keys k a h i e in (r.0, r.1, q)

-- ---- the tests of an entry

module _ (d : ℕ) (keys own total : List ℕ) (row : Row) (node place : ℕ) (pre : Counted d keys own total × Cell d keys row × Node d keys node place) where
  abbrev b : ℕ
  b = row.cell

  abbrev k : ℕ
  k = get_or keys node 0

  module _ (t : ℕ) (et : t ≡ get_or total node 0) where
    none : t < 1 → ltb 0 (get_or total node 0) ≡ false
    none h = le-ltb 0 (get_or total node 0) (omega arith)

    some : 1 ≤ t → ltb 0 (get_or total node 0) ≡ true
    some h = lt-ltb 0 (get_or total node 0) (omega arith)

    pub none-far : t < 1 → false ≡ in_v d keys own b k
    none-far h = E.no-source-v d keys own total row node place pre (ltb 0 (get_or total node 0)) refl (none h)

    pub none-near : t < 1 → false ≡ in_u d keys own b k
    none-near h = E.no-source-u d keys own total row node place pre (ltb 0 (get_or total node 0)) refl (none h)

  module _ (h : ℕ) (eh : h ≡ k) where
    level-is : h % 32768 ≡ k % 32768
    level-is = ap (λ (x : ℕ). x % 32768) eh

    pub other-level : (h % 32768 ≡ b % 32768 → ⊥) → false ≡ in_v d keys own b k
    other-level n = E.other-level d keys own total row node place pre (λ q. n (level-is ∙ q))

    module _ (t : ℕ) (et : t ≡ get_or total node 0) (has : 1 ≤ t) where
      pub touches : h % 32768 ≡ b % 32768 → (r : Bool) → r ≡ beside row.place place 0 → r ≡ true → false ≡ in_v d keys own b k
      touches q = E.touches d keys own total row node place pre (sym level-is ∙ q) (ltb 0 (get_or total node 0)) refl (some t et has)

      pub is-far : h % 32768 ≡ b % 32768 → (r u : Bool) → r ≡ beside row.place place 0 → r ≡ false → u ≡ beside row.above place 1 → u ≡ in_v d keys own b k
      is-far q = E.is-far d keys own total row node place pre (sym level-is ∙ q) (ltb 0 (get_or total node 0)) refl (some t et has)

      pub coarser : leaf d keys k ≡ true → h % 32768 < b % 32768 → (r : Bool) → r ≡ beside place row.place (b % 32768 - h % 32768) → r ≡ in_u d keys own b k
      coarser lf l r e = E.coarser d keys own total row node place pre lf (ltb 0 (get_or total node 0)) refl (some t et has) (subst (λ x. x < b % 32768) level-is l) r
          (e ∙ ap (λ (x : ℕ). beside place row.place (b % 32768 - x)) level-is)

      pub finer : leaf d keys k ≡ true → b % 32768 ≤ h % 32768 → (r : Bool) → r ≡ beside row.place place (h % 32768 - b % 32768) → r ≡ in_u d keys own b k
      finer lf l r e = E.finer d keys own total row node place pre lf (ltb 0 (get_or total node 0)) refl (some t et has) (subst (λ x. b % 32768 ≤ x) level-is l) r
          (e ∙ ap (λ (x : ℕ). beside row.place place (x - b % 32768)) level-is)

    pub node-level : h % 32768 ≤ 16
    node-level = subst (λ x. x ≤ 16) (sym level-is) (E.node-level d keys own total row node place pre)

-- ---- the loop over a row

module _ (d : ℕ) (keys own total : List ℕ) (far : Bool) (b : ℕ) (row : List ℕ) (i count : ℕ) (l : i < length row) (k : ℕ) (ek : k ≡ get_or row i 0) (a : Option Spot) (s : Sought d keys k a) where
  here : Sought d keys (get_or row i 0) a
  here = subst (λ x. Sought d keys x a) ek s

  pub lost : a ≡ None → RowPasses d keys own far b row → ⊥
  lost = R.pass-lost d keys own total far b row i l a here

  module _ (spot : Spot) (e : a ≡ Some spot) where
    pub node_at : Node d keys spot.node spot.place
    node_at = record { within = R.found_within d keys own total far b row i count l a here spot e; is = R.found-place d keys own total far b row i count l a here spot e }

    module _ (t : Bool) (q : t ≡ takes d keys own far b (get_or keys spot.node 0)) where
      pub fails : t ≡ false → RowPasses d keys own far b row → ⊥
      fails = R.pass-fails d keys own total far b row i count l a here spot e t q

      module _ (c : Counted d keys own total) (x : ℕ) (ex : x ≡ get_or total spot.node 0) where
        pub small : x ≤ most_sources
        small = subst (λ y. y ≤ most_sources) (sym ex) (R.total-le d keys own total c spot.node (R.found_within d keys own total far b row i count l a here spot e))

        pub more : R.Passing d keys own total far b row i count → rises_at row i ≡ true → t ≡ true → (n : ℕ) → n ≡ min (count + x) too_many → R.Passing d keys own total far b row (i + 1) n
        more p up ok n m = R.pass-more d keys own total far b row i count l a here spot e t q c p up ok n (m ∙ ap (λ (y : ℕ). min (count + y) too_many) ex)
