-- What the nodes that the steps come to are: nodes with children, leaves, and the sourced children of a cell.
use mathlib.Core.Path.{◌≡◌, refl, sym, subst, ◌∙◌}
use mathlib.Core.Bool.{Bool, true, false, ◌&&◌}
use mathlib.Core.List.{List}
use Prim.Native.Nat.{ℕ, suc, ◌+◌, ◌-◌, ◌≤◌, ◌<◌}
use native.Mathlib.Omega.{arith}
use native.Mathlib.Decide.{dec_lt}
use lib.Dec.{leb}
use lib.ListN.{length, get_or}
use borrow.Author.Tests.{leb-true, lt-ltb}
use Rattle.slices.proofs.Tests.{and_l, and_r, both, clash}
use Rattle.morton.specs.Keys.{level_of}
use Rattle.tree.proofs.Members.{parent-no-leaf}
use Rattle.tree.specs.Order.{end_of}
use Rattle.tree.proofs.Ranges.{level-le}
use Rattle.tree.proofs.Ends.{Ends, ends}
use Rattle.tree.proofs.Laws.{first-child}
use Rattle.links.specs.Links.{next_of, inner, after_of, LinkedTree}
use Rattle.links.proofs.Links.{next-is, hop-far}
use Rattle.links.proofs.Walk.{inner-inside, inner-deeper, level}
use Rattle.links.proofs.Children.{tree-formed, tree-linked, At, hop, walked_start}
use Rattle.descent.specs.Steps.{Parent, Siblings}

-- a node without children ends with itself
pub leaf-end : (keys : List ℕ) (i : ℕ) → i < length keys → inner keys i ≡ false → end_of keys i ≡ suc i
leaf-end keys i l p = go (dec_lt (suc i) (end_of keys i)) (ends keys i l)
  where
    go : Dec (suc i < end_of keys i) → Ends keys i (end_of keys i) → end_of keys i ≡ suc i
    go (no n) e = omega (arith, e.after)
    go (yes h) e = absurd (clash (both (lt-ltb (suc i) (length keys) (omega (arith, e.within))) (lt-ltb (level_of (get_or keys i 0)) (level_of (get_or keys (suc i) 0)) (e.deeper (suc i) (omega arith) h))) p)

-- few nodes have room
pub few-fit : (k n room : ℕ) (b : Bool) → b ≡ (leb k 256 && leb (n + k) room) → b ≡ true → n + k ≤ room
few-fit k n room b e h = leb-true (n + k) room (and_r (leb k 256) _ (sym e ∙ h))

module _ (d : ℕ) (keys own total links : List ℕ) (t : LinkedTree d keys own total links) where
  -- a node with children owns nothing
  pub parent-owns : (i : ℕ) → i < length keys → inner keys i ≡ true → get_or own i 0 ≡ 0
  parent-owns i l p =
      let s = inner-inside keys i p in
      let deep = inner-deeper keys i p in
      (tree-formed t).rows.inner i l (parent-no-leaf d keys (get_or keys i 0) (get_or keys (suc i) 0) (suc i, s, refl) (omega arith) (first-child d keys (tree-formed t).rows.tree i s deep))

  -- and is not of the last level
  pub parent-left : (i left : ℕ) → Parent keys i left → 0 < left
  parent-left i left p =
      omega (arith, p.levels, inner-deeper keys i p.children, level-le d keys (tree-formed t).rows.tree.ascending (suc i) (inner-inside keys i p.children))

  -- the walk goes on after it
  pub parent-next : (i left r : ℕ) → Parent keys i left → r ≡ next_of keys total i → (i < r) × (r ≤ length keys)
  parent-next i left r p e = (omega (arith, e, hop-far keys total (tree-linked t) i p.inside), omega (arith, e, (next-is keys total (tree-formed t).totals i p.inside).within))

  -- where the walk along a cell's children has come to
  siblings : (i left c : ℕ) (l : i < length keys) → level_of (get_or keys i 0) + suc left ≡ 16 → At d keys own t.tree.begin total (tree-formed t) i l c → Siblings d keys own total c (next_of keys total i) left
  siblings i left c l e a = record { cell = i; inside = l; levels = e; end = refl; most = a.most; child = λ h. (a.child h).1 }

  pub siblings-start : (i left from to : ℕ) → Parent keys i left → from ≡ after_of keys total i → to ≡ next_of keys total i → Siblings d keys own total from to (left - 1)
  siblings-start i left from to p ef et =
      subst (λ n. Siblings d keys own total from n (left - 1)) (sym et) (subst (λ n. Siblings d keys own total n (next_of keys total i) (left - 1)) (sym ef)
      (siblings i (left - 1) (after_of keys total i) p.inside (omega (arith, p.levels, parent-left i left p)) (walked_start d keys own t.tree.begin total (tree-formed t) i p.inside p.children).at))

  module _ (c to left : ℕ) (s : Siblings d keys own total c to left) where
    pub siblings-most : to ≤ length keys
    siblings-most = omega (arith, s.end, (next-is keys total (tree-formed t).totals s.cell s.inside).within)

    module _ (h : c < to) where
      pub sibling-inside : c < length keys
      sibling-inside = omega (arith, siblings-most)

      pub siblings-next : (r : ℕ) → r ≡ next_of keys total c → Siblings d keys own total r to left
      siblings-next r e =
          subst (λ n. Siblings d keys own total n to left) (sym e) (subst (λ n. Siblings d keys own total (next_of keys total c) n left) (sym s.end)
          (siblings s.cell left (next_of keys total c) s.inside s.levels (hop d keys own t.tree.begin total (tree-formed t) s.cell s.inside c sibling-inside (and_l _ _ (s.child h)))))

      pub siblings-parent : inner keys c ≡ true → Parent keys c left
      siblings-parent p = record { inside = sibling-inside; children = p; levels = omega (arith, level d keys own t.tree.begin total (tree-formed t) s.cell c s.inside sibling-inside (and_l _ _ (s.child h)), s.levels) }
