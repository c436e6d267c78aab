-- The stored children of a cell: no more than 2^d, and all where there are so many.
use mathlib.Core.Path.{◌≡◌, refl, sym, ap, ◌∙◌, subst}
use mathlib.Core.Bool.{Bool, true, false}
use mathlib.Core.List.{List, ◌∷◌}
use mathlib.Core.Logic.{◌⊎◌, inl, inr}
use Prim.Native.Nat.{ℕ, suc, ◌^◌, ◌≤◌, ◌<◌}
use native.Mathlib.Omega.{arith}
use lib.Dec.{ltb}
use lib.ListN.{length, get_or, length-map}
use borrow.Author.Tests.{ltb-true, lt-ltb, eqb-true, eq-eqb}
use Rattle.slices.specs.Lists.{filter, count, range, Mem, Distinct}
use Rattle.slices.proofs.Tests.{and_l, and_r, both, clash}
use Rattle.slices.proofs.Lists.{length-filter, length-range}
use Rattle.slices.proofs.Counts.{any-elim}
use Rattle.slices.proofs.Members.{mem-filter, filter-mem, filter-distinct, map-distinct, range-distinct, mem-range, mem-cases, distinct_cons}
use Rattle.morton.specs.Keys.{axes_known, level_of, ValidKey, parent, child, children, child_index, under}
use Rattle.morton.proofs.Checks.{valid-facts}
use Rattle.morton.proofs.Cells.{level-parent}
use Rattle.anchors.proofs.Laws.{children-under, index-child}
use Rattle.tree.specs.Nodes.{child_of, stored}
use Rattle.tree.proofs.Rules.{Tree}
use Rattle.tree.proofs.Members.{stored-mem, mem-stored}
use Rattle.tree.proofs.Ranges.{distinct, parent-under, parent_is}
use Rattle.full.specs.Full.{has_children}
use Rattle.full.proofs.Shorter.{shorter}

module _ (d : ℕ) (keys : List ℕ) (known : axes_known d ≡ true) (t : Tree d keys) where
  pub good : (k : ℕ) → Mem k keys → ValidKey d k
  good k (i, l, e) = subst (ValidKey d) e (valid-facts d (get_or keys i 0) known (t.ascending.sound i l))

  abbrev kids : ℕ → List ℕ
  kids k = filter (child_of d k) keys

  -- what a child is
  pub child-level : (k j : ℕ) → child_of d k j ≡ true → level_of j ≡ suc (level_of k)
  child-level k j h =
      let p = eqb-true (parent d j) k (and_r (ltb 0 (level_of j)) _ h) in
      omega (arith, ltb-true 0 (level_of j) (and_l _ _ h), sym (ap level_of p) ∙ level-parent d j)

  pub has-level : (k : ℕ) → has_children d keys k ≡ true → level_of k < 16
  has-level k h = let (j, m, c) = any-elim (child_of d k) keys h in omega (arith, child-level k j c, (good j m).level)

  module _ (k : ℕ) (mk : Mem k keys) (l : level_of k < 16) where
    kids-in : (j : ℕ) → Mem j (kids k) → Mem j (children d k)
    kids-in j m =
        let (mj, c) = mem-filter (child_of d k) keys j m in
        let p = eqb-true (parent d j) k (and_r (ltb 0 (level_of j)) _ c) in
        (children-under d k (good k mk) l j).1
        (omega (arith, child-level k j c), subst (λ (x : ℕ). under d x j ≡ true) p (parent-under d j (ltb-true 0 (level_of j) (and_l _ _ c))))

    in-kids : (j : ℕ) → Mem j (children d k) → Mem j keys → Mem j (kids k)
    in-kids j m mj =
        let (e, u) = (children-under d k (good k mk) l j).0 m in
        filter-mem (child_of d k) keys j mj (both (lt-ltb 0 (level_of j) (omega arith)) (eq-eqb (parent d j) k (parent_is d k j u (omega arith))))

    length-children : length (children d k) ≡ 2 ^ d
    length-children = length-map (range 0 (2 ^ d)) (child d k) ∙ length-range 0 (2 ^ d)

    children-distinct : Distinct (children d k)
    children-distinct = map-distinct (child d k) (range 0 (2 ^ d)) (λ x y mx my e.
        sym (index-child d k (good k mk) l x (mem-range (2 ^ d) x mx)) ∙ ap (child_index d) e ∙ index-child d k (good k mk) l y (mem-range (2 ^ d) y my)) (range-distinct (2 ^ d))

    kids-distinct : Distinct (kids k)
    kids-distinct = filter-distinct (child_of d k) keys (distinct d keys t.ascending)

    pub kids-few : count (child_of d k) keys ≤ 2 ^ d
    kids-few = omega (arith, shorter (kids k) (children d k) kids-distinct kids-in, length-children, length-filter (child_of d k) keys)

    pub all-kids : count (child_of d k) keys ≡ 2 ^ d → (j : ℕ) → Mem j (children d k) → Mem j keys
    all-kids e j m = go (stored (kids k) j) refl
      where
        into : (x : ℕ) → Mem x (j ∷ kids k) → Mem x (children d k)
        into x mx = by (mem-cases x j (kids k) mx)
          where
            by : (j ≡ x) ⊎ Mem x (kids k) → Mem x (children d k)
            by (inl q) = subst (λ (y : ℕ). Mem y (children d k)) q m
            by (inr q) = kids-in x q

        go : (b : Bool) → stored (kids k) j ≡ b → Mem j keys
        go true s = (mem-filter (child_of d k) keys j (stored-mem (kids k) j s)).0
        go false s = absurd (omega (arith, shorter (j ∷ kids k) (children d k) (distinct_cons j (kids k) (λ q. clash (mem-stored (kids k) j q) s) kids-distinct) into, length-children, length-filter (child_of d k) keys, e))

    pub kids-all : ((j : ℕ) → Mem j (children d k) → Mem j keys) → count (child_of d k) keys ≡ 2 ^ d
    kids-all f = omega (arith, kids-few, shorter (children d k) (kids k) children-distinct (λ j m. in-kids j m (f j m)), length-children, length-filter (child_of d k) keys)
