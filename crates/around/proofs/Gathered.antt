-- What is around a cell: the sourced children of the nodes near it, of which those without children have none to give.
use mathlib.Core.Path.{◌≡◌, refl, sym, ap, ◌∙◌, subst}
use mathlib.Core.Bool.{Bool, true, false, ◌&&◌, cond}
use mathlib.Core.List.{List, ◌∷◌, ◌++◌}
use Prim.Native.Nat.{ℕ, zero, suc, ◌+◌, ◌/◌, ◌^◌, ◌≤◌, ◌<◌}
use native.Mathlib.Omega.{arith}
use lib.Dec.{leb, ltb, eqb}
use lib.ListN.{length, get_or}
use borrow.Author.Tests.{ltb-true, eqb-true, eq-eqb, lt-ltb}
use Rattle.slices.specs.Lists.{any, filter, range, concat_map, Mem}
use Rattle.slices.proofs.Tests.{and_l, and_r, both, same_test}
use Rattle.slices.proofs.Counts.{any-intro, any-elim}
use Rattle.slices.proofs.Lists.{length-range, get_or-range}
use Rattle.slices.proofs.Members.{mem-filter, filter-mem, range-mem}
use Rattle.morton.specs.Keys.{level_of, code_of, parent}
use Rattle.morton.specs.Anchors.{near}
use Rattle.morton.proofs.Cells.{level-parent, code-parent}
use Rattle.tree.specs.Nodes.{child_of, sourced}
use Rattle.tree.specs.Order.{end_of}
use Rattle.tree.specs.WellFormed.{SoundTree}
use Rattle.tree.proofs.Laws.{under-range}
use Rattle.tree.proofs.Ranges.{under-later}
use Rattle.tree.proofs.Stored.{parent-mem}
use Rattle.tree.proofs.Sourced.{sourced-up, child-under}
use Rattle.links.specs.Links.{inner, sourced_child, sourced_children}
use Rattle.links.proofs.Children.{filter_none}
use Rattle.around.specs.Around.{around, near_to, around_nodes, near_inner}
use Rattle.around.proofs.Lists.{filter_same, filter-either}
use Rattle.around.proofs.Nodes.{child-level, well, tree_of, level-ends, child-inner}

module _ (d : ℕ) (keys own : List ℕ) (t : SoundTree d keys own) where
  -- node j is a sourced child of one of some nodes
  abbrev below : List ℕ → ℕ → Bool
  below cells j = any (λ i. sourced_child d keys own i j) cells

  -- of two nodes of one level the children of the first come before those of the second
  in_order : (i k x y : ℕ) → i < k → i < length keys → k < length keys → x < length keys → y < length keys → level_of (get_or keys i 0) ≡ level_of (get_or keys k 0) → sourced_child d keys own i x ≡ true → sourced_child d keys own k y ≡ true → x < y
  in_order i k x y h li lk lx ly e f g =
      let u = child-under d (get_or keys i 0) (get_or keys x 0) (and_l _ _ f) in
      let v = child-under d (get_or keys k 0) (get_or keys y 0) (and_l _ _ g) in
      let hi = ltb-true x (end_of keys i) (and_r (leb i x) _ (sym (under-range d keys (tree_of d keys own t) i x li lx) ∙ u)) in
      let lo = under-later d keys (well d keys own t).ascending k y lk ly v in
      omega (arith, level-ends d keys own t i k h lk e)

  -- the sourced children of nodes of one level, in ascending order, one node after the other
  join : (p : ℕ → Bool) (l a n : ℕ) → a + n ≤ length keys → ((i : ℕ) → p i ≡ true → level_of (get_or keys i 0) ≡ l)
      → filter (below (filter p (range a n))) (range 0 (length keys)) ≡ concat_map (sourced_children d keys own) (filter p (range a n))
  unfolding filter range concat_map any
  join p l a zero h lv = filter_none (λ j. false) (range 0 (length keys)) (λ x m. refl)
  join p l a (suc n) h lv = go (p a) refl (join p l (suc a) n (omega arith) lv)
    where
      rest : List ℕ
      rest = filter p (range (suc a) n)

      go : (b : Bool) → p a ≡ b → filter (below (filter p (range (suc a) n))) (range 0 (length keys)) ≡ concat_map (sourced_children d keys own) (filter p (range (suc a) n))
          → filter (below (cond b (a ∷ filter p (range (suc a) n)) (filter p (range (suc a) n)))) (range 0 (length keys)) ≡ concat_map (sourced_children d keys own) (cond b (a ∷ filter p (range (suc a) n)) (filter p (range (suc a) n)))
      go false e ih = ih
      go true e ih = filter-either (sourced_child d keys own a) (below (filter p (range (suc a) n))) 0 (length keys) order ∙ ap (λ (ys : List ℕ). sourced_children d keys own a ++ ys) ih
        where
          order : (x y : ℕ) → x < 0 + length keys → y < 0 + length keys → sourced_child d keys own a x ≡ true → below (filter p (range (suc a) n)) y ≡ true → x < y
          order x y lx ly f g =
              let (k, mk, c) = any-elim (λ i. sourced_child d keys own i y) (filter p (range (suc a) n)) g in
              let ((i, li, at), pass) = mem-filter p (range (suc a) n) k mk in
              let lt : i < n = rw (length-range (suc a) n) at li in
              let z = get_or-range (suc a) n i lt in
              in_order a k x y (omega (arith, z, at)) (omega arith) (omega (arith, z, at)) (omega arith) (omega arith) (lv a e ∙ sym (lv k pass)) f c

  module _ (p : ℕ) where
    -- a near node of p with children, by number
    abbrev listed : ℕ → Bool
    listed j = near_to d keys own p (get_or keys j 0) && inner keys j

    listed-level : (i : ℕ) → listed i ≡ true → level_of (get_or keys i 0) ≡ level_of p
    listed-level i h = eqb-true (level_of (get_or keys i 0)) (level_of p) (and_l _ _ (and_l (near_to d keys own p (get_or keys i 0)) _ h))

    there : (j : ℕ) → j < length keys → below (near_inner d keys own p) j ≡ true → around d keys own p (get_or keys j 0) ≡ true
    there j lj h =
        let (i, mi, c) = any-elim (λ i. sourced_child d keys own i j) (near_inner d keys own p) h in
        let pass = and_l (near_to d keys own p (get_or keys i 0)) _ (mem-filter listed (range 0 (length keys)) i mi).1 in
        let ch = and_l (child_of d (get_or keys i 0) (get_or keys j 0)) _ c in
        let same = eqb-true (level_of (get_or keys i 0)) (level_of p) (and_l _ _ pass) in
        let code : code_of (get_or keys i 0) ≡ code_of (get_or keys j 0) / 2 ^ d = ap code_of (sym (eqb-true (parent d (get_or keys j 0)) (get_or keys i 0) (and_r (ltb 0 (level_of (get_or keys j 0))) _ ch))) ∙ code-parent d (get_or keys j 0) in
        both (eq-eqb (level_of (get_or keys j 0)) (suc (level_of p)) (child-level d (get_or keys i 0) (get_or keys j 0) ch ∙ ap suc same))
        (both (subst (λ x. near d d (level_of p) (code_of p) x ≡ true) code (and_l (near d d (level_of p) (code_of p) (code_of (get_or keys i 0))) _ (and_r (eqb (level_of (get_or keys i 0)) (level_of p)) _ pass)))
        (and_r (child_of d (get_or keys i 0) (get_or keys j 0)) _ c))

    back : (j : ℕ) → j < length keys → around d keys own p (get_or keys j 0) ≡ true → below (near_inner d keys own p) j ≡ true
    back j lj h = go (parent-mem d keys (well d keys own t).ascending (well d keys own t).parents (get_or keys j 0) (j, lj, refl) deep)
      where
        level : level_of (get_or keys j 0) ≡ suc (level_of p)
        level = eqb-true (level_of (get_or keys j 0)) (suc (level_of p)) (and_l _ _ h)

        deep : 0 < level_of (get_or keys j 0)
        deep = omega (arith, level)

        rest : (near d d (level_of p) (code_of p) (code_of (get_or keys j 0) / 2 ^ d) && sourced d keys own (get_or keys j 0)) ≡ true
        rest = and_r (eqb (level_of (get_or keys j 0)) (suc (level_of p))) _ h

        so : sourced d keys own (get_or keys j 0) ≡ true
        so = and_r (near d d (level_of p) (code_of p) (code_of (get_or keys j 0) / 2 ^ d)) _ rest

        ch : child_of d (parent d (get_or keys j 0)) (get_or keys j 0) ≡ true
        ch = both (lt-ltb 0 (level_of (get_or keys j 0)) deep) (eq-eqb (parent d (get_or keys j 0)) (parent d (get_or keys j 0)) refl)

        passes : near_to d keys own p (parent d (get_or keys j 0)) ≡ true
        passes = both (eq-eqb (level_of (parent d (get_or keys j 0))) (level_of p) (omega (arith, level-parent d (get_or keys j 0), level)))
            (both (subst (λ x. near d d (level_of p) (code_of p) x ≡ true) (sym (code-parent d (get_or keys j 0))) (and_l _ _ rest)) (sourced-up d keys own (parent d (get_or keys j 0)) (get_or keys j 0) (child-under d (parent d (get_or keys j 0)) (get_or keys j 0) ch) so))

        go : Mem (parent d (get_or keys j 0)) keys → below (near_inner d keys own p) j ≡ true
        go (i, li, e) =
            let kid : child_of d (get_or keys i 0) (get_or keys j 0) ≡ true = subst (λ x. child_of d x (get_or keys j 0) ≡ true) (sym e) ch in
            any-intro (λ i. sourced_child d keys own i j) (near_inner d keys own p) i
            (filter-mem listed (range 0 (length keys)) i (range-mem (length keys) i li) (both (subst (λ x. near_to d keys own p x ≡ true) (sym e) passes) (child-inner d keys own t i (get_or keys j 0) li (j, lj, refl) kid)))
            (both kid so)

    -- all of them, by number
    pub around-joined : concat_map (sourced_children d keys own) (near_inner d keys own p) ≡ around_nodes d keys own p
    around-joined =
        sym (join listed (level_of p) 0 (length keys) (omega arith) listed-level)
        ∙ filter_same (below (near_inner d keys own p)) (λ j. around d keys own p (get_or keys j 0)) (length keys) (λ j l. same_test (below (near_inner d keys own p) j) (around d keys own p (get_or keys j 0)) (there j l) (back j l))
