-- In a well-formed tree the links of later nodes lead from child to child: a node's sourced children are walked by hops.
use mathlib.Core.Path.{◌≡◌, sym, ap, ◌∙◌}
use mathlib.Core.Bool.{true}
use mathlib.Core.List.{List}
use Prim.Native.Nat.{ℕ, suc, ◌-◌, ◌≤◌, ◌<◌}
use native.Mathlib.Omega.{arith}
use native.Mathlib.Decide.{dec_lt}
use lib.Dec.{leb, ltb}
use lib.ListN.{length, get_or}
use borrow.Author.Tests.{ltb-true, eqb-true, lt-ltb, le-leb, eq-eqb}
use Rattle.slices.proofs.Tests.{and_l, and_r, both}
use Rattle.morton.specs.Keys.{level_of, parent}
use Rattle.morton.proofs.Cells.{level-parent}
use Rattle.tree.specs.Nodes.{child_of, sourced}
use Rattle.tree.specs.Order.{end_of}
use Rattle.tree.proofs.Rules.{Formed}
use Rattle.tree.proofs.Ranges.{parent_is, under-later}
use Rattle.tree.proofs.Ends.{Ends, ends}
use Rattle.tree.proofs.Laws.{under-range}
use Rattle.tree.proofs.Sourced.{sourced-up, sourced-total, child-under}
use Rattle.links.specs.Links.{next_of, inner, Linked}
use Rattle.links.proofs.Links.{Next, next-is, next_level}

-- a node with children has a deeper one next
module _ (keys : List ℕ) (i : ℕ) (h : inner keys i ≡ true) where
  pub inner-inside : suc i < length keys
  inner-inside = ltb-true (suc i) (length keys) (and_l _ _ h)

  pub inner-deeper : level_of (get_or keys i 0) < level_of (get_or keys (suc i) 0)
  inner-deeper = ltb-true (level_of (get_or keys i 0)) (level_of (get_or keys (suc i) 0)) (and_r (ltb (suc i) (length keys)) _ h)

module _ (d : ℕ) (keys own begin total : List ℕ) (w : Formed d keys own begin total) where
  -- a node is sourced if its total is not 0
  pub sourced-at : (i : ℕ) → i < length keys → sourced d keys own (get_or keys i 0) ≡ ltb 0 (get_or total i 0)
  sourced-at i l = sourced-total d keys own (get_or keys i 0) ∙ ap (ltb 0) (sym (w.totalled i l))

  pub formed-linked : Linked keys total
  formed-linked = record {
    totals = w.totals;
    up = λ j n a b l p.
        let lj : j < length keys = omega arith in
        let u = under-range d keys w.rows.tree j n lj l ∙ both (le-leb j n (omega arith)) (lt-ltb n (end_of keys j) b) in
        ltb-true 0 (get_or total j 0) (sym (sourced-at j lj) ∙ sourced-up d keys own (get_or keys j 0) (get_or keys n 0) u (sourced-at n l ∙ lt-ltb 0 (get_or total n 0) p));
  }

  module _ (i c : ℕ) (li : i < length keys) (lc : c < length keys) (h : child_of d (get_or keys i 0) (get_or keys c 0) ≡ true) where
    pub level : level_of (get_or keys c 0) ≡ suc (level_of (get_or keys i 0))
    level = omega (arith, ltb-true 0 (level_of (get_or keys c 0)) (and_l _ _ h), sym (ap level_of (eqb-true (parent d (get_or keys c 0)) (get_or keys i 0) (and_r (ltb 0 (level_of (get_or keys c 0))) _ h))) ∙ level-parent d (get_or keys c 0))

    pub later : i < c
    later = go (dec_lt i c)
      where
        go : Dec (i < c) → i < c
        go (yes s) = s
        go (no n) =
            let a = under-later d keys w.rows.tree.ascending i c li lc (child-under d (get_or keys i 0) (get_or keys c 0) h) in
            let z : i ≡ c = omega arith in
            absurd (omega (arith, level, ap (λ x. level_of (get_or keys x 0)) z))

    -- before the end of node i, the next of a child is a sourced child
    pub next-child : next_of keys total c < end_of keys i → (child_of d (get_or keys i 0) (get_or keys (next_of keys total c) 0) ≡ true) × (0 < get_or total (next_of keys total c) 0)
    next-child s =
        let x = next-is keys total w.totals c lc in
        let ei = ends keys i li in
        let ln : next_of keys total c < length keys = omega (arith, ei.within) in
        let a : i < next_of keys total c = omega (arith, later, (ends keys c lc).after, x.from) in
        let lo = ei.deeper (next_of keys total c) a s in
        let hi = next_level keys total formed-linked c (next_of keys total c) lc x ln in
        let u = under-range d keys w.rows.tree i (next_of keys total c) li ln ∙ both (le-leb i (next_of keys total c) (omega arith)) (lt-ltb (next_of keys total c) (end_of keys i) s) in (
          both (lt-ltb 0 (level_of (get_or keys (next_of keys total c) 0)) (omega arith))
              (eq-eqb (parent d (get_or keys (next_of keys total c) 0)) (get_or keys i 0) (parent_is d (get_or keys i 0) (get_or keys (next_of keys total c) 0) u (omega (arith, level)))),
          x.sourced ln,
        )

    -- else it is node i's own next: the walk is over
    pub next-over : end_of keys i ≤ next_of keys total c → next_of keys total c ≡ next_of keys total i
    next-over s = go (dec_lt (next_of keys total c) (next_of keys total i)) (dec_lt (next_of keys total i) (next_of keys total c)) (next-is keys total w.totals c lc) (next-is keys total w.totals i li)
      where
        go : Dec (next_of keys total c < next_of keys total i) → Dec (next_of keys total i < next_of keys total c) → Next keys total c (next_of keys total c) → Next keys total i (next_of keys total i) → next_of keys total c ≡ next_of keys total i
        go (yes a) _ x y = absurd (omega (arith, y.none (next_of keys total c) s a, x.sourced (omega (arith, y.within))))
        go (no a) (yes b) x y = absurd (omega (arith, x.none (next_of keys total i) (inside x y) b, y.sourced (omega (arith, x.within))))
          where
            -- a child's range ends no later than its parent's
            inside : Next keys total c (next_of keys total c) → Next keys total i (next_of keys total i) → end_of keys c ≤ next_of keys total i
            inside x y = at (dec_lt (next_of keys total i) (end_of keys c)) (ends keys c lc) (ends keys i li)
              where
                at : Dec (next_of keys total i < end_of keys c) → Ends keys c (end_of keys c) → Ends keys i (end_of keys i) → end_of keys c ≤ next_of keys total i
                at (no q) ec ei = omega arith
                at (yes q) ec ei = absurd (deep (dec_lt c (end_of keys i)))
                  where
                    deep : Dec (c < end_of keys i) → ⊥
                    deep (yes p) = omega (arith, ec.deeper (end_of keys i) p (omega (arith, y.from)), ei.next (omega (arith, ec.within, y.from)), level)
                    deep (no p) =
                        let u = sym (under-range d keys w.rows.tree i c li lc) ∙ child-under d (get_or keys i 0) (get_or keys c 0) h in
                        p (ltb-true c (end_of keys i) (and_r (leb i c) _ u))
        go (no a) (no b) x y = omega arith
