-- Which stored cells are split, by the rows.
use mathlib.Core.Path.{◌≡◌, refl, sym, ap, ◌∙◌, subst}
use mathlib.Core.Bool.{Bool, true, false, ◌&&◌}
use mathlib.Core.List.{List}
use Prim.Native.Nat.{ℕ, suc, ◌+◌, ◌≤◌, ◌<◌}
use native.Mathlib.Omega.{arith}
use lib.Dec.{ltb}
use lib.ListN.{length, get_or}
use borrow.Author.Tests.{lt-ltb, ltb-true, eq-eqb}
use Rattle.slices.proofs.Tests.{both, clash, refute, same_test}
use Rattle.slices.proofs.Counts.{any-intro, any-elim}
use Rattle.morton.specs.Keys.{level_of, parent, ValidKey}
use Rattle.tree.specs.Nodes.{stored, child_of}
use Rattle.tree.specs.Finding.{TreeKeys, FoundNode}
use Rattle.leaf_points.proofs.OneKey.{found_at}
use Rattle.tree.proofs.Stored.{mem-stored}
use Rattle.tree.proofs.Laws.{child-next, first-child}
use Rattle.tree.proofs.Leaves as T
use Rattle.balance.specs.Splitting.{split}
use Rattle.balance.proofs.Stored.{split-mem}
use Rattle.balance.proofs.Balance.{tree_of}
use Rattle.std.specs.Prelude.{None, Option, Some}

module _ (d : ℕ) (keys : List ℕ) (k : TreeKeys d keys) where
  -- a node is split if the next row is deeper
  module _ (i : ℕ) (l : i < length keys) where
    pub split-last : length keys ≤ i + 1 → false ≡ split d keys (get_or keys i 0)
    split-last h = sym (refute (λ s.
        let (c, m, e) = any-elim (child_of d (get_or keys i 0)) keys s in
        omega (arith, (child-next d keys (T.tree_of d keys k) i c l m e).0)))

    pub split-next : i + 1 < length keys → ltb (level_of (get_or keys i 0)) (level_of (get_or keys (i + 1) 0)) ≡ split d keys (get_or keys i 0)
    split-next h = let e : i + 1 ≡ suc i = omega arith in rw e (same_test (ltb (level_of (get_or keys i 0)) (level_of (get_or keys (suc i) 0))) (split d keys (get_or keys i 0)) to from)
      where
        to : ltb (level_of (get_or keys i 0)) (level_of (get_or keys (suc i) 0)) ≡ true → split d keys (get_or keys i 0) ≡ true
        to q =
            let s : suc i < length keys = omega arith in
            let deep = ltb-true (level_of (get_or keys i 0)) (level_of (get_or keys (suc i) 0)) q in
            any-intro (child_of d (get_or keys i 0)) keys (get_or keys (suc i) 0) (suc i, s, refl)
            (both (lt-ltb 0 (level_of (get_or keys (suc i) 0)) (omega arith)) (eq-eqb (parent d (get_or keys (suc i) 0)) (get_or keys i 0) (first-child d keys (T.tree_of d keys k) i s deep)))

        from : split d keys (get_or keys i 0) ≡ true → ltb (level_of (get_or keys i 0)) (level_of (get_or keys (suc i) 0)) ≡ true
        from s =
            let (c, m, e) = any-elim (child_of d (get_or keys i 0)) keys s in
            lt-ltb (level_of (get_or keys i 0)) (level_of (get_or keys (suc i) 0)) (child-next d keys (T.tree_of d keys k) i c l m e).1

  -- a cell that is not stored is not split
  pub split-none : (c : ℕ) → stored keys c ≡ false → split d keys c ≡ false
  split-none c n = refute (λ s. clash (mem-stored keys c (split-mem d keys (tree_of d keys k) c s).0) n)

  module _ (c : ℕ) (r : Option ℕ) (f : FoundNode d keys c r) where
    pub split-found : (node : ℕ) → r ≡ Some node → (b : Bool) → b ≡ split d keys (get_or keys node 0) → b ≡ split d keys c
    split-found node e b h = h ∙ ap (split d keys) (found_at d keys c r f node e).1

    pub not-stored : r ≡ None → stored keys c ≡ false
    not-stored e = subst (FoundNode d keys c) e f k.ascend

    pub split-nowhere : r ≡ None → false ≡ split d keys c
    split-nowhere e = sym (split-none c (not-stored e))

  pub node-valid : (i : ℕ) → i < length keys → ValidKey d (get_or keys i 0)
  node-valid i l = (tree_of d keys k).sound (get_or keys i 0) (i, l, refl)
