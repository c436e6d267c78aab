-- One entry: the table of what was found, and the tests of the rows by places.
use mathlib.Core.Path.{◌≡◌, refl, sym, ap, ap₂, ◌∙◌, subst}
use mathlib.Core.Bool.{Bool, true, false, ◌&&◌, ◌||◌, not, cond}
use mathlib.Core.List.{List}
use mathlib.Core.Logic.{◌⊎◌, inl, inr, ⊎_elim, ◌≢◌}
use Prim.Native.Nat.{ℕ, zero, suc, ◌+◌, ◌-◌, ◌/◌, ◌^◌, ◌≤◌, ◌<◌, min}
use native.Mathlib.Omega.{arith}
use lib.Dec.{ltb, eqb}
use lib.ListN.{length, get_or, set, replicate, length-replicate, get_or-replicate, length-set}
use lib.Seq.{get_or-set_same, get_or-set_other}
use borrow.Author.Tests.{eq-eqb, ne_eqb}
use Rattle.slices.specs.Lists.{Mem}
use Rattle.slices.specs.Every.{every}
use Rattle.slices.proofs.Tests.{clash, refute, same_test, same_or_not}
use Rattle.slices.proofs.Every.{every-at, every-all}
use Rattle.morton.specs.Keys.{level_of, code_of, above, parent, ValidKey}
use Rattle.morton.specs.Anchors.{anchor, within1, near, close}
use Rattle.morton.proofs.Nearness.{within, within-lo, within-hi}
use Rattle.morton.proofs.Cells.{above_zero, above-one, level-parent, code-parent}
use Rattle.tree.specs.Nodes.{stored, leaf, sourced}
use Rattle.tree.specs.WellFormed.{SoundTree}
use Rattle.tree.specs.Finding.{TreeKeys, FoundNode}
use Rattle.tree.proofs.Rules.{WellFormed, facts, facts-ascend}
use Rattle.tree.proofs.Clauses.{facts-parents}
use Rattle.tree.proofs.Stored.{code_lt, level-le}
use Rattle.tree.proofs.Sourced.{sourced-total}
use Rattle.tree.proofs.Verdict.{total-at, total-length}
use Rattle.axes.proofs.Known.{axes-known}
use Rattle.rows.specs.Lists.{in_u, in_v}
use Rattle.rows.proofs.RowTests.{v-test, v-facts}
use Rattle.rows.proofs.Demand3.{u-is-close}
use Rattle.sums.proofs.Right.{u-sourced, v-sourced}
use Rattle.places.specs.Places.{place_at, place_of, beside}
use Rattle.places.proofs.Laws.{beside-near}
use Rattle.list_rows.specs.Entries.{Counted, Table, takes, rises_at, Cell, Node}
use Rattle.list_rows.specs.declared.Row.{Row}
use Rattle.std.specs.Prelude.{None, Some, Option}

-- ---- the tree
module _ (d : ℕ) (keys own : List ℕ) (t : SoundTree d keys own) where
  w : WellFormed d keys own t.begin
  w = facts d keys own t.begin t.sound

  pub tree-keys : TreeKeys d keys
  tree-keys = record { axes = axes-known d t.some t.most; some = w.some; ascend = facts-ascend d keys w.ascending; parents = facts-parents d keys w.parents }

  pub node-valid : (k : ℕ) → Mem k keys → ValidKey d k
  node-valid k m = record { some = t.some; most = t.most; level = level-le d keys w.ascending k m; code = code_lt d keys w.ascending k m }

-- ---- the table
module _ (d : ℕ) (keys : List ℕ) where
  pub table-start : get_or keys 0 0 ≡ 0 → Table d keys (replicate 4096 0) (replicate 4096 0)
  unfolding place_at
  table-start root = record {
    nodes_size = length-replicate {A = ℕ} 4096 0;
    spots_size = length-replicate {A = ℕ} 4096 0;
    right = λ s h l. rw (get_or-replicate {A = ℕ} 4096 s 0 0 h, root) refl;
  }

  pub table_more : (nodes spots : List ℕ) → Table d keys nodes spots → (s node k p : ℕ) → s < 4096 → get_or keys node 0 ≡ k → p ≡ place_of d k → Table d keys (set nodes s node) (set spots s p)
  table_more nodes spots t s node k p h e q = record {
    nodes_size = length-set nodes s node ∙ t.nodes_size;
    spots_size = length-set spots s p ∙ t.spots_size;
    right = λ r g l. ⊎_elim (λ (same : r ≡ s). at r l same) (λ (other : r ≢ s). past r g l other) (same_or_not r s);
  }
    where
      ln : s < length nodes
      ln = omega (arith, t.nodes_size)

      ls : s < length spots
      ls = omega (arith, t.spots_size)

      at : (r : ℕ) → get_or (set nodes s node) r 0 < length keys → r ≡ s → get_or (set spots s p) r 0 ≡ place_of d (get_or keys (get_or (set nodes s node) r 0) 0)
      at r l same = subst (λ x. get_or (set spots s p) x 0 ≡ place_of d (get_or keys (get_or (set nodes s node) x 0) 0)) (sym same)
          (get_or-set_same spots s p 0 ls ∙ q ∙ ap (place_of d) (sym e) ∙ ap (λ n. place_of d (get_or keys n 0)) (sym (get_or-set_same nodes s node 0 ln)))

      past : (r : ℕ) → r < 4096 → get_or (set nodes s node) r 0 < length keys → r ≢ s → get_or (set spots s p) r 0 ≡ place_of d (get_or keys (get_or (set nodes s node) r 0) 0)
      past r g l other =
          let e = get_or-set_other nodes s r node 0 other in
          get_or-set_other spots s r p 0 other ∙ t.right r g (subst (λ n. n < length keys) e l) ∙ ap (λ n. place_of d (get_or keys n 0)) (sym e)

  pub found_in : (k : ℕ) (a : Option ℕ) → FoundNode d keys k a → (i : ℕ) → a ≡ Some i → (i < length keys) × (get_or keys i 0 ≡ k)
  found_in k a h i e = subst (FoundNode d keys k) e h

  pub found_none : (own : List ℕ) → SoundTree d keys own → (k : ℕ) (a : Option ℕ) → FoundNode d keys k a → a ≡ None → stored keys k ≡ false
  found_none own t k a h e = subst (FoundNode d keys k) e h (tree-keys d keys own t).ascend

-- ---- a row's order
pub first-rises : (row : List ℕ) (i : ℕ) → i < 1 → true ≡ rises_at row i
first-rises row i l = sym (ap (◌|| ltb (get_or row (i - 1) 0) (get_or row i 0)) (eq-eqb i 0 (omega arith)))

pub later-rises : (row : List ℕ) (i : ℕ) → 1 ≤ i → ltb (get_or row (i - 1) 0) (get_or row i 0) ≡ rises_at row i
later-rises row i l = sym (ap (◌|| ltb (get_or row (i - 1) 0) (get_or row i 0)) (ne_eqb i 0 (λ e. omega arith)))

-- ---- the tests
near-turned : (d level x y : ℕ) → near d d level x y ≡ true → near d d level y x ≡ true
unfolding near
near-turned d level x y h = every-all (λ a. within1 (anchor d a level y) (anchor d a level x)) d (λ a l.
    let q = every-at (λ a. within1 (anchor d a level x) (anchor d a level y)) d h a l in
    within (anchor d a level y) (anchor d a level x) (within-hi _ _ q) (within-lo _ _ q))

near-sym : (d level x y : ℕ) → near d d level x y ≡ near d d level y x
near-sym d level x y = same_test _ _ (near-turned d level x y) (near-turned d level y x)

module _ (d : ℕ) (keys own total : List ℕ) (row : Row) (node place : ℕ) (pre : Counted d keys own total × Cell d keys row × Node d keys node place) where
  abbrev b : ℕ
  b = row.cell

  abbrev k : ℕ
  k = get_or keys node 0

  mk : Mem k keys
  mk = (node, pre.2.within, refl)

  v : ValidKey d k
  v = node-valid d keys own pre.0.tree k mk

  vb : ValidKey d b
  vb = node-valid d keys own pre.0.tree b pre.1.node

  pub total-in : node < length total
  total-in = omega (arith, total-length d keys own pre.0.tree.begin total pre.0.totals, pre.2.within)

  by_total : sourced d keys own k ≡ ltb 0 (get_or total node 0)
  by_total = sourced-total d keys own k ∙ ap (ltb 0) (sym (total-at d keys own pre.0.tree.begin total pre.0.totals node pre.2.within))

  -- V
  pub other-level : (level_of k ≡ level_of b → ⊥) → false ≡ in_v d keys own b k
  other-level n = sym (refute (λ h. n (v-facts d keys own b k h).level))

  pub no-source-v : (s : Bool) → s ≡ ltb 0 (get_or total node 0) → s ≡ false → false ≡ in_v d keys own b k
  no-source-v s e z = sym (refute (λ h. clash (v-sourced d keys own b k h) (by_total ∙ sym e ∙ z)))

  module _ (level : level_of k ≡ level_of b) where
    abbrev l : ℕ
    l = level_of b - 1

    deeper : level_of b ≡ suc l
    deeper = omega (arith, pre.1.deep)

    here : beside row.place place 0 ≡ near d d (level_of b) (code_of b) (code_of k)
    here =
        let e : 0 + level_of b ≡ level_of k = omega arith in
        ap₂ (λ p q. beside p q 0) pre.1.place (pre.2.is ∙ ap (λ n. place_at d n (code_of k)) (sym e))
        ∙ beside-near d (level_of b) 0 (code_of b) (code_of k) vb.some vb.most (omega (arith, vb.level))
        ∙ ap (near d d (level_of b) (code_of b)) (above_zero d (code_of k))

    over : beside row.above place 1 ≡ near d d l (code_of b / 2 ^ d) (code_of k / 2 ^ d)
    over =
        let e : 1 + l ≡ level_of k = omega (arith, deeper) in
        ap₂ (λ p q. beside p q 1) (pre.1.above ∙ ap₂ (place_at d) (level-parent d b) (code-parent d b)) (pre.2.is ∙ ap (λ n. place_at d n (code_of k)) (sym e))
        ∙ beside-near d l 1 (code_of b / 2 ^ d) (code_of k) vb.some vb.most (omega (arith, vb.level, deeper))
        ∙ ap (near d d l (code_of b / 2 ^ d)) (above-one d (code_of k))

    test : sourced d keys own k ≡ true → in_v d keys own b k ≡ (beside row.above place 1 && not (beside row.place place 0))
    test s = v-test d keys own b k (code_of b) (code_of k) l deeper (level ∙ deeper) refl refl s
        ∙ sym (ap₂ (λ p q. p && not q) over (here ∙ ap (λ n. near d d n (code_of b) (code_of k)) deeper))

    module _ (s : Bool) (e : s ≡ ltb 0 (get_or total node 0)) (some : s ≡ true) where
      has : sourced d keys own k ≡ true
      has = by_total ∙ sym e ∙ some

      pub touches : (r : Bool) → r ≡ beside row.place place 0 → r ≡ true → false ≡ in_v d keys own b k
      touches r q y = sym (test has ∙ ap (λ z. beside row.above place 1 && not z) (sym q ∙ y) ∙ none (beside row.above place 1))
        where
          none : (z : Bool) → (z && false) ≡ false
          none true = refl
          none false = refl

      pub is-far : (r u : Bool) → r ≡ beside row.place place 0 → r ≡ false → u ≡ beside row.above place 1 → u ≡ in_v d keys own b k
      is-far r u q n h = h ∙ sym (test has ∙ ap (λ z. beside row.above place 1 && not z) (sym q ∙ n) ∙ all (beside row.above place 1))
        where
          all : (z : Bool) → (z && true) ≡ z
          all true = refl
          all false = refl

  -- U
  pub no-leaf : leaf d keys k ≡ false → false ≡ in_u d keys own b k
  unfolding in_u
  no-leaf h = rw h

  pub no-source-u : (s : Bool) → s ≡ ltb 0 (get_or total node 0) → s ≡ false → false ≡ in_u d keys own b k
  no-source-u s e z = sym (refute (λ h. clash (u-sourced d keys own b k h) (by_total ∙ sym e ∙ z)))

  module _ (lf : leaf d keys k ≡ true) (s : Bool) (e : s ≡ ltb 0 (get_or total node 0)) (some : s ≡ true) where
    by-close : in_u d keys own b k ≡ close d b k
    unfolding in_u
    by-close = rw (lf, by_total ∙ sym e ∙ some) (u-is-close d b k)

    pub coarser : level_of k < level_of b → (r : Bool) → r ≡ beside place row.place (level_of b - level_of k) → r ≡ in_u d keys own b k
    coarser h r q =
        let m : (level_of b - level_of k) + level_of k ≡ level_of b = omega arith in
        let c : min (level_of b) (level_of k) ≡ level_of k = omega arith in
        let z : level_of k - level_of k ≡ 0 = omega arith in
        q ∙ ap₂ (λ p x. beside p x (level_of b - level_of k)) pre.2.is (pre.1.place ∙ ap (λ n. place_at d n (code_of b)) (sym m))
        ∙ beside-near d (level_of k) (level_of b - level_of k) (code_of k) (code_of b) vb.some vb.most (omega (arith, vb.level))
        ∙ near-sym d (level_of k) (code_of k) (above d (level_of b - level_of k) (code_of b))
        ∙ sym (by-close ∙ rw (c, z, above_zero d (code_of k)) refl)

    pub finer : level_of b ≤ level_of k → (r : Bool) → r ≡ beside row.place place (level_of k - level_of b) → r ≡ in_u d keys own b k
    finer h r q =
        let m : (level_of k - level_of b) + level_of b ≡ level_of k = omega arith in
        let c : min (level_of b) (level_of k) ≡ level_of b = omega arith in
        let z : level_of b - level_of b ≡ 0 = omega arith in
        q ∙ ap₂ (λ p x. beside p x (level_of k - level_of b)) pre.1.place (pre.2.is ∙ ap (λ n. place_at d n (code_of k)) (sym m))
        ∙ beside-near d (level_of b) (level_of k - level_of b) (code_of b) (code_of k) vb.some vb.most (omega (arith, v.level))
        ∙ sym (by-close ∙ rw (c, z, above_zero d (code_of b)) refl)

  -- either row
  pub taken-far : (far : Bool) → far ≡ true → (r : Bool) → r ≡ in_v d keys own b k → r ≡ takes d keys own far b k
  taken-far true e r q = q
  taken-far false e r q = absurd (clash e refl)

  pub taken-near : (far : Bool) → far ≡ false → (r : Bool) → r ≡ in_u d keys own b k → r ≡ takes d keys own far b k
  taken-near true e r q = absurd (clash refl e)
  taken-near false e r q = q

  pub node-level : level_of k ≤ 16
  node-level = v.level

  pub cell-level : level_of b ≤ 16
  cell-level = vb.level

-- ---- the search
module _ (d : ℕ) (keys own nodes spots : List ℕ) (pre : SoundTree d keys own × Table d keys nodes spots) (k slot : ℕ) (s : slot < 4096) where
  pub slot-in : (slot < length nodes) × (slot < length spots)
  slot-in = (omega (arith, pre.1.nodes_size), omega (arith, pre.1.spots_size))

  -- what was tried is it
  pub tried-is : get_or nodes slot 0 < length keys → get_or keys (get_or nodes slot 0) 0 ≡ k → (get_or nodes slot 0 < length keys) × (get_or keys (get_or nodes slot 0) 0 ≡ k) × (get_or spots slot 0 ≡ place_of d k)
  tried-is l e = (l, e, pre.1.right slot s l ∙ ap (place_of d) e)

  -- or it was searched for
  module _ (a : Option ℕ) (h : FoundNode d keys k a) (i : ℕ) (e : a ≡ Some i) where
    pub found-valid : ValidKey d k
    found-valid = let r = found_in d keys k a h i e in node-valid d keys own pre.0 k (i, r.0, r.1)

    pub found-new : (p : ℕ) → p ≡ place_of d k → ((i < length keys) × (get_or keys i 0 ≡ k) × (p ≡ place_of d k)) × Table d keys (set nodes slot i) (set spots slot p)
    found-new p q = let r = found_in d keys k a h i e in ((r.0, r.1, q), table_more d keys nodes spots pre.1 slot i k p s r.1 q)
