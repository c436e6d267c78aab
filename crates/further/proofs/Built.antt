-- The cells of a tree are those of the build of its sources exactly when each cell is right by itself.
use mathlib.Core.Path.{◌≡◌, refl, sym, ap, ◌∙◌, subst}
use mathlib.Core.Bool.{Bool, true, false, ◌||◌, not}
use mathlib.Core.List.{List, []}
use mathlib.Core.Logic.{◌⊎◌, inl, inr, ◌↔◌, ⊎_elim}
use Prim.Native.Nat.{ℕ, zero, suc, ◌+◌, ◌*◌, ◌-◌, ◌/◌, ◌^◌, ◌≤◌, ◌<◌}
use native.Mathlib.Omega.{arith}
use native.Mathlib.Nat.{div-eq_of_lt, eq-or-lt_of_le}
use lib.Dec.{ltb, eqb}
use lib.ListN.{length, get_or}
use lib.Pow.{pow_pos}
use borrow.Author.Tests.{ltb-true, lt-ltb, eqb-true, eq-eqb, ne_eqb, not-true}
use Rattle.slices.specs.Lists.{any, range, Mem}
use Rattle.slices.proofs.Tests.{and_l, and_r, both, clash, lt-or-le, or-not, or_right, same_test}
use Rattle.slices.proofs.Sorted.{count-le}
use Rattle.slices.proofs.Counts.{any-intro, any-elim}
use Rattle.slices.proofs.Members.{map-mem, range-mem}
use Rattle.morton.specs.Keys.{deepest, key, level_of, axes_known, ValidKey, parent, child, under, holds}
use Rattle.morton.proofs.Cells.{key-parts, level-parent, level_begins, at_self, parent-at}
use Rattle.refine.specs.Counts.{count_at, sources_in}
use Rattle.tree.specs.Nodes.{stored, child_of, cell_at, leaf}
use Rattle.tree.proofs.Stored.{mem-stored}
use Rattle.tree.proofs.Sourced.{under-facts}
use Rattle.tree.specs.Leaves.{cell_of}
use Rattle.tree.proofs.Ranges.{parent-under}
use Rattle.growth.specs.declared.Rule.{Rule}
use Rattle.growth.specs.Nodes.{splits, kept, nodes}
use Rattle.growth.proofs.Kids.{Kid, splits-root, splits-level, child-below}
use Rattle.growth.proofs.Leaves.{cell_holds, some-source, source-down, leaf-unsplit, source-leaf}
use Rattle.growth.proofs.Held.{leaf-mem, held-under}
use Rattle.growth.proofs.Arranged.{Codes}
use Rattle.growth.proofs.Sorted.{node-good}
use Rattle.growth.proofs.Members.{root-node, node-up, node-down}
use Rattle.full.specs.Full.{has_children}
use Rattle.further.specs.Built.{Tree, InLeaves, may_have, GrownRight}
use Rattle.further.proofs.Cells.{root-only, holds-up}
use Rattle.further.proofs.Alone.{splits-is, splits-cases, splits-more, kept-cases, kept-all, kept-some, node-if}
use Rattle.further.proofs.Facts.{leaf-same}

is-child : (d k j : ℕ) → 0 < level_of j → parent d j ≡ k → child_of d k j ≡ true
is-child d k j l e = both (lt-ltb 0 (level_of j) l) (eq-eqb (parent d j) k e)

-- ---- any tree

module _ (d : ℕ) (keys : List ℕ) (t : Tree d keys) where
  at_mem : (n k l : ℕ) → Mem k keys → level_of k ≡ n + l → Mem (cell_at d l k) keys
  at_mem zero k l m e = let same : l ≡ level_of k = omega arith in subst (λ (x : ℕ). Mem x keys) (sym (ap (λ (i : ℕ). cell_at d i k) same ∙ at_self d k)) m
  at_mem (suc n) k l m e =
      let h : suc l ≤ level_of k = omega arith in
      subst (λ (x : ℕ). Mem x keys) (parent-at d l k h) (t.parents (cell_at d (suc l) k) (at_mem n k (suc l) m (omega arith)) (omega (arith, level_begins d (suc l) k h)))

  -- each cell that holds one of the tree is one of it
  pub above-mem : (a b : ℕ) → Mem b keys → under d a b ≡ true → Mem a keys
  above-mem a b m u =
      let f = under-facts d a b u in
      subst (λ (x : ℕ). Mem x keys) (ap (key (level_of a)) f.code ∙ key-parts a) (at_mem (level_of b - level_of a) b (level_of a) m (omega (arith, f.level)))

  pub leaf-whole : (k : ℕ) → leaf d keys k ≡ true → any (child_of d k) keys ≡ false
  unfolding leaf
  leaf-whole k h = not-true _ (and_r (not (eqb k 0)) _ (and_r (stored keys k) _ h))

  -- a cell of the tree in a leaf is the leaf
  pub leaf-lowest : (a b : ℕ) → leaf d keys a ≡ true → Mem b keys → under d a b ≡ true → a ≡ b
  leaf-lowest a b la m u = go (eq-or-lt_of_le (under-facts d a b u).level)
    where
      held : cell_at d (level_of a) b ≡ a
      held = ap (key (level_of a)) (under-facts d a b u).code ∙ key-parts a

      go : (level_of a ≡ level_of b) ⊎ (level_of a < level_of b) → a ≡ b
      go (inl e) = sym held ∙ ap (λ (l : ℕ). cell_at d l b) e ∙ at_self d b
      go (inr l) =
          let c = cell_at d (suc (level_of a)) b in
          absurd (clash
          (any-intro (child_of d a) keys c (at_mem (level_of b - suc (level_of a)) b (suc (level_of a)) m (omega arith))
          (is-child d a c (omega (arith, level_begins d (suc (level_of a)) b l)) (parent-at d (level_of a) b l ∙ held)))
          (leaf-whole a la))

  -- no code is held by two leaves
  pub one-leaf : (j k c : ℕ) → leaf d keys j ≡ true → leaf d keys k ≡ true → holds d j c ≡ true → holds d k c ≡ true → j ≡ k
  one-leaf j k c lj lk hj hk =
      let mj = leaf-mem d keys j lj in
      let mk = leaf-mem d keys k lk in
      ⊎_elim
      (λ (l : level_of j < level_of k). leaf-lowest j k lj mk (held-under d j k c (omega arith) (t.sound k mk).level hj hk))
      (λ (l : level_of k ≤ level_of j). sym (leaf-lowest k j lk mj (held-under d k j c l (t.sound j mj).level hk hj)))
      (lt-or-le (level_of j) (level_of k))

-- ---- the tree of sources

pub nodes-tree : (g : Rule) (s : List ℕ) → axes_known g.axes ≡ true → Tree g.axes (nodes g s [])
nodes-tree g s known = record { sound = node-good g s [] known; root = root-node g s [] known; parents = λ k m l. (node-up g s [] known k m l).0 }

module _ (g : Rule) (s keys : List ℕ) (known : axes_known g.axes ≡ true) (codes : Codes g.axes s) where
  abbrev pub Cells : Type 0
  Cells = (k : ℕ) → Mem k keys ↔ Mem k (nodes g s [])

  -- a cell with sources: there are sources
  some-sources : (k : ℕ) → 0 < sources_in g.axes s k → 0 < length s
  unfolding count_at
  some-sources k h = omega (arith, count-le (holds g.axes k) s)

  in-root : (c : ℕ) → Mem c s → c < 2 ^ (g.axes * 16)
  in-root c m = subst (λ (x : ℕ). x < 2 ^ (g.axes * 16)) m.2 (codes m.0 m.1)

  module _ (same : Cells) where
    pub cells-tree : Tree g.axes keys
    cells-tree = record {
      sound = λ k m. node-good g s [] known k ((same k).0 m);
      root = (same 0).1 (root-node g s [] known);
      parents = λ k m l. (same (parent g.axes k)).1 (node-up g s [] known k ((same k).0 m) l).0;
    }

    pub cells-leaves : InLeaves g.axes s keys
    cells-leaves c m =
        let (l, l₁, l₁₆, lf) = source-leaf g s [] known c m (in-root c m) in
        (cell_of g.axes l c, leaf-same g.axes keys (nodes g s []) same (cell_of g.axes l c) ∙ lf, cell_holds g.axes l c l₁₆)

    kid-has : (k j : ℕ) → Mem k (nodes g s []) → Kid g s [] k j → has_children g.axes keys k ≡ true
    kid-has k j m c =
        let b = child-below g s [] known k j (node-good g s [] known k m) (splits-level g s [] k c.splits-up) c.its_child in
        any-intro (child_of g.axes k) keys j ((same j).1 (node-down g s [] known k j m c)) (is-child g.axes k j (omega (arith, b.level)) b.up)

    has-kid : (k : ℕ) → has_children g.axes keys k ≡ true → (j : ℕ) × Kid g s [] k j
    has-kid k h =
        let (j, m, e) = any-elim (child_of g.axes k) keys h in
        let up = (node-up g s [] known j ((same j).0 m) (ltb-true 0 (level_of j) (and_l _ _ e))).1 in
        (j, subst (λ (x : ℕ). Kid g s [] x j) (eqb-true (parent g.axes j) k (and_r (ltb 0 (level_of j)) _ e)) up)

    root-right : has_children g.axes keys 0 ≡ (g.keep || ltb 0 (length s))
    root-right = same_test (has_children g.axes keys 0) (g.keep || ltb 0 (length s)) down (λ h. up g.keep refl h)
      where
        top : Mem 0 (nodes g s [])
        top = root-node g s [] known

        down : has_children g.axes keys 0 ≡ true → (g.keep || ltb 0 (length s)) ≡ true
        down h = let (j, c) = has-kid 0 h in go j (kept-cases g s j c.is-kept)
          where
            go : (j : ℕ) → (g.keep ≡ true) ⊎ (0 < sources_in g.axes s j) → (g.keep || ltb 0 (length s)) ≡ true
            go j (inl e) = ap (λ (b : Bool). b || ltb 0 (length s)) e
            go j (inr m) = or_right g.keep _ (λ _. lt-ltb 0 (length s) (some-sources j m))

        up : (b : Bool) → g.keep ≡ b → (g.keep || ltb 0 (length s)) ≡ true → has_children g.axes keys 0 ≡ true
        up true e h =
            let j = child g.axes 0 0 in
            kid-has 0 j top (record { splits-up = splits-root g s [] 0 refl; its_child = map-mem (child g.axes 0) (range 0 (2 ^ g.axes)) 0 (range-mem (2 ^ g.axes) 0 (pow_pos g.axes)); is-kept = kept-all g s j e })
        up false e h =
            let l = ltb-true 0 (length s) (or-not g.keep _ h e) in
            let c = get_or s 0 0 in
            let m : Mem c s = (0, l, refl) in
            kid-has 0 (cell_of g.axes 1 c) top (source-down g s [] known 0 c top (splits-root g s [] 0 refl) m (eq-eqb (c / 2 ^ (g.axes * 16)) 0 (div-eq_of_lt (in-root c m))))

    inner-right : (k : ℕ) → Mem k keys → 0 < level_of k → has_children g.axes keys k ≡ may_have g s k
    inner-right k m l =
        other (has_children g.axes keys k) (splits g s [] k) (sym plain ∙ leaf-same g.axes keys (nodes g s []) same k ∙ leaf-unsplit g s [] known k ((same k).0 m))
        ∙ splits-is g s k
        ∙ ap (λ (b : Bool). b || may_have g s k) (ne_eqb (level_of k) 0 (λ e. omega arith))
      where
        other : (a b : Bool) → not a ≡ not b → a ≡ b
        other true true e = refl
        other true false e = sym e
        other false true e = sym e
        other false false e = refl

        plain : leaf g.axes keys k ≡ not (has_children g.axes keys k)
        plain = unfold leaf in rw (mem-stored keys k m, ne_eqb k 0 (λ e. omega (arith, ap level_of e)))

    pub cells_right : GrownRight g s keys
    cells_right = record {
      root = root-right;
      inner = inner-right;
      sourced = λ e k m l. ltb-true 0 (sources_in g.axes s k) (or-not g.keep _ (node-up g s [] known k ((same k).0 m) l).1.is-kept e);
      all = λ e k j m h c. (same j).1 (node-down g s [] known k j ((same k).0 m) (record { splits-up = (has-kid k h).1.splits-up; its_child = c; is-kept = kept-all g s j e }));
    }

  module _ (t : Tree g.axes keys) (held : InLeaves g.axes s keys) (r : GrownRight g s keys) where
    -- a cell with children splits
    has-splits : (k : ℕ) → Mem k keys → has_children g.axes keys k ≡ true → splits g s [] k ≡ true
    has-splits k m h = go (lt-or-le 0 (level_of k))
      where
        go : (0 < level_of k) ⊎ (level_of k ≤ 0) → splits g s [] k ≡ true
        go (inl l) =
            let e = sym (r.inner k m l) ∙ h in
            splits-more g s k (ltb-true (level_of k) 16 (and_l _ _ e)) (ltb-true g.limit (sources_in g.axes s k) (and_r (ltb (level_of k) deepest) _ e))
        go (inr z) = splits-root g s [] k (omega arith)

    stored-node : (k : ℕ) → Mem k keys → Mem k (nodes g s [])
    stored-node k m = go (lt-or-le 0 (level_of k))
      where
        kept-right : 0 < level_of k → (b : Bool) → g.keep ≡ b → kept g s [] k ≡ true
        kept-right l true e = kept-all g s k e
        kept-right l false e = kept-some g s k (r.sourced e k m l)

        go : (0 < level_of k) ⊎ (level_of k ≤ 0) → Mem k (nodes g s [])
        go (inl l) =
            node-if g s known k (t.sound k m) l
            (has-splits (parent g.axes k) (t.parents k m l) (any-intro (child_of g.axes (parent g.axes k)) keys k m (is-child g.axes (parent g.axes k) k l refl)))
            (kept-right l g.keep refl)
        go (inr z) = subst (λ (x : ℕ). Mem x (nodes g s [])) (sym (root-only g.axes k (t.sound k m) (omega arith))) (root-node g s [] known)

    -- a cell that splits, with a child to be kept, has children
    splits-has : (k j : ℕ) → Mem k keys → Kid g s [] k j → has_children g.axes keys k ≡ true
    splits-has k j m c = go (lt-or-le 0 (level_of k)) (splits-cases g s k c.splits-up) (kept-cases g s j c.is-kept)
      where
        at-root : level_of k ≤ 0 → (g.keep || ltb 0 (length s)) ≡ true → has_children g.axes keys k ≡ true
        at-root z h = subst (λ (x : ℕ). has_children g.axes keys x ≡ true) (sym (root-only g.axes k (t.sound k m) (omega arith))) (r.root ∙ h)

        go : (0 < level_of k) ⊎ (level_of k ≤ 0) → (level_of k ≡ 0) ⊎ ((level_of k < 16) × (g.limit < sources_in g.axes s k)) → (g.keep ≡ true) ⊎ (0 < sources_in g.axes s j)
            → has_children g.axes keys k ≡ true
        go (inl l) (inl z) _ = absurd (omega arith)
        go (inl l) (inr (h, n)) _ = r.inner k m l ∙ both (lt-ltb (level_of k) 16 h) (lt-ltb g.limit (sources_in g.axes s k) n)
        go (inr z) _ (inl e) = at-root z (ap (λ (b : Bool). b || ltb 0 (length s)) e)
        go (inr z) _ (inr n) = at-root z (or_right g.keep _ (λ _. lt-ltb 0 (length s) (some-sources j n)))

    -- the child in which a source lies is stored
    source-child : (k c : ℕ) → ValidKey g.axes k → 0 < level_of k → Mem (parent g.axes k) keys → has_children g.axes keys (parent g.axes k) ≡ true → Mem c s → holds g.axes k c ≡ true → Mem k keys
    source-child k c v l m h mc hc =
        let (x, lx, hx) = held c mc in
        go x lx hx (lt-or-le (level_of x) (level_of k))
      where
        p : ℕ
        p = parent g.axes k

        go : (x : ℕ) → leaf g.axes keys x ≡ true → holds g.axes x c ≡ true → (level_of x < level_of k) ⊎ (level_of k ≤ level_of x) → Mem k keys
        go x lx hx (inl q) =
            let hp = holds-up g.axes p k c (parent-under g.axes k l) v.level hc in
            let e = leaf-lowest g.axes keys t x p lx m (held-under g.axes x p c (omega (arith, level-parent g.axes k)) (t.sound p m).level hx hp) in
            absurd (clash (subst (λ (y : ℕ). has_children g.axes keys y ≡ true) (sym e) h) (leaf-whole g.axes keys t x lx))
        go x lx hx (inr q) =
            let mx = leaf-mem g.axes keys x lx in
            above-mem g.axes keys t k x mx (held-under g.axes k x c q (t.sound x mx).level hc hx)

    node-stored : (n k : ℕ) → level_of k ≡ n → Mem k (nodes g s []) → Mem k keys
    node-stored zero k e m = subst (λ (x : ℕ). Mem x keys) (sym (root-only g.axes k (node-good g s [] known k m) e)) t.root
    node-stored (suc n) k e m =
        let l : 0 < level_of k = omega arith in
        let (mp, c) = node-up g s [] known k m l in
        let mk = node-stored n (parent g.axes k) (omega (arith, level-parent g.axes k)) mp in
        go l mk c (splits-has (parent g.axes k) k mk c) (kept-cases g s k c.is-kept)
      where
        go : 0 < level_of k → Mem (parent g.axes k) keys → Kid g s [] (parent g.axes k) k → has_children g.axes keys (parent g.axes k) ≡ true
            → (g.keep ≡ true) ⊎ (0 < sources_in g.axes s k) → Mem k keys
        go l mk c h (inl e) = r.all e (parent g.axes k) k mk h c.its_child
        go l mk c h (inr q) =
            let (x, mx, hx) = some-source g.axes s k q in
            source-child k x (node-good g s [] known k m) l mk h mx hx

    pub right-cells : Cells
    right-cells k = (stored-node k, node-stored (level_of k) k refl)

  -- the cells are those of the build exactly when each is right by itself
  pub built-iff : Tree g.axes keys → (InLeaves g.axes s keys × GrownRight g s keys) ↔ Cells
  built-iff t = (λ h. right-cells t h.0 h.1, λ same. (cells-leaves same, cells_right same))
