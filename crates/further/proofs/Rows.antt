-- Rows that one further source leaves as they are.
use mathlib.Core.Path.{◌≡◌, refl, sym, ap, ◌∙◌}
use mathlib.Core.Bool.{Bool, true, false, ◌&&◌, ◌||◌, not, cond}
use mathlib.Core.List.{List, []}
use mathlib.Core.Logic.{◌⊎◌, inl, inr}
use Prim.Native.Nat.{ℕ, ◌≤◌, ◌<◌}
use native.Mathlib.Omega.{arith}
use lib.Dec.{ltb}
use borrow.Author.Tests.{ltb-true, lt-ltb, eqb-true, not-true}
use Rattle.slices.specs.Lists.{filter, Mem}
use Rattle.slices.specs.Order.{ascending}
use Rattle.slices.proofs.Tests.{and_l, and_r, both, clash, refute, lt-or-le}
use Rattle.morton.specs.Keys.{level_of, axes_known, ValidKey, parent, under, holds}
use Rattle.morton.specs.Anchors.{touching, close}
use Rattle.morton.proofs.Cells.{level-parent}
use Rattle.refine.specs.Counts.{sources_in}
use Rattle.tree.specs.Nodes.{leaf, sourced}
use Rattle.tree.proofs.Sourced.{under-self, under-trans}
use Rattle.rows.specs.Lists.{neighbour, in_u, in_v, u_row, v_row, at_or_under, beside_ancestor}
use Rattle.rows.proofs.Closeness.{near-is-close}
use Rattle.tree.specs.Leaves.{cell_of}
use Rattle.tree.proofs.Ranges.{parent-under}
use Rattle.growth.specs.declared.Rule.{Rule}
use Rattle.growth.specs.Nodes.{splits}
use Rattle.growth.proofs.Kids.{splits-root}
use Rattle.growth.proofs.Leaves.{holds-cell}
use Rattle.growth.proofs.Held.{leaf-mem, held-under}
use Rattle.growth.proofs.Arranged.{Codes}
use Rattle.growth.proofs.Sorted.{node-good}
use Rattle.growth.proofs.Members.{node-up}
use Rattle.further.specs.Further.{further, TreeOf, beside_parent, DeepestHolder}
use Rattle.further.proofs.Cells.{close-self, close_up}
use Rattle.further.proofs.Alone.{node-if, above-splits}
use Rattle.further.proofs.More.{count-stays, count_same, splits-stays, starts-to-split, kept_same, outside, node_stays, node-before}
use Rattle.further.proofs.Facts.{leaf-is, sourced-is, same-filter}

not-false : (b : Bool) → not b ≡ false → b ≡ true
not-false true e = refl
not-false false e = sym e

module _ (g : Rule) (s : List ℕ) (code : ℕ) (keys own keys' own' : List ℕ) (known : axes_known g.axes ≡ true)
    (codes : Codes g.axes s) (codes' : Codes g.axes (further s code)) (t : TreeOf g s keys own) (t' : TreeOf g (further s code) keys' own') where
  -- every cell stored before is stored after
  pub stays : (k : ℕ) → Mem k keys → Mem k keys'
  stays k m = (t'.cells k).1 (node_stays g s code known k ((t.cells k).0 m))

  before : (k : ℕ) → Mem k keys' → 0 < level_of k → holds g.axes (parent g.axes k) code ≡ false → Mem k keys
  before k m l h = (t.cells k).1 (node-before g s code known k ((t'.cells k).0 m) l h)

  sound : (k : ℕ) → Mem k keys → ValidKey g.axes k
  sound k m = node-good g s [] known k ((t.cells k).0 m)

  sound' : (k : ℕ) → Mem k keys' → ValidKey g.axes k
  sound' k m = node-good g (further s code) [] known k ((t'.cells k).0 m)

  -- a cell without the new source is sourced as before
  sourced-same : (k : ℕ) → Mem k keys → holds g.axes k code ≡ false → sourced g.axes keys own k ≡ sourced g.axes keys' own' k
  sourced-same k m h =
      sourced-is g s keys own known codes t k m
      ∙ ap (ltb 0) (sym (count_same g.axes s code k h))
      ∙ sym (sourced-is g (further s code) keys' own' known codes' t' k (stays k m))

  -- ---- V

  module _ (b : ℕ) (far : beside_parent g.axes b code ≡ false) where
    -- what the test for V says of a cell besides its being sourced, and that its parent does not hold the new source
    pub record Cousin (c : ℕ) : Type 0 where
      pub deep : 0 < level_of c
      pub off : holds g.axes (parent g.axes c) code ≡ false

    cousin : (ks os : List ℕ) (c : ℕ) → in_v g.axes ks os b c ≡ true → Cousin c
    unfolding in_v
    cousin ks os c h =
        let d = g.axes in
        let rest = and_r (ltb 0 (level_of b) && ltb 0 (level_of c)) _ h in
        let up : touching d (parent d b) (parent d c) ≡ true = and_l (touching d (parent d b) (parent d c)) _ (and_l (neighbour d (parent d b) (parent d c)) _ rest) in
        let same = eqb-true (level_of (parent d b)) (level_of (parent d c)) (and_l _ _ up) in
        record {
          deep = ltb-true 0 (level_of c) (and_r (ltb 0 (level_of b)) _ (and_l _ _ h));
          off = refute (λ q. clash up (sym (ap (touching d (parent d b)) (ap (λ (l : ℕ). cell_of d l code) same ∙ holds-cell d (parent d c) code q)) ∙ far));
        }

    in-v-same : (c : ℕ) → Mem c keys → Cousin c → in_v g.axes keys own b c ≡ in_v g.axes keys' own' b c
    unfolding in_v
    in-v-same c m q =
        let d = g.axes in
        ap (λ (x : Bool). (ltb 0 (level_of b) && ltb 0 (level_of c)) && (neighbour d (parent d b) (parent d c) && (x && not (touching d b c))))
        (sourced-same c m (outside g s code (parent d c) c (parent-under d c q.deep) (sound c m).level q.off))

    -- the V row of b holds the same keys if the new point's cell at the level of b's parent neither is that parent nor touches it
    pub v-same : v_row g.axes keys own b ≡ v_row g.axes keys' own' b
    unfolding v_row
    v-same = same-filter (in_v g.axes keys own b) (in_v g.axes keys' own' b) keys keys' t.distinct t'.distinct
        (λ c m h. (stays c m, sym (in-v-same c m (cousin keys own c h)) ∙ h))
        (λ c m h.
        let q = cousin keys' own' c h in
        let mc = before c m q.deep q.off in
        (mc, in-v-same c mc q ∙ h))

  -- ---- U

  module _ (b C : ℕ) (holder : DeepestHolder g.axes keys code C) (lf : leaf g.axes keys b ≡ true) (far : close g.axes b C ≡ false) where
    -- a cell that holds the new source and did not split lies in C
    in-holder : (k : ℕ) → level_of k ≤ 16 → holds g.axes k code ≡ true → splits g s [] k ≡ false → under g.axes C k ≡ true
    in-holder k l h f = go (lt-or-le (level_of k) (level_of C))
      where
        v_c : level_of C ≤ 16
        v_c = (sound C holder.mem).level

        go : (level_of k < level_of C) ⊎ (level_of C ≤ level_of k) → under g.axes C k ≡ true
        go (inl q) = absurd (clash (above-splits g s known k C ((t.cells C).0 holder.mem) (held-under g.axes k C code (omega arith) v_c h holder.holder) q) f)
        go (inr q) = held-under g.axes C k code q l holder.holder h

    -- so what is close to b neither is such a cell nor lies in one
    far_from : (k x : ℕ) → level_of k ≤ 16 → under g.axes k x ≡ true → close g.axes b x ≡ true → holds g.axes k code ≡ true → splits g s [] k ≡ false → ⊥
    far_from k x l u c h f = clash (close_up g.axes b x C (under-trans g.axes C k x (in-holder k l h f) u) c) far

    self : (k : ℕ) → under g.axes k k ≡ true
    self k = under-self g.axes k

    no_start : (k : ℕ) → level_of k ≤ 16 → close g.axes b k ≡ true → splits g s [] k ≡ false → splits g (further s code) [] k ≡ false
    no_start k l c f = refute (λ h. far_from k k l (self k) c (starts-to-split g s code k f h) f)

    unsplit : (ks os : List ℕ) (r : List ℕ) → Codes g.axes r → TreeOf g r ks os → (k : ℕ) → Mem k ks → leaf g.axes ks k ≡ true → splits g r [] k ≡ false
    unsplit ks os r cs q k m l = not-true _ (sym (leaf-is g r ks os known cs q k m) ∙ l)

    -- b stays a leaf
    pub leaf-stays : leaf g.axes keys' b ≡ true
    leaf-stays =
        let m = leaf-mem g.axes keys b lf in
        leaf-is g (further s code) keys' own' known codes' t' b (stays b m) ∙ ap not (no_start b (sound b m).level (close-self g.axes b) (unsplit keys own s codes t b m lf))

    pub record Near (ks os : List ℕ) (x : ℕ) : Type 0 where
      pub is_leaf : leaf g.axes ks x ≡ true
      pub is-sourced : sourced g.axes ks os x ≡ true
      pub is-close : close g.axes b x ≡ true

    near : (ks os : List ℕ) (x : ℕ) → in_u g.axes ks os b x ≡ true → Near ks os x
    unfolding in_u
    near ks os x h =
        let rest : (sourced g.axes ks os x && (at_or_under g.axes b x || beside_ancestor g.axes b x)) ≡ true = and_r (leaf g.axes ks x) _ h in
        record { is_leaf = and_l _ _ h; is-sourced = and_l _ _ rest; is-close = sym (near-is-close g.axes b x) ∙ and_r (sourced g.axes ks os x) _ rest }

    from-near : (ks os : List ℕ) (x : ℕ) → Near ks os x → in_u g.axes ks os b x ≡ true
    unfolding in_u
    from-near ks os x n = both n.is_leaf (both n.is-sourced (near-is-close g.axes b x ∙ n.is-close))

    -- a leaf of the row before is one of the row after
    on : (x : ℕ) → Mem x keys → Near keys own x → Near keys' own' x
    on x m n =
        let m' = stays x m in
        record {
          is_leaf = leaf-is g (further s code) keys' own' known codes' t' x m' ∙ ap not (no_start x (sound x m).level n.is-close (unsplit keys own s codes t x m n.is_leaf));
          is-sourced =
              sourced-is g (further s code) keys' own' known codes' t' x m'
              ∙ lt-ltb 0 (sources_in g.axes (further s code) x) (omega (arith, count-stays g.axes s code x, ltb-true 0 (sources_in g.axes s x) (sym (sourced-is g s keys own known codes t x m) ∙ n.is-sourced)));
          is-close = n.is-close;
        }

    -- and back: it does not hold the new source, nor does its parent unless that was split before
    back : (x : ℕ) → Mem x keys' → Near keys' own' x → Mem x keys × Near keys own x
    back x m n =
        let m₀ = was x m n in (
          m₀,
          record {
            is_leaf = leaf-is g s keys own known codes t x m₀ ∙ ap not (whole x m n);
            is-sourced = sourced-same x m₀ (free x m n) ∙ n.is-sourced;
            is-close = n.is-close;
          },
        )
      where
        whole' : (x : ℕ) → Mem x keys' → Near keys' own' x → splits g (further s code) [] x ≡ false
        whole' x m n = unsplit keys' own' (further s code) codes' t' x m n.is_leaf

        whole : (x : ℕ) → Mem x keys' → Near keys' own' x → splits g s [] x ≡ false
        whole x m n = refute (λ h. clash (splits-stays g s code x h) (whole' x m n))

        free : (x : ℕ) → Mem x keys' → Near keys' own' x → holds g.axes x code ≡ false
        free x m n = refute (λ h. far_from x x (sound' x m).level (self x) n.is-close h (whole x m n))

        deep : (x : ℕ) → Mem x keys' → Near keys' own' x → 0 < level_of x
        deep x m n = go (lt-or-le 0 (level_of x))
          where
            go : (0 < level_of x) ⊎ (level_of x ≤ 0) → 0 < level_of x
            go (inl l) = l
            go (inr z) = absurd (clash (splits-root g s [] x (omega arith)) (whole x m n))

        was : (x : ℕ) → Mem x keys' → Near keys' own' x → Mem x keys
        was x m n = go (splits g s [] (parent g.axes x)) refl
          where
            p : ℕ
            p = parent g.axes x

            l : 0 < level_of x
            l = deep x m n

            vp : level_of p ≤ 16
            vp = omega (arith, level-parent g.axes x, (sound' x m).level)

            go : (c : Bool) → splits g s [] p ≡ c → Mem x keys
            go true e = (t.cells x).1 (node-if g s known x (sound' x m) l e (sym (kept_same g s code x (free x m n)) ∙ (node-up g (further s code) [] known x ((t'.cells x).0 m) l).1.is-kept))
            go false e = before x m l (refute (λ h. far_from p x vp (parent-under g.axes x l) n.is-close h e))

    -- the U row of b holds the same keys if its cell and C, at the coarser one's level, neither coincide nor touch
    pub u_same : u_row g.axes keys own b ≡ u_row g.axes keys' own' b
    unfolding u_row
    u_same =
        ap (λ (c : Bool). cond c (ascending (filter (in_u g.axes keys own b) keys)) []) lf
        ∙ same-filter (in_u g.axes keys own b) (in_u g.axes keys' own' b) keys keys' t.distinct t'.distinct
        (λ x m h. (stays x m, from-near keys' own' x (on x m (near keys own x h))))
        (λ x m h. let r = back x m (near keys' own' x h) in (r.0, from-near keys own x r.1))
        ∙ sym (ap (λ (c : Bool). cond c (ascending (filter (in_u g.axes keys' own' b) keys')) []) leaf-stays)
