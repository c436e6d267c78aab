-- The nodes of a build in Z order: ascending, each other's parent among them.
use mathlib.Core.Path.{◌≡◌, refl, sym, ap, ◌∙◌, subst}
use mathlib.Core.Bool.{Bool, true, false, ◌&&◌, cond}
use mathlib.Core.List.{List, [], ◌∷◌, ◌++◌, map}
use mathlib.Core.Logic.{◌⊎◌, inl, inr}
use Prim.Native.Nat.{ℕ, zero, suc, ◌+◌, ◌*◌, ◌-◌, ◌^◌, ◌≤◌, ◌<◌}
use native.Mathlib.Omega.{arith}
use native.Mathlib.Nat.{not-suc-le-zero, le_of_suc-le-suc}
use lib.ListN.{length, get_or}
use borrow.Author.Tests.{le-leb, lt-ltb, leb-true, eq-eqb}
use Rattle.slices.specs.Lists.{filter, concat_map, range, Mem}
use Rattle.slices.proofs.Tests.{both, and_l}
use Rattle.slices.proofs.Counts.{here, there}
use Rattle.slices.proofs.Lists.{length-range, get_or-range}
use Rattle.slices.proofs.Members.{mem-cases, mem-filter, mem-map, mem-range}
use Rattle.morton.specs.Keys.{level_of, code_of, axes_known, ValidKey, parent, child, children, under, valid}
use Rattle.morton.proofs.Cells.{key-code, above_zero}
use Rattle.tree.specs.Nodes.{stored, child_of}
use Rattle.tree.proofs.Stored.{stored-mem, mem-stored}
use Rattle.tree.proofs.Sourced.{under-self, under-trans, child-under}
use Rattle.growth.specs.declared.Rule.{Rule}
use Rattle.growth.specs.Nodes.{splits, kept, kids}
use Rattle.growth.specs.ByLevel.{nodes_by_level}
use Rattle.growth.proofs.Joined.{mem-concat}
use Rattle.growth.proofs.Chains.{Chain, chain-filter, chain-concat, chain-at}
use Rattle.growth.proofs.Kids.{kid-facts, splits-level, child-below, root-good}
use Rattle.growth.proofs.Cells.{level-good}
use Rattle.growth.proofs.ByLevel.{level-first, level-parents, level-some}
use Rattle.tree.specs.Order.{first, size, code_at}
use Rattle.tree.proofs.Spans.{size-pos, above_low, Earlier, before_of, under-span}
use Rattle.tree.proofs.Rules.{Ascending, Tree}
use Rattle.tree.proofs.Ranges.{distinct}
use Rattle.tree.proofs.Perm.{perm-length, perm-mem, perm-stored}
use Rattle.growth.specs.Nodes.{preorder, nodes}
use Rattle.growth.proofs.Renumbered.{nodes-arranged}

-- ---- children: each ends before the next begins

abbrev pub Ahead : ℕ → ℕ → ℕ → Type 0
Ahead d x y = first d x + size d x ≤ first d y

ahead : (d x y : ℕ) → level_of x ≡ level_of y → level_of x ≤ 16 → code_of x < code_of y → Ahead d x y
ahead d x y e l c =
    let z : level_of x - level_of y ≡ 0 = omega arith in
    above_low d x y (omega arith) l (rw (z, above_zero d (code_of x)) c)

module _ (d k : ℕ) (h : level_of k < 16) where
  child-level : (c : ℕ) → level_of (child d k c) ≡ suc (level_of k)
  child-level c = omega arith

  child-code : (c : ℕ) → code_of (child d k c) ≡ code_of k * 2 ^ d + c
  child-code c = key-code (level_of k + 1) (code_of k * 2 ^ d + c) (omega arith)

  pub children-chain : (a n : ℕ) → Chain (Ahead d) (map (child d k) (range a n))
  unfolding Chain range
  children-chain a zero = tt
  children-chain a (suc n) = (λ y m. go y (mem-map (child d k) (range (suc a) n) y m), children-chain (suc a) n)
    where
      go : (y : ℕ) → (c : ℕ) × Mem c (range (suc a) n) × (child d k c ≡ y) → Ahead d (child d k a) y
      go y (c, (i, l, e), q) =
          let less : a < c = omega (arith, get_or-range (suc a) n i (omega (arith, length-range (suc a) n)), e) in
          subst (Ahead d (child d k a)) q (ahead d (child d k a) (child d k c) (omega (arith, child-level a, child-level c)) (omega (arith, child-level a)) (omega (arith, child-code a, child-code c)))

-- ---- the nodes

module _ (g : Rule) (s t : List ℕ) (known : axes_known g.axes ≡ true) where
  kids-chain : (k : ℕ) → Chain (Ahead g.axes) (kids g s t k)
  unfolding kids Chain
  kids-chain k = go (splits g s t k) refl
    where
      go : (b : Bool) → splits g s t k ≡ b → Chain (Ahead g.axes) (cond b (filter (kept g s t) (children g.axes k)) [])
      go true e = chain-filter (Ahead g.axes) (kept g s t) (children g.axes k) (children-chain g.axes k (splits-level g s t k e) 0 (2 ^ g.axes))
      go false e = unfold Chain in tt

  -- a stored child is a cell one level down, under its parent
  record Kept (k c : ℕ) : Type 0 where
    good : ValidKey g.axes c
    level : level_of c ≡ suc (level_of k)
    within : under g.axes k c ≡ true

  kid-kept : (k c : ℕ) → ValidKey g.axes k → Mem c (kids g s t k) → Kept k c
  kid-kept k c v m =
      let f = kid-facts g s t k c m in
      let b = child-below g s t known k c v (splits-level g s t k f.splits-up) f.its_child in
      record {
        good = b.good;
        level = b.level;
        within = child-under g.axes k c (both (lt-ltb 0 (level_of c) (omega (arith, b.level))) (eq-eqb (parent g.axes c) k b.up));
      }

  -- all of a cell's list lies in it
  inside : (n k : ℕ) → ValidKey g.axes k → (y : ℕ) → Mem y (preorder g s t n k) → (under g.axes k y ≡ true) × (level_of y ≤ 16)
  unfolding preorder
  inside zero k v y m = go (mem-cases y k [] m)
    where
      go : (k ≡ y) ⊎ Mem y [] → (under g.axes k y ≡ true) × (level_of y ≤ 16)
      go (inl e) = subst (λ (x : ℕ). (under g.axes k x ≡ true) × (level_of x ≤ 16)) e (under-self g.axes k, v.level)
      go (inr (i, l, _)) = absurd (not-suc-le-zero l)
  inside (suc n) k v y m = go (mem-cases y k (concat_map (preorder g s t n) (kids g s t k)) m) (inside n)
    where
      go : (k ≡ y) ⊎ Mem y (concat_map (preorder g s t n) (kids g s t k)) → ((c : ℕ) → ValidKey g.axes c → (y : ℕ) → Mem y (preorder g s t n c) → (under g.axes c y ≡ true) × (level_of y ≤ 16))
          → (under g.axes k y ≡ true) × (level_of y ≤ 16)
      go (inl e) ih = subst (λ (x : ℕ). (under g.axes k x ≡ true) × (level_of x ≤ 16)) e (under-self g.axes k, v.level)
      go (inr m) ih =
          let (c, mc, my) = mem-concat (preorder g s t n) (kids g s t k) y m in
          let q = kid-kept k c v mc in
          let r = ih c q.good y my in
          (under-trans g.axes k c y q.within r.0, r.1)

  -- and ascends
  rising : (n k : ℕ) → ValidKey g.axes k → Chain (Earlier g.axes) (preorder g s t n k)
  unfolding preorder Chain
  rising zero k v = (λ y m. absurd (not-suc-le-zero m.1), tt)
  rising (suc n) k v = (
    λ y m. top y (mem-concat (preorder g s t n) (kids g s t k) y m),
    chain-concat (Ahead g.axes) (Earlier g.axes) (preorder g s t n) (kids g s t k) (kids-chain k) (λ c m. rising n c (kid-kept k c v m).good) across,
  )
    where
      top : (y : ℕ) → (c : ℕ) × Mem c (kids g s t k) × Mem y (preorder g s t n c) → Earlier g.axes k y
      top y (c, mc, my) =
          let q = kid-kept k c v mc in
          let r = inside n c q.good y my in
          let u = under-span g.axes c y r.1 r.0 in
          let w = under-span g.axes k c q.good.level q.within in
          (omega (arith, u.1, w.1), λ e. omega (arith, u.0, q.level))

      across : (x y a b : ℕ) → Mem x (kids g s t k) → Mem y (kids g s t k) → Ahead g.axes x y → Mem a (preorder g s t n x) → Mem b (preorder g s t n y) → Earlier g.axes a b
      across x y a b mx my h ma mb =
          let p = inside n x (kid-kept k x v mx).good a ma in
          let q = inside n y (kid-kept k y v my).good b mb in
          let u = under-span g.axes x a p.1 p.0 in
          let w = under-span g.axes y b q.1 q.0 in
          let z = size-pos g.axes a in
          (omega (arith, u.2, w.1, h), λ e. absurd (omega (arith, u.2, w.1, h)))

  pub node-good : (k : ℕ) → Mem k (nodes g s t) → ValidKey g.axes k
  node-good k m = level-good g s t known k (perm-mem (nodes g s t) (nodes_by_level g s t) (nodes-arranged g s t) k m)

  pub nodes-chain : Chain (Earlier g.axes) (nodes g s t)
  unfolding nodes
  nodes-chain = rising 16 0 (level-good g s t known 0 (0, level-some g s t known, level-first g s t known))

  pub nodes-some : 0 < length (nodes g s t)
  nodes-some = omega (arith, perm-length (nodes g s t) (nodes_by_level g s t) (nodes-arranged g s t), level-some g s t known)

  head : (n k : ℕ) → get_or (preorder g s t n k) 0 0 ≡ k
  unfolding preorder
  head zero k = refl
  head (suc n) k = refl

  pub nodes-first : get_or (nodes g s t) 0 0 ≡ 0
  unfolding nodes
  nodes-first = head 16 0

  -- order 10: the nodes ascend in Z order
  pub nodes-ascending : Ascending g.axes (nodes g s t)
  nodes-ascending = record {
    root = nodes-first;
    sound = λ i l. let v = node-good (get_or (nodes g s t) i 0) (i, l, refl) in
        both (le-leb (level_of (get_or (nodes g s t) i 0)) 16 v.level) (lt-ltb (code_of (get_or (nodes g s t) i 0)) (2 ^ (g.axes * level_of (get_or (nodes g s t) i 0))) v.code);
    ordered = λ i l. before_of g.axes (get_or (nodes g s t) i 0) (get_or (nodes g s t) (suc i) 0) (node-good (get_or (nodes g s t) i 0) (i, omega arith, refl)).level (node-good (get_or (nodes g s t) (suc i) 0) (suc i, l, refl)).level
        (chain-at (Earlier g.axes) (nodes g s t) nodes-chain i (suc i) (omega arith) l);
  }

  pub nodes-tree : Tree g.axes (nodes g s t)
  nodes-tree = record { ascending = nodes-ascending; parents = found }
    where
      found : (i : ℕ) → 0 < i → i < length (nodes g s t) → stored (nodes g s t) (parent g.axes (get_or (nodes g s t) i 0)) ≡ true
      found i p l = go (perm-mem (nodes g s t) (nodes_by_level g s t) (nodes-arranged g s t) (get_or (nodes g s t) i 0) (i, l, refl))
        where
          go : Mem (get_or (nodes g s t) i 0) (nodes_by_level g s t) → stored (nodes g s t) (parent g.axes (get_or (nodes g s t) i 0)) ≡ true
          go (zero, lm, e) = absurd (omega (arith, distinct g.axes (nodes g s t) nodes-ascending i 0 l nodes-some (sym e ∙ level-first g s t known ∙ sym nodes-first)))
          go (suc m, lm, e) =
              perm-stored (nodes g s t) (nodes_by_level g s t) (nodes-arranged g s t) (parent g.axes (get_or (nodes g s t) i 0))
              ∙ subst (λ (x : ℕ). stored (nodes_by_level g s t) (parent g.axes x) ≡ true) e (level-parents g s t known (suc m) (omega arith) lm)
