-- The leaves are the nodes that do not split, and each source's code is held by one.
use mathlib.Core.Path.{◌≡◌, refl, sym, ap, ap₂, ◌∙◌, subst}
use mathlib.Core.Bool.{Bool, true, false, ◌||◌, not}
use mathlib.Core.List.{List}
use Prim.Native.Nat.{ℕ, zero, suc, ◌+◌, ◌*◌, ◌-◌, ◌^◌, ◌≤◌, ◌<◌}
use native.Mathlib.Omega.{arith}
use native.Mathlib.Nat.{mul-zero, div-eq_of_lt}
use native.Mathlib.Decide.{dec_lt}
use native.Mathlib.Numerals.{add-one}
use lib.Dec.{ltb, eqb}
use lib.Pow.{pow_pos}
use borrow.Author.Tests.{ltb-true, eqb-true, lt-ltb, le-leb, eq-eqb, ne_eqb, not-true}
use Rattle.slices.specs.Lists.{any, range, Mem}
use Rattle.slices.proofs.Tests.{and_l, and_r, both, clash, refute, or-not, or_right}
use Rattle.slices.proofs.Counts.{count-pos, pos-count, any-intro, any-elim}
use Rattle.slices.proofs.Members.{map-mem, range-mem}
use Rattle.morton.specs.Keys.{deepest, level_of, code_of, key, above, axes_known, ValidKey, parent, child, children, holds}
use Rattle.morton.proofs.Cells.{above-one, above-up, key-level, key-code, key-parts}
use Rattle.anchors.proofs.Laws.{children-under}
use Rattle.refine.specs.Counts.{count_at, sources_in}
use Rattle.tree.specs.Nodes.{stored, child_of, leaf}
use Rattle.tree.proofs.Stored.{mem-stored}
use Rattle.tree.specs.Leaves.{cell_of}
use Rattle.growth.specs.declared.Rule.{Rule}
use Rattle.growth.specs.Nodes.{splits, nodes}
use Rattle.growth.proofs.Kids.{Kid, splits-root, splits-level, child-below}
use Rattle.growth.proofs.Sorted.{node-good}
use Rattle.growth.proofs.Members.{root-node, node-up, node-down}

pub holds-code : (d k c : ℕ) → holds d k c ≡ true → above d (deepest - level_of k) c ≡ code_of k
holds-code d k c h = eqb-true (above d (deepest - level_of k) c) (code_of k) h

-- the cell at a level that holds a code, and no other of that level
pub cell_holds : (d l c : ℕ) → l ≤ 16 → holds d (cell_of d l c) c ≡ true
cell_holds d l c h =
    let e = key-level l (above d (deepest - l) c) (omega arith) in
    eq-eqb (above d (deepest - level_of (cell_of d l c)) c) (code_of (cell_of d l c))
    (ap (λ (n : ℕ). above d (deepest - n) c) e ∙ sym (key-code l (above d (deepest - l) c) (omega arith)))

pub holds-cell : (d k c : ℕ) → holds d k c ≡ true → cell_of d (level_of k) c ≡ k
holds-cell d k c h = ap (key (level_of k)) (holds-code d k c h) ∙ key-parts k

-- the child that holds the code
module _ (d k c : ℕ) (v : ValidKey d k) (h : holds d k c ≡ true) (l : level_of k < 16) where
  next_level : level_of (cell_of d (suc (level_of k)) c) ≡ suc (level_of k)
  next_level = key-level (suc (level_of k)) (above d (deepest - suc (level_of k)) c) (omega arith)

  next-child : Mem (cell_of d (suc (level_of k)) c) (children d k)
  next-child =
      let j = cell_of d (suc (level_of k)) c in
      let one : level_of j - level_of k ≡ 1 = omega (arith, next_level) in
      let up : above d (level_of j - level_of k) (code_of j) ≡ code_of k =
      ap₂ (above d) one (key-code (suc (level_of k)) (above d (deepest - suc (level_of k)) c) (omega arith))
      ∙ above-one d (above d (deepest - suc (level_of k)) c)
      ∙ above-up d (level_of k) deepest c l
      ∙ holds-code d k c h in
      (children-under d k v l j).1 (next_level ∙ sym (add-one (level_of k)), both (le-leb (level_of k) (level_of j) (omega (arith, next_level))) (eq-eqb (above d (level_of j - level_of k) (code_of j)) (code_of k) up))

-- a cell that holds a source, and a source in a cell that has one
pub has-source : (d : ℕ) (s : List ℕ) (k c : ℕ) → Mem c s → holds d k c ≡ true → 0 < sources_in d s k
unfolding count_at
has-source d s k c m h = count-pos (λ x. holds d k x) s m.0 m.1 (subst (λ (x : ℕ). holds d k x ≡ true) (sym m.2) h)

pub some-source : (d : ℕ) (s : List ℕ) (k : ℕ) → 0 < sources_in d s k → (c : ℕ) × Mem c s × (holds d k c ≡ true)
unfolding count_at
some-source d s k h = pos-count (λ x. holds d k x) s h

module _ (g : Rule) (s t : List ℕ) (known : axes_known g.axes ≡ true) where
  -- a node that splits has a child where a source lies
  pub source-down : (k c : ℕ) → Mem k (nodes g s t) → splits g s t k ≡ true → Mem c s → holds g.axes k c ≡ true → Kid g s t k (cell_of g.axes (suc (level_of k)) c)
  source-down k c m sp mc h =
      let l = splits-level g s t k sp in
      let j = cell_of g.axes (suc (level_of k)) c in
      record {
        splits-up = sp;
        its_child = next-child g.axes k c (node-good g s t known k m) h l;
        is-kept = or_right g.keep (ltb 0 (sources_in g.axes s j)) (λ _. lt-ltb 0 (sources_in g.axes s j) (has-source g.axes s j c mc (cell_holds g.axes (suc (level_of k)) c l)));
      }

  kid-child : (k j : ℕ) → Mem k (nodes g s t) → Kid g s t k j → any (child_of g.axes k) (nodes g s t) ≡ true
  kid-child k j m c =
      let b = child-below g s t known k j (node-good g s t known k m) (splits-level g s t k c.splits-up) c.its_child in
      any-intro (child_of g.axes k) (nodes g s t) j (node-down g s t known k j m c)
      (both (lt-ltb 0 (level_of j) (omega (arith, b.level))) (eq-eqb (parent g.axes j) k b.up))

  -- a node other than the root that splits has a child
  some-kid : (k : ℕ) → Mem k (nodes g s t) → 0 < level_of k → splits g s t k ≡ true → (j : ℕ) × Kid g s t k j
  some-kid k m h sp = go g.keep refl
    where
      go : (b : Bool) → g.keep ≡ b → (j : ℕ) × Kid g s t k j
      go true e = (
        child g.axes k 0,
        record {
          splits-up = sp;
          its_child = map-mem (child g.axes k) (range 0 (2 ^ g.axes)) 0 (range-mem (2 ^ g.axes) 0 (pow_pos g.axes));
          is-kept = ap (λ (b : Bool). b || ltb 0 (sources_in g.axes s (child g.axes k 0))) e;
        },
      )
      go false e =
          let r = some-source g.axes s k (ltb-true 0 (sources_in g.axes s k) (or-not g.keep _ (node-up g s t known k m h).1.is-kept e)) in
          (cell_of g.axes (suc (level_of k)) r.0, source-down k r.0 m sp r.1 r.2)

  unsplit : (k : ℕ) → Mem k (nodes g s t) → splits g s t k ≡ false → leaf g.axes (nodes g s t) k ≡ true
  unfolding leaf
  unsplit k m f = both (mem-stored (nodes g s t) k m) (both (ap not other) (ap not none))
    where
      other : eqb k 0 ≡ false
      other = ne_eqb k 0 (λ e. clash (splits-root g s t k (ap level_of e)) f)

      none : any (child_of g.axes k) (nodes g s t) ≡ false
      none = refute (λ r.
          let (x, mx, e) = any-elim (child_of g.axes k) (nodes g s t) r in
          let up = (node-up g s t known x mx (ltb-true 0 (level_of x) (and_l _ _ e))).1.splits-up in
          clash (subst (λ (y : ℕ). splits g s t y ≡ true) (eqb-true (parent g.axes x) k (and_r (ltb 0 (level_of x)) _ e)) up) f)

  split : (k : ℕ) → Mem k (nodes g s t) → splits g s t k ≡ true → leaf g.axes (nodes g s t) k ≡ false
  unfolding leaf
  split k m sp = refute (λ h. go h (dec_lt 0 (level_of k)))
    where
      go : leaf g.axes (nodes g s t) k ≡ true → Dec (0 < level_of k) → ⊥
      go h (yes l) =
          let r = some-kid k m l sp in
          clash (kid-child k r.0 m r.1) (unfold leaf in not-true _ (and_r (not (eqb k 0)) _ (and_r (stored (nodes g s t) k) _ h)))
      go h (no n) =
          let z : level_of k ≡ 0 = omega arith in
          let c = rw (z, mul-zero) at (node-good g s t known k m).code in
          clash (eq-eqb k 0 (omega (arith, key-parts k, c))) (unfold leaf in not-true _ (and_l _ _ (and_r (stored (nodes g s t) k) _ h)))

  -- a node is a leaf if it does not split
  pub leaf-unsplit : (k : ℕ) → Mem k (nodes g s t) → leaf g.axes (nodes g s t) k ≡ not (splits g s t k)
  leaf-unsplit k m = go (splits g s t k) refl
    where
      go : (b : Bool) → splits g s t k ≡ b → leaf g.axes (nodes g s t) k ≡ not b
      go true e = split k m e
      go false e = unsplit k m e

  -- from the root down to the first cell that does not split
  module _ (c : ℕ) (mc : Mem c s) where
    abbrev Held : Type 0
    Held = (l : ℕ) × (1 ≤ l) × (l ≤ 16) × (leaf g.axes (nodes g s t) (cell_of g.axes l c) ≡ true)

    lev : (l : ℕ) → l ≤ 16 → level_of (cell_of g.axes l c) ≡ l
    lev l h = key-level l (above g.axes (deepest - l) c) (omega arith)

    stop : (l : ℕ) → l ≤ 16 → Mem (cell_of g.axes l c) (nodes g s t) → splits g s t (cell_of g.axes l c) ≡ false → Held
    stop l h m f = (l, some (dec_lt 0 l), h, unsplit (cell_of g.axes l c) m f)
      where
        some : Dec (0 < l) → 1 ≤ l
        some (yes q) = q
        some (no q) = absurd (clash (splits-root g s t (cell_of g.axes l c) (omega (arith, lev l h))) f)

    on : (l : ℕ) → l ≤ 16 → Mem (cell_of g.axes l c) (nodes g s t) → splits g s t (cell_of g.axes l c) ≡ true → Mem (cell_of g.axes (suc l) c) (nodes g s t)
    on l h m f =
        let k = cell_of g.axes l c in
        subst (λ (i : ℕ). Mem (cell_of g.axes (suc i) c) (nodes g s t)) (lev l h)
        (node-down g s t known k (cell_of g.axes (suc (level_of k)) c) m (source-down k c m f mc (cell_holds g.axes l c h)))

    walk : (n l : ℕ) → n + l ≡ 16 → Mem (cell_of g.axes l c) (nodes g s t) → Held
    walk zero l e m = go (splits g s t (cell_of g.axes l c)) refl
      where
        go : (b : Bool) → splits g s t (cell_of g.axes l c) ≡ b → Held
        go true f = absurd (omega (arith, splits-level g s t (cell_of g.axes l c) f, lev l (omega arith)))
        go false f = stop l (omega arith) m f
    walk (suc n) l e m = go (splits g s t (cell_of g.axes l c)) refl (walk n (suc l) (omega arith))
      where
        go : (b : Bool) → splits g s t (cell_of g.axes l c) ≡ b → (Mem (cell_of g.axes (suc l) c) (nodes g s t) → Held) → Held
        go true f rest = rest (on l (omega arith) m f)
        go false f rest = stop l (omega arith) m f

    -- each source's code is held by a leaf
    pub source-leaf : c < 2 ^ (g.axes * 16) → (l : ℕ) × (1 ≤ l) × (l ≤ 16) × (leaf g.axes (nodes g s t) (cell_of g.axes l c) ≡ true)
    source-leaf h = walk 16 0 refl (subst (λ (k : ℕ). Mem k (nodes g s t)) (sym (ap (key 0) (div-eq_of_lt h))) (root-node g s t known))
