-- The leaf that holds a level-16 code is the last node that begins by it, and the climb of the definition finds the same. So a leaf
-- that holds the code is the answer, wherever its number came from.
use Rattle.std.proofs.Common.{◌≡◌, ℕ, zero, suc, ◌+◌, ◌-◌, ◌*◌, ◌^◌, ◌<◌, ◌≤◌, Bool, true, false, cond, ◌&&◌, ltb, leb, ◌⊎◌, List, [], length, get_or, sym, refl, ap, ◌∙◌, subst, ap₂, inl, inr, suc-mul, div-lt_iff_lt-mul, eq-or-lt_of_le, le-div_iff_mul-le, arith, pow_pos, lt-ltb, eqb-true, le-leb, leb-true}
use native.Mathlib.Decide.{dec_lt}
use borrow.Author.Tests.{lt-leb, eqb-false}
use Rattle.slices.proofs.Tests.{and_l, and_r, clash}
use Rattle.morton.specs.Keys.{key, level_of, code_of, above, holds}
use Rattle.morton.proofs.Cells.{key-parts, key-level, key-code}
use Rattle.tree.specs.Nodes.{node_number, leaf}
use Rattle.tree.specs.Order.{size, first, depth_of}
use Rattle.tree.specs.Leaves.{cell_of, climbed, found_if, leaf_of}
use Rattle.tree.specs.Finding.{TreeKeys}
use Rattle.tree.proofs.Rules.{Tree}
use Rattle.tree.proofs.Members.{stored-mem}
use Rattle.tree.proofs.Ranges.{level-le, level-pos, distinct, first-mono, within-under}
use Rattle.tree.proofs.Follow.{root-no-leaf}
use Rattle.tree.proofs.Leaves.{tree_of, leaf-alone, place_is, level-greatest, depth_le}
use Rattle.leaf_search.specs.Search.{LastNode, leaf_holds}
use Rattle.std.specs.Prelude.{None, Some}

-- a cell that holds the code begins by it and ends after it
holds-span : (d k code : ℕ) → above d (16 - level_of k) code ≡ code_of k → (first d k ≤ code) × (code < first d k + size d k)
unfolding first size
holds-span d k code e =
    let a = (le-div_iff_mul-le {k = 2 ^ (d * (16 - level_of k))} {x = code_of k} {y = code} (pow_pos (d * (16 - level_of k)))).0 (omega arith) in
    let b = (div-lt_iff_lt-mul {k = 2 ^ (d * (16 - level_of k))} {x = code} {y = suc (code_of k)} (pow_pos (d * (16 - level_of k)))).0 (omega arith) in
    (a, omega (arith, suc-mul (code_of k) (2 ^ (d * (16 - level_of k)))))

-- ---- the climb ends at the last node that begins by the code
module _ (d : ℕ) (keys : List ℕ) (t : Tree d keys) (code : ℕ) where
  leaf_last : (r i : ℕ) → LastNode d keys code r → i < length keys → leaf d keys (get_or keys i 0) ≡ true → above d (16 - level_of (get_or keys i 0)) code ≡ code_of (get_or keys i 0) → i ≡ r
  leaf_last r i s li lf e =
      let p = holds-span d (get_or keys i 0) code e in
      let a = leb-true i r (sym (s.splits i li) ∙ le-leb (first d (get_or keys i 0)) code p.0) in
      let b = leb-true (first d (get_or keys r 0)) code (s.splits r s.within ∙ le-leb r r (omega arith)) in
      leaf-alone d keys t i r li s.within lf (within-under d keys t.ascending i r a s.within (omega (arith, p.1)))

  -- a leaf on the way up is a node that holds the code
  on-way : (l : ℕ) → l ≤ 16 → leaf d keys (cell_of d l code) ≡ true
      → (i : ℕ) × (i < length keys) × (get_or keys i 0 ≡ cell_of d l code) × (above d (16 - level_of (get_or keys i 0)) code ≡ code_of (get_or keys i 0)) × (level_of (get_or keys i 0) ≡ l)
  unfolding leaf
  on-way l h lf =
      let (i, li, e) = stored-mem keys (cell_of d l code) (and_l _ _ lf) in
      let a : level_of (get_or keys i 0) ≡ l = ap level_of e ∙ key-level l (above d (16 - l) code) (omega arith) in
      let b : code_of (get_or keys i 0) ≡ above d (16 - l) code = ap code_of e ∙ key-code l (above d (16 - l) code) (omega arith) in
      (i, li, e, rw a (sym b), a)

  -- the climb ends at the level of the leaf that holds the code
  climb-leaf : (r i top : ℕ) → LastNode d keys code r → i < length keys → leaf d keys (get_or keys i 0) ≡ true → above d (16 - level_of (get_or keys i 0)) code ≡ code_of (get_or keys i 0)
      → top ≤ 16 → level_of (get_or keys i 0) ≤ top → 0 < level_of (get_or keys i 0) → climbed d keys code top ≡ level_of (get_or keys i 0)
  unfolding climbed
  climb-leaf r i zero s li lf e h g p = absurd (omega arith)
  climb-leaf r i (suc l) s li lf e h g p = go (leaf d keys (cell_of d (suc l) code)) refl (λ q. climb-leaf r i l s li lf e (omega arith) q p)
    where
      go : (b : Bool) → leaf d keys (cell_of d (suc l) code) ≡ b → (level_of (get_or keys i 0) ≤ l → climbed d keys code l ≡ level_of (get_or keys i 0)) → cond b (suc l) (climbed d keys code l) ≡ level_of (get_or keys i 0)
      go true x ih =
          let (j, lj, ej, hj, vj) = on-way (suc l) h x in
          let a = leaf_last r i s li lf e in
          let b = leaf_last r j s lj (rw ej x) hj in
          omega (arith, ap (λ n. level_of (get_or keys n 0)) (b ∙ sym a))
      go false x ih = ih (less (eq-or-lt_of_le g))
        where
          less : (level_of (get_or keys i 0) ≡ suc l) ⊎ (level_of (get_or keys i 0) < suc l) → level_of (get_or keys i 0) ≤ l
          less (inr q) = omega arith
          less (inl q) =
              let c : cell_of d (suc l) code ≡ get_or keys i 0 = sym (ap (λ n. cell_of d n code) q) ∙ ap (key (level_of (get_or keys i 0))) e ∙ key-parts (get_or keys i 0) in
              absurd (clash (ap (leaf d keys) c ∙ lf) x)

  climb-none : (top : ℕ) → top ≤ 16 → ((i : ℕ) → i < length keys → leaf d keys (get_or keys i 0) ≡ true → above d (16 - level_of (get_or keys i 0)) code ≡ code_of (get_or keys i 0) → ⊥) → climbed d keys code top ≡ 0
  unfolding climbed
  climb-none zero h n = refl
  climb-none (suc l) h n = go (leaf d keys (cell_of d (suc l) code)) refl (climb-none l (omega arith) n)
    where
      go : (b : Bool) → leaf d keys (cell_of d (suc l) code) ≡ b → climbed d keys code l ≡ 0 → cond b (suc l) (climbed d keys code l) ≡ 0
      go true x ih = let (j, lj, ej, hj, vj) = on-way (suc l) h x in absurd (n j lj (rw ej x) hj)
      go false x ih = ih

  -- a leaf has a level of at least 1
  leaf-level : (i : ℕ) → i < length keys → leaf d keys (get_or keys i 0) ≡ true → 0 < level_of (get_or keys i 0)
  leaf-level i l lf = go (dec_lt 0 i)
    where
      go : Dec (0 < i) → 0 < level_of (get_or keys i 0)
      go (yes p) = level-pos d keys t.ascending i p l
      go (no n) = let z : i ≡ 0 = omega arith in absurd (clash lf (ap (λ x. leaf d keys (get_or keys x 0)) z ∙ root-no-leaf d keys [] t))

  module _ (r : ℕ) (s : LastNode d keys code r) where
    none_is : ((i : ℕ) → i < length keys → leaf d keys (get_or keys i 0) ≡ true → above d (16 - level_of (get_or keys i 0)) code ≡ code_of (get_or keys i 0) → ⊥) → None ≡ leaf_of d keys code
    none_is n = sym (ap (λ l. found_if (ltb 0 l) (node_number keys (cell_of d l code))) (climb-none (depth_of keys) (depth_le d keys t) n))

    not-leaf : leaf d keys (get_or keys r 0) ≡ false → None ≡ leaf_of d keys code
    not-leaf f = none_is (λ i li lf e. clash (ap (λ x. leaf d keys (get_or keys x 0)) (sym (leaf_last r i s li lf e)) ∙ lf) f)

    not-held : (above d (16 - level_of (get_or keys r 0)) code ≡ code_of (get_or keys r 0) → ⊥) → None ≡ leaf_of d keys code
    not-held f = none_is (λ i li lf e. f (subst (λ x. above d (16 - level_of (get_or keys x 0)) code ≡ code_of (get_or keys x 0)) (leaf_last r i s li lf e) e))

    is_held : leaf d keys (get_or keys r 0) ≡ true → above d (16 - level_of (get_or keys r 0)) code ≡ code_of (get_or keys r 0) → Some r ≡ leaf_of d keys code
    is_held lf e =
        let p = leaf-level r s.within lf in
        let c = climb-leaf r r (depth_of keys) s s.within lf e (depth_le d keys t) (omega (arith, level-greatest keys r s.within)) p in
        let k : cell_of d (level_of (get_or keys r 0)) code ≡ get_or keys r 0 = ap (key (level_of (get_or keys r 0))) e ∙ key-parts (get_or keys r 0) in
        sym (ap (λ l. found_if (ltb 0 l) (node_number keys (cell_of d l code))) c ∙ ap₂ (λ b n. found_if b n) (lt-ltb 0 (level_of (get_or keys r 0)) p) (ap (node_number keys) k ∙ place_is keys (distinct d keys t.ascending) r s.within))

-- ---- the answer
module _ (d : ℕ) (keys : List ℕ) (k : TreeKeys d keys) (code : ℕ) where
  abbrev tree : Tree d keys
  tree = tree_of d keys k

  -- a leaf that holds the code is the last node that begins by it
  leaf-is-last : (i : ℕ) → i < length keys → leaf d keys (get_or keys i 0) ≡ true → above d (16 - level_of (get_or keys i 0)) code ≡ code_of (get_or keys i 0) → LastNode d keys code i
  leaf-is-last i l lf e = record { within = l; splits = λ j lj. go j lj (dec_lt i j) }
    where
      go : (j : ℕ) → j < length keys → Dec (i < j) → leb (first d (get_or keys j 0)) code ≡ leb j i
      go j lj (no n) =
          let m = first-mono d keys tree.ascending j i (omega arith) l in
          le-leb (first d (get_or keys j 0)) code (omega (arith, m, (holds-span d (get_or keys i 0) code e).0)) ∙ sym (le-leb j i (omega arith))
      go j lj (yes s) = lt-leb (first d (get_or keys j 0)) code (past (dec_lt code (first d (get_or keys j 0)))) ∙ sym (lt-leb j i s)
        where
          past : Dec (code < first d (get_or keys j 0)) → code < first d (get_or keys j 0)
          past (yes h) = h
          past (no h) =
              let u = within-under d keys tree.ascending i j (omega arith) lj (omega (arith, (holds-span d (get_or keys i 0) code e).1)) in
              absurd (omega (arith, leaf-alone d keys tree i j l lj lf u))

  module _ (i : ℕ) where
    holds-it : leaf_holds d keys code i ≡ true → above d (16 - level_of (get_or keys i 0)) code ≡ code_of (get_or keys i 0)
    holds-it h = eqb-true (above d (16 - level_of (get_or keys i 0)) code) (code_of (get_or keys i 0)) (and_l _ _ h)

    is_leaf : leaf_holds d keys code i ≡ true → leaf d keys (get_or keys i 0) ≡ true
    is_leaf h = and_r (holds d (get_or keys i 0) code) _ h

    -- the answer, wherever the number came from
    pub leaf-told : i < length keys → leaf_holds d keys code i ≡ true → Some i ≡ leaf_of d keys code
    leaf-told l h = is_held d keys tree code i (leaf-is-last i l (is_leaf h) (holds-it h)) (is_leaf h) (holds-it h)

    -- where the last node that begins by the code is no such leaf, there is none
    pub none_told : LastNode d keys code i → leaf_holds d keys code i ≡ false → None ≡ leaf_of d keys code
    none_told s h = go (holds d (get_or keys i 0) code) refl
      where
        go : (b : Bool) → holds d (get_or keys i 0) code ≡ b → None ≡ leaf_of d keys code
        go false e = not-held d keys tree code i s (eqb-false (above d (16 - level_of (get_or keys i 0)) code) (code_of (get_or keys i 0)) e)
        go true e = not-leaf d keys tree code i s (sym (ap (λ b. b && leaf d keys (get_or keys i 0)) e) ∙ h)
