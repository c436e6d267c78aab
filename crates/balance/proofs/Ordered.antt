-- The cells depth first stand in Z order, each once; and cells in Z order are told apart by which they are.
use mathlib.Core.Path.{◌≡◌, refl, sym, ap, ap₂, ◌∙◌, subst}
use mathlib.Core.Bool.{Bool, true, false, cond}
use mathlib.Core.List.{List, [], ◌∷◌}
use mathlib.Core.Logic.{◌⊎◌, inl, inr, ◌↔◌}
use Prim.Native.Nat.{ℕ, zero, suc, ◌^◌, ◌≤◌, ◌<◌}
use native.Mathlib.Omega.{arith}
use native.Mathlib.Nat.{not-suc-le-zero}
use lib.ListN.{length, get_or}
use Rattle.slices.specs.Lists.{concat_map, Mem, Distinct}
use Rattle.slices.proofs.Counts.{here, there}
use Rattle.slices.proofs.Members.{mem-cases}
use Rattle.morton.specs.Keys.{axes_known, level_of, children, under}
use Rattle.morton.proofs.Checks.{facts-valid}
use Rattle.tree.specs.Finding.{TreeKeys}
use Rattle.tree.proofs.Spans.{size-pos, Earlier, earlier-not, before_of, under-span}
use Rattle.tree.proofs.Rules.{Ascending, facts-ascend, ascend-facts}
use Rattle.tree.proofs.Clauses.{facts-parents}
use Rattle.tree.proofs.Stored.{mem-stored, distinct}
use Rattle.tree.proofs.Ranges.{earlier-at}
use Rattle.tree.proofs.Sourced.{child-under}
use Rattle.growth.proofs.Joined.{mem-concat}
use Rattle.growth.proofs.Chains.{Chain, chain-concat, chain-at}
use Rattle.growth.proofs.Sorted.{Ahead, children-chain}
use Rattle.balance.specs.Balance.{Tree}
use Rattle.balance.specs.Splitting.{must_split, wanted, cells_from, balanced_cells}
use Rattle.balance.proofs.Cells.{Child, child-facts, its_child}
use Rattle.balance.proofs.Stored.{deep}
use Rattle.balance.proofs.Wanted.{wanted-root, wanted-sound, wanted-child, must-shallow, result-tree}
use Rattle.balance.proofs.DepthFirst.{lies-under, are-wanted, depth-first}

module _ (d : ℕ) (keys : List ℕ) (t : Tree d keys) where
  -- a listed cell spans part of the one that the list begins with
  within : (n k : ℕ) → wanted d keys k ≡ true → (c : ℕ) → Mem c (cells_from d keys n k) → (under d k c ≡ true) × (level_of c ≤ 16)
  within n k h c m = (lies-under d keys t n k h c m, (wanted-sound d keys t c (are-wanted d keys t n k h c m)).level)

  rising : (n k : ℕ) → wanted d keys k ≡ true → Chain (Earlier d) (cells_from d keys n k)
  unfolding cells_from Chain
  rising zero k h = (λ y m. absurd (not-suc-le-zero m.1), tt)
  rising (suc n) k h = go (must_split d keys k) refl (rising n)
    where
      go : (s : Bool) → must_split d keys k ≡ s → ((b : ℕ) → wanted d keys b ≡ true → Chain (Earlier d) (cells_from d keys n b))
          → Chain (Earlier d) (k ∷ cond s (concat_map (cells_from d keys n) (children d k)) [])
      go false s rest = unfold Chain in (λ y m. absurd (not-suc-le-zero m.1), tt)
      go true s rest = unfold Chain in (
        λ y m. top y (mem-concat (cells_from d keys n) (children d k) y m),
        chain-concat (Ahead d) (Earlier d) (cells_from d keys n) (children d k) (children-chain d k (must-shallow d keys t k s) 0 (2 ^ d)) (λ c m. rest c (want c m)) across,
      )
        where
          fact : (b : ℕ) → Mem b (children d k) → Child d k b
          fact b mb = child-facts d k b (wanted-sound d keys t k h) (must-shallow d keys t k s) mb

          want : (b : ℕ) → Mem b (children d k) → wanted d keys b ≡ true
          want b mb = wanted-child d keys t k b s (fact b mb)

          top : (y : ℕ) → (c : ℕ) × Mem c (children d k) × Mem y (cells_from d keys n c) → Earlier d k y
          top y (c, mc, my) =
              let f = fact c mc in
              let r = within n c (want c mc) y my in
              let u = under-span d c y r.1 r.0 in
              let w = under-span d k c f.sound.level (child-under d k c (its_child d k c (omega (arith, f.level)) f.parent_is)) in
              (omega (arith, u.1, w.1), λ e. omega (arith, u.0, f.level))

          across : (x y a b : ℕ) → Mem x (children d k) → Mem y (children d k) → Ahead d x y → Mem a (cells_from d keys n x) → Mem b (cells_from d keys n y) → Earlier d a b
          across x y a b mx my h ma mb =
              let p = within n x (want x mx) a ma in
              let q = within n y (want y my) b mb in
              let u = under-span d x a p.1 p.0 in
              let w = under-span d y b q.1 q.0 in
              let z = size-pos d a in
              (omega (arith, u.2, w.1, h), λ e. absurd (omega (arith, u.2, w.1, h)))

  head : (n k : ℕ) → get_or (cells_from d keys n k) 0 0 ≡ k
  unfolding cells_from
  head zero k = refl
  head (suc n) k = refl

  pub first-is-root : get_or (balanced_cells d keys) 0 0 ≡ 0
  unfolding balanced_cells
  first-is-root = head 16 0

  chained : Chain (Earlier d) (balanced_cells d keys)
  unfolding balanced_cells
  chained = rising 16 0 (wanted-root d keys)

  result : Tree d (balanced_cells d keys)
  result = result-tree d keys t (balanced_cells d keys) (depth-first d keys t)

  pub ascending-depth-first : Ascending d (balanced_cells d keys)
  ascending-depth-first = record {
    root = first-is-root;
    sound = λ i l. (facts-valid d (get_or (balanced_cells d keys) i 0) (result.sound (get_or (balanced_cells d keys) i 0) (i, l, refl))).1;
    ordered = λ i l. before_of d (get_or (balanced_cells d keys) i 0) (get_or (balanced_cells d keys) (suc i) 0)
        (result.sound (get_or (balanced_cells d keys) i 0) (i, omega arith, refl)).level
        (result.sound (get_or (balanced_cells d keys) (suc i) 0) (suc i, l, refl)).level
        (chain-at (Earlier d) (balanced_cells d keys) chained i (suc i) (omega arith) l);
  }

  pub distinct-depth-first : Distinct (balanced_cells d keys)
  distinct-depth-first = distinct d (balanced_cells d keys) ascending-depth-first

-- a tree whose keys stand in Z order is one that calls take
pub tree-keys : (d : ℕ) (keys : List ℕ) → Tree d keys → Ascending d keys → TreeKeys d keys
tree-keys d keys t asc = record {
  axes = (facts-valid d 0 (t.sound 0 t.root)).0;
  some = omega (arith, t.root.1);
  ascend = facts-ascend d keys asc;
  parents = facts-parents d keys (λ i p l. mem-stored keys _ (t.parents (get_or keys i 0) (i, l, refl) (deep d keys t (get_or keys i 0) (i, l, refl) (no-root i p l))));
}
  where
    no-root : (i : ℕ) → 0 < i → i < length keys → get_or keys i 0 ≡ 0 → ⊥
    no-root i p l e = omega (arith, distinct d keys asc 0 i (omega arith) l (asc.root ∙ sym e))

pub keys-depth-first : (d : ℕ) (keys : List ℕ) → Tree d keys → TreeKeys d (balanced_cells d keys)
keys-depth-first d keys t = tree-keys d (balanced_cells d keys) (result d keys t) (ascending-depth-first d keys t)

-- ---- lists in Z order with the same cells are one list

chain-of : (d : ℕ) (keys : List ℕ) → ((i j : ℕ) → i < j → j < length keys → Earlier d (get_or keys i 0) (get_or keys j 0)) → Chain (Earlier d) keys
unfolding Chain
chain-of d [] h = tt
chain-of d (x ∷ xs) h = (λ y (j, l, e). subst (Earlier d x) e (h 0 (suc j) (omega arith) (omega arith)), chain-of d xs (λ i j l m. h (suc i) (suc j) (omega arith) (omega arith)))

chains-same : (d : ℕ) (xs ys : List ℕ) → Chain (Earlier d) xs → Chain (Earlier d) ys → ((k : ℕ) → Mem k xs ↔ Mem k ys) → xs ≡ ys
unfolding Chain
chains-same d [] [] a b h = refl
chains-same d [] (y ∷ ys) a b h = absurd (not-suc-le-zero ((h y).1 (here y ys)).1)
chains-same d (x ∷ xs) [] a b h = absurd (not-suc-le-zero ((h x).0 (here x xs)).1)
chains-same d (x ∷ xs) (y ∷ ys) a b h = ap₂ ◌∷◌ same (chains-same d xs ys a.1 b.1 rest)
  where
    same : x ≡ y
    same = go (mem-cases x y ys ((h x).0 (here x xs))) (mem-cases y x xs ((h y).1 (here y ys)))
      where
        go : (y ≡ x) ⊎ Mem x ys → (x ≡ y) ⊎ Mem y xs → x ≡ y
        go (inl e) _ = sym e
        go (inr _) (inl e) = e
        go (inr m) (inr n) = absurd (earlier-not d x y (a.0 y n) (b.0 x m))

    rest : (k : ℕ) → Mem k xs ↔ Mem k ys
    rest k = (λ m. to (mem-cases k y ys ((h k).0 (there x k xs m))) m, λ m. from (mem-cases k x xs ((h k).1 (there y k ys m))) m)
      where
        to : (y ≡ k) ⊎ Mem k ys → Mem k xs → Mem k ys
        to (inl e) m = absurd (earlier-not d x x (subst (Earlier d x) (sym e ∙ sym same) (a.0 k m)) (subst (Earlier d x) (sym e ∙ sym same) (a.0 k m)))
        to (inr n) m = n

        from : (x ≡ k) ⊎ Mem k xs → Mem k ys → Mem k xs
        from (inl e) m = absurd (earlier-not d y y (subst (Earlier d y) (sym e ∙ same) (b.0 k m)) (subst (Earlier d y) (sym e ∙ same) (b.0 k m)))
        from (inr n) m = n

pub same-list : (d : ℕ) (xs ys : List ℕ) → Ascending d xs → Ascending d ys → ((k : ℕ) → Mem k xs ↔ Mem k ys) → xs ≡ ys
same-list d xs ys a b h = chains-same d xs ys (chain-of d xs (earlier-at d xs a)) (chain-of d ys (earlier-at d ys b)) h
