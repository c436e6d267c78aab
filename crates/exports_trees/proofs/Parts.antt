-- A node's part of the order column by its start and its length.
use mathlib.Core.Path.{◌≡◌, refl, sym, ap, ◌∙◌}
use mathlib.Core.Bool.{Bool, true, false, ◌&&◌, cond}
use mathlib.Core.List.{List, [], ◌∷◌}
use Prim.Native.Nat.{ℕ, ◌+◌, ◌-◌, ◌≤◌, ◌<◌}
use native.Mathlib.Omega.{arith}
use lib.Dec.{ltb, leb, eqb}
use lib.ListN.{length, get_or, take, drop, length-drop}
use lib.Seq.{length-take-le}
use borrow.Author.Tests.{ltb-true, leb-true, eq-eqb, ne_eqb}
use Rattle.slices.proofs.Tests.{and_l, and_r}
use Rattle.tree.specs.Sources.{has_part, leaf_sources}
use Rattle.exports_trees.specs.Told.{part_start}

module _ (own begin order : List ℕ) (node : ℕ) where
  pub empty-start : length (leaf_sources own begin order node) ≡ 0 → ◌≡◌ {A = ℕ} 0 (part_start own begin order node)
  empty-start e = sym (ap (λ b. cond b 0 (get_or begin node 0)) (eq-eqb (length (leaf_sources own begin order node)) 0 e))

  pub other-start : (length (leaf_sources own begin order node) ≡ 0 → ⊥) → get_or begin node 0 ≡ part_start own begin order node
  other-start n = sym (ap (λ b. cond b 0 (get_or begin node 0)) (ne_eqb (length (leaf_sources own begin order node)) 0 n))

  -- an empty part is what 0 entries are, wherever they start
  pub empty-part : length (leaf_sources own begin order node) ≡ 0 → take 0 (drop 0 order) ≡ leaf_sources own begin order node
  empty-part e = none (leaf_sources own begin order node) e
    where
      none : (xs : List ℕ) → length xs ≡ 0 → [] ≡ xs
      none [] e = refl
      none (x ∷ xs) e = absurd (omega (arith, e))

  -- a part that is not empty is held by the columns
  held : (b : Bool) → has_part own begin order node ≡ b → (length (leaf_sources own begin order node) ≡ 0 → ⊥) → has_part own begin order node ≡ true
  unfolding leaf_sources
  held true e n = e
  held false e n = absurd (n (ap (λ b. length (cond b (take (get_or own node 0) (drop (get_or begin node 0) order)) [])) e))

  pub has : (length (leaf_sources own begin order node) ≡ 0 → ⊥) → has_part own begin order node ≡ true
  has n = held (has_part own begin order node) refl n

  pub in_begin : (length (leaf_sources own begin order node) ≡ 0 → ⊥) → node < length begin
  in_begin n = ltb-true node (length begin) (and_r (ltb node (length own)) _ (and_l _ _ (has n)))

  shown : has_part own begin order node ≡ true → leaf_sources own begin order node ≡ take (get_or own node 0) (drop (get_or begin node 0) order)
  unfolding leaf_sources
  shown h = ap (λ b. cond b (take (get_or own node 0) (drop (get_or begin node 0) order)) []) h

  pub other-part : (length (leaf_sources own begin order node) ≡ 0 → ⊥)
      → take (length (leaf_sources own begin order node)) (drop (get_or begin node 0) order) ≡ leaf_sources own begin order node
  other-part n =
      let h = has n in
      let e = shown h in
      let l : length (leaf_sources own begin order node) ≡ get_or own node 0 =
      ap length e ∙ long (leb-true (get_or begin node 0 + get_or own node 0) (length order) (and_r (ltb node (length own) && ltb node (length begin)) _ h)) in
      ap (λ k. take k (drop (get_or begin node 0) order)) l ∙ sym e
    where
      long : get_or begin node 0 + get_or own node 0 ≤ length order → length (take (get_or own node 0) (drop (get_or begin node 0) order)) ≡ get_or own node 0
      long l = length-take-le (get_or own node 0) (drop (get_or begin node 0) order) (omega (arith, l, length-drop (get_or begin node 0) order))
