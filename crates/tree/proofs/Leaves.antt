-- Leaves by number: nothing but a leaf lies under it; the place of a key, the depth, and the test of a leaf.
use mathlib.Core.Path.{◌≡◌, refl, sym, ap, ◌∙◌}
use mathlib.Core.Bool.{true, false}
use mathlib.Core.List.{List, [], ◌∷◌}
use Prim.Native.Nat.{ℕ, zero, suc, ◌+◌, ◌≤◌, ◌<◌, suc-le-suc, max}
use native.Mathlib.Omega.{arith}
use native.Mathlib.Nat.{not-suc-le-zero, le_of_suc-le-suc}
use native.Mathlib.Decide.{dec_lt}
use lib.Dec.{leb, eqb}
use lib.ListN.{length, get_or}
use borrow.Author.Tests.{ltb-true, leb-true, le-leb, lt-leb, eq-eqb, ne_eqb}
use Rattle.slices.specs.Lists.{Distinct}
use Rattle.slices.proofs.Tests.{and_l, and_r, clash}
use Rattle.morton.specs.Keys.{level_of, under}
use Rattle.tree.specs.Nodes.{node_number, leaf}
use Rattle.tree.proofs.Clauses.{parents-facts}
use Rattle.tree.specs.Order.{greatest_level, depth_of, end_of}
use Rattle.tree.specs.Finding.{TreeKeys}
use Rattle.tree.proofs.Rules.{Tree, ascend-facts}
use Rattle.tree.proofs.Ranges.{level-le}
use Rattle.tree.proofs.Ends.{ends}
use Rattle.tree.proofs.Laws.{under-range, leaf-is}
use Rattle.tree.proofs.Follow.{root-no-leaf}

pub tree_of : (d : ℕ) (keys : List ℕ) → TreeKeys d keys → Tree d keys
tree_of d keys k = record { ascending = ascend-facts d keys k.ascend; parents = parents-facts d keys k.parents }

module _ (d : ℕ) (keys : List ℕ) (t : Tree d keys) where
  -- nothing but a leaf lies under it
  pub leaf-alone : (i j : ℕ) → i < length keys → j < length keys → leaf d keys (get_or keys i 0) ≡ true → under d (get_or keys i 0) (get_or keys j 0) ≡ true → i ≡ j
  leaf-alone i j li lj lf u =
      let h = sym (under-range d keys t i j li lj) ∙ u in
      let a = leb-true i j (and_l _ _ h) in
      let b = ltb-true j (end_of keys i) (and_r (leb i j) _ h) in
      go a b (dec_lt i j)
    where
      go : i ≤ j → j < end_of keys i → Dec (i < j) → i ≡ j
      go a b (no n) = omega arith
      go a b (yes s) = by (dec_lt 0 i)
        where
          deep : level_of (get_or keys i 0) < level_of (get_or keys (suc i) 0)
          deep = (ends keys i li).deeper (suc i) (omega arith) (omega arith)

          by : Dec (0 < i) → i ≡ j
          by (yes p) = absurd (clash lf (leaf-is d keys t i p li ∙ rw (lt-leb (length keys) (suc i) (omega arith), lt-leb (level_of (get_or keys (suc i) 0)) (level_of (get_or keys i 0)) deep)))
          by (no n) = let z : i ≡ 0 = omega arith in absurd (clash lf (ap (λ x. leaf d keys (get_or keys x 0)) z ∙ root-no-leaf d keys [] t))

-- places and levels
pub place_is : (keys : List ℕ) → Distinct keys → (i : ℕ) → i < length keys → node_number keys (get_or keys i 0) ≡ i
unfolding node_number
place_is [] dist i l = absurd (not-suc-le-zero l)
place_is (x ∷ xs) dist zero l = rw (eq-eqb x x refl)
place_is (x ∷ xs) dist (suc i) l =
    rw (ne_eqb x (get_or xs i 0) (λ q. omega (arith, dist 0 (suc i) (omega arith) l q)))
    (ap suc (place_is xs (λ j k lj lk q. omega (arith, dist (suc j) (suc k) (suc-le-suc lj) (suc-le-suc lk) q)) i (omega arith)))

pub level-greatest : (keys : List ℕ) (i : ℕ) → i < length keys → level_of (get_or keys i 0) ≤ greatest_level keys
unfolding greatest_level
level-greatest [] i l = absurd (not-suc-le-zero l)
level-greatest (x ∷ xs) zero l = omega arith
level-greatest (x ∷ xs) (suc i) l = omega (arith, level-greatest xs i (le_of_suc-le-suc l))

pub greatest-le : (keys : List ℕ) (n : ℕ) → ((i : ℕ) → i < length keys → level_of (get_or keys i 0) ≤ n) → greatest_level keys ≤ n
unfolding greatest_level
greatest-le [] n h = omega arith
greatest-le (x ∷ xs) n h = omega (arith, h 0 (omega arith), greatest-le xs n (λ i l. h (suc i) (omega arith)))

pub depth_le : (d : ℕ) (keys : List ℕ) → Tree d keys → depth_of keys ≤ 16
depth_le d keys t = omega (arith, greatest-le keys 16 (level-le d keys t.ascending))

-- whether a node is a leaf, as the code tests it
module _ (d : ℕ) (keys : List ℕ) (t : Tree d keys) (i : ℕ) (l : i < length keys) where
  pub leaf-root : i < 1 → false ≡ leaf d keys (get_or keys i 0)
  leaf-root h = let z : i ≡ 0 = omega arith in sym (ap (λ x. leaf d keys (get_or keys x 0)) z ∙ root-no-leaf d keys [] t)

  pub leaf-end : 1 ≤ i → length keys ≤ i + 1 → true ≡ leaf d keys (get_or keys i 0)
  leaf-end p h = sym (leaf-is d keys t i p l ∙ rw (le-leb (length keys) (suc i) (omega arith)))

  pub leaf-next : 1 ≤ i → i + 1 < length keys → leb (level_of (get_or keys (i + 1) 0)) (level_of (get_or keys i 0)) ≡ leaf d keys (get_or keys i 0)
  leaf-next p h =
      let e : i + 1 ≡ suc i = omega arith in
      rw e (sym (leaf-is d keys t i p l ∙ rw (lt-leb (length keys) (suc i) (omega arith))))
