-- Rows written one after the other and read again; and that demand 3 looks at rows of nodes alone.
use mathlib.Core.Path.{◌≡◌, refl, sym, ap, ap₂, ◌∙◌, subst}
use mathlib.Core.Bool.{Bool, true, false, cond}
use mathlib.Core.List.{List, [], ◌∷◌, ◌++◌, map, append_assoc}
use Prim.Native.Nat.{ℕ, zero, suc, ◌+◌, ◌-◌, ◌≤◌, ◌<◌, suc-le-suc, zero-le}
use native.Mathlib.Omega.{arith}
use native.Mathlib.Nat.{le_of_suc-le-suc, not-suc-le-zero}
use lib.Dec.{eqb}
use lib.ListN.{length, get_or, take, drop, length-append}
use lib.Seq.{take-append_seam, drop-append_seam}
use borrow.Author.Tests.{eqb-true, eqb-false}
use Rattle.slices.specs.Lists.{concat_map, sum, Mem}
use Rattle.slices.proofs.Counts.{there}
use Rattle.morton.specs.Keys.{level_of, parent, upwards, ancestors}
use Rattle.morton.proofs.Cells.{level-parent}
use Rattle.tree.specs.Nodes.{node_number, stored}
use Rattle.tree.proofs.Rules.{Ascending}
use Rattle.tree.proofs.Stored.{parent-mem}
use Rattle.rows.specs.Written.{starts_from, row_starts, row_keys, row_at, row_of, Gives, Written}
use Rattle.rows.specs.Demand3.{brings, meetings}

place-of : (keys : List ℕ) (k i : ℕ) → i < length keys → get_or keys i 0 ≡ k → (node_number keys k < length keys) × (get_or keys (node_number keys k) 0 ≡ k)
unfolding node_number
place-of [] k i l e = absurd (not-suc-le-zero l)
place-of (x ∷ xs) k i l e = go (eqb x k) refl i l e (place-of xs k)
  where
    go : (b : Bool) → eqb x k ≡ b → (i : ℕ) → i < length (x ∷ xs) → get_or (x ∷ xs) i 0 ≡ k
        → ((i : ℕ) → i < length xs → get_or xs i 0 ≡ k → (node_number xs k < length xs) × (get_or xs (node_number xs k) 0 ≡ k))
        → (cond b 0 (suc (node_number xs k)) < length (x ∷ xs)) × (get_or (x ∷ xs) (cond b 0 (suc (node_number xs k))) 0 ≡ k)
    go true h i l e ih = (suc-le-suc zero-le, eqb-true x k h)
    go false h zero l e ih = absurd (eqb-false x k h e)
    go false h (suc i) l e ih = let r = ih i (le_of_suc-le-suc l) e in (suc-le-suc r.0, r.1)

first-start : (a : ℕ) (row : ℕ → List ℕ) (keys more : List ℕ) → get_or (starts_from a row keys ++ more) 0 0 ≡ a
unfolding starts_from
first-start a row [] more = refl
first-start a row (k ∷ ks) more = refl

row-at : (row : ℕ → List ℕ) (keys pre rest more : List ℕ) (i : ℕ) → i < length keys
    → row_at (starts_from (length pre) row keys ++ more) (pre ++ (concat_map row keys ++ rest)) i ≡ row (get_or keys i 0)
unfolding starts_from concat_map
row-at row [] pre rest more i l = absurd (not-suc-le-zero l)
row-at row (k ∷ ks) pre rest more zero l =
    let e : (length pre + length (row k)) - length pre ≡ length (row k) = omega arith in
    rw (first-start (length pre + length (row k)) row ks more, e, drop-append_seam pre ((row k ++ concat_map row ks) ++ rest), append_assoc (row k) (concat_map row ks) rest)
    (take-append_seam (row k) (concat_map row ks ++ rest))
row-at row (k ∷ ks) pre rest more (suc i) l =
    let ih = row-at row ks (pre ++ row k) rest more i (le_of_suc-le-suc l) in
    let same : pre ++ ((row k ++ concat_map row ks) ++ rest) ≡ (pre ++ row k) ++ (concat_map row ks ++ rest) = simp append_assoc in
    rw (same, ← length-append pre (row k)) ih

-- rows as written, whatever stands after them
pub gives-written : (row : ℕ → List ℕ) (keys starts flat : List ℕ) → Written keys row starts flat → Gives keys row (row_of keys starts flat)
gives-written row keys starts flat w k m =
    let (l, e) = place-of keys k m.0 m.1 m.2 in
    rw (w.starts_are, w.keys_are) (row-at row keys [] w.rest w.more (node_number keys k) l ∙ ap row e)

-- sums over a node and its ancestors
module _ (d : ℕ) (keys : List ℕ) (asc : Ascending d keys) (parents : (i : ℕ) → 0 < i → i < length keys → stored keys (parent d (get_or keys i 0)) ≡ true) where
  sum-upwards : (f g : ℕ → ℕ) → ((k : ℕ) → Mem k keys → f k ≡ g k) → (n k : ℕ) → Mem k keys → level_of k ≡ n → sum (map f (upwards n d k)) ≡ sum (map g (upwards n d k))
  unfolding upwards sum
  sum-upwards f g same zero k m e = ap (◌+ 0) (same k m)
  sum-upwards f g same (suc n) k m e =
      ap₂ ◌+◌ (same k m) (sum-upwards f g same n (parent d k) (parent-mem d keys asc parents k m (omega arith)) (level-parent d k ∙ omega arith))

  pub same-meetings : (u v u' v' : ℕ → List ℕ) → Gives keys u' u → Gives keys v' v → (b s : ℕ) → Mem b keys → meetings d u v b s ≡ meetings d u' v' b s
  same-meetings u v u' v' gu gv b s m =
      ap₂ ◌+◌ (ap (brings d s) (gu b m)) (sum-upwards (λ a. brings d s (v a)) (λ a. brings d s (v' a)) (λ k mk. ap (brings d s) (gv k mk)) (level_of b) b m refl)
