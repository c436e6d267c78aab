-- The listing read from flat rows is that of the rows that were written there.
use mathlib.Core.Path.{◌≡◌, refl, ap, ap₂}
use mathlib.Core.List.{List, [], ◌∷◌, ◌++◌, append_assoc}
use Prim.Native.Nat.{ℕ, zero, suc, ◌+◌, ◌-◌, ◌<◌}
use native.Mathlib.Nat.{le_of_suc-le-suc, not-suc-le-zero}
use native.Mathlib.Omega.{arith}
use lib.ListN.{length, get_or, length-append}
use lib.Seq.{drop-append_seam, take-append_seam}
use Rattle.slices.specs.Lists.{concat_map, Mem}
use Rattle.slices.proofs.Counts.{here, there}
use Rattle.rows.specs.Written.{starts_from, row_at, Written}
use Rattle.text.specs.Listing.{by_level, first_line, node_line, lines_from, listing}
use Rattle.text.proofs.Levels.{printed-node}

first-start : (a : ℕ) (row : ℕ → List ℕ) (keys more : List ℕ) → get_or (starts_from a row keys ++ more) 0 0 ≡ a
unfolding starts_from
first-start a row [] more = refl
first-start a row (k ∷ ks) more = refl

row-at : (row : ℕ → List ℕ) (keys pre rest more : List ℕ) (i : ℕ) → i < length keys
    → row_at (starts_from (length pre) row keys ++ more) (pre ++ (concat_map row keys ++ rest)) i ≡ row (get_or keys i 0)
unfolding starts_from concat_map
row-at row [] pre rest more i l = absurd (not-suc-le-zero l)
row-at row (k ∷ ks) pre rest more zero l =
    let e : (length pre + length (row k)) - length pre ≡ length (row k) = omega arith in
    rw (first-start (length pre + length (row k)) row ks more, e, drop-append_seam pre ((row k ++ concat_map row ks) ++ rest), append_assoc (row k) (concat_map row ks) rest)
    (take-append_seam (row k) (concat_map row ks ++ rest))
row-at row (k ∷ ks) pre rest more (suc i) l =
    let ih = row-at row ks (pre ++ row k) rest more i (le_of_suc-le-suc l) in
    let same : pre ++ ((row k ++ concat_map row ks) ++ rest) ≡ (pre ++ row k) ++ (concat_map row ks ++ rest) = simp append_assoc in
    rw (same, ← length-append pre (row k)) ih

-- the row of a node as written
pub written_at : (row : ℕ → List ℕ) (keys starts flat : List ℕ) → Written keys row starts flat → (i : ℕ) → i < length keys → row_at starts flat i ≡ row (get_or keys i 0)
written_at row keys starts flat w i l = rw (w.starts_are, w.keys_are) (row-at row keys [] w.rest w.more i l)

-- rows that agree on the nodes printed give the same lines
module _ (key own : List ℕ) (u v u' v' : ℕ → List ℕ) where
  line_same : (n i : ℕ) → u i ≡ u' i → v i ≡ v' i → node_line key own u v n i ≡ node_line key own u' v' n i
  unfolding node_line
  line_same n i e f = rw (e, f)

  lines_same : (n : ℕ) (nodes : List ℕ) → ((i : ℕ) → Mem i nodes → u i ≡ u' i) → ((i : ℕ) → Mem i nodes → v i ≡ v' i) → lines_from key own u v n nodes ≡ lines_from key own u' v' n nodes
  unfolding lines_from
  lines_same n [] e f = refl
  lines_same n (i ∷ rest) e f = ap₂ ◌++◌ (line_same n i (e i (here i rest)) (f i (here i rest))) (lines_same (suc n) rest (λ j m. e j (there i j rest m)) (λ j m. f j (there i j rest m)))

-- the listing of columns that hold the rows of the nodes
pub listing-read : (key own us uk vs vk : List ℕ) (u v : ℕ → List ℕ) → Written key u us uk → Written key v vs vk → (axes depth sources work : ℕ)
    → listing key own (row_at us uk) (row_at vs vk) axes depth sources work ≡ listing key own (λ i. u (get_or key i 0)) (λ i. v (get_or key i 0)) axes depth sources work
listing-read key own us uk vs vk u v wu wv axes depth sources work =
    ap (λ (l : List ℕ). first_line axes (length key) depth sources work ++ l)
    (lines_same key own (row_at us uk) (row_at vs vk) (λ i. u (get_or key i 0)) (λ i. v (get_or key i 0)) 0 (by_level key)
    (λ i m. written_at u key us uk wu i (printed-node key i m)) (λ i m. written_at v key vs vk wv i (printed-node key i m)))
