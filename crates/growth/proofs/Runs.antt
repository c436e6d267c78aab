-- Own sources, begins and the order column belong together: a node's run in the order column has the sources in it.
use mathlib.Core.Path.{◌≡◌, refl, sym, ap, ap₂, fun_ext, ◌∙◌}
use mathlib.Core.Bool.{Bool, true, false, cond}
use mathlib.Core.List.{List, [], ◌∷◌, ◌++◌, map}
use Prim.Native.Nat.{ℕ, zero, suc, ◌+◌, ◌-◌, ◌≤◌, ◌<◌}
use native.Mathlib.Omega.{arith}
use native.Mathlib.Nat.{not-suc-le-zero, le_of_suc-le-suc, zero-add}
use lib.ListN.{length, get_or, take, drop, length-append, length-map}
use lib.Seq.{take-append_seam, drop-append-add, get_or-take, get_or-drop}
use borrow.Author.Tests.{lt-ltb, le-leb}
use Rattle.slices.specs.Lists.{filter, sum, range, concat_map, Mem}
use Rattle.slices.proofs.Tests.{both}
use Rattle.slices.proofs.Lists.{length-range}
use Rattle.refine.specs.Counts.{sources_in}
use Rattle.tree.specs.Nodes.{leaf}
use Rattle.tree.specs.WellFormed.{Run}
use Rattle.tree.specs.Sources.{has_part, leaf_sources}
use Rattle.slices.proofs.Sums.{sum-take, sum-whole}
use Rattle.morton.specs.Keys.{holds}
use Rattle.growth.specs.Columns.{own_column, begin_column, indices_in, order_column}
use Rattle.growth.proofs.Arranged.{length-indices, indices-hold}

pub map_at : (f : ℕ → ℕ) (xs : List ℕ) (i : ℕ) → i < length xs → get_or (map f xs) i 0 ≡ f (get_or xs i 0)
map_at f [] i h = absurd (not-suc-le-zero h)
map_at f (x ∷ xs) zero h = refl
map_at f (x ∷ xs) (suc i) h = map_at f xs i (le_of_suc-le-suc h)

values-at : (f : ℕ → ℕ) (a n i : ℕ) → i < n → get_or (map f (range a n)) i 0 ≡ f (a + i)
unfolding range
values-at f a zero i h = absurd (not-suc-le-zero h)
values-at f a (suc n) zero h = let e : a ≡ a + 0 = omega arith in ap f e
values-at f a (suc n) (suc i) h = let e : suc a + i ≡ a + suc i = omega arith in values-at f (suc a) n i (le_of_suc-le-suc h) ∙ ap f e

-- lists one after the other: their lengths add up, and each begins where those before it end
module _ (f : ℕ → List ℕ) where
  joined_length : (ks : List ℕ) → sum (map (λ k. length (f k)) ks) ≡ length (concat_map f ks)
  unfolding sum concat_map
  joined_length [] = refl
  joined_length (k ∷ ks) = omega (arith, joined_length ks, length-append (f k) (concat_map f ks))

  joined-part : (ks : List ℕ) (j : ℕ) → j < length ks
      → take (length (f (get_or ks j 0))) (drop (sum (take j (map (λ k. length (f k)) ks))) (concat_map f ks)) ≡ f (get_or ks j 0)
  unfolding sum concat_map
  joined-part [] j h = absurd (not-suc-le-zero h)
  joined-part (k ∷ ks) zero h = take-append_seam (f k) (concat_map f ks)
  joined-part (k ∷ ks) (suc j) h =
      ap (take (length (f (get_or ks j 0)))) (drop-append-add (f k) (concat_map f ks) (sum (take j (map (λ k. length (f k)) ks))))
      ∙ joined-part ks j (le_of_suc-le-suc h)

  module _ (p : ℕ → Bool) where
    joined-filter : (ks : List ℕ) → concat_map f (filter p ks) ≡ concat_map (λ k. cond (p k) (f k) []) ks
    unfolding concat_map filter
    joined-filter [] = refl
    joined-filter (k ∷ ks) = go (p k) (joined-filter ks)
      where
        go : (b : Bool) → concat_map f (filter p ks) ≡ concat_map (λ k. cond (p k) (f k) []) ks
            → concat_map f (cond b (k ∷ filter p ks) (filter p ks)) ≡ cond b (f k) [] ++ concat_map (λ k. cond (p k) (f k) []) ks
        go true e = ap (λ (z : List ℕ). f k ++ z) e
        go false e = e

-- the columns of any nodes and sources
module _ (d : ℕ) (keys s : List ℕ) where
  abbrev pub own : List ℕ
  own = own_column d keys s

  abbrev pub begin : List ℕ
  begin = begin_column (own_column d keys s)

  abbrev pub order : List ℕ
  order = order_column d keys s

  -- the sources of a leaf, none of another cell
  abbrev pub sources_of : ℕ → List ℕ
  sources_of k = cond (leaf d keys k) (indices_in d s k) []

  pub length-own : length own ≡ length keys
  unfolding own_column
  length-own = length-map keys (λ k. cond (leaf d keys k) (sources_in d s k) 0)

  pub length-begin : length begin ≡ length keys
  unfolding begin_column
  length-begin = length-map (range 0 (length own)) (λ i. sum (take i own)) ∙ length-range 0 (length own) ∙ length-own

  -- begins are the running sums
  pub begin-at : (i : ℕ) → i < length own → get_or begin i 0 ≡ sum (take i own)
  unfolding begin_column
  begin-at i h = values-at (λ i. sum (take i own)) 0 (length own) i h ∙ ap (λ (n : ℕ). sum (take n own)) (zero-add i)

  pub own_at : (i : ℕ) → i < length keys → get_or own i 0 ≡ cond (leaf d keys (get_or keys i 0)) (sources_in d s (get_or keys i 0)) 0
  unfolding own_column
  own_at i h = map_at (λ k. cond (leaf d keys k) (sources_in d s k) 0) keys i h

  own-sizes : own ≡ map (λ k. length (sources_of k)) keys
  unfolding own_column
  own-sizes = ap (λ (f : ℕ → ℕ). map f keys) (fun_ext (λ k. size k (leaf d keys k)))
    where
      size : (k : ℕ) (b : Bool) → cond b (sources_in d s k) 0 ≡ length (cond b (indices_in d s k) [])
      size k true = sym (length-indices d s k)
      size k false = refl

  order-joined : order ≡ concat_map sources_of keys
  unfolding order_column
  order-joined = joined-filter (indices_in d s) (leaf d keys) keys

  -- as many entries in the order column as all own
  pub own-order : sum own ≡ length order
  own-order = ap sum own-sizes ∙ joined_length sources_of keys ∙ ap length (sym order-joined)

  module _ (j : ℕ) (h : j < length keys) where
    run_end : get_or begin j 0 + get_or own j 0 ≤ length order
    run_end =
        let l : j < length own = omega (arith, length-own) in
        omega (arith, begin-at j l, sum-take own j, sum-whole own (suc j), own-order)

    own-size : get_or own j 0 ≡ length (sources_of (get_or keys j 0))
    own-size = ap (λ (xs : List ℕ). get_or xs j 0) own-sizes ∙ map_at (λ k. length (sources_of k)) keys j h

    part : take (get_or own j 0) (drop (get_or begin j 0) order) ≡ sources_of (get_or keys j 0)
    part =
        let b : get_or begin j 0 ≡ sum (take j (map (λ k. length (sources_of k)) keys)) = begin-at j (omega (arith, length-own)) ∙ ap (λ (xs : List ℕ). sum (take j xs)) own-sizes in
        ap₂ (λ (m n : ℕ). take m (drop n order)) own-size b
        ∙ ap (λ (xs : List ℕ). take (length (sources_of (get_or keys j 0))) (drop (sum (take j (map (λ k. length (sources_of k)) keys))) xs)) order-joined
        ∙ joined-part sources_of keys j h

    -- what a call hands back as a node's part: a leaf's sources in ascending index, none of another node
    pub leaf-part : leaf_sources own begin order j ≡ sources_of (get_or keys j 0)
    unfolding leaf_sources
    leaf-part =
        let has : has_part own begin order j ≡ true =
        both (both (lt-ltb j (length own) (omega (arith, length-own))) (lt-ltb j (length begin) (omega (arith, length-begin)))) (le-leb (get_or begin j 0 + get_or own j 0) (length order) run_end) in
        ap (λ (b : Bool). cond b (take (get_or own j 0) (drop (get_or begin j 0) order)) []) has ∙ part

  -- an index in a node's run is that of a source in that node, which is a leaf
  pub record Placed (j p : ℕ) : Type 0 where
    pub node : j < length keys
    pub is_leaf : leaf d keys (get_or keys j 0) ≡ true
    pub index : get_or order p 0 < length s
    pub inside : holds d (get_or keys j 0) (get_or s (get_or order p 0) 0) ≡ true

  pub placed : (j p : ℕ) → Run own begin j p → Placed j p
  placed j p r = go (leaf d keys (get_or keys j 0)) refl
    where
      node : j < length keys
      node = omega (arith, r.node, length-own)

      at : get_or order p 0 ≡ get_or (sources_of (get_or keys j 0)) (p - get_or begin j 0) 0
      at =
          let e : get_or begin j 0 + (p - get_or begin j 0) ≡ p = omega (arith, r.from) in
          ap (λ (n : ℕ). get_or order n 0) (sym e)
          ∙ sym (get_or-drop (get_or begin j 0) order (p - get_or begin j 0) 0)
          ∙ sym (get_or-take (get_or own j 0) (drop (get_or begin j 0) order) (p - get_or begin j 0) 0 (omega (arith, r.from, r.to)))
          ∙ ap (λ (xs : List ℕ). get_or xs (p - get_or begin j 0) 0) (part j node)

      few : p - get_or begin j 0 < length (sources_of (get_or keys j 0))
      few = omega (arith, own-size j node, r.from, r.to)

      go : (b : Bool) → leaf d keys (get_or keys j 0) ≡ b → Placed j p
      go true e =
          let list : sources_of (get_or keys j 0) ≡ indices_in d s (get_or keys j 0) = ap (λ (b : Bool). cond b (indices_in d s (get_or keys j 0)) []) e in
          let m : Mem (get_or order p 0) (indices_in d s (get_or keys j 0)) =
          (p - get_or begin j 0, omega (arith, few, ap length list), sym (at ∙ ap (λ (xs : List ℕ). get_or xs (p - get_or begin j 0) 0) list)) in
          let f = indices-hold d s (get_or keys j 0) (get_or order p 0) m in
          record { node = node; is_leaf = e; index = f.0; inside = f.1 }
      go false e =
          let none : length (sources_of (get_or keys j 0)) ≡ 0 = ap (λ (b : Bool). length (cond b (indices_in d s (get_or keys j 0)) [])) e in
          absurd (omega (arith, few, none))
