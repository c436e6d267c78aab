-- The sources that a salvage keeps are those that its rows bring: a node's count is that of the first row with its key.
use mathlib.Core.Path.{◌≡◌, refl, sym, ap, ap₂, ◌∙◌, subst}
use mathlib.Core.Bool.{Bool, true, false, ◌&&◌, not, cond}
use mathlib.Core.List.{List, map}
use mathlib.Core.Logic.{◌⊎◌, inl, inr}
use Prim.Native.Nat.{ℕ, ◌+◌, ◌-◌, ◌≤◌, ◌<◌}
use native.Mathlib.Omega.{arith}
use native.Mathlib.Decide.{dec_lt}
use lib.Dec.{leb, ltb, eqb}
use lib.ListN.{length, get_or}
use borrow.Author.Tests.{eqb-true, eq-eqb, ltb-true, lt-ltb, le-leb, le-ltb, leb-true, not-true}
use Rattle.slices.specs.Lists.{any, sum, range, count, Mem, Distinct}
use Rattle.slices.proofs.Tests.{and_l, and_r, both, clash, refute, same_test}
use Rattle.slices.proofs.Counts.{any-intro, any-elim, count-pos, count-zero, count-few}
use Rattle.slices.proofs.Members.{range-mem, mem-range, range-distinct}
use Rattle.slices.proofs.Sums.{sum_same, sum-swap, sum-times, sum_less}
use Rattle.morton.specs.Keys.{axes_known, level_of, code_of, above, valid, parent, under}
use Rattle.morton.proofs.Cells.{level-parent}
use Rattle.tree.specs.Nodes.{stored, child_of, leaf, own_of, node_number}
use Rattle.tree.proofs.Members.{mem-stored}
use Rattle.tree.proofs.Under.{Under, under-facts, facts-under, under-trans, child-under}
use Rattle.tree.proofs.Ranges.{distinct}
use Rattle.tree.proofs.Rules.{Tree}
use Rattle.tree.proofs.Stored.{leaf-under}
use Rattle.salvaged.specs.Nodes.{Input, kept_keys}
use Rattle.salvaged.specs.Columns.{new_keys, old_own, old_begin, run_fits, new_count, new_own, new_sources}
use Rattle.salvaged.specs.Changes.{key_at, valid_row, first_row, kept_row}
use Rattle.salvaged.proofs.Kept.{valid-kept, kept-holds, kept-ascending, kept-tree}
use Rattle.salvaged.proofs.Listed.{first_entry}
use Rattle.kept_sources.specs.Rows.{below, below_row, lowest, row_fits, may_count, counts, row_count, rows_sum, Readable}
use Rattle.first_rows.proofs.Numbers.{number-most, number_at, none_owned}

-- in a cell and not it
below-under : (d k j : ℕ) → below d k j ≡ true → under d k j ≡ true
below-under d k j h = both (le-leb (level_of k) (level_of j) (let l = ltb-true (level_of k) (level_of j) (and_l _ _ h) in omega arith)) (and_r (ltb (level_of k) (level_of j)) _ h)

under-below : (d k j : ℕ) → under d k j ≡ true → level_of k < level_of j → below d k j ≡ true
under-below d k j h l = both (lt-ltb (level_of k) (level_of j) l) (and_r (leb (level_of k) (level_of j)) _ h)

module _ (d : ℕ) (rows : List ℕ) (known : axes_known d ≡ true) where
  -- nothing valid is below a leaf
  leaf-lowest : (k : ℕ) → leaf d (kept_keys d rows) k ≡ true → any (below_row d k) rows ≡ false
  leaf-lowest k h = refute (λ a. no (any-elim (below_row d k) rows a))
    where
      no : (j : ℕ) × Mem j rows × (below_row d k j ≡ true) → ⊥
      no (j, m, e) =
          let t = kept-tree d rows known in
          let b = and_r (valid d j) _ e in
          let l = ltb-true (level_of k) (level_of j) (and_l _ _ b) in
          let q = leaf-under d (kept_keys d rows) t.ascending t.parents k j h (valid-kept d rows j m (and_l _ _ e)) (below-under d k j b) in
          omega (arith, ap level_of q)

  -- and a node below which there is none has no child
  no-child : (k : ℕ) → any (below_row d k) rows ≡ false → any (child_of d k) (kept_keys d rows) ≡ false
  no-child k none = refute (λ a. no (any-elim (child_of d k) (kept_keys d rows) a))
    where
      no : (c : ℕ) × Mem c (kept_keys d rows) × (child_of d k c ≡ true) → ⊥
      no (c, m, e) = go (kept-holds d rows c m)
        where
          up : level_of k < level_of c
          up =
              let l = ltb-true 0 (level_of c) (and_l _ _ e) in
              let q = eqb-true (parent d c) k (and_r (ltb 0 (level_of c)) _ e) in
              omega (arith, ap level_of q, level-parent d c)

          go : (0 ≡ c) ⊎ ((j : ℕ) × Mem j rows × (valid d j ≡ true) × (under d c j ≡ true)) → ⊥
          go (inl z) = omega (arith, up, ap level_of z)
          go (inr (j, mj, v, u)) =
              let s = under-facts d c j u in
              clash (any-intro (below_row d k) rows j mj (both v (under-below d k j (under-trans d k c j (child-under d k c e) u) (omega (arith, up, s.level))))) none

  leaf-low : (k : ℕ) → leaf d (kept_keys d rows) k ≡ true → (not (eqb k 0) && lowest d rows k) ≡ true
  unfolding leaf
  leaf-low k h =
      let w : lowest d rows k ≡ true = (let z = leaf-lowest k h in rw z) in
      both (and_l (not (eqb k 0)) (not (any (child_of d k) (kept_keys d rows))) (and_r (stored (kept_keys d rows) k) (not (eqb k 0) && not (any (child_of d k) (kept_keys d rows))) h)) w

  is_leaf : (k : ℕ) → Mem k (kept_keys d rows) → (not (eqb k 0) && lowest d rows k) ≡ true → leaf d (kept_keys d rows) k ≡ true
  unfolding leaf
  is_leaf k m h =
      let z = no-child k (not-true (any (below_row d k) rows) (and_r (not (eqb k 0)) (lowest d rows k) h)) in
      let w : not (any (child_of d k) (kept_keys d rows)) ≡ true = rw z in
      both (mem-stored (kept_keys d rows) k m) (both (and_l (not (eqb k 0)) (lowest d rows k) h) w)

  leaf-rows : (k : ℕ) → Mem k (kept_keys d rows) → leaf d (kept_keys d rows) k ≡ (not (eqb k 0) && lowest d rows k)
  leaf-rows k m = same_test (leaf d (kept_keys d rows) k) (not (eqb k 0) && lowest d rows k) (leaf-low k) (is_leaf k m)

-- tests one by one
kept_test : (v f z t w : Bool) (n : ℕ) → v ≡ true → t ≡ true → cond ((v && f) && (z && (t && w))) n 0 ≡ cond ((z && w) && f) n 0
kept_test true true true true w n a b = rw-and w
  where
    rw-and : (w : Bool) → cond w n 0 ≡ cond (w && true) n 0
    rw-and true = refl
    rw-and false = refl
kept_test true true false true w n a b = refl
kept_test true false true true true n a b = refl
kept_test true false true true false n a b = refl
kept_test true false false true w n a b = refl
kept_test true f z false w n a b = absurd (clash b refl)
kept_test false f z t w n a b = absurd (clash a refl)

dropped-test : (v f z t w : Bool) (n : ℕ) → (v && t) ≡ false → cond ((v && f) && (z && (t && w))) n 0 ≡ 0
dropped-test true f z true w n e = absurd (clash refl e)
dropped-test true true true false w n e = refl
dropped-test true true false false w n e = refl
dropped-test true false z false w n e = refl
dropped-test false f z t w n e = refl

none-counted : (b : Bool) (n : ℕ) → n ≡ 0 → cond b n 0 ≡ 0
none-counted true n e = e
none-counted false n e = refl

module _ (i : Input) where
  row-dropped : (r : ℕ) → kept_row i r ≡ false → row_count i true r ≡ 0
  unfolding row_count
  row-dropped r e = dropped-test (valid_row i r) (row_fits i r) (not (eqb (key_at i r) 0)) (first_row i r) (lowest i.axes i.key (key_at i r)) (get_or i.own r 0) e

  -- a key that no row has brings nothing
  absent-count : (k : ℕ) → length i.key ≤ node_number i.key k → new_count i k ≡ 0
  unfolding new_count
  absent-count k h = none-counted (leaf i.axes (new_keys i) k && run_fits i k) (old_own i k) (none_owned i.key i.own k h)

  new-valid : Readable i → (k : ℕ) → Mem k (new_keys i) → valid i.axes k ≡ true
  new-valid ok k (q, l, e) = subst (λ z. valid i.axes z ≡ true) e ((kept-ascending i.axes i.key ok.axes).sound q l)

  row-most : (r : ℕ) → row_count i true r ≤ row_count i false r
  unfolding row_count
  row-most r = least (may_count i r) (counts i r) (get_or i.own r 0)
    where
      least : (m c : Bool) (n : ℕ) → cond (m && c) n 0 ≤ cond (m && true) n 0
      least true true n = omega arith
      least true false n = omega arith
      least false c n = omega arith

  rows-most : rows_sum i true ≤ rows_sum i false
  unfolding rows_sum
  rows-most = sum_less (row_count i true) (row_count i false) (range 0 (length i.key)) (λ r m. row-most r)

module _ (i : Input) (ok : Readable i) where
  once : Distinct (new_keys i)
  once = distinct i.axes (new_keys i) (kept-ascending i.axes i.key ok.axes)

  -- the only key whose first row is this
  the-key : (r : ℕ) → r < length i.key → (k : ℕ) → eqb (node_number i.key k) r ≡ true → k ≡ key_at i r
  the-key r l k e =
      let q = eqb-true (node_number i.key k) r e in
      sym (number_at i.key k (omega arith)) ∙ ap (key_at i) q

  few : (r : ℕ) → r < length i.key → count (λ k. eqb (node_number i.key k) r) (new_keys i) ≤ 1
  few r l = count-few (λ k. eqb (node_number i.key k) r) (new_keys i) once (λ x y mx my ex ey. the-key r l x ex ∙ sym (the-key r l y ey))

  -- a kept row's node has what the row brings
  kept-count : (r : ℕ) → r < length i.key → kept_row i r ≡ true → new_count i (key_at i r) ≡ row_count i true r
  unfolding new_count row_count
  kept-count r l kept =
      let v = and_l _ _ kept in
      let f = and_r (valid_row i r) _ kept in
      let n = eqb-true (node_number i.key (key_at i r)) r f in
      let o = first_entry i.key i.own (key_at i r) r ok.owns l n in
      let b = first_entry i.key i.begin (key_at i r) r ok.begins l n in
      ap (λ (x : Bool). cond (x && run_fits i (key_at i r)) (old_own i (key_at i r)) 0) (leaf-rows i.axes i.key ok.axes (key_at i r) (valid-kept i.axes i.key (key_at i r) (r, l, refl) v))
      ∙ ap₂ (λ (x y : ℕ). cond ((not (eqb (key_at i r) 0) && lowest i.axes i.key (key_at i r)) && leb (y + x) (length i.order)) x 0) o b
      ∙ sym (kept_test (valid_row i r) (row_fits i r) (not (eqb (key_at i r) 0)) (first_row i r) (lowest i.axes i.key (key_at i r)) (get_or i.own r 0) v f)

  -- one row over all nodes
  row-part : (r : ℕ) → r < length i.key → sum (map (λ k. cond (eqb (node_number i.key k) r) (new_count i k) 0) (new_keys i)) ≡ row_count i true r
  row-part r l =
      sum_same (λ k. cond (eqb (node_number i.key k) r) (new_count i k) 0) (λ k. cond (eqb (node_number i.key k) r) (new_count i (key_at i r)) 0) (new_keys i) (λ k m. same k (eqb (node_number i.key k) r) refl)
      ∙ sum-times (λ k. eqb (node_number i.key k) r) (new_count i (key_at i r)) (new_keys i) (few r l)
      ∙ go (kept_row i r) refl
    where
      same : (k : ℕ) (b : Bool) → eqb (node_number i.key k) r ≡ b → cond b (new_count i k) 0 ≡ cond b (new_count i (key_at i r)) 0
      same k true e = ap (new_count i) (the-key r l k e)
      same k false e = refl

      dropped : kept_row i r ≡ false → row_count i true r ≡ 0
      dropped = row-dropped i r

      go : (b : Bool) → kept_row i r ≡ b → cond (ltb 0 (count (λ k. eqb (node_number i.key k) r) (new_keys i))) (new_count i (key_at i r)) 0 ≡ row_count i true r
      go true e =
          let m = valid-kept i.axes i.key (key_at i r) (r, l, refl) (and_l _ _ e) in
          let p = count-pos (λ k. eqb (node_number i.key k) r) (new_keys i) m.0 m.1 (ap (λ (x : ℕ). eqb (node_number i.key x) r) m.2 ∙ and_r (valid_row i r) _ e) in
          ap (λ (b : Bool). cond b (new_count i (key_at i r)) 0) (lt-ltb 0 (count (λ k. eqb (node_number i.key k) r) (new_keys i)) p) ∙ kept-count r l e
      go false e =
          let z = count-zero (λ k. eqb (node_number i.key k) r) (new_keys i) (λ k m h.
          let q = the-key r l k h in
          clash (both (new-valid i ok (key_at i r) (subst (λ y. Mem y (new_keys i)) q m)) (ap (λ (x : ℕ). eqb (node_number i.key x) r) (sym q) ∙ h)) e) in
          ap (λ (n : ℕ). cond (ltb 0 n) (new_count i (key_at i r)) 0) z ∙ sym (dropped e)

  -- one node over all rows
  node-part : (k : ℕ) → new_count i k ≡ sum (map (λ r. cond (eqb (node_number i.key k) r) (new_count i k) 0) (range 0 (length i.key)))
  node-part k =
      go (dec_lt (node_number i.key k) (length i.key))
      ∙ sym (sum-times (eqb (node_number i.key k)) (new_count i k) (range 0 (length i.key)) one)
    where
      one : count (eqb (node_number i.key k)) (range 0 (length i.key)) ≤ 1
      one = count-few (eqb (node_number i.key k)) (range 0 (length i.key)) (range-distinct (length i.key))
          (λ x y mx my ex ey. sym (eqb-true (node_number i.key k) x ex) ∙ eqb-true (node_number i.key k) y ey)

      go : Dec (node_number i.key k < length i.key) → new_count i k ≡ cond (ltb 0 (count (eqb (node_number i.key k)) (range 0 (length i.key)))) (new_count i k) 0
      go (yes l) =
          let m = range-mem (length i.key) (node_number i.key k) l in
          let p = count-pos (eqb (node_number i.key k)) (range 0 (length i.key)) m.0 m.1 (eq-eqb (node_number i.key k) (get_or (range 0 (length i.key)) m.0 0) (sym m.2)) in
          sym (ap (λ (b : Bool). cond b (new_count i k) 0) (lt-ltb 0 (count (eqb (node_number i.key k)) (range 0 (length i.key))) p))
      go (no n) = let z = absent-count i k (omega arith) in z ∙ sym (none-counted (ltb 0 (count (eqb (node_number i.key k)) (range 0 (length i.key)))) (new_count i k) z)

  -- the sources are what the rows bring
  pub sources-rows : new_sources i ≡ rows_sum i true
  unfolding new_own rows_sum
  sources-rows =
      sum_same (new_count i) (λ k. sum (map (λ r. cond (eqb (node_number i.key k) r) (new_count i k) 0) (range 0 (length i.key)))) (new_keys i) (λ k m. node-part k)
      ∙ sum-swap (λ k r. cond (eqb (node_number i.key k) r) (new_count i k) 0) (new_keys i) (range 0 (length i.key))
      ∙ sum_same (λ r. sum (map (λ k. cond (eqb (node_number i.key k) r) (new_count i k) 0) (new_keys i))) (row_count i true) (range 0 (length i.key)) (λ r m. row-part r (mem-range (length i.key) r m))

  -- and no more than they can bring at most
  pub sources-most : new_sources i ≤ rows_sum i false
  sources-most = subst (λ n. n ≤ rows_sum i false) (sym sources-rows) (rows-most i)
