-- Every change is in the list, and nothing else is: what each code tells of a row or a node, and what is told of none.
use mathlib.Core.Path.{◌≡◌, refl, sym, ap, ◌∙◌, subst}
use mathlib.Core.Bool.{Bool, true, false, ◌&&◌, not, cond}
use mathlib.Core.List.{List, [], ◌∷◌, ◌++◌, map}
use mathlib.Core.Logic.{◌⊎◌, inl, inr}
use Prim.Native.Nat.{ℕ, zero, suc, ◌+◌, ◌≤◌, ◌<◌}
use native.Mathlib.Omega.{arith}
use native.Mathlib.Nat.{not-suc-le-zero, le_of_suc-le-suc}
use native.Mathlib.Decide.{dec_lt}
use lib.Dec.{leb, ltb, eqb}
use lib.ListN.{length, get_or, replicate, length-append, length-replicate}
use borrow.Author.Tests.{eqb-true, eq-eqb, lt-ltb, leb-true, not-true}
use Rattle.slices.specs.Lists.{filter, count, range, Mem}
use Rattle.slices.specs.Order.{ascending}
use Rattle.slices.proofs.Tests.{and_l, and_r, both}
use Rattle.slices.proofs.Counts.{count-pos, pos-count}
use Rattle.slices.proofs.Members.{map-mem, mem-map, filter-mem, mem-filter, range-mem, mem-range}
use Rattle.slices.proofs.Rows.{count-ascending, row-mem}
use Rattle.morton.specs.Keys.{valid}
use Rattle.tree.specs.Nodes.{stored, leaf, own_of, node_number}
use Rattle.salvaged.specs.Nodes.{Input}
use Rattle.salvaged.specs.Columns.{first_of, new_keys, old_own, old_begin, run_fits, new_count, new_begins}
use Rattle.salvaged.specs.Changes.{key_at, keys_where, valid_row, first_row, kept_row, not_valid, repeated, added, cleared, moved, changed_keys, change_codes}
use Rattle.salvaged.proofs.Kept.{valid-kept}

-- the first row with a key is the one that the columns are asked for
pub first_entry : (key column : List ℕ) (k r : ℕ) → length column ≡ length key → r < length key → node_number key k ≡ r → first_of key column k ≡ get_or column r 0
unfolding own_of node_number
first_entry [] column k r e l h = absurd (not-suc-le-zero l)
first_entry (x ∷ xs) [] k r e l h = absurd (omega arith)
first_entry (x ∷ xs) (n ∷ column) k r e l h = go (eqb x k) h r refl l (first_entry xs column k)
  where
    go : (b : Bool) → cond b 0 (suc (node_number xs k)) ≡ r → (s : ℕ) → s ≡ r → s < suc (length xs) → ((s : ℕ) → length column ≡ length xs → s < length xs → node_number xs k ≡ s → own_of xs column k ≡ get_or column s 0)
        → cond b n (own_of xs column k) ≡ get_or (n ∷ column) s 0
    go true q zero p m rest = refl
    go true q (suc s) p m rest = absurd (omega arith)
    go false q zero p m rest = absurd (omega arith)
    go false q (suc s) p m rest = rest s (omega arith) (omega arith) (omega arith)

as_long : (code : ℕ) (keys codes rest : List ℕ) → length codes ≡ length rest → length (replicate (length keys) code ++ codes) ≡ length (keys ++ rest)
as_long code keys codes rest e = omega (arith, length-append (replicate (length keys) code) codes, length-append keys rest, length-replicate (length keys) code)

module _ (i : Input) where
  -- the keys of rows that pass a test: of these and of no other
  pub where-row : (p : ℕ → Bool) (r : ℕ) → r < length i.key → p r ≡ true → Mem (key_at i r) (keys_where i p)
  unfolding keys_where
  where-row p r l h = map-mem (key_at i) (filter p (range 0 (length i.key))) r (filter-mem p (range 0 (length i.key)) r (range-mem (length i.key) r l) h)

  pub row-where : (p : ℕ → Bool) (k : ℕ) → Mem k (keys_where i p) → (r : ℕ) × (r < length i.key) × (p r ≡ true) × (key_at i r ≡ k)
  unfolding keys_where
  row-where p k m =
      let (r, mr, e) = mem-map (key_at i) (filter p (range 0 (length i.key))) k m in
      let f = mem-filter p (range 0 (length i.key)) r mr in
      (r, mem-range (length i.key) r f.0, f.1, e)

  -- 3: a key is listed as added exactly where it is a node's and no row's
  pub added_new : (k : ℕ) → Mem k (added i) → Mem k (new_keys i) × (stored i.key k ≡ false)
  added_new k m = let r = row-mem (λ k. not (stored i.key k)) (new_keys i) k m in (r.0, not-true (stored i.key k) r.1)

  pub new-added : (k : ℕ) → Mem k (new_keys i) → stored i.key k ≡ false → Mem k (added i)
  new-added k m s =
      let f : Mem k (filter (λ k. not (stored i.key k)) (new_keys i)) = filter-mem (λ k. not (stored i.key k)) (new_keys i) k m (rw s) in
      let c = count-pos (λ x. eqb x k) (filter (λ k. not (stored i.key k)) (new_keys i)) f.0 f.1 (eq-eqb (get_or (filter (λ k. not (stored i.key k)) (new_keys i)) f.0 0) k f.2) in
      let (x, mx, e) = pos-count (λ x. eqb x k) (added i) (rw (count-ascending (λ x. eqb x k) (filter (λ k. not (stored i.key k)) (new_keys i))) c) in
      subst (λ z. Mem z (added i)) (eqb-true x k e) mx

  -- each row is dropped and listed so, or kept, and then its key is a node's
  pub row_told : (r : ℕ) → r < length i.key → Mem (key_at i r) (not_valid i) ⊎ (Mem (key_at i r) (repeated i) ⊎ ((kept_row i r ≡ true) × Mem (key_at i r) (new_keys i)))
  row_told r l = go (valid_row i r) refl (first_row i r) refl
    where
      go : (a : Bool) → valid_row i r ≡ a → (b : Bool) → first_row i r ≡ b → Mem (key_at i r) (not_valid i) ⊎ (Mem (key_at i r) (repeated i) ⊎ ((kept_row i r ≡ true) × Mem (key_at i r) (new_keys i)))
      go false e b f = inl (where-row (λ r. not (valid_row i r)) r l (rw e))
      go true e false f = inr (inl (where-row (λ r. valid_row i r && not (first_row i r)) r l (rw (e, f))))
      go true e true f = inr (inr (both e f, valid-kept i.axes i.key (key_at i r) (r, l, refl) e))

  module _ (r : ℕ) (l : r < length i.key) (kept : kept_row i r ≡ true) where
    -- 4: a kept row has its count still, or the clearing is listed
    pub count-told : length i.own ≡ length i.key → (new_count i (key_at i r) ≡ get_or i.own r 0) ⊎ Mem (key_at i r) (cleared i)
    unfolding new_count
    count-told e = go (leaf i.axes (new_keys i) (key_at i r) && run_fits i (key_at i r)) refl (dec_lt 0 (get_or i.own r 0))
      where
        whole : old_own i (key_at i r) ≡ get_or i.own r 0
        whole = first_entry i.key i.own (key_at i r) r e l (eqb-true (node_number i.key (key_at i r)) r (and_r (valid_row i r) _ kept))

        listed : 0 < get_or i.own r 0 → new_count i (key_at i r) ≡ 0 → Mem (key_at i r) (cleared i)
        listed p z = where-row (λ r. kept_row i r && (ltb 0 (get_or i.own r 0) && eqb (new_count i (key_at i r)) 0)) r l
            (both kept (both (lt-ltb 0 (get_or i.own r 0) p) (eq-eqb (new_count i (key_at i r)) 0 z)))

        go : (b : Bool) → (leaf i.axes (new_keys i) (key_at i r) && run_fits i (key_at i r)) ≡ b → Dec (0 < get_or i.own r 0)
            → (new_count i (key_at i r) ≡ get_or i.own r 0) ⊎ Mem (key_at i r) (cleared i)
        go true q _ = inl (ap (λ (b : Bool). cond b (old_own i (key_at i r)) 0) q ∙ whole)
        go false q (no n) = inl (ap (λ (b : Bool). cond b (old_own i (key_at i r)) 0) q ∙ omega arith)
        go false q (yes p) = inr (listed p (ap (λ (b : Bool). cond b (old_own i (key_at i r)) 0) q))

    -- 5: it has its begin still, or the change is listed
    pub begin-told : (get_or i.begin r 0 ≡ first_of (new_keys i) (new_begins i) (key_at i r)) ⊎ Mem (key_at i r) (moved i)
    begin-told = go (eqb (get_or i.begin r 0) (first_of (new_keys i) (new_begins i) (key_at i r))) refl
      where
        go : (b : Bool) → eqb (get_or i.begin r 0) (first_of (new_keys i) (new_begins i) (key_at i r)) ≡ b
            → (get_or i.begin r 0 ≡ first_of (new_keys i) (new_begins i) (key_at i r)) ⊎ Mem (key_at i r) (moved i)
        go true e = inl (eqb-true (get_or i.begin r 0) (first_of (new_keys i) (new_begins i) (key_at i r)) e)
        go false e = inr (where-row (λ r. kept_row i r && not (eqb (get_or i.begin r 0) (first_of (new_keys i) (new_begins i) (key_at i r)))) r l (both kept (rw e)))

  -- a code for each key
  pub codes-length : length (change_codes i) ≡ length (changed_keys i)
  unfolding change_codes changed_keys
  codes-length = as_long 1 (not_valid i) _ _ (as_long 2 (repeated i) _ _ (as_long 3 (added i) _ _ (as_long 4 (cleared i) _ _ (length-replicate (length (moved i)) 5))))
