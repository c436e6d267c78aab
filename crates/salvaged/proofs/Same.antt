-- A well-formed input whose order column is exactly as long as its total comes back the same with an empty list of changes.
use mathlib.Core.Path.{◌≡◌, refl, sym, ap, ap₂, ◌∙◌, subst}
use mathlib.Core.Bool.{Bool, true, false, ◌&&◌, not, cond}
use mathlib.Core.List.{List, [], ◌∷◌, ◌++◌, map}
use Prim.Native.Nat.{ℕ, zero, suc, ◌+◌, ◌-◌, ◌≤◌, ◌<◌}
use native.Mathlib.Omega.{arith}
use native.Mathlib.Nat.{not-suc-le-zero, zero-add, add-zero, add_assoc}
use lib.Dec.{leb, ltb, eqb}
use lib.ListN.{length, get_or, take, drop, length-map}
use lib.Seq.{ext_get_or, take-add, drop-drop, take_all}
use borrow.Author.Tests.{le-leb, lt-ltb, ltb-true, eqb-true, eq-eqb, not-true}
use Rattle.slices.specs.Lists.{filter, sum, range, concat_map, Mem, Distinct}
use Rattle.slices.specs.Order.{ascending}
use Rattle.slices.proofs.Tests.{and_l, and_r, clash, refute}
use Rattle.slices.proofs.Counts.{here, there}
use Rattle.slices.proofs.Members.{mem-range}
use Rattle.slices.proofs.Lists.{get_d_map}
use Rattle.slices.proofs.Sums.{sum-take, sum-whole}
use Rattle.morton.specs.Keys.{axes_known, valid}
use Rattle.tree.specs.Nodes.{stored, leaf, own_of, node_number}
use Rattle.tree.specs.Totals.{total_in, total_column}
use Rattle.tree.specs.WellFormed.{well_formed}
use Rattle.tree.proofs.Members.{mem-stored, own_at}
use Rattle.tree.proofs.Ranges.{distinct}
use Rattle.tree.proofs.Rules.{Formed, all-facts}
use Rattle.tree.proofs.Leaves.{place_is}
use Rattle.growth.specs.Columns.{begin_column}
use Rattle.salvaged.specs.Nodes.{Input, kept_keys}
use Rattle.salvaged.specs.Columns.{first_of, new_keys, old_own, old_begin, run_fits, new_count, new_own, new_sources, new_begins, new_totals, new_order_of}
use Rattle.salvaged.specs.Changes.{key_at, keys_where, valid_row, first_row, kept_row, not_valid, repeated, added, cleared, moved, changed_keys, change_codes}
use Rattle.salvaged.proofs.Kept.{tree-kept}
use Rattle.salvaged.proofs.Formed.{begins-length, begins-at, own-length}

-- nothing passes
filter_none : (p : ℕ → Bool) (xs : List ℕ) → ((x : ℕ) → Mem x xs → p x ≡ false) → filter p xs ≡ []
unfolding filter
filter_none p [] h = refl
filter_none p (x ∷ xs) h = rw (h x (here x xs), filter_none p xs (λ y m. h y (there x y xs m)))

-- pieces one after the other, each from where the one before it ends, are one piece
pieces : (f : ℕ → List ℕ) (s : List ℕ) (ks own : List ℕ) (b : ℕ) → length own ≡ length ks
    → ((r : ℕ) → r < length ks → f (get_or ks r 0) ≡ take (get_or own r 0) (drop (b + sum (take r own)) s)) → concat_map f ks ≡ take (sum own) (drop b s)
unfolding concat_map sum
pieces f s [] [] b e h = refl
pieces f s [] (n ∷ own) b e h = absurd (omega arith)
pieces f s (k ∷ ks) [] b e h = absurd (omega arith)
pieces f s (k ∷ ks) (n ∷ own) b e h =
    ap₂ (λ (x y : List ℕ). x ++ y) (h 0 (omega arith) ∙ ap (λ (z : ℕ). take n (drop z s)) (add-zero b))
    (pieces f s ks own (b + n) (omega arith) (λ r l. h (suc r) (omega arith) ∙ ap (λ (z : ℕ). take (get_or own r 0) (drop z s)) (sym (add_assoc b n (sum (take r own)))))
    ∙ ap (take (sum own)) (sym (drop-drop n b s)))
    ∙ sym (take-add n (sum own) (drop b s))

module _ (i : Input) (total : List ℕ) (known : axes_known i.axes ≡ true) (sound : well_formed i.axes i.key i.own i.begin total ≡ true) (full : length i.order ≡ sum i.own) where
  w : Formed i.axes i.key i.own i.begin total
  w = all-facts i.axes i.key i.own i.begin total sound

  once : Distinct i.key
  once = distinct i.axes i.key w.rows.tree.ascending

  pub same_keys : new_keys i ≡ i.key
  same_keys = tree-kept i.axes i.key w.rows.tree w.some known

  row-own : (r : ℕ) → r < length i.key → old_own i (key_at i r) ≡ get_or i.own r 0
  row-own r l = own_at i.key i.own once w.owns r l

  row-begin : (r : ℕ) → r < length i.key → old_begin i (key_at i r) ≡ sum (take r i.own)
  row-begin r l = own_at i.key i.begin once w.begins r l ∙ w.rows.runs r l

  -- each row keeps its count
  row_count : (r : ℕ) → r < length i.key → new_count i (key_at i r) ≡ get_or i.own r 0
  unfolding new_count
  row_count r l = rw (same_keys) (go (leaf i.axes i.key (key_at i r)) refl fits)
    where
      fits : run_fits i (key_at i r) ≡ true
      fits = le-leb (old_begin i (key_at i r) + old_own i (key_at i r)) (length i.order)
          (omega (arith, row-own r l, row-begin r l, full, sum-take i.own r, sum-whole i.own (suc r)))

      go : (b : Bool) → leaf i.axes i.key (key_at i r) ≡ b → run_fits i (key_at i r) ≡ true → cond (b && run_fits i (key_at i r)) (old_own i (key_at i r)) 0 ≡ get_or i.own r 0
      go true e f = rw f (row-own r l)
      go false e f = sym (w.rows.inner r l e)

  pub same-own : new_own i ≡ i.own
  unfolding new_own
  same-own = ap (map (new_count i)) same_keys ∙ ext_get_or 0 (map (new_count i) i.key) i.own (length-map i.key (new_count i) ∙ sym w.owns) each
    where
      each : (r : ℕ) → r < length (map (new_count i) i.key) → get_or (map (new_count i) i.key) r 0 ≡ get_or i.own r 0
      each r l = let h : r < length i.key = omega (arith, length-map i.key (new_count i)) in get_d_map (new_count i) i.key r h ∙ row_count r h

  pub same-begins : new_begins i ≡ i.begin
  same-begins = ap begin_column same-own ∙ ext_get_or 0 (begin_column i.own) i.begin (begins-length i.own ∙ w.owns ∙ sym w.begins) each
    where
      each : (r : ℕ) → r < length (begin_column i.own) → get_or (begin_column i.own) r 0 ≡ get_or i.begin r 0
      each r l = let h : r < length i.own = omega (arith, begins-length i.own) in begins-at i.own r h ∙ sym (w.rows.runs r (omega (arith, w.owns)))

  pub same-totals : new_totals i ≡ total
  same-totals = ap₂ (total_column i.axes) same_keys same-own ∙ ext_get_or 0 (total_column i.axes i.key i.own) total (length-map i.key (total_in i.axes i.key i.own) ∙ sym w.totals) each
    where
      each : (r : ℕ) → r < length (total_column i.axes i.key i.own) → get_or (total_column i.axes i.key i.own) r 0 ≡ get_or total r 0
      each r l =
          let h : r < length i.key = omega (arith, length-map i.key (total_in i.axes i.key i.own)) in
          get_d_map (total_in i.axes i.key i.own) i.key r h ∙ sym (w.totalled r h)

  run : ℕ → List ℕ
  run k = take (new_count i k) (drop (old_begin i k) i.order)

  pub same-order : new_order_of i ≡ i.order
  unfolding new_order_of run
  same-order =
      ap (concat_map run) same_keys
      ∙ pieces run i.order i.key i.own 0 w.owns (λ r l. ap₂ (λ (n b : ℕ). take n (drop b i.order)) (row_count r l) (row-begin r l ∙ sym (zero-add (sum (take r i.own)))))
      ∙ take_all (sum i.own) i.order (omega (arith, full))

  -- ---- nothing is listed

  none-where : (p : ℕ → Bool) → ((r : ℕ) → r < length i.key → p r ≡ true → ⊥) → keys_where i p ≡ []
  unfolding keys_where
  none-where p h = ap (map (key_at i)) (filter_none p (range 0 (length i.key)) (λ r m. refute (h r (mem-range (length i.key) r m))))

  row-valid : (r : ℕ) → r < length i.key → valid_row i r ≡ true
  row-valid r l = w.rows.tree.ascending.sound r l

  row_first : (r : ℕ) → r < length i.key → first_row i r ≡ true
  row_first r l = eq-eqb (node_number i.key (key_at i r)) r (place_is i.key once r l)

  none-invalid : not_valid i ≡ []
  none-invalid = none-where (λ r. not (valid_row i r)) (λ r l h. clash (row-valid r l) (not-true (valid_row i r) h))

  none-repeated : repeated i ≡ []
  none-repeated = none-where (λ r. valid_row i r && not (first_row i r)) (λ r l h. clash (row_first r l) (not-true (first_row i r) (and_r (valid_row i r) _ h)))

  none-added : added i ≡ []
  unfolding ascending
  none-added = ap ascending (filter_none (λ k. not (stored i.key k)) (new_keys i)
      (λ k m. refute (λ h. clash (mem-stored i.key k (subst (Mem k) same_keys m)) (not-true (stored i.key k) h))))

  none-cleared : cleared i ≡ []
  none-cleared = none-where (λ r. kept_row i r && (ltb 0 (get_or i.own r 0) && eqb (new_count i (key_at i r)) 0)) (λ r l h.
      let c = and_r (kept_row i r) _ h in
      let a = ltb-true 0 (get_or i.own r 0) (and_l _ _ c) in
      let z = eqb-true (new_count i (key_at i r)) 0 (and_r (ltb 0 (get_or i.own r 0)) _ c) in
      omega (arith, row_count r l))

  new-begin : (r : ℕ) → r < length i.key → first_of (new_keys i) (new_begins i) (key_at i r) ≡ get_or i.begin r 0
  new-begin r l = ap₂ (λ ks bs. first_of ks bs (key_at i r)) same_keys same-begins ∙ own_at i.key i.begin once w.begins r l

  none-moved : moved i ≡ []
  none-moved = none-where (λ r. kept_row i r && not (eqb (get_or i.begin r 0) (first_of (new_keys i) (new_begins i) (key_at i r)))) (λ r l h.
      clash (eq-eqb (get_or i.begin r 0) (first_of (new_keys i) (new_begins i) (key_at i r)) (sym (new-begin r l)))
      (not-true (eqb (get_or i.begin r 0) (first_of (new_keys i) (new_begins i) (key_at i r))) (and_r (kept_row i r) _ h)))

  pub no-changes : changed_keys i ≡ []
  unfolding changed_keys
  no-changes = rw (none-invalid, none-repeated, none-added, none-cleared, none-moved)

  pub no-codes : change_codes i ≡ []
  unfolding change_codes
  no-codes = rw (none-invalid, none-repeated, none-added, none-cleared, none-moved)
