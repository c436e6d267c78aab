-- What is told beside the new columns is the change list.
use mathlib.Core.Path.{◌≡◌, refl, sym, ap, ap₂, ◌∙◌, subst}
use mathlib.Core.Bool.{Bool, true, false, ◌&&◌, not, cond}
use mathlib.Core.List.{List, [], ◌∷◌, ◌++◌, map}
use Prim.Native.Nat.{ℕ, ◌≤◌, ◌<◌}
use native.Mathlib.Omega.{arith}
use lib.Dec.{ltb, eqb}
use lib.ListN.{length, get_or, replicate, length-map}
use Rattle.slices.specs.Lists.{filter, range, sum, Mem, Distinct}
use Rattle.slices.specs.Order.{ascending}
use Rattle.slices.proofs.Counts.{here, there}
use Rattle.slices.proofs.Members.{mem-range}
use Rattle.slices.proofs.Lists.{length-range}
use Rattle.morton.specs.Keys.{valid}
use Rattle.tree.specs.Nodes.{stored, node_number, own_of}
use Rattle.tree.specs.WellFormed.{keys_ascend, most_sources}
use Rattle.tree.proofs.Members.{own_at}
use Rattle.tree.proofs.Ranges.{distinct}
use Rattle.tree.proofs.Rules.{facts-ascend}
use Rattle.growth.specs.Columns.{begin_column}
use Rattle.sourced.specs.Room.{Holds}
use Rattle.salvaged.specs.Nodes.{Input}
use Rattle.salvaged.specs.Columns.{first_of, new_keys, new_count, new_own, new_sources, new_begins}
use Rattle.salvaged.specs.Changes.{key_at, keys_where, valid_row, first_row, kept_row, not_valid, repeated, added, cleared, moved, changed_keys, change_codes}
use Rattle.salvaged.proofs.Kept.{valid-kept, kept-ascending}
use Rattle.salvaged.proofs.Formed.{own-length, begins-length}
use Rattle.salvaged.proofs.Formed as F
use Rattle.first_rows.specs.First.{Numberable}
use Rattle.kept_sources.specs.Rows.{Readable}
use Rattle.changed_rows.specs.Told.{Beside, beside, key_in, told_node, told_row, told_keys, Comparable}
use Rattle.change_list.specs.List.{new_nodes, told_all, codes_all, ListedAll}
use Rattle.salvage_list.specs.Listed.{Listable, Listed}

filter_same : (p q : ℕ → Bool) (xs : List ℕ) → ((x : ℕ) → Mem x xs → p x ≡ q x) → filter p xs ≡ filter q xs
unfolding filter
filter_same p q [] h = refl
filter_same p q (x ∷ xs) h = ap₂ (λ (b : Bool) (l : List ℕ). cond b (x ∷ l) l) (h x (here x xs)) (filter_same p q xs (λ y m. h y (there x y xs m)))

and_assoc : (a b c : Bool) → (a && (b && c)) ≡ ((a && b) && c)
and_assoc true b c = refl
and_assoc false b c = refl

module _ (i : Input) where
  -- the columns of the input beside the new ones
  abbrev new : Beside
  new = beside i.axes i.key i.own i.begin (new_keys i) (new_own i) (new_begins i)

  -- the same rows are told of
  by_rows : (code : ℕ) (p : ℕ → Bool) → ((r : ℕ) → r < length i.key → told_row new code r ≡ p r) → told_keys new code ≡ keys_where i p
  unfolding told_keys keys_where
  by_rows code p h = ap (map (key_at i)) (filter_same (told_row new code) p (range 0 (length i.key)) (λ r m. h r (mem-range (length i.key) r m)))

  told-1 : told_keys new 1 ≡ not_valid i
  told-1 = by_rows 1 (λ r. not (valid_row i r)) each
    where
      each : (r : ℕ) → r < length i.key → told_row new 1 r ≡ not (valid_row i r)
      each r l = unfold told_row in refl

  told-2 : told_keys new 2 ≡ repeated i
  told-2 = by_rows 2 (λ r. valid_row i r && not (first_row i r)) each
    where
      each : (r : ℕ) → r < length i.key → told_row new 2 r ≡ (valid_row i r && not (first_row i r))
      each r l = unfold told_row in refl

  told-5 : told_keys new 5 ≡ moved i
  told-5 = by_rows 5 (λ r. kept_row i r && not (eqb (get_or i.begin r 0) (first_of (new_keys i) (new_begins i) (key_at i r)))) each
    where
      each : (r : ℕ) → r < length i.key → told_row new 5 r ≡ (kept_row i r && not (eqb (get_or i.begin r 0) (first_of (new_keys i) (new_begins i) (key_at i r))))
      each r l = unfold told_row in and_assoc (valid_row i r) (first_row i r) (not (eqb (get_or i.begin r 0) (first_of (new_keys i) (new_begins i) (key_at i r))))

  module _ (ok : Readable i) where
    once : Distinct (new_keys i)
    once = distinct i.axes (new_keys i) (kept-ascending i.axes i.key ok.axes)

    -- the count of a node, by its key
    count_of : (k : ℕ) → Mem k (new_keys i) → own_of (new_keys i) (new_own i) k ≡ new_count i k
    count_of k (q, l, e) =
        ap (own_of (new_keys i) (new_own i)) (sym e) ∙ own_at (new_keys i) (new_own i) once (own-length i) q l ∙ F.own_at i q l ∙ ap (new_count i) e

    told-4 : told_keys new 4 ≡ cleared i
    told-4 = by_rows 4 (λ r. kept_row i r && (ltb 0 (get_or i.own r 0) && eqb (new_count i (key_at i r)) 0)) each
      where
        counted : (r : ℕ) → r < length i.key → (b : Bool) → valid_row i r ≡ b
            → (b && (first_row i r && (ltb 0 (get_or i.own r 0) && eqb (own_of (new_keys i) (new_own i) (key_at i r)) 0))) ≡ (b && (first_row i r && (ltb 0 (get_or i.own r 0) && eqb (new_count i (key_at i r)) 0)))
        counted r l true e = ap (λ (n : ℕ). first_row i r && (ltb 0 (get_or i.own r 0) && eqb n 0)) (count_of (key_at i r) (valid-kept i.axes i.key (key_at i r) (r, l, refl) e))
        counted r l false e = refl

        row : (r : ℕ) → told_row new 4 r ≡ (valid_row i r && (first_row i r && (ltb 0 (get_or i.own r 0) && eqb (own_of (new_keys i) (new_own i) (key_at i r)) 0)))
        row r = unfold told_row in refl

        each : (r : ℕ) → r < length i.key → told_row new 4 r ≡ (kept_row i r && (ltb 0 (get_or i.own r 0) && eqb (new_count i (key_at i r)) 0))
        each r l = row r ∙ counted r l (valid_row i r) refl ∙ and_assoc (valid_row i r) (first_row i r) (ltb 0 (get_or i.own r 0) && eqb (new_count i (key_at i r)) 0)

    told-3 : ascending (new_nodes new) ≡ added i
    unfolding new_nodes
    told-3 = refl

    keys_are : told_all new ≡ changed_keys i
    unfolding told_all changed_keys
    keys_are = rw (told-1, told-2, told-3, told-4, told-5)

    codes_are : codes_all new ≡ change_codes i
    unfolding codes_all change_codes
    codes_are = rw (told-1, told-2, told-3, told-4, told-5)

    pub numberable : (key total : List ℕ) → key ≡ new_keys i → length total ≡ length key → Numberable i.axes key i.key total
    numberable key total e l = record {
      axes = ok.axes;
      ascend = subst (λ ks. keys_ascend i.axes ks ≡ true) (sym e) (facts-ascend i.axes (new_keys i) (kept-ascending i.axes i.key ok.axes));
      rowed = length-range 1 (length i.key);
      placed = l;
    }

    module _ (key own begin firsts : List ℕ) (ek : key ≡ new_keys i) (eo : own ≡ new_own i) (eb : begin ≡ begin_column own) (ef : firsts ≡ map (first_of i.key (range 1 (length i.key))) key) where
      same : beside i.axes i.key i.own i.begin key own begin ≡ new
      same =
          ap (λ (ks : List ℕ). beside i.axes i.key i.own i.begin ks own begin) ek
          ∙ ap₂ (λ (os bs : List ℕ). beside i.axes i.key i.own i.begin (new_keys i) os bs) eo (eb ∙ ap begin_column eo)

      pub comparable : Comparable (beside i.axes i.key i.own i.begin key own begin) firsts
      comparable = subst (λ b. Comparable b firsts) (sym same) (record {
        known = ok.axes;
        ascend = facts-ascend i.axes (new_keys i) (kept-ascending i.axes i.key ok.axes);
        kept = λ row l v. valid-kept i.axes i.key (get_or i.key row 0) (row, l, refl) v;
        owned = ok.owns;
        begun = ok.begins;
        counted = own-length i;
        placed = begins-length (new_own i) ∙ own-length i;
        first = ef ∙ ap (map (own_of i.key (range 1 (length i.key)))) ek;
      })

      pub listed : (codes changed : List ℕ) (r : ℕ) → ListedAll (beside i.axes i.key i.own i.begin key own begin) codes changed r → Listed i codes changed r
      listed codes changed r l =
          let m = subst (λ b. ListedAll b codes changed r) same l in
          record {
            keys = subst (Holds changed r) keys_are m.keys;
            coded = λ h k. m.coded h k ∙ codes_are;
          }
