-- A row read from columns as they were written: where it begins and ends, and what stands there.
use mathlib.Core.Path.{◌≡◌, refl}
use mathlib.Core.List.{List, [], ◌∷◌, ◌++◌, append_assoc}
use Prim.Native.Nat.{ℕ, zero, suc, ◌+◌, ◌-◌, ◌≤◌, ◌<◌, suc-le-suc}
use native.Mathlib.Omega.{arith}
use native.Mathlib.Nat.{le_of_suc-le-suc, not-suc-le-zero}
use native.Mathlib.Numerals.{add-one}
use lib.ListN.{length, get_or, take, drop, length-append}
use lib.Seq.{take-append_seam, drop-append_seam}
use Rattle.slices.specs.Lists.{concat_map}
use Rattle.rows.specs.Written.{starts_from, Written}

-- the part of `flat` from one start to the next is the row
pub record Read (starts flat row : List ℕ) (i j : ℕ) : Type 0 where
  pub there : j < length starts
  pub up : get_or starts i 0 ≤ get_or starts j 0
  pub within : get_or starts j 0 ≤ length flat
  pub part : take (get_or starts j 0 - get_or starts i 0) (drop (get_or starts i 0) flat) ≡ row

first-start : (a : ℕ) (row : ℕ → List ℕ) (keys more : List ℕ) → (0 < length (starts_from a row keys ++ more)) × (get_or (starts_from a row keys ++ more) 0 0 ≡ a)
unfolding starts_from
first-start a row [] more = (omega arith, refl)
first-start a row (k ∷ ks) more = (omega arith, refl)

read-from : (row : ℕ → List ℕ) (keys pre rest more : List ℕ) (i : ℕ) → i < length keys
    → Read (starts_from (length pre) row keys ++ more) (pre ++ (concat_map row keys ++ rest)) (row (get_or keys i 0)) i (suc i)
unfolding starts_from concat_map
read-from row [] pre rest more i l = absurd (not-suc-le-zero l)
read-from row (k ∷ ks) pre rest more zero l =
    let (some, e) = first-start (length pre + length (row k)) row ks more in
    let gap : (length pre + length (row k)) - length pre ≡ length (row k) = omega arith in
    record {
      there = suc-le-suc some;
      up = rw e (omega arith);
      within = rw e (omega (arith, length-append pre ((row k ++ concat_map row ks) ++ rest), length-append (row k ++ concat_map row ks) rest, length-append (row k) (concat_map row ks)));
      part = rw (e, gap, drop-append_seam pre ((row k ++ concat_map row ks) ++ rest), append_assoc (row k) (concat_map row ks) rest) (take-append_seam (row k) (concat_map row ks ++ rest));
    }
read-from row (k ∷ ks) pre rest more (suc i) l =
    let r = read-from row ks (pre ++ row k) rest more i (le_of_suc-le-suc l) in
    let same : pre ++ ((row k ++ concat_map row ks) ++ rest) ≡ (pre ++ row k) ++ (concat_map row ks ++ rest) = simp append_assoc in
    let next = length-append pre (row k) in
    record {
      there = rw (← next) (suc-le-suc r.there);
      up = rw (← next) r.up;
      within = rw (same, ← next) r.within;
      part = rw (same, ← next) r.part;
    }

-- row i stands from start i to start i + 1
pub read-row : (row : ℕ → List ℕ) (keys starts flat : List ℕ) → Written keys row starts flat → (i : ℕ) → i < length keys → Read starts flat (row (get_or keys i 0)) i (i + 1)
read-row row keys starts flat w i l = rw (add-one i, w.starts_are, w.keys_are) (read-from row keys [] w.rest w.more i l)
