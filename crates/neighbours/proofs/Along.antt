-- The neighbours along the direction rows, row by row, as the loop finds them.
use mathlib.Core.Path.{◌≡◌, refl, sym, ap, ap₂, ◌∙◌, subst}
use mathlib.Core.Bool.{Bool, true, false, cond}
use mathlib.Core.List.{List, [], ◌∷◌, ◌++◌, map, append-nil}
use Prim.Native.Nat.{ℕ, suc, ◌+◌, ◌^◌, ◌≤◌, ◌<◌}
use native.Mathlib.Omega.{arith}
use native.Mathlib.Nat.{zero-add}
use native.Mathlib.Decide.{dec_lt}
use lib.Dec.{ltb}
use lib.IntN.{ℤ, pos, ◌+ℤ◌, nat_abs}
use lib.ListN.{length, get_or, set, replicate}
use borrow.Author.Tests.{lt-ltb}
use Rattle.slices.specs.Lists.{range, filter, filled}
use Rattle.slices.proofs.Lists.{range-append, length-range, filter-append, filter-shorter, get_or-filled}
use Rattle.slices.proofs.Every.{every-all, every-same}
use Rattle.codes.specs.Anchors.{Bytes2}
use Rattle.codes.proofs.Codes.{encode_same}
use Rattle.codes.proofs.Entries.{tabled, length-tabled}
use Rattle.morton.specs.Keys.{neighbours_room, level_of, key, ValidKey}
use Rattle.morton.specs.Anchors.{encode, anchors, key_at, on_level}
use Rattle.neighbours.specs.Directions.{directions, direction_row, none, ahead, is_anchor, stays, moved, on_box, toward}
use Rattle.neighbours.specs.Steps.{unit_row}
use Rattle.anchors.proofs.Placing.{past-filled, anchors-at, anchors-length, anchor-small}
use Rattle.neighbours.proofs.Steps.{stays-lt}
use Rattle.neighbours.proofs.Tied.{rows-number, row-unit}
use Rattle.axes.proofs.Known.{neighbours-most}
use Rattle.morton.proofs.Checks.{facts-valid}
use Rattle.morton.proofs.Runs.{Held, held_none, held_more}

-- there are 2, 8 or 26 rows
pub rows_few : (d : ℕ) → length (directions d) ≤ neighbours_room 3
rows_few d = omega (arith, rows-number d, neighbours-most d)

-- a row that the loop is at is one of the document's
pub in_rows : (d : ℕ) (rows : List (List ℤ)) (i : ℕ) → rows ≡ directions d → i < length rows → i < length (directions d)
in_rows d rows i e h = omega (arith, ap length e)

module _ (d k level : ℕ) (v : ValidKey d k) (el : level ≡ level_of k) (from : List ℕ) (ef : from ≡ filled 3 (anchors d k)) (i : ℕ) (row : List ℤ) (er : row ≡ direction_row d i) where
  from_at : (a : ℕ) → a < d → get_or from a 0 ≡ get_or (anchors d k) a 0
  from_at a h = ap (λ (xs : List ℕ). get_or xs a 0) ef ∙ get_or-filled 3 (anchors d k) a (omega (arith, anchors-length d k))

  ahead-at : (a : ℕ) → a < d → ahead from row a ≡ ahead (anchors d k) (direction_row d i) a
  ahead-at a h = ap₂ (λ (x : ℕ) (r : List ℤ). pos x +ℤ get_or r a none) (from_at a h) er

  pub row-is-unit : i < length (directions d) → unit_row row ≡ true
  row-is-unit l = subst (λ (r : List ℤ). unit_row r ≡ true) (sym er) (row-unit d (facts-valid d k v).0 i l)

  pub from-small : Bytes2 from
  from-small = record { first = at 0; second = at 1; third = at 2 }
    where
      at : (a : ℕ) → get_or from a 0 < 65536
      at a = go (dec_lt a d)
        where
          go : Dec (a < d) → get_or from a 0 < 65536
          go (yes h) = omega (arith, from_at a h, anchors-at d k a h, anchor-small d k a v)
          go (no n) = omega (arith, ap (λ (xs : List ℕ). get_or xs a 0) ef, past-filled 3 (anchors d k) a (omega (arith, anchors-length d k)))

  pub stays-is : stays d level from row ≡ on_box d k i
  stays-is =
      every-same (λ a. is_anchor level (ahead from row a)) (λ a. is_anchor (level_of k) (ahead (anchors d k) (direction_row d i) a)) d
      (λ a h. ap₂ (λ (z : ℤ) (l : ℕ). is_anchor l z) (ahead-at a h) el)

  moved_at : (a : ℕ) → a < d → get_or (filled 3 (moved d from row)) a 0 ≡ nat_abs (ahead from row a)
  moved_at a h =
      get_or-filled 3 (moved d from row) a (omega (arith, length-tabled (λ a. nat_abs (ahead from row a)) 0 d)) ∙ tabled (λ a. nat_abs (ahead from row a)) d a h

  pub moved_on : stays d level from row ≡ true → on_level d level (filled 3 (moved d from row)) ≡ true
  moved_on s = every-all (λ a. ltb (get_or (filled 3 (moved d from row)) a 0) (2 ^ level)) d
      (λ a h. lt-ltb (get_or (filled 3 (moved d from row)) a 0) (2 ^ level) (omega (arith, moved_at a h, stays-lt level from row d s a h)))

  pub key-is : key_at d level (filled 3 (moved d from row)) ≡ toward d k i
  key-is =
      ap₂ key el
      (encode_same d d level (moved d (anchors d k) (direction_row d i)) (filled 3 (moved d from row))
      (λ a h. moved_at a h ∙ ap nat_abs (ahead-at a h) ∙ sym (tabled (λ a. nat_abs (ahead (anchors d k) (direction_row d i) a)) d a h))
      ∙ ap (λ (l : ℕ). encode d d l (moved d (anchors d k) (direction_row d i))) el)

-- the rows passed, and one more
module _ (d k i : ℕ) where
  abbrev pub so_far : ℕ → List ℕ
  so_far n = map (toward d k) (filter (on_box d k) (range 0 n))

  more : filter (on_box d k) (range 0 (i + 1)) ≡ filter (on_box d k) (range 0 i) ++ filter (on_box d k) (i ∷ [])
  unfolding range
  more = ap (filter (on_box d k)) (range-append 0 i 1 ∙ ap (λ (n : ℕ). range 0 i ++ n ∷ []) (zero-add i)) ∙ filter-append (on_box d k) (range 0 i) (i ∷ [])

  maps : (xs ys : List ℕ) → map (toward d k) (xs ++ ys) ≡ map (toward d k) xs ++ map (toward d k) ys
  maps [] ys = refl
  maps (x ∷ xs) ys = ap (λ (t : List ℕ). toward d k x ∷ t) (maps xs ys)

  pub row_in : on_box d k i ≡ true → so_far i ++ toward d k i ∷ [] ≡ so_far (i + 1)
  unfolding filter
  row_in h = sym (ap (map (toward d k)) (more ∙ ap (λ (b : Bool). filter (on_box d k) (range 0 i) ++ cond b (i ∷ []) []) h) ∙ maps (filter (on_box d k) (range 0 i)) (i ∷ []))

  pub row_out : on_box d k i ≡ false → so_far i ≡ so_far (i + 1)
  unfolding filter
  row_out h = sym (ap (map (toward d k)) (more ∙ ap (λ (b : Bool). filter (on_box d k) (range 0 i) ++ cond b (i ∷ []) []) h ∙ append-nil (filter (on_box d k) (range 0 i))))

  pub so-far-few : length (so_far i) ≤ i
  so-far-few = omega (arith, mapped (filter (on_box d k) (range 0 i)), filter-shorter (on_box d k) (range 0 i), length-range 0 i)
    where
      mapped : (xs : List ℕ) → length (map (toward d k) xs) ≡ length xs
      mapped [] = refl
      mapped (x ∷ xs) = ap suc (mapped xs)

-- the array of the neighbours, one row on
pub along-in : (d k i : ℕ) (found : List ℕ) (len x : ℕ) → on_box d k i ≡ true → i < length (directions d) → Held 26 found len (so_far d k i i) → x ≡ toward d k i
    → Held 26 (set found len x) (len + 1) (so_far d k i (i + 1))
along-in d k i found len x h l held e =
    rw (← row_in d k i h, e) (held_more 26 found len (so_far d k i i) (toward d k i) held (omega (arith, held.counted, so-far-few d k i, rows_few d)))

pub along-out : (d k i : ℕ) (found : List ℕ) (len : ℕ) → on_box d k i ≡ false → Held 26 found len (so_far d k i i) → Held 26 found len (so_far d k i (i + 1))
along-out d k i found len h held = rw (← row_out d k i h) held

pub along-room : (d k i : ℕ) (found : List ℕ) (len : ℕ) → i < length (directions d) → Held 26 found len (so_far d k i i) → len < 26
along-room d k i found len l held = omega (arith, held.counted, so-far-few d k i, rows_few d)

pub along-start : (d k : ℕ) → Held 26 (replicate 26 0) 0 (so_far d k 0 0)
unfolding range filter
along-start d k = held_none 26
