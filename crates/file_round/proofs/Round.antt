-- Reading what was written gives the same tree: theorems F1 and F2 of document 02, order 6.
use mathlib.Core.Path.{◌≡◌, refl, sym, ap, ap₂, ◌∙◌}
use mathlib.Core.Bool.{Bool, true, false, ◌&&◌, ◌||◌, cond}
use mathlib.Core.List.{List, [], ◌∷◌, ◌++◌, append_assoc, append-nil}
use Prim.Native.Nat.{ℕ, zero, suc, ◌+◌, ◌-◌, ◌*◌, ◌/◌, ◌%◌, ◌^◌, ◌≤◌, ◌<◌}
use native.Mathlib.Omega.{arith}
use native.Mathlib.Nat.{not-suc-le-zero, le_of_suc-le-suc}
use lib.Dec.{leb, ltb, eqb}
use lib.ListN.{length, get_or, drop, length-append}
use lib.Seq.{drop_at}
use borrow.Author.Tests.{le-leb, lt-ltb, eq-eqb}
use Rattle.slices.specs.Every.{every}
use Rattle.slices.proofs.Every.{every-all}
use Rattle.slices.proofs.Tests.{both, or_right}
use Rattle.survey.specs.Bytes.{number_at}
use Rattle.tree_file.specs.Bytes.{bytes_of, u32, in_bytes, entries_at}
use Rattle.tree_file.specs.Contents.{Contents}
use Rattle.tree_file.specs.Written.{sections, body, entries, trailer_of, file_of}
use Rattle.tree_file.specs.Trailer.{width_of, axes_in, entries_in, trailer_bytes, trailer_fits, trailer, code_at, back_at, length_at, code_taken, is_inside, is_whole, is_new, entry_of, entry_good, sections_good, section_of, start_of, numbers_of, column_in, tree_in}
use Rattle.file_bytes.proofs.Numbers.{bytes-length, column-length}
use Rattle.file_layout.specs.Lengths.{entries_from}
use Rattle.file_layout.proofs.Lengths.{lengths_of, entries-length, body-length, trailer-is, file-length}
use Rattle.file_round.specs.Fits.{InBytes, Fits}
use Rattle.file_round.proofs.Bytes.{number-back, past, column-back}
use Rattle.file_round.proofs.Entries.{Says, says, body_less, section-less, body_at, entry-none, entry-of}

module _ (t : Contents) (f : Fits t) where
  abbrev ss : List (List ℕ)
  ss = sections t

  abbrev file : List ℕ
  file = file_of t

  -- where the trailer starts
  abbrev start : ℕ
  start = length (body ss)

  size : length file ≡ start + 116
  size = file-length t ∙ ap (λ (k : ℕ). k + 116) (sym (body-length t))

  trailer-at : drop start file ≡ trailer_of t
  trailer-at = drop_at (body ss) (trailer_of t) start refl

  entries-at : drop start file ≡ entries 1 ss ++ (u32 t.axes ++ u32 9)
  entries-at = trailer-at ∙ append_assoc (entries 1 ss) (u32 t.axes) (u32 9)

  axes-at : drop (start + 108) file ≡ u32 t.axes ++ u32 9
  axes-at = past file start 108 (entries_from 1 (lengths_of t)) (u32 t.axes ++ u32 9) (entries-length 1 (lengths_of t)) (trailer-at ∙ sym (trailer-is t) ∙ append_assoc (entries_from 1 (lengths_of t)) (u32 t.axes) (u32 9))

  last-at : drop (start + 108 + 4) file ≡ u32 9 ++ []
  last-at = past file (start + 108) 4 (u32 t.axes) (u32 9) (bytes-length 4 t.axes) axes-at ∙ sym (append-nil (u32 9))

  -- what the end says
  pub axes-read : axes_in file ≡ t.axes
  axes-read = let e : length file - 8 ≡ start + 108 = omega (arith, size) in ap (number_at file 4) e ∙ number-back 4 file (start + 108) t.axes (u32 9) axes-at f.axes

  pub nine : entries_in file ≡ 9
  nine = let e : length file - 4 ≡ start + 108 + 4 = omega (arith, size) in ap (number_at file 4) e ∙ number-back 4 file (start + 108 + 4) 9 [] last-at (omega arith)

  pub trailer-read : trailer file ≡ start
  trailer-read = omega (arith, nine, size)

  pub trailer-fits : trailer_fits file ≡ true
  trailer-fits = both (le-leb 8 (length file) (omega (arith, size))) (le-leb (trailer_bytes file) (length file) (omega (arith, nine, size)))

  entry-says : (i : ℕ) → i < 9 → Says file start 1 ss i
  entry-says i h = says file ss start 1 (u32 t.axes ++ u32 9) entries-at (omega arith) f.bytes i h

  -- ---- F2: the codes are 1 to 9, once each, ascending, and the sections stand without gaps from the file's start to the trailer
  pub codes : (i : ℕ) → i < 9 → code_at file i ≡ suc i
  codes i h = let e : 1 + i ≡ suc i = omega arith in ap (λ (k : ℕ). number_at file 4 (k + 12 * i)) trailer-read ∙ (entry-says i h).code_is ∙ e

  backs : (i : ℕ) → i < 9 → back_at file i ≡ length (body (drop i ss))
  backs i h = ap (λ (k : ℕ). number_at file 4 (k + 12 * i + 4)) trailer-read ∙ (entry-says i h).back_is

  lengths : (i : ℕ) → i < 9 → length_at file i ≡ length (get_or ss i [])
  lengths i h = ap (λ (k : ℕ). number_at file 4 (k + 12 * i + 8)) trailer-read ∙ (entry-says i h).length_is

  behind : (xs : List (List ℕ)) (i : ℕ) → i < length xs → length (body (drop i xs)) ≡ length (get_or xs i []) + length (body (drop (suc i) xs))
  behind [] i h = absurd (not-suc-le-zero h)
  behind (x ∷ xs) zero h = front x xs
    where
      front : (x : List ℕ) (xs : List (List ℕ)) → length (body (x ∷ xs)) ≡ length x + length (body xs)
      front x xs = unfold body in length-append x (body xs)
  behind (x ∷ xs) (suc i) h = behind xs i (le_of_suc-le-suc h)

  pub first-at-start : back_at file 0 ≡ trailer file
  first-at-start = backs 0 (omega arith) ∙ sym trailer-read

  pub no_gap : (i : ℕ) → i < 8 → back_at file i ≡ length_at file i + back_at file (suc i)
  no_gap i h = backs i (omega arith) ∙ behind ss i (omega arith) ∙ sym (ap₂ ◌+◌ (lengths i (omega arith)) (backs (suc i) (omega arith)))

  pub last-at-trailer : back_at file 8 ≡ length_at file 8
  last-at-trailer = backs 8 (omega arith) ∙ behind ss 8 (omega arith) ∙ none (length (get_or ss 8 [])) ∙ sym (lengths 8 (omega arith))
    where
      none : (n : ℕ) → n + length (body []) ≡ n
      none n = unfold body in omega arith

  -- ---- the sections are good
  section-is : (c : ℕ) → c < 9 → section_of file (suc c) ≡ c
  section-is c h =
      let e : suc c - 1 ≡ c = omega arith in
      ap (λ (k : ℕ). entry_of file k (suc c) - 1) nine ∙ ap (λ (k : ℕ). k - 1) (entry-of file 9 (suc c) codes (omega arith) (omega arith)) ∙ e

  -- whole entries, section by section
  whole : (i : ℕ) → i < 9 → length (get_or ss i []) % width_of (suc i) ≡ 0
  whole zero h = omega (arith, column-length 8 t.keys)
  whole (suc zero) h = omega (arith, column-length 4 t.own)
  whole (suc (suc zero)) h = omega (arith, column-length 4 t.begin)
  whole (suc (suc (suc zero))) h = omega (arith, column-length 4 t.total)
  whole (suc (suc (suc (suc zero)))) h = omega (arith, column-length 4 t.order)
  whole (suc (suc (suc (suc (suc zero))))) h = omega (arith, column-length 4 t.u_starts)
  whole (suc (suc (suc (suc (suc (suc zero)))))) h = omega (arith, column-length 8 t.u_keys)
  whole (suc (suc (suc (suc (suc (suc (suc zero))))))) h = omega (arith, column-length 4 t.v_starts)
  whole (suc (suc (suc (suc (suc (suc (suc (suc zero)))))))) h = omega (arith, column-length 8 t.v_keys)
  whole (suc (suc (suc (suc (suc (suc (suc (suc (suc i))))))))) h = absurd (omega arith)

  good : (i : ℕ) → i < 9 → entry_good file i ≡ true
  good i h =
      let c = codes i h in
      let b = backs i h in
      let l = lengths i h in
      both (both (le-leb 1 (code_at file i) (omega arith)) (le-leb (code_at file i) 31 (omega arith)))
      (both (eq-eqb (entry_of file i (code_at file i)) 0 (ap (entry_of file i) c ∙ entry-none file i (suc i) (λ j k. codes j (omega arith)) (omega arith)))
      (both (both (le-leb (back_at file i) (trailer file) (omega (arith, b, trailer-read, body_less ss i))) (le-leb (length_at file i) (back_at file i) (omega (arith, b, l, section-less ss i h))))
      (or_right (ltb 9 (code_at file i)) (eqb (length_at file i % width_of (code_at file i)) 0) (λ n. eq-eqb (length_at file i % width_of (code_at file i)) 0 (ap₂ (λ (a k : ℕ). a % width_of k) l c ∙ whole i h)))))

  pub sections-good : sections_good file ≡ true
  sections-good = is ∙ both (ap (λ (k : ℕ). every k (entry_good file)) nine ∙ every-all (entry_good file) 9 good)
      (every-all (λ c. ltb 0 (entry_of file (entries_in file) (suc c))) 9 (λ c h. lt-ltb 0 (entry_of file (entries_in file) (suc c)) (some c (ap (λ (k : ℕ). entry_of file k (suc c)) nine ∙ entry-of file 9 (suc c) codes (omega arith) (omega arith)))))
    where
      is : sections_good file ≡ (every (entries_in file) (entry_good file) && every 9 (λ c. ltb 0 (entry_of file (entries_in file) (suc c))))
      is = unfold sections_good in refl

      some : (c : ℕ) {n : ℕ} → n ≡ suc c → 0 < n
      some c e = omega arith

  -- ---- F1: each section is read again
  column : (c w : ℕ) (xs : List ℕ) → c < 9 → width_of (suc c) ≡ w → ((n : ℕ) → w * n / w ≡ n) → get_or ss c [] ≡ in_bytes w xs → InBytes w xs → column_in file (suc c) ≡ xs
  column c w xs h width division is fit = read ∙ ap₂ (entries_at file w) place number ∙ column-back w xs file (start - length (body (drop c ss))) (body (drop (suc c) ss) ++ trailer_of t) (body_at ss c (trailer_of t) h ∙ ap (λ (l : List ℕ). l ++ (body (drop (suc c) ss) ++ trailer_of t)) is) fit
    where
      read : column_in file (suc c) ≡ entries_at file w (start_of file (suc c)) (numbers_of file (suc c))
      read = unfold column_in in ap (λ (k : ℕ). entries_at file k (start_of file (suc c)) (numbers_of file (suc c))) width

      place : start_of file (suc c) ≡ start - length (body (drop c ss))
      place = ap₂ ◌-◌ trailer-read (ap (back_at file) (section-is c h) ∙ backs c h)

      number : numbers_of file (suc c) ≡ length xs
      number = ap₂ ◌/◌ (ap (length_at file) (section-is c h) ∙ lengths c h ∙ ap length is ∙ column-length w xs) width ∙ division (length xs)

  by_8 : (n : ℕ) → 8 * n / 8 ≡ n
  by_8 n = omega arith

  by_4 : (n : ℕ) → 4 * n / 4 ≡ n
  by_4 n = omega arith

  pub same-tree : tree_in file ≡ t
  same-tree =
      let a = axes-read in
      let k = column 0 8 t.keys (omega arith) refl by_8 refl f.keys in
      let o = column 1 4 t.own (omega arith) refl by_4 refl f.own in
      let b = column 2 4 t.begin (omega arith) refl by_4 refl f.begin in
      let s = column 3 4 t.total (omega arith) refl by_4 refl f.total in
      let i = column 4 4 t.order (omega arith) refl by_4 refl f.order in
      let us = column 5 4 t.u_starts (omega arith) refl by_4 refl f.u_starts in
      let uk = column 6 8 t.u_keys (omega arith) refl by_8 refl f.u_keys in
      let vs = column 7 4 t.v_starts (omega arith) refl by_4 refl f.v_starts in
      let vk = column 8 8 t.v_keys (omega arith) refl by_8 refl f.v_keys in
      rw (a, k, o, b, s, i, us, uk, vs, vk)
