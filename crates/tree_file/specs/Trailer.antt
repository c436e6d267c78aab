-- The file that is read: document 02, order 6. The trailer says where the sections stand.
use Rattle.std.specs.Prelude.{Bool, ◌&&◌, ◌||◌, not, cond, List, ℕ, zero, suc, ◌+◌, ◌-◌, ◌*◌, ◌/◌, ◌%◌, leb, eqb, length}
use Rattle.std.proofs.Math.Dec.{ltb}
use Rattle.slices.specs.Every.{every}
use Rattle.survey.specs.Bytes.{u32_at}
use Rattle.tree_file.specs.Bytes.{entries_at}
use Rattle.tree_file.specs.Contents.{Contents}

-- keys take eight bytes, other numbers four
abbrev pub width_of : ℕ → ℕ
width_of code = cond (eqb code 1 || (eqb code 7 || eqb code 9)) 8 4

module _ (file : List ℕ) where
  -- at the end u32 axes and, last, u32 number of entries
  abbrev pub axes_in : ℕ
  axes_in = u32_at file (length file - 8)

  abbrev pub entries_in : ℕ
  entries_in = u32_at file (length file - 4)

  -- entries of three u32 before that
  abbrev pub trailer_bytes : ℕ
  trailer_bytes = 12 * entries_in + 8

  abbrev pub trailer_fits : Bool
  trailer_fits = leb 8 (length file) && leb trailer_bytes (length file)

  -- where the trailer starts
  abbrev pub trailer : ℕ
  trailer = length file - trailer_bytes

  -- entry i: code, bytes from the trailer's start back to the section, length in bytes
  abbrev pub code_at : ℕ → ℕ
  code_at i = u32_at file (trailer + 12 * i)

  abbrev pub back_at : ℕ → ℕ
  back_at i = u32_at file (trailer + 12 * i + 4)

  abbrev pub length_at : ℕ → ℕ
  length_at i = u32_at file (trailer + 12 * i + 8)

  -- a code from 1 to 31; 10 to 31 are kept for later
  abbrev pub code_taken : ℕ → Bool
  code_taken i = leb 1 (code_at i) && leb (code_at i) 31

  -- the section is inside the file, before the trailer
  abbrev pub is_inside : ℕ → Bool
  is_inside i = leb (back_at i) trailer && leb (length_at i) (back_at i)

  -- it has whole entries; how wide those of 10 to 31 are is not known
  abbrev pub is_whole : ℕ → Bool
  is_whole i = ltb 9 (code_at i) || eqb (length_at i % width_of (code_at i)) 0

  -- the number, counted from 1, of the last of the first n entries that has a code; 0 if none has
  unfoldable pub entry_of : ℕ → ℕ → ℕ
  entry_of zero code = 0
  entry_of (suc n) code = cond (eqb (code_at n) code) (suc n) (entry_of n code)

  -- no entry before entry i has its code
  abbrev pub is_new : ℕ → Bool
  is_new i = eqb (entry_of i (code_at i)) 0

  abbrev pub entry_good : ℕ → Bool
  entry_good i = code_taken i && (is_new i && (is_inside i && is_whole i))

  -- each entry is good, and none of 1 to 9 is missing
  unfoldable pub sections_good : Bool
  unfolding every entry_of
  sections_good = every entries_in entry_good && every 9 (λ c. ltb 0 (entry_of entries_in (suc c)))

  -- the section of a code: its entry, where it starts, and how many numbers it holds
  abbrev pub section_of : ℕ → ℕ
  section_of code = entry_of entries_in code - 1

  abbrev pub start_of : ℕ → ℕ
  start_of code = trailer - back_at (section_of code)

  abbrev pub numbers_of : ℕ → ℕ
  numbers_of code = length_at (section_of code) / width_of code

  unfoldable pub column_in : ℕ → List ℕ
  unfolding entry_of entries_at
  column_in code = entries_at file (width_of code) (start_of code) (numbers_of code)

  -- what a file holds whose sections are good
  abbrev pub tree_in : Contents
  tree_in = record {
    axes = axes_in;
    keys = column_in 1;
    own = column_in 2;
    begin = column_in 3;
    total = column_in 4;
    order = column_in 5;
    u_starts = column_in 6;
    u_keys = column_in 7;
    v_starts = column_in 8;
    v_keys = column_in 9;
  }
