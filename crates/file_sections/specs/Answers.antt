-- What the reader of a trailer answers.
use Rattle.std.specs.Prelude.{◌≡◌, Bool, true, false, ◌&&◌, ◌||◌, cond, List, [], ◌∷◌, map, ℕ, zero, suc, ◌+◌, ◌*◌, ◌≤◌, ◌<◌, leb, ltb, eqb, length, get_or, Option, None, Some, Ok}
use Rattle.slices.specs.Lists.{range}
use Rattle.slices.specs.Every.{every}
use Rattle.refusal.specs.Chain.{◌then◌}
use Rattle.tree_file.specs.Trailer.{width_of, axes_in, entries_in, trailer, back_at, entry_of, entry_good, start_of, numbers_of}
use Rattle.tree_file.specs.Checks.{sections_check}
use Rattle.file_sections.specs.declared.Section.{Section}
use Rattle.file_sections.specs.declared.Section.TheVariants.{Known, Skipped, Bad}
use Rattle.file_sections.specs.declared.Sections.{Sections}
use Rattle.refusal.specs.Outcome.{Answer}

-- a code from 1 to 9 is known by the width of its numbers, one from 10 to 31 is skipped, any other is none
unfoldable pub section_by : ℕ → Section
section_by code = cond (leb 1 code && leb code 31) (cond (ltb 9 code) Skipped (Known (width_of code))) Bad

-- the first n entries are good, and the entry of each code is found; for the house
pub record Found (file : List ℕ) (n : ℕ) (at : List ℕ) : Type 0 where
  pub good : every n (entry_good file) ≡ true
  pub size : length at ≡ 32
  pub found : (c : ℕ) → c < 32 → get_or at c 0 ≡ entry_of file n c

-- the first n entries are judged: nothing is found where one is not good
abbrev pub Entered : List ℕ → ℕ → Option (List ℕ) → Type 0
Entered file n (Some at) = Found file n at
Entered file n None = every n (entry_good file) ≡ false

-- the trailer's start and the entry of each known code, in a file whose sections are good; for the house
pub record Placed (file : List ℕ) (tr axes : ℕ) (at : List ℕ) : Type 0 where
  pub is : tr ≡ trailer file
  pub says : axes ≡ axes_in file
  pub room : tr + 12 * entries_in file + 8 ≤ length file
  pub size : length at ≡ 32
  pub found : (c : ℕ) → c < 9 → get_or at (suc c) 0 ≡ entry_of file (entries_in file) (suc c)
  pub present : (c : ℕ) → c < 9 → 0 < entry_of file (entries_in file) (suc c)
  pub inside : (i : ℕ) → i < entries_in file → back_at file i ≤ trailer file

-- where codes 1 to 9 stand, in a file whose sections are good
abbrev pub located : List ℕ → Sections
located file = record { axes = axes_in file; starts = map (start_of file) (range 1 9); counts = map (numbers_of file) (range 1 9) }

-- what the reader of a trailer answers: 17, 1, 17, or where the sections stand
abbrev pub sections_in : List ℕ → Answer Sections
sections_in file = sections_check file then Ok (located file)
