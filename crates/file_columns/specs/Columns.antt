-- The columns of a tree file, read where they stand; for the house.
use Rattle.std.specs.Prelude.{◌≡◌, true, List, ℕ, suc, ◌+◌, ◌*◌, ◌≤◌, ◌<◌, length, get_or}
use Rattle.morton.specs.Keys.{axes_known}
use Rattle.tree_file.specs.Trailer.{width_of, axes_in, start_of, numbers_of}
use Rattle.file_sections.specs.declared.Sections.{Sections}

-- where the nine sections of a file stand that was not refused for them: each inside the file
pub record Sectioned (file : List ℕ) (s : Sections) : Type 0 where
  pub says : s.axes ≡ axes_in file
  pub known : axes_known s.axes ≡ true
  pub starts_size : length s.starts ≡ 9
  pub counts_size : length s.counts ≡ 9
  pub start : (c : ℕ) → c < 9 → get_or s.starts c 0 ≡ start_of file (suc c)
  pub count : (c : ℕ) → c < 9 → get_or s.counts c 0 ≡ numbers_of file (suc c)
  pub inside : (c : ℕ) → c < 9 → start_of file (suc c) + width_of (suc c) * numbers_of file (suc c) ≤ length file
