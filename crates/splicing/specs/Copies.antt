-- Columns copied around one row.
use Rattle.std.specs.Prelude.{◌≡◌, List, ◌⊎◌, ℕ, ◌+◌, ◌≤◌, ◌<◌, length, get_or}
use Rattle.morton.specs.Keys.{level_of}
use Rattle.spliced_columns.specs.Marks.{row_mark}

-- n entries were written from one place on, the others are as they were
pub record Copied (n at : ℕ) (f : ℕ → ℕ) (out₀ out : List ℕ) : Type 0 where
  pub kept : length out ≡ length out₀
  pub new : (j : ℕ) → j < n → get_or out (at + j) 0 ≡ f j
  pub old : (j : ℕ) → (j < at) ⊎ (at + n ≤ j) → get_or out j 0 ≡ get_or out₀ j 0

-- the mark of row i
abbrev pub row_at : ℕ → ℕ → (keys own total : List ℕ) → ℕ → ℕ
row_at d code keys own total i = row_mark d code (get_or keys i 0) (get_or own i 0) (get_or total i 0)

-- rows with valid levels and few sources
pub record Rows (d : ℕ) (keys own total : List ℕ) : Type 0 where
  pub most : d ≤ 3
  pub owns : length own ≡ length keys
  pub totals : length total ≡ length keys
  pub levels : (i : ℕ) → i < length keys → level_of (get_or keys i 0) ≤ 16
  pub few : (i : ℕ) → i < length keys → get_or total i 0 ≤ 1048576
