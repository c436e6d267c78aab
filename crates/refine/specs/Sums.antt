-- Sums of the sources along the cells one level above the reference depth: they tell how many sources a cell has, at that level or above it.
use Rattle.std.specs.Prelude.{List, ◌≡◌, ℕ, ◌*◌, ◌-◌, ◌^◌, ◌≤◌, ◌<◌, length, get_or}
use Rattle.morton.specs.Keys.{deepest}
use Rattle.refine.specs.Cells.{up_to_cell}

-- how many cells there are one level above the depth
abbrev pub cells_above : ℕ → ℕ → ℕ
cells_above d depth = 2 ^ (d * (depth - 1))

-- by how many bits a code of the deepest level is longer than theirs
abbrev pub bits_below : ℕ → ℕ → ℕ
bits_below d depth = d * (deepest - (depth - 1))

-- an entry for each of these cells: the sources in it and in those before it. Without sources there may be no entry.
pub record Sums (d depth : ℕ) (sources sums : List ℕ) : Type 0 where
  pub deep : 1 ≤ depth
  pub shallow : depth ≤ deepest
  pub few : length sources ≤ 1048576
  pub room : 0 < length sums → cells_above d depth ≤ length sums
  pub each : (x : ℕ) → x < cells_above d depth → get_or sums x 0 ≡ up_to_cell (bits_below d depth) sources x

-- what sums are made of: codes of the deepest level, and room for an entry a cell
pub record Summable (d depth : ℕ) (codes : List ℕ) (room : ℕ) : Type 0 where
  pub most : d ≤ 3
  pub deep : 1 ≤ depth
  pub shallow : depth ≤ deepest
  pub few : length codes ≤ 1048576
  pub below : (i : ℕ) → i < length codes → get_or codes i 0 < 2 ^ (d * deepest)
  pub some : 0 < room → cells_above d depth ≤ room
  pub none : room ≡ 0 → length codes ≡ 0

-- the sums are of some sources
abbrev pub Summed : ℕ → ℕ → List ℕ → Type 0
Summed d depth sums = (sources : List ℕ) × Sums d depth sources sums

-- what is said of sources holds of all that the sums are of
abbrev pub OfSources : ℕ → ℕ → List ℕ → (List ℕ → Type 0) → Type 0
OfSources d depth sums P = (sources : List ℕ) → Sums d depth sources sums → P sources
