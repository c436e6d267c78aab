-- The sources' codes in the work, and their sums in the order column.
use Rattle.std.specs.Prelude.{◌≡◌, List, ℕ, ◌+◌, ◌*◌, ◌^◌, ◌≤◌, ◌<◌, length, get_or}
use Rattle.std.proofs.Math.Seq.{slice}
use Rattle.morton.specs.Depth.{reference_depth}
use Rattle.refine.specs.Sums.{Sums}

-- behind as many places the codes of few sources, each of level 16, and an entry for each in a column with so much room
pub record Sourced (d rows : ℕ) (work : List ℕ) (room : ℕ) : Type 0 where
  pub most : d ≤ 3
  pub few : rows ≤ 1048576
  pub inside : 2 * rows ≤ length work
  pub below : (i : ℕ) → i < rows → get_or work (rows + i) 0 < 2 ^ (d * 16)
  pub fits : rows ≤ room

-- with targets: the reference depth, and the sources' sums at it
pub record SumsMade (d rows marks : ℕ) (work : List ℕ) (depth : ℕ) (sums : List ℕ) : Type 0 where
  pub deep : 0 < marks → depth ≡ reference_depth d rows
  pub made : 0 < marks → Sums d depth (slice rows (2 * rows) work) sums
