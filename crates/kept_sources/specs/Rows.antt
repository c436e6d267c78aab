-- How many sources a salvage keeps, counted row by row.
use Rattle.std.specs.Prelude.{◌≡◌, Bool, true, ◌&&◌, not, cond, List, map, ℕ, ◌+◌, ◌-◌, ◌≤◌, ◌<◌, leb, ltb, eqb, length, get_or}
use Rattle.refusal.specs.declared.Refusal.TheVariants.{Tree, Room}
use Rattle.refusal.specs.Chain.{ask, ◌then◌}
use Rattle.slices.specs.Lists.{any, sum, range}
use Rattle.morton.specs.Keys.{axes_known, level_of, code_of, above, valid}
use Rattle.tree.specs.WellFormed.{most_sources}
use Rattle.salvaged.specs.Nodes.{Input}
use Rattle.salvaged.specs.Columns.{new_sources}
use Rattle.salvaged.specs.Changes.{key_at, valid_row, first_row}
use Rattle.refusal.specs.Outcome.{Outcome}

-- cell j lies in cell k and is not k
abbrev pub below : ℕ → ℕ → ℕ → Bool
below d k j = ltb (level_of k) (level_of j) && eqb (above d (level_of j - level_of k) (code_of j)) (code_of k)

-- a row with a valid key of a cell in cell k
abbrev pub below_row : ℕ → ℕ → ℕ → Bool
below_row d k j = valid d j && below d k j

-- no row has one
abbrev pub lowest : ℕ → List ℕ → ℕ → Bool
lowest d rows k = not (any (below_row d k) rows)

module _ (i : Input) where
  abbrev pub row_fits : ℕ → Bool
  row_fits row = leb (get_or i.begin row 0 + get_or i.own row 0) (length i.order)

  -- a valid row whose run does not pass the end can bring its count at most
  abbrev pub may_count : ℕ → Bool
  may_count row = valid_row i row && row_fits row

  -- and it brings it if it is not the root's, the first with its key, and no valid row is below it
  abbrev pub counts : ℕ → Bool
  counts row = not (eqb (key_at i row) 0) && (first_row i row && lowest i.axes i.key (key_at i row))

  -- what a row brings, or at most
  unfoldable pub row_count : Bool → ℕ → ℕ
  row_count exact row = cond (may_count row && cond exact (counts row) true) (get_or i.own row 0) 0

  unfoldable pub rows_sum : Bool → ℕ
  unfolding row_count
  rows_sum exact = sum (map (row_count exact) (range 0 (length i.key)))

  -- 13 when the total would exceed 1,048,576, then 8 with value 2 for the order column
  unfoldable pub sources_check : ℕ → Outcome
  sources_check places = ask (leb (new_sources i) most_sources) Tree then ask (leb (new_sources i) places) (Room 2)

-- the columns can be read row by row
pub record Readable (i : Input) : Type 0 where
  pub axes : axes_known i.axes ≡ true
  pub owns : length i.own ≡ length i.key
  pub begins : length i.begin ≡ length i.key
