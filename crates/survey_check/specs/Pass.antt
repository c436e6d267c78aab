-- The pass over the nodes of a survey that has passed its checks.
use Rattle.std.specs.Prelude.{◌≡◌, true, List, map, ℕ, ◌≤◌, ◌<◌, ℤ, length, get_or}
use Rattle.slices.specs.Lists.{sum}
use Rattle.morton.specs.Keys.{ancestors}
use Rattle.tree.specs.Columns.{columns}
use Rattle.tree.specs.WellFormed.{most_sources}
use Rattle.rows.specs.Written.{row_at, row_of}
use Rattle.sums.specs.Right.{StartsRight}
use Rattle.row_sums.specs.Readings.{sources_in}
use Rattle.row_sums.specs.Climb.{far_cells}
use Rattle.cell_sums.specs.Lifted.{row_lifted, Before}
use Rattle.cell_sums.specs.Kept.{Summed}
use Rattle.sum_check.specs.Checks.{readings_check, is_built}
use Rattle.refusal.specs.Outcome.{accepted}

pub record Passed (d : ℕ) (keys own begin total : List ℕ) (readings : List ℤ) (order us uk vs vk : List ℕ) : Type 0 where
  pub read : readings_check d (columns keys own begin total) readings ≡ accepted
  pub built : is_built d (columns keys own begin total) order us uk vs vk ≡ true

-- what the far rows of a cell and its ancestors have, lifted
abbrev pub far_lifted : ℕ → (keys total begin order : List ℕ) → List ℤ → (vs vk : List ℕ) → ℕ → ℕ
far_lifted d keys total begin order readings vs vk b = sum (map (λ a. row_lifted keys total begin order readings (row_of keys vs vk a)) (ancestors d b))

-- a node with a row of few sources
pub record RowAsked (d : ℕ) (keys total begin order : List ℕ) (readings : List ℤ) (sums starts flat : List ℕ) (node : ℕ) : Type 0 where
  pub summed : Summed d keys total begin order readings sums
  pub starts_right : StartsRight keys starts flat
  pub within : node < length keys
  pub few : sources_in keys total (row_at starts flat node) ≤ most_sources

-- a node, with what is far of it
pub record FarKnown (d : ℕ) (keys total begin order : List ℕ) (readings : List ℤ) (vs vk : List ℕ) (node met listed : ℕ) : Type 0 where
  pub some : 0 < node
  pub within : node < length keys
  pub met_is : met ≡ far_lifted d keys total begin order readings vs vk (get_or keys node 0)
  pub listed_is : listed ≡ far_cells d keys vs vk (get_or keys node 0)
