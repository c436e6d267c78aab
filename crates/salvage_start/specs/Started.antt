-- The nodes of a salvage with their counts, and the refusals up to the room for them.
use Rattle.std.specs.Prelude.{◌≡◌, ◌&&◌, List, map, ℕ, ◌≤◌, ◌<◌, leb, eqb, length, take}
use Rattle.refusal.specs.declared.Refusal.TheVariants.{Dims, Shape, Tree, Room}
use Rattle.refusal.specs.Chain.{ask, ◌then◌}
use Rattle.morton.specs.Keys.{axes_known}
use Rattle.tree.specs.WellFormed.{most_sources}
use Rattle.salvaged.specs.Nodes.{Input}
use Rattle.salvaged.specs.Columns.{new_keys, new_own, new_sources, old_begin}
use Rattle.refusal.specs.Outcome.{Outcome}

-- so many entries of each of three columns may be used
pub record Roomy (room : ℕ) (key own begin : List ℕ) : Type 0 where
  pub keys : room ≤ length key
  pub owns : room ≤ length own
  pub begins : room ≤ length begin

-- the first r places have the nodes' keys, their counts, and where their runs began; or there are too many nodes for the room
pub record Filled (i : Input) (room : ℕ) (key own begin : List ℕ) (r : ℕ) : Type 0 where
  pub short : room < r → room < length (new_keys i)
  pub number : r ≤ room → r ≡ length (new_keys i)
  pub keys : r ≤ room → take r key ≡ new_keys i
  pub owns : r ≤ room → take r own ≡ new_own i
  pub begins : r ≤ room → take r begin ≡ map (old_begin i) (new_keys i)

module _ (i : Input) where
  -- 1, 3, 13, 8 with value 2 for so many places, 8 with value 3 for so much room
  unfoldable pub start_check : ℕ → ℕ → Outcome
  start_check places room =
      ask (axes_known i.axes) Dims
      then ask (eqb (length i.own) (length i.key) && eqb (length i.begin) (length i.key)) Shape
      then ask (leb (new_sources i) most_sources) Tree
      then ask (leb (new_sources i) places) (Room 2)
      then ask (leb (length (new_keys i)) room) (Room 3)

  -- so many nodes and sources
  pub record StartedWith (places room nodes sources : ℕ) (key own begin : List ℕ) : Type 0 where
    pub filled : Filled i room key own begin nodes
    pub fits : nodes ≤ room
    pub sum : sources ≡ new_sources i
