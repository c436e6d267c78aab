-- The checks of lists handed in, node by node: document 02, orders 6 and 12.
use Rattle.std.specs.Prelude.{◌≡◌, Bool, true, false, List, [], map, ℕ, ◌+◌, ◌≤◌, ◌<◌, min, length, get_or, None, Option, Some}
use Rattle.slices.specs.Lists.{sum}
use Rattle.morton.specs.Keys.{ancestors}
use Rattle.tree.specs.Nodes.{leaf}
use Rattle.rows.specs.Written.{row_at, row_of}
use Rattle.sums.specs.Right.{StartsRight}
use Rattle.list_rows.specs.Entries.{Counted}
use Rattle.list_rows.specs.Rows.{too_many, RowPasses, row_total}

-- the starts of both lists are right
pub record Started (keys us uk vs vk : List ℕ) : Type 0 where
  pub near : StartsRight keys us uk
  pub far : StartsRight keys vs vk

-- what the V rows of a cell and its ancestors bring
abbrev pub far_met : ℕ → (keys total vs vk : List ℕ) → ℕ → ℕ
far_met d keys total vs vk b = sum (map (λ a. row_total keys total (row_of keys vs vk a)) (ancestors d b))

-- so much as was met above, with what the V row of node i brings
abbrev pub met_here : (keys total vs vk : List ℕ) → ℕ → ℕ → ℕ
met_here keys total vs vk i above = min (above + min (row_total keys total (row_at vs vk i)) too_many) too_many

-- the V row of node i passes, and with it so much is met
abbrev pub FarSays : ℕ → (keys own total vs vk : List ℕ) → ℕ → ℕ → Option ℕ → Type 0
FarSays d keys own total vs vk i above (Some n) = RowPasses d keys own true (get_or keys i 0) (row_at vs vk i) × (n ≡ met_here keys total vs vk i above)
FarSays d keys own total vs vk i above None = RowPasses d keys own true (get_or keys i 0) (row_at vs vk i) → ⊥

-- the U row of node i: it passes and brings the rest of all sources, and there is none where the node is no leaf
pub record NearRight (d : ℕ) (keys own total us uk : List ℕ) (i met : ℕ) : Type 0 where
  pub none : leaf d keys (get_or keys i 0) ≡ false → row_at us uk i ≡ []
  pub passes : leaf d keys (get_or keys i 0) ≡ true → RowPasses d keys own false (get_or keys i 0) (row_at us uk i)
  pub meets : leaf d keys (get_or keys i 0) ≡ true → min (row_total keys total (row_at us uk i)) too_many + met ≡ get_or total 0 0

-- both rows of node i
pub record NodeRight (d : ℕ) (keys own total us uk vs vk : List ℕ) (i above : ℕ) : Type 0 where
  pub far : RowPasses d keys own true (get_or keys i 0) (row_at vs vk i)
  pub near : NearRight d keys own total us uk i (met_here keys total vs vk i above)

abbrev pub NodeSays : ℕ → (keys own total us uk vs vk : List ℕ) → ℕ → ℕ → Option ℕ → Type 0
NodeSays d keys own total us uk vs vk i above (Some n) = NodeRight d keys own total us uk vs vk i above × (n ≡ met_here keys total vs vk i above)
NodeSays d keys own total us uk vs vk i above None = NodeRight d keys own total us uk vs vk i above → ⊥

-- a node below the root
pub record Below (keys : List ℕ) (i : ℕ) : Type 0 where
  pub some : 0 < i
  pub within : i < length keys
