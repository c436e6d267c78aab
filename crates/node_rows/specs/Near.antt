-- The positions of the nodes near a cell, and sums over these nodes.
use Rattle.std.specs.Prelude.{◌≡◌, List, map, ℕ, ◌≤◌, ◌<◌, length, get_or, take}
use Rattle.slices.specs.Lists.{sum}
use Rattle.tree.specs.WellFormed.{most_sources}
use Rattle.around.specs.Around.{near_nodes}
use Rattle.around.specs.Parting.{near_at}

-- the first t of `near` are the positions below j that bit s marks
pub record Marked (masks : List ℕ) (s : ℕ) (near : List ℕ) (t j : ℕ) : Type 0 where
  pub fits : t ≤ length near
  pub are : take t near ≡ near_at masks j s

-- a column's entries for the nodes at the first t positions
abbrev pub entries_at : List ℕ → List ℕ → ℕ → List ℕ → List ℕ
entries_at nodes near t column = map (λ i. get_or column (get_or nodes i 0) 0) (take t near)

-- those for the nodes near q
abbrev pub near_entries : ℕ → List ℕ → List ℕ → ℕ → List ℕ → List ℕ
near_entries d keys own q column = map (λ j. get_or column j 0) (near_nodes d keys own q)

-- the positions lead to entries, and these have a sum that fits
pub record Summable (nodes near : List ℕ) (t : ℕ) (column : List ℕ) : Type 0 where
  pub fits : t ≤ length near
  pub at : (i : ℕ) → i < t → get_or near i 0 < length nodes
  pub inside : (i : ℕ) → i < t → get_or nodes (get_or near i 0) 0 < length column
  pub few : sum (entries_at nodes near t column) ≤ most_sources
