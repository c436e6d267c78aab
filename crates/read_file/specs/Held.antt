-- Lent slices that have room for what a file holds; for the house.
use Rattle.std.specs.Prelude.{List, ℕ, ◌≤◌, length}
use Rattle.tree_file.specs.Trailer.{column_in}

-- the order column and the node columns
pub record Columned (file order key own begin total : List ℕ) : Type 0 where
  pub places : length (column_in file 5) ≤ length order
  pub keys : length (column_in file 1) ≤ length key
  pub owns : length (column_in file 2) ≤ length own
  pub begins : length (column_in file 3) ≤ length begin
  pub totals : length (column_in file 4) ≤ length total

-- the lists
pub record Listed (file us uk vs vk : List ℕ) : Type 0 where
  pub u_starts : length (column_in file 6) ≤ length us
  pub u_keys : length (column_in file 7) ≤ length uk
  pub v_starts : length (column_in file 8) ≤ length vs
  pub v_keys : length (column_in file 9) ≤ length vk
