-- What is promised of a tree that was read, and when two files hold the same: document 02, order 6.
use Rattle.std.specs.Prelude.{◌≡◌, List, ℕ, ◌+◌, ◌*◌, ◌<◌, get_or}
use Rattle.rows.specs.Written.{row_of}
use Rattle.rows.specs.Demand3.{Runs, Once, Near, Far, Few}
use Rattle.tree_file.specs.Contents.{Contents}
use Rattle.tree_file.specs.Trailer.{width_of, start_of, numbers_of}

-- the tender's third demand, of the rows as they stand in the lists
pub record Demand3 (t : Contents) : Type 0 where
  -- each place of the order column lies in the run of one leaf
  pub runs : Runs t.axes t.keys t.own t.begin
  -- each leaf meets each source exactly once, over its own U row and the V rows of itself and all its ancestors
  pub once : Once t.axes t.keys t.own t.begin (row_of t.keys t.u_starts t.u_keys) (row_of t.keys t.v_starts t.v_keys)
  -- in U exactly when the two leaves' cells at the coarser one's level coincide or touch
  pub near : Near t.axes t.keys t.own t.begin (row_of t.keys t.u_starts t.u_keys)
  -- no V row pairs touching cells, and none is too long
  pub far : Far t.axes t.keys (row_of t.keys t.v_starts t.v_keys)
  pub few : Few t.axes t.keys (row_of t.keys t.v_starts t.v_keys)

-- two files have the same numbers under a code: as many, and byte for byte, wherever each file has them
pub record SameSection (f g : List ℕ) (code : ℕ) : Type 0 where
  pub numbers : numbers_of f code ≡ numbers_of g code
  pub bytes : (i : ℕ) → i < width_of code * numbers_of f code → get_or f (start_of f code + i) 0 ≡ get_or g (start_of g code + i) 0
