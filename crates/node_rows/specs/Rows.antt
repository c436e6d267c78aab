-- The row of a node in one of the two lists.
use Rattle.std.specs.Prelude.{Bool, true, false, List, ℕ}
use Rattle.rows.specs.Lists.{u_row, v_row}

-- the row of b: its U row, or its V row where `far` is true
abbrev pub list_row : ℕ → List ℕ → List ℕ → Bool → ℕ → List ℕ
list_row d keys own true b = v_row d keys own b
list_row d keys own false b = u_row d keys own b
