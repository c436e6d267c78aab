-- A tree as it is handed to a call: its columns, with one entry for each node.
use Rattle.std.specs.Prelude.{List, ℕ, min}

pub record Columns : Type 0 where
  pub keys : List ℕ
  pub own : List ℕ
  pub begin : List ℕ
  pub total : List ℕ

abbrev pub columns : (keys own begin total : List ℕ) → Columns
columns keys own begin total = record { keys = keys; own = own; begin = begin; total = total }

-- the shortest of the four columns, of which at most 1,048,576 entries count
abbrev pub node_room : ℕ → ℕ → ℕ → ℕ → ℕ
node_room key own begin total = min 1048576 (min key (min own (min begin total)))
