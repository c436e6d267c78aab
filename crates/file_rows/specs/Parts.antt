-- A part of a column; for the house.
use Rattle.std.specs.Prelude.{List, ℕ, ◌-◌, take, drop}

-- the entries of a column between two places
abbrev pub part : List ℕ → ℕ → ℕ → List ℕ
part xs from to = take (to - from) (drop from xs)
