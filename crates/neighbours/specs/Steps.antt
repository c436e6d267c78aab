-- For the workers: a step of a row is -1, 0 or 1, and is held raised by one, so that no number is negative.
use Rattle.std.specs.Prelude.{Bool, List, ℕ, zero, suc, leb, eqb, ℤ, pos, negsuc, get_or}
use Rattle.slices.specs.Every.{every}
use Rattle.neighbours.specs.Directions.{none}

abbrev pub one_step : ℤ → Bool
one_step (negsuc n) = eqb n 0
one_step (pos n) = leb n 1

-- every step of a row is one
abbrev pub unit_row : List ℤ → Bool
unit_row steps = every 3 (λ a. one_step (get_or steps a none))

-- one more than such a step; any other counts as 1
abbrev pub raised : ℤ → ℕ
raised (negsuc zero) = 0
raised (negsuc (suc n)) = 2
raised (pos zero) = 1
raised (pos (suc n)) = 2
