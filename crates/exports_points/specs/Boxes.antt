-- The box of a call from C: its centre, radius and number of axes, each an argument of its own.
use Rattle.std.specs.Prelude.{List, ℕ, Float}
use Rattle.space.specs.declared.Box.{Box}

abbrev pub box_at : List Float → Float → ℕ → Box
box_at centre radius axes = record { centre = centre; radius = radius; axes = axes }
