-- Whether all points of a batch are inside, or the wall of the first that is outside.
use Rattle.std.specs.Prelude.{Result, Ok}
use Rattle.refusal.specs.declared.Wall.{Wall}

abbrev pub Inside : Type 0
Inside = Result (Unit {0}) Wall

abbrev pub all_inside : Inside
all_inside = Ok tt
