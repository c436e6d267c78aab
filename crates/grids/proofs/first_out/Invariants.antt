-- `grids::first_out` meets its contract: no axis before a starts outside.
use mathlib.Core.Path.{◌≡◌}
use Rattle.grids.specs.Exits.{starts_out, first_of}
use Rattle.grids.proofs.first_out.Given as goal
use Rattle.std.specs.Prelude.{None}

abbrev pub invariant-loop-a : goal.invariant-loop-a
invariant-loop-a l = first_of (starts_out l.f l.g) l.a ≡ None
