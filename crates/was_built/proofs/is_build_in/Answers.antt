-- `was_built::is_build_in` meets its contract.
use native.Mathlib.Omega.{arith}
use Rattle.was_built.proofs.is_build_in.Goals as goal

pub is_coded_build-requires : goal.is_coded_build-requires
is_coded_build-requires c = (c.requires.0, c.requires.1, omega (arith, c.if-work-sources.false))
