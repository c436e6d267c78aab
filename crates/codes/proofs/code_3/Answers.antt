-- The spread anchors, axis a's a bits up: no sum wraps.
use native.Mathlib.Omega.{arith}
use Rattle.codes.proofs.Axes.{one-of-three}
use Rattle.codes.proofs.code_3.Goals as goal

pub overflow_add-result : goal.overflow_add-result
overflow_add-result c = omega (arith, one-of-three _ _ c.requires.0 c.spread.ensures, one-of-three _ _ c.requires.1 c.spread-2.ensures)

pub overflow_add-result-2 : goal.overflow_add-result-2
overflow_add-result-2 c = omega (arith, one-of-three _ _ c.requires.0 c.spread.ensures, one-of-three _ _ c.requires.1 c.spread-2.ensures, one-of-three _ _ c.requires.2 c.spread-3.ensures)

pub returns : goal.returns
returns c = omega (arith, one-of-three _ _ c.requires.0 c.spread.ensures, one-of-three _ _ c.requires.1 c.spread-2.ensures, one-of-three _ _ c.requires.2 c.spread-3.ensures)
