-- Both anchors are spread at once. Then the second anchor's bits go one above the first's.
use native.Mathlib.Omega.{arith}
use Rattle.codes.proofs.Axes.{pair-spread, pair_lt, pair_code}
use Rattle.codes.proofs.code_2.Goals as goal

pub overflow_add-result : goal.overflow_add-result
overflow_add-result c = omega (arith, pair_lt _ _ _ (pair-spread _ _ _ c.requires.0 c.requires.1 c.spread-both.ensures))

pub returns : goal.returns
returns c = pair_code _ _ _ (pair-spread _ _ _ c.requires.0 c.requires.1 c.spread-both.ensures)
