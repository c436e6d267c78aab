-- `survey::u32_at` meets its contract.
use native.Mathlib.Omega.{arith}
use Rattle.survey.proofs.Numbers.{four}
use Rattle.survey.proofs.u32_at.Goals as goal

pub returns : goal.returns
returns c = (four c.args.file.now c.args.at _ _ _ _ c.byte_at.ensures.0 c.byte_at-2.ensures.0 c.byte_at-3.ensures.0 c.byte_at-4.ensures.0, omega (arith, c.byte_at.ensures.1, c.byte_at-2.ensures.1, c.byte_at-3.ensures.1, c.byte_at-4.ensures.1))
