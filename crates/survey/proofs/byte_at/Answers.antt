-- `survey::byte_at` meets its contract.
use mathlib.Core.Path.{refl}
use native.Mathlib.Omega.{arith}
use Rattle.survey.proofs.byte_at.Goals as goal

pub returns : goal.returns
returns c = (refl, omega (arith, c.shared_slice_known-1.given c.args.at))
