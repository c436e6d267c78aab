-- `arrangement::bit_at` meets its contract.
use mathlib.Core.Path.{ap, ◌∙◌}
use Prim.Native.Nat.{◌%◌}
use native.Mathlib.Nat.{one-mul, mod-eq_of_lt}
use lib.Pow.{pow-lt}
use Rattle.arrangement.proofs.bit_at.Goals as goal

pub returns : goal.returns
returns c = ap (◌% 18446744073709551616) (one-mul _) ∙ mod-eq_of_lt (pow-lt c.requires)
