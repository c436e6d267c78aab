-- `around::touch_mask` meets its contract.
use native.Mathlib.Omega.{arith}
use mathlib.Core.Path.{refl}
use Rattle.slices.specs.Every.{every}
use Rattle.around.proofs.Offsets.{fits, small-0, small-1, small-2, mask_is}
use Rattle.around.proofs.touch_mask.Goals as goal

pub overflow_sub-g : goal.overflow_sub-g
overflow_sub-g c = omega (arith, fits _ _ c.requires)

pub overflow_shr-x : goal.overflow_shr-x
overflow_shr-x c = omega (arith, small-0 _ _ c.requires)

pub overflow_shr-y : goal.overflow_shr-y
overflow_shr-y c = omega (arith, small-1 _ _ c.requires)

pub overflow_shr-z : goal.overflow_shr-z
overflow_shr-z c = omega (arith, small-2 _ _ c.requires)

pub returns : goal.returns
unfolding every
returns c = mask_is _ _ c.requires _ _ _ (record { first = refl; second = refl; third = refl })
