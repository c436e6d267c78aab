-- `extents::reach_on` meets its contract.
use native.Mathlib.Omega.{arith}
use Rattle.extents.proofs.Spans.{reach-is}
use Rattle.extents.proofs.reach_on.Goals as goal

pub overflow_add-d : goal.overflow_add-d
overflow_add-d c = omega (arith, c.requires)

pub offset_bounds-extents-d : goal.offset_bounds-extents-d
offset_bounds-extents-d c = omega (arith, c.requires)

pub bounds-extents-d : goal.bounds-extents-d
bounds-extents-d c = omega (arith, c.requires)

pub offset_bounds-extents-a : goal.offset_bounds-extents-a
offset_bounds-extents-a c = omega (arith, c.requires)

pub bounds-extents-a : goal.bounds-extents-a
bounds-extents-a c = omega (arith, c.requires)

pub returns : goal.returns
returns c = reach-is c.args.extents.now c.args.d c.args.a c.floor_of.result c.ceil_of.result c.floor_of.ensures c.ceil_of.ensures
