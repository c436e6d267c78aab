-- `extents::middle_on` meets its contract.
use native.Mathlib.Omega.{arith}
use Rattle.extents.proofs.Spans.{middle-past, middle-is}
use Rattle.extents.proofs.middle_on.Goals as goal

pub returns-then-a-d : goal.returns-then-a-d
returns-then-a-d c = middle-past c.args.extents.now c.args.d c.args.a c.if-a-d.true

pub offset_bounds-extents-a : goal.offset_bounds-extents-a
offset_bounds-extents-a c = omega arith

pub bounds-extents-a : goal.bounds-extents-a
bounds-extents-a c = omega arith

pub overflow_add-d : goal.overflow_add-d
overflow_add-d c = omega (arith, c.requires, c.if-a-d.false)

pub offset_bounds-extents-d : goal.offset_bounds-extents-d
offset_bounds-extents-d c = omega (arith, c.requires, c.if-a-d.false)

pub bounds-extents-d : goal.bounds-extents-d
bounds-extents-d c = omega (arith, c.requires, c.if-a-d.false)

pub returns : goal.returns
returns c = middle-is c.args.extents.now c.args.d c.args.a c.floor_of.result c.ceil_of.result c.if-a-d.false c.floor_of.ensures c.ceil_of.ensures
