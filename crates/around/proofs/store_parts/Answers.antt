-- `around::store_parts` meets its contract.
use Rattle.std.proofs.Common.{rules}
use native.Mathlib.Omega.{arith}
use Rattle.around.proofs.Parting.{storing-start, storing-can, storing-one, storing-all}
use Rattle.around.proofs.store_parts.Goals as goal

pub loop-j-init : goal.loop-j-init
loop-j-init c = storing-start c.requires.0 c.requires.2 c.requires.1

pub store_part-one-requires : goal.store_part-one-requires
store_part-one-requires c = storing-can c.requires.0 c.requires.2 c.loop-j.invariant c.loop-j-test.true

pub overflow_sub-c : goal.overflow_sub-c
overflow_sub-c c = omega (arith, c.loop-j-test.true)

pub store_part-two-requires : goal.store_part-two-requires
store_part-two-requires c = storing-can c.requires.0 c.requires.2 (storing-one c.requires.0 c.requires.2 c.loop-j.invariant c.loop-j-test.true c.store_part-one.ensures) (omega (arith, c.if-c-j-gt2.true))

pub overflow_add-j-then-c-j-gt2 : goal.overflow_add-j-then-c-j-gt2
overflow_add-j-then-c-j-gt2 c = search rules

pub store_part-three-requires : goal.store_part-three-requires
store_part-three-requires c = storing-can c.requires.0 c.requires.2 (storing-one c.requires.0 c.requires.2 (storing-one c.requires.0 c.requires.2 c.loop-j.invariant c.loop-j-test.true c.store_part-one.ensures) (omega (arith, c.if-c-j-gt2.true)) c.store_part-two.ensures) (omega (arith, c.if-c-j-gt2.true))

pub overflow_add-j-then-c-j-gt2-2 : goal.overflow_add-j-then-c-j-gt2-2
overflow_add-j-then-c-j-gt2-2 c = omega (arith, c.if-c-j-gt2.true, c.ranges.c)

pub store_part-four-requires : goal.store_part-four-requires
store_part-four-requires c = storing-can c.requires.0 c.requires.2 (storing-one c.requires.0 c.requires.2 (storing-one c.requires.0 c.requires.2 (storing-one c.requires.0 c.requires.2 c.loop-j.invariant c.loop-j-test.true c.store_part-one.ensures) (omega (arith, c.if-c-j-gt2.true)) c.store_part-two.ensures) (omega (arith, c.if-c-j-gt2.true)) c.store_part-three.ensures) (omega (arith, c.if-c-j-gt2.true))

pub overflow_add-j-then-c-j-gt2-3 : goal.overflow_add-j-then-c-j-gt2-3
overflow_add-j-then-c-j-gt2-3 c = omega (arith, c.if-c-j-gt2.true, c.ranges.c)

pub loop-j-smaller-then-c-j-gt2 : goal.loop-j-smaller-then-c-j-gt2
loop-j-smaller-then-c-j-gt2 c = omega (arith, c.loop-j-test.true)

pub loop-j-preserved-then-c-j-gt2 : goal.loop-j-preserved-then-c-j-gt2
loop-j-preserved-then-c-j-gt2 c = (storing-one c.requires.0 c.requires.2 (storing-one c.requires.0 c.requires.2 (storing-one c.requires.0 c.requires.2 (storing-one c.requires.0 c.requires.2 c.loop-j.invariant c.loop-j-test.true c.store_part-one.ensures) (omega (arith, c.if-c-j-gt2.true)) c.store_part-two.ensures) (omega (arith, c.if-c-j-gt2.true)) c.store_part-three.ensures) (omega (arith, c.if-c-j-gt2.true)) c.store_part-four.ensures)

pub loop-j-smaller : goal.loop-j-smaller
loop-j-smaller c = omega (arith, c.loop-j-test.true)

pub loop-j-preserved : goal.loop-j-preserved
loop-j-preserved c = (storing-one c.requires.0 c.requires.2 c.loop-j.invariant c.loop-j-test.true c.store_part-one.ensures)

pub returns : goal.returns
returns c = storing-all c.requires.0 c.requires.2 c.loop-j.invariant c.loop-j-test.false
