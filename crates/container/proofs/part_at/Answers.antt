-- The three tests together say that the length and the bytes have room.
use native.Mathlib.Omega.{arith}
use Rattle.container.proofs.Placed.{not-whole, is_whole}
use Rattle.container.proofs.part_at.Goals as goal

pub returns-then-s-lt4-clause-part : goal.returns-then-s-lt4-clause-part
returns-then-s-lt4-clause-part c = not-whole c.args.s.now c.args.at (omega (arith, c.if-s-lt4.true))

pub returns-then-s-at-clause-part : goal.returns-then-s-at-clause-part
returns-then-s-at-clause-part c = not-whole c.args.s.now c.args.at (omega (arith, c.if-s-at.true))

pub returns-then-s-start-clause-part : goal.returns-then-s-start-clause-part
returns-then-s-start-clause-part c = not-whole c.args.s.now c.args.at (omega (arith, c.if-s-start.true, c.u32_at-size.ensures.0))

pub returns-clause-part : goal.returns-clause-part
returns-clause-part c = is_whole c.args.s.now c.args.at _ c.u32_at-size.ensures.0 (omega (arith, c.if-s-start.false, c.if-s-at.false, c.if-s-lt4.false))
