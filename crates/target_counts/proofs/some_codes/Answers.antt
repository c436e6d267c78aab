-- `target_counts::some_codes` meets its contract.
use native.Mathlib.Omega.{arith}
use native.Mathlib.Nat.{mul-one, le_trans, mul-le-mul_right}
use Rattle.target_counts.proofs.some_codes.Goals as goal

pub code_rows-requires : goal.code_rows-requires
code_rows-requires c = record { le_axes = (c.requires.0, c.requires.1, omega arith, omega arith, omega (arith, c.if-far-lt1.true), c.requires.4); far_bound = (omega (arith, c.requires.2, mul-one c.args.rows), le_trans (mul-le-mul_right c.args.f.axes (omega (arith, mul-one c.args.rows))) c.requires.3) }

pub returns-then-far-lt1 : goal.returns-then-far-lt1
returns-then-far-lt1 c = (omega (arith, c.code_rows.ensures.1.within, c.if-far-lt1.true), c.code_rows.ensures.0)

pub code_rows-requires-2 : goal.code_rows-requires-2
code_rows-requires-2 c = record { le_axes = (c.requires.0, c.requires.1, omega (arith, c.if-far-lt1.false), omega (arith, c.requires.2), omega arith, c.requires.4); far_bound = (omega (arith, c.requires.2), le_trans (mul-le-mul_right c.args.f.axes (omega arith)) c.requires.3) }

pub returns : goal.returns
returns c = (omega (arith, c.code_rows-2.ensures.1.within), c.code_rows-2.ensures.0)
