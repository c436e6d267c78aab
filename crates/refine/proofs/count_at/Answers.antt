-- The shifts give the ends of the cell's span of codes, and the count of the span is the cell's.
use mathlib.Core.Path.{refl, ap}
use Prim.Native.Nat.{ℕ, ◌*◌, ◌-◌}
use native.Mathlib.Omega.{arith}
use Rattle.refine.proofs.Spans.{span-width, span-counted}
use Rattle.refine.proofs.count_at.Goals as goal

pub overflow_mul-shift : goal.overflow_mul-shift
overflow_mul-shift c = omega (arith, span-width c.args.axes c.args.key c.requires.0, ap (λ (l : ℕ). c.args.axes * (16 - l)) c.level_of.ensures)

pub overflow_shl-code : goal.overflow_shl-code
overflow_shl-code c = omega (arith, span-width c.args.axes c.args.key c.requires.0, ap (λ (l : ℕ). c.args.axes * (16 - l)) c.level_of.ensures)

pub overflow_shl-code-2 : goal.overflow_shl-code-2
overflow_shl-code-2 c = omega (arith, span-width c.args.axes c.args.key c.requires.0, ap (λ (l : ℕ). c.args.axes * (16 - l)) c.level_of.ensures)

pub returns : goal.returns
returns c = span-counted c.args.axes c.args.key c.requires.0 _ _ _ _ _ _ c.code_of-code.ensures c.level_of.ensures refl refl c.count_in.ensures c.requires.1
