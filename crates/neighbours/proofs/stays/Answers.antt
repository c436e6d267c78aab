-- The axes are tested from the last to the first; on those passed the step stays in the box.
use Rattle.std.proofs.Common.{rules}
use mathlib.Core.Path.{refl, sym, ◌∙◌}
use Prim.Native.Nat.{◌-◌}
use native.Mathlib.Omega.{arith}
use lib.IntN.{pos}
use lib.ListN.{get_or}
use mir.Syntax.{w64}
use mir.Val.{SFits}
use Rattle.morton.proofs.Arithmetic.{one_shifted}
use Rattle.neighbours.proofs.Steps.{step-known, small_at, stays-low, stays-high, stays-next, stays-none}
use Rattle.neighbours.proofs.stays.Goals as goal

pub loop-n-init : goal.loop-n-init
loop-n-init c = refl

pub overflow_add-up : goal.overflow_add-up
overflow_add-up c = omega (arith, small_at c.args.from c.requires.2 (c.loop-n.n - 1) (omega arith), c.raised.ensures.1)

pub returns-then-up-lt1 : goal.returns-then-up-lt1
returns-then-up-lt1 c = let f : SFits w64 (get_or c.args.row (c.loop-n.n - 1) (pos 0)) = search rules in let e = step-known (get_or c.args.row (c.loop-n.n - 1) (pos 0)) c.raised.result f c.raised.ensures.0 in sym (stays-low c.args.level c.args.from c.args.row c.requires.3 c.loop-n.n (c.loop-n.n - 1) (omega arith) (omega arith) (omega arith)) ∙ c.loop-n.invariant

pub returns-then-end-up : goal.returns-then-end-up
returns-then-end-up c = let f : SFits w64 (get_or c.args.row (c.loop-n.n - 1) (pos 0)) = search rules in let e = step-known (get_or c.args.row (c.loop-n.n - 1) (pos 0)) c.raised.result f c.raised.ensures.0 in sym (stays-high c.args.level c.args.from c.args.row c.requires.3 c.loop-n.n (c.loop-n.n - 1) (omega arith) (omega arith) (omega (arith, one_shifted c.args.level c.requires.1))) ∙ c.loop-n.invariant

pub loop-n-preserved : goal.loop-n-preserved
loop-n-preserved c = let f : SFits w64 (get_or c.args.row (c.loop-n.n - 1) (pos 0)) = search rules in let e = step-known (get_or c.args.row (c.loop-n.n - 1) (pos 0)) c.raised.result f c.raised.ensures.0 in sym (stays-next c.args.level c.args.from c.args.row c.requires.3 c.loop-n.n (c.loop-n.n - 1) (omega arith) (omega arith) (omega arith) (omega (arith, one_shifted c.args.level c.requires.1))) ∙ c.loop-n.invariant

pub returns : goal.returns
returns c = sym (stays-none c.args.level c.args.from c.args.row c.requires.3 c.loop-n.n (omega arith)) ∙ c.loop-n.invariant
