-- After n turns the array holds the first n axes' anchors.
use Rattle.std.proofs.Common.{rules}
use mathlib.Core.Path.{sym, ap, ◌∙◌}
use mathlib.Core.List.{map}
use Prim.Native.Nat.{ℕ, ◌+◌, ◌-◌}
use native.Mathlib.Omega.{arith}
use lib.IntN.{pos, nat_abs}
use lib.ListN.{get_or}
use mir.Syntax.{w64}
use mir.Val.{SFits}
use Rattle.slices.specs.Lists.{range, filled}
use Rattle.neighbours.specs.Directions.{ahead}
use Rattle.neighbours.proofs.Steps.{step-known, small_at, stays_at}
use Rattle.morton.proofs.Runs.{values-start, values-next}
use Rattle.neighbours.proofs.moved.Goals as goal

pub loop-a-init : goal.loop-a-init
loop-a-init c = values-start 3 _

pub overflow_add-to : goal.overflow_add-to
overflow_add-to c = omega (arith, small_at c.args.from c.requires.1 c.loop-a.a (omega arith), c.raised.ensures.1)

pub overflow_sub-to : goal.overflow_sub-to
overflow_sub-to c = let f : SFits w64 (get_or c.args.row c.loop-a.a (pos 0)) = search rules in let e = step-known (get_or c.args.row c.loop-a.a (pos 0)) c.raised.result f c.raised.ensures.0 in omega (arith, (stays_at c.args.level c.args.from c.args.row c.requires.2 c.args.axes c.requires.0 c.requires.3 c.loop-a.a (omega arith)).0)

pub loop-a-preserved : goal.loop-a-preserved
loop-a-preserved c = let f : SFits w64 (get_or c.args.row c.loop-a.a (pos 0)) = search rules in let e = step-known (get_or c.args.row c.loop-a.a (pos 0)) c.raised.result f c.raised.ensures.0 in values-next 3 _ _ _ _ c.loop-a.invariant (omega arith) (ap (λ (r : ℕ). get_or c.args.from c.loop-a.a 0 + r - 1) e ∙ sym (stays_at c.args.level c.args.from c.args.row c.requires.2 c.args.axes c.requires.0 c.requires.3 c.loop-a.a (omega arith)).2)

pub returns : goal.returns
returns c = c.loop-a.invariant.filled_by ∙ ap (λ (n : ℕ). filled 3 (map (λ a. nat_abs (ahead c.args.from c.args.row a)) (range 0 n))) (omega arith)
