-- `grids::spans::half_of` meets its contract: the first a axes have their half.
use Rattle.std.proofs.Common.{rules}
use native.Mathlib.Omega.{arith}
use Rattle.grids.proofs.Loops.{taking-start, taking-lower, taking-upper}
use Rattle.grids.proofs.spans.half_of.Goals as goal
use Rattle.grids.proofs.spans.half_of.Goals.{then-c-a-eq0, else-c-a-eq0}

pub loop-a-init : goal.loop-a-init
loop-a-init c = taking-start c.args.axes c.requires.0 c.args.s.from c.args.s.middle c.args.s.to c.args.c (search rules) (search rules)

pub loop-a-preserved : goal.loop-a-preserved
loop-a-preserved c = elim c.if-c-a-eq0.branch [
  | then-c-a-eq0 w ↦
      rw (w.from-is, w.to-is) (taking-lower c.args.axes c.requires.0 c.args.s.from c.args.s.middle c.args.s.to c.args.c c.loop-a.from c.loop-a.to c.loop-a.a c.loop-a.invariant c.loop-a-test.true w.if-c-a-eq0.true)
  | else-c-a-eq0 w ↦
      rw (w.from-is, w.to-is) (taking-upper c.args.axes c.requires.0 c.args.s.from c.args.s.middle c.args.s.to c.args.c c.loop-a.from c.loop-a.to c.loop-a.a c.loop-a.invariant c.loop-a-test.true w.if-c-a-eq0.false)
]

pub returns : goal.returns
returns c = record { from_is = λ a h. c.loop-a.invariant.from_done a (omega (arith, c.loop-a-test.false)); to_is = λ a h. c.loop-a.invariant.to_done a (omega (arith, c.loop-a-test.false)) }
