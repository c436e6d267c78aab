-- `file_sections::all_present` meets its contract.
use native.Mathlib.Omega.{arith}
use Rattle.file_sections.proofs.Judged.{present-none, present-off, present-more, present-all}
use Rattle.file_sections.proofs.all_present.Goals as goal

pub loop-c-init : goal.loop-c-init
loop-c-init c = present-none c.args.at

pub bounds-at-c : goal.bounds-at-c
bounds-at-c c = omega (arith, c.requires)

pub returns-then-at-c-eq0 : goal.returns-then-at-c-eq0
returns-then-at-c-eq0 c = present-off c.args.at _ c.loop-c-test.true c.if-at-c-eq0.true

pub loop-c-preserved : goal.loop-c-preserved
loop-c-preserved c = present-more c.args.at _ c.loop-c.invariant c.if-at-c-eq0.false

pub returns : goal.returns
returns c = present-all c.args.at _ (omega arith) c.loop-c.invariant
