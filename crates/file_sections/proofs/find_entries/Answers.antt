-- `file_sections::find_entries` meets its contract.
use native.Mathlib.Omega.{arith}
use borrow.Author.Tests.{not-true, not-false}
use Rattle.file_sections.proofs.Judged.{judging-none, judging-wrong, judging-twice, judging-more, judging-done, code_below}
use Rattle.file_sections.proofs.find_entries.Goals as goal

pub loop-i-init : goal.loop-i-init
loop-i-init c = judging-none _ _

pub returns-then-not-entry_right : goal.returns-then-not-entry_right
returns-then-not-entry_right c = judging-wrong _ _ _ _ c.loop-i.invariant c.loop-i-test.true _ c.entry_right.ensures (c.if-not-entry_right.true)

pub bounds-at-code : goal.bounds-at-code
bounds-at-code c = omega (arith, c.loop-i.invariant.size, code_below _ _ _ _ c.loop-i.invariant c.loop-i-test.true _ c.entry_right.ensures (c.if-not-entry_right.false) _ _ c.requires.0 c.u32_at-code.ensures.0)

pub returns-then-at-code-ne0 : goal.returns-then-at-code-ne0
returns-then-at-code-ne0 c = judging-twice _ _ _ _ c.loop-i.invariant c.loop-i-test.true _ c.entry_right.ensures (c.if-not-entry_right.false) _ _ c.requires.0 c.u32_at-code.ensures.0 c.if-at-code-ne0.true

pub bounds-at-code-in-loop-i : goal.bounds-at-code-in-loop-i
bounds-at-code-in-loop-i c = omega (arith, c.loop-i.invariant.size, code_below _ _ _ _ c.loop-i.invariant c.loop-i-test.true _ c.entry_right.ensures (c.if-not-entry_right.false) _ _ c.requires.0 c.u32_at-code.ensures.0)

pub loop-i-preserved : goal.loop-i-preserved
loop-i-preserved c = judging-more _ _ _ _ c.loop-i.invariant c.loop-i-test.true _ c.entry_right.ensures (c.if-not-entry_right.false) _ _ c.requires.0 c.u32_at-code.ensures.0 c.if-at-code-ne0.false

pub returns : goal.returns
returns c = judging-done _ _ _ _ c.loop-i.invariant c.loop-i-test.false
