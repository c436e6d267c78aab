-- `tree::rows_right` meets its contract.
use mathlib.Core.Path.{sym, ◌∙◌}
use Rattle.tree.proofs.Pass.{pass-start, pass-more, pass-done, bad-row, bad-own, bad-begin, too_many}
use Rattle.tree.proofs.rows_right.Goals as goal

pub loop-i-init : goal.loop-i-init
loop-i-init c = pass-start _ _ _ _ c.requires

pub returns-then-not-may_follow : goal.returns-then-not-may_follow
returns-then-not-may_follow c = bad-row _ _ _ _ c.requires _ _ c.loop-i.invariant c.loop-i-test.true (sym c.may_follow.ensures ∙ c.if-not-may_follow.true)

pub returns-then-not-may_own : goal.returns-then-not-may_own
returns-then-not-may_own c = bad-own _ _ _ _ c.requires _ _ c.loop-i.invariant c.loop-i-test.true (sym c.may_own.ensures ∙ c.if-not-may_own.true)

pub returns-then-begin-i : goal.returns-then-begin-i
returns-then-begin-i c = bad-begin _ _ _ _ c.requires _ _ c.loop-i.invariant c.loop-i-test.true c.if-begin-i.true

pub returns-then-run-count : goal.returns-then-run-count
returns-then-run-count c = too_many _ _ _ _ c.requires _ _ c.loop-i.invariant c.loop-i-test.true c.if-run-count.true

pub loop-i-preserved : goal.loop-i-preserved
loop-i-preserved c = pass-more _ _ _ _ c.requires _ _ c.loop-i.invariant c.loop-i-test.true (sym c.may_follow.ensures ∙ c.if-not-may_follow.false) (sym c.may_own.ensures ∙ c.if-not-may_own.false) c.if-begin-i.false c.if-run-count.false

pub returns : goal.returns
returns c = pass-done _ _ _ _ c.requires _ _ c.loop-i.invariant c.loop-i-test.false
