-- `changed_rows::node_told` meets its contract.
use borrow.Author.Tests.{not-true, not-false}
use Rattle.changed_rows.proofs.Told.{told-repeat, told-later, told_none, told-cleared, told_moved}
use Rattle.changed_rows.proofs.node_told.Goals as goal

pub returns-then-code-eq2 : goal.returns-then-code-eq2
returns-then-code-eq2 c = told-repeat _ _ _ _ _ _ c.if-code-eq2.true

pub returns-then-not-first : goal.returns-then-not-first
returns-then-not-first c = told-later _ _ _ _ _ _ c.if-code-eq2.false (c.if-not-first.true)

pub returns-then-own-eq0 : goal.returns-then-own-eq0
returns-then-own-eq0 c = told_none _ _ _ _ _ _ c.if-code-eq2.false (c.if-not-first.false) c.if-code-eq4.true c.if-own-eq0.true

pub returns-then-code-eq4 : goal.returns-then-code-eq4
returns-then-code-eq4 c = told-cleared _ _ _ _ _ _ c.if-code-eq2.false (c.if-not-first.false) c.if-code-eq4.true c.if-own-eq0.false

pub returns : goal.returns
returns c = told_moved _ _ _ _ _ _ c.if-code-eq2.false (c.if-not-first.false) c.if-code-eq4.false
