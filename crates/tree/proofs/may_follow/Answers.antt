-- `tree::may_follow` meets its contract.
use native.Mathlib.Omega.{arith}
use Rattle.tree.proofs.KeyTests.{three, level-low, level-high, level-jump, other-parent, by_order}
use Rattle.tree.proofs.may_follow.Goals as goal

pub returns-then-level-lt1 : goal.returns-then-level-lt1
returns-then-level-lt1 c = level-low c.args.axes c.args.p c.args.k c.if-level-lt1.true

pub returns-then-level-gt16 : goal.returns-then-level-gt16
returns-then-level-gt16 c = level-high c.args.axes c.args.p c.args.k c.if-level-gt16.true

pub returns-then-level_p-level : goal.returns-then-level_p-level
returns-then-level_p-level c = level-jump c.args.axes c.args.p c.args.k c.if-level_p-level.true

pub up-holder-requires : goal.up-holder-requires
up-holder-requires c = (three c.args.axes c.requires, omega arith)

pub up-parent-requires : goal.up-parent-requires
up-parent-requires c = (three c.args.axes c.requires, omega arith)

pub returns-then-holder-parent : goal.returns-then-holder-parent
returns-then-holder-parent c = other-parent c.args.axes c.args.p c.args.k _ _ c.if-level-lt1.false c.if-level-gt16.false c.if-level_p-level.false c.up-holder.ensures c.up-parent.ensures c.if-holder-parent.true

pub returns : goal.returns
returns c = by_order c.args.axes c.args.p c.args.k _ _ c.if-level-lt1.false c.if-level-gt16.false c.if-level_p-level.false c.up-holder.ensures c.up-parent.ensures c.if-holder-parent.false _ c.comes_before.ensures
