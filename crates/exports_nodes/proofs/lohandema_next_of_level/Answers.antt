-- No row before the place is of the level.
use Rattle.exports_nodes.proofs.Rows.{none_yet, none_more, first_found, first-none}
use Rattle.exports_nodes.proofs.lohandema_next_of_level.Goals as goal

pub loop-i-init : goal.loop-i-init
loop-i-init c = none_yet _ _ _

pub returns-then-key-i : goal.returns-then-key-i
returns-then-key-i c = first_found c.args.key.now c.args.level c.args.from _ c.loop-i.invariant c.loop-i-test.true c.if-key-i.true

pub loop-i-preserved : goal.loop-i-preserved
loop-i-preserved c = none_more c.args.key.now c.args.level c.args.from _ c.loop-i.invariant c.if-key-i.false

pub returns : goal.returns
returns c = first-none c.args.key.now c.args.level c.args.from _ c.loop-i.invariant c.loop-i-test.false
