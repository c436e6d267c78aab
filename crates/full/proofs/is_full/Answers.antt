-- `full::is_full` meets its contract.
use mathlib.Core.Path.{sym, ◌∙◌}
use native.Mathlib.Omega.{arith}
use Rattle.full.specs.Full.{has_children}
use Rattle.full.proofs.Counting.{passed_start, passed-one, passed_none, passed-all, not-whole, by_count}
use Rattle.full.proofs.is_full.Goals as goal
use Rattle.full.proofs.is_full.Goals.{then-has_children, else-has_children}

pub loop-node-init : goal.loop-node-init
loop-node-init c = passed_start (has_children c.args.axes c.args.key.now) c.args.key.now

pub overflow_add-split : goal.overflow_add-split
overflow_add-split c = omega (arith, c.loop-node.invariant.few, c.loop-node-test.true)

pub loop-node-preserved : goal.loop-node-preserved
loop-node-preserved c =
    elim c.if-has_children.branch [
      | then-has_children w ↦ rw w.split-is (passed-one (has_children c.args.axes c.args.key.now) c.args.key.now c.loop-node.split c.loop-node.node c.loop-node.invariant c.loop-node-test.true (sym c.has_children.ensures ∙ w.if-has_children.true))
      | else-has_children w ↦ rw w.split-is (passed_none (has_children c.args.axes c.args.key.now) c.args.key.now c.loop-node.split c.loop-node.node c.loop-node.invariant c.loop-node-test.true (sym c.has_children.ensures ∙ w.if-has_children.false))
    ]

pub overflow_sub-rest : goal.overflow_sub-rest
overflow_sub-rest c = omega (arith, c.requires.some)

pub returns-then-rest-fan-ne0 : goal.returns-then-rest-fan-ne0
returns-then-rest-fan-ne0 c = not-whole c.args.axes c.args.key.now c.requires c.children_of-fan.result c.children_of-fan.ensures c.loop-node.split (passed-all (has_children c.args.axes c.args.key.now) c.args.key.now c.loop-node.split c.loop-node.node c.loop-node.invariant c.loop-node-test.false) c.if-rest-fan-ne0.true

pub returns : goal.returns
returns c = by_count c.args.axes c.args.key.now c.requires c.children_of-fan.result c.children_of-fan.ensures c.loop-node.split (passed-all (has_children c.args.axes c.args.key.now) c.args.key.now c.loop-node.split c.loop-node.node c.loop-node.invariant c.loop-node-test.false) c.if-rest-fan-ne0.false
