-- The rows of the nodes before this one are right, and after a turn its own.
use Rattle.list_check.proofs.Path.{judge-start, below, level_in, above-small, judge-more, judge-fails, root-no-u, root-no-v, judge-done}
use Rattle.list_check.proofs.Starts.{start-in}
use Rattle.list_rows.proofs.Entries.{table-start, tree-keys}
use Rattle.tree.proofs.Rules.{facts}
use native.Mathlib.Omega.{arith}
use Rattle.list_check.proofs.rows_right.Goals as goal

pub bounds-u_starts-1 : goal.bounds-u_starts-1
bounds-u_starts-1 c = start-in c.args.key.now c.args.u_starts.now c.args.u_keys.now c.requires.1.near 0 (tree-keys c.args.axes c.args.key.now c.args.own.now c.requires.0.tree).some

pub returns-then-u_starts-ne0 : goal.returns-then-u_starts-ne0
returns-then-u_starts-ne0 c = λ r. c.if-u_starts-ne0.true (root-no-u c.args.axes c.args.key.now c.args.own.now c.args.total.now c.args.u_starts.now c.args.u_keys.now c.args.v_starts.now c.args.v_keys.now c.requires.0 c.requires.1 r)

pub bounds-v_starts-1 : goal.bounds-v_starts-1
bounds-v_starts-1 c = start-in c.args.key.now c.args.v_starts.now c.args.v_keys.now c.requires.1.far 0 (tree-keys c.args.axes c.args.key.now c.args.own.now c.requires.0.tree).some

pub returns-then-v_starts-ne0 : goal.returns-then-v_starts-ne0
returns-then-v_starts-ne0 c = λ r. c.if-v_starts-ne0.true (root-no-v c.args.axes c.args.key.now c.args.own.now c.args.total.now c.args.u_starts.now c.args.u_keys.now c.args.v_starts.now c.args.v_keys.now c.requires.0 c.requires.1 r)

pub loop-node-init : goal.loop-node-init
loop-node-init c = (table-start c.args.axes c.args.key.now (facts c.args.axes c.args.key.now c.args.own.now c.requires.0.tree.begin c.requires.0.tree.sound).ascending.root, judge-start c.args.axes c.args.key.now c.args.own.now c.args.total.now c.args.u_starts.now c.args.u_keys.now c.args.v_starts.now c.args.v_keys.now c.requires.0 c.requires.1 c.if-u_starts-ne0.false c.if-v_starts-ne0.false)

pub overflow_sub-above : goal.overflow_sub-above
overflow_sub-above c = (level_in c.args.axes c.args.key.now c.args.own.now c.args.total.now c.args.u_starts.now c.args.u_keys.now c.args.v_starts.now c.args.v_keys.now c.requires.0 c.requires.1 c.loop-node.far c.loop-node.node c.loop-node.invariant.1 c.loop-node-test.true).0

pub offset_bounds-far-level : goal.offset_bounds-far-level
offset_bounds-far-level c = omega (arith, (level_in c.args.axes c.args.key.now c.args.own.now c.args.total.now c.args.u_starts.now c.args.u_keys.now c.args.v_starts.now c.args.v_keys.now c.requires.0 c.requires.1 c.loop-node.far c.loop-node.node c.loop-node.invariant.1 c.loop-node-test.true).1, c.loop-node.invariant.1.rides.size)

pub bounds-far-level : goal.bounds-far-level
bounds-far-level c = omega (arith, (level_in c.args.axes c.args.key.now c.args.own.now c.args.total.now c.args.u_starts.now c.args.u_keys.now c.args.v_starts.now c.args.v_keys.now c.requires.0 c.requires.1 c.loop-node.far c.loop-node.node c.loop-node.invariant.1 c.loop-node-test.true).1, c.loop-node.invariant.1.rides.size)

pub node_sources-says-requires : goal.node_sources-says-requires
node_sources-says-requires c = record { counted = (c.requires.0, c.loop-node.invariant.0, c.requires.1); below = (below c.args.axes c.args.key.now c.args.own.now c.args.total.now c.args.u_starts.now c.args.u_keys.now c.args.v_starts.now c.args.v_keys.now c.requires.0 c.requires.1 c.loop-node.far c.loop-node.node c.loop-node.invariant.1 c.loop-node-test.true, above-small c.args.axes c.args.key.now c.args.own.now c.args.total.now c.args.u_starts.now c.args.u_keys.now c.args.v_starts.now c.args.v_keys.now c.requires.0 c.requires.1 c.loop-node.far c.loop-node.node c.loop-node.invariant.1 c.loop-node-test.true) }

pub returns-in_default : goal.returns-in_default
returns-in_default c = λ r. judge-fails c.args.axes c.args.key.now c.args.own.now c.args.total.now c.args.u_starts.now c.args.u_keys.now c.args.v_starts.now c.args.v_keys.now c.requires.0 c.requires.1 r c.loop-node.far c.loop-node.node c.loop-node.invariant.1 c.loop-node-test.true c.node_sources-says.result c.node_sources-says.ensures.says c.in_default.is

pub offset_bounds-far-level-in-loop-node : goal.offset_bounds-far-level-in-loop-node
offset_bounds-far-level-in-loop-node c = omega (arith, (level_in c.args.axes c.args.key.now c.args.own.now c.args.total.now c.args.u_starts.now c.args.u_keys.now c.args.v_starts.now c.args.v_keys.now c.requires.0 c.requires.1 c.loop-node.far c.loop-node.node c.loop-node.invariant.1 c.loop-node-test.true).1, c.loop-node.invariant.1.rides.size)

pub bounds-far-level-in-loop-node : goal.bounds-far-level-in-loop-node
bounds-far-level-in-loop-node c = omega (arith, (level_in c.args.axes c.args.key.now c.args.own.now c.args.total.now c.args.u_starts.now c.args.u_keys.now c.args.v_starts.now c.args.v_keys.now c.requires.0 c.requires.1 c.loop-node.far c.loop-node.node c.loop-node.invariant.1 c.loop-node-test.true).1, c.loop-node.invariant.1.rides.size)

pub loop-node-preserved : goal.loop-node-preserved
loop-node-preserved c = (c.node_sources-says.ensures.table, judge-more c.args.axes c.args.key.now c.args.own.now c.args.total.now c.args.u_starts.now c.args.u_keys.now c.args.v_starts.now c.args.v_keys.now c.requires.0 c.requires.1 c.loop-node.far c.loop-node.node c.loop-node.invariant.1 c.loop-node-test.true c.node_sources-says.result c.node_sources-says.ensures.says _ c.in-Some.is)

pub returns : goal.returns
returns c = judge-done c.args.axes c.args.key.now c.args.own.now c.args.total.now c.args.u_starts.now c.args.u_keys.now c.args.v_starts.now c.args.v_keys.now c.requires.0 c.requires.1 c.loop-node.far c.loop-node.node c.loop-node.invariant.1 c.loop-node-test.false c.if-u_starts-ne0.false c.if-v_starts-ne0.false
