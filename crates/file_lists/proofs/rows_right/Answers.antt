-- `file_lists::rows_right` meets its contract.
use native.Mathlib.Omega.{arith}
use mathlib.Core.Path.{refl}
use Rattle.tree_file.specs.Trailer.{column_in}
use Rattle.file_lists.proofs.Read.{u-none, v-none, start, done, below, level_in, above-small, fails, more}
use Rattle.file_lists.proofs.rows_right.Goals as goal

pub number_of-first_u-requires : goal.number_of-first_u-requires
number_of-first_u-requires c = (c.requires.0, omega arith, omega arith, refl)

pub returns-then-first_u-ne0 : goal.returns-then-first_u-ne0
returns-then-first_u-ne0 c = u-none c.args.s.axes (column_in c.args.file.now 1) (column_in c.args.file.now 2) (column_in c.args.file.now 4) (column_in c.args.file.now 6) (column_in c.args.file.now 7) (column_in c.args.file.now 8) (column_in c.args.file.now 9) c.requires.1 c.requires.2 _ c.number_of-first_u.ensures c.if-first_u-ne0.true

pub number_of-first_v-requires : goal.number_of-first_v-requires
number_of-first_v-requires c = (c.requires.0, omega arith, omega arith, refl)

pub returns-then-first_v-ne0 : goal.returns-then-first_v-ne0
returns-then-first_v-ne0 c = v-none c.args.s.axes (column_in c.args.file.now 1) (column_in c.args.file.now 2) (column_in c.args.file.now 4) (column_in c.args.file.now 6) (column_in c.args.file.now 7) (column_in c.args.file.now 8) (column_in c.args.file.now 9) c.requires.1 c.requires.2 _ c.number_of-first_v.ensures c.if-first_v-ne0.true

pub count_of-n-requires : goal.count_of-n-requires
count_of-n-requires c = (c.requires.0, omega arith, omega arith)

pub loop-node-init : goal.loop-node-init
loop-node-init c = start c.args.s.axes (column_in c.args.file.now 1) (column_in c.args.file.now 2) (column_in c.args.file.now 4) (column_in c.args.file.now 6) (column_in c.args.file.now 7) (column_in c.args.file.now 8) (column_in c.args.file.now 9) c.requires.1 c.requires.2 c.number_of-first_u.result c.number_of-first_v.result c.number_of-first_u.ensures c.number_of-first_v.ensures c.if-first_u-ne0.false c.if-first_v-ne0.false

pub key_of-k-requires : goal.key_of-k-requires
key_of-k-requires c = (c.requires.0, omega arith, omega arith, refl)

pub overflow_sub-above : goal.overflow_sub-above
overflow_sub-above c = (level_in c.args.s.axes (column_in c.args.file.now 1) (column_in c.args.file.now 2) (column_in c.args.file.now 4) (column_in c.args.file.now 6) (column_in c.args.file.now 7) (column_in c.args.file.now 8) (column_in c.args.file.now 9) c.requires.1 c.requires.2 c.loop-node.far c.loop-node.node c.loop-node.invariant (omega (arith, c.loop-node-test.true, c.count_of-n.ensures)) c.key_of-k.result c.key_of-k.ensures).0

pub offset_bounds-far-level : goal.offset_bounds-far-level
offset_bounds-far-level c = omega (arith, (level_in c.args.s.axes (column_in c.args.file.now 1) (column_in c.args.file.now 2) (column_in c.args.file.now 4) (column_in c.args.file.now 6) (column_in c.args.file.now 7) (column_in c.args.file.now 8) (column_in c.args.file.now 9) c.requires.1 c.requires.2 c.loop-node.far c.loop-node.node c.loop-node.invariant (omega (arith, c.loop-node-test.true, c.count_of-n.ensures)) c.key_of-k.result c.key_of-k.ensures).1)

pub bounds-far-level : goal.bounds-far-level
bounds-far-level c = omega (arith, (level_in c.args.s.axes (column_in c.args.file.now 1) (column_in c.args.file.now 2) (column_in c.args.file.now 4) (column_in c.args.file.now 6) (column_in c.args.file.now 7) (column_in c.args.file.now 8) (column_in c.args.file.now 9) c.requires.1 c.requires.2 c.loop-node.far c.loop-node.node c.loop-node.invariant (omega (arith, c.loop-node-test.true, c.count_of-n.ensures)) c.key_of-k.result c.key_of-k.ensures).1, c.loop-node.invariant.rides.size)

pub node_sources-requires : goal.node_sources-requires
node_sources-requires c = record { sectioned = (c.requires.0, c.requires.1, c.requires.2); below = (below c.args.s.axes (column_in c.args.file.now 1) (column_in c.args.file.now 2) (column_in c.args.file.now 4) (column_in c.args.file.now 6) (column_in c.args.file.now 7) (column_in c.args.file.now 8) (column_in c.args.file.now 9) c.requires.1 c.requires.2 c.loop-node.far c.loop-node.node c.loop-node.invariant (omega (arith, c.loop-node-test.true, c.count_of-n.ensures)) c.key_of-k.result c.key_of-k.ensures, above-small c.args.s.axes (column_in c.args.file.now 1) (column_in c.args.file.now 2) (column_in c.args.file.now 4) (column_in c.args.file.now 6) (column_in c.args.file.now 7) (column_in c.args.file.now 8) (column_in c.args.file.now 9) c.requires.1 c.requires.2 c.loop-node.far c.loop-node.node c.loop-node.invariant (omega (arith, c.loop-node-test.true, c.count_of-n.ensures)) c.key_of-k.result c.key_of-k.ensures) }

pub returns-in_default : goal.returns-in_default
returns-in_default c = fails c.args.s.axes (column_in c.args.file.now 1) (column_in c.args.file.now 2) (column_in c.args.file.now 4) (column_in c.args.file.now 6) (column_in c.args.file.now 7) (column_in c.args.file.now 8) (column_in c.args.file.now 9) c.requires.1 c.requires.2 c.loop-node.far c.loop-node.node c.loop-node.invariant (omega (arith, c.loop-node-test.true, c.count_of-n.ensures)) c.key_of-k.result c.key_of-k.ensures c.node_sources.result c.node_sources.ensures c.in_default.is

pub offset_bounds-far-level-in-loop-node : goal.offset_bounds-far-level-in-loop-node
offset_bounds-far-level-in-loop-node c = omega (arith, (level_in c.args.s.axes (column_in c.args.file.now 1) (column_in c.args.file.now 2) (column_in c.args.file.now 4) (column_in c.args.file.now 6) (column_in c.args.file.now 7) (column_in c.args.file.now 8) (column_in c.args.file.now 9) c.requires.1 c.requires.2 c.loop-node.far c.loop-node.node c.loop-node.invariant (omega (arith, c.loop-node-test.true, c.count_of-n.ensures)) c.key_of-k.result c.key_of-k.ensures).1)

pub bounds-far-level-in-loop-node : goal.bounds-far-level-in-loop-node
bounds-far-level-in-loop-node c = omega (arith, (level_in c.args.s.axes (column_in c.args.file.now 1) (column_in c.args.file.now 2) (column_in c.args.file.now 4) (column_in c.args.file.now 6) (column_in c.args.file.now 7) (column_in c.args.file.now 8) (column_in c.args.file.now 9) c.requires.1 c.requires.2 c.loop-node.far c.loop-node.node c.loop-node.invariant (omega (arith, c.loop-node-test.true, c.count_of-n.ensures)) c.key_of-k.result c.key_of-k.ensures).1, c.loop-node.invariant.rides.size)

pub loop-node-preserved : goal.loop-node-preserved
loop-node-preserved c = more c.args.s.axes (column_in c.args.file.now 1) (column_in c.args.file.now 2) (column_in c.args.file.now 4) (column_in c.args.file.now 6) (column_in c.args.file.now 7) (column_in c.args.file.now 8) (column_in c.args.file.now 9) c.requires.1 c.requires.2 c.loop-node.far c.loop-node.node c.loop-node.invariant (omega (arith, c.loop-node-test.true, c.count_of-n.ensures)) c.key_of-k.result c.key_of-k.ensures c.node_sources.result c.node_sources.ensures _ c.in-Some.is

pub returns : goal.returns
returns c = done c.args.s.axes (column_in c.args.file.now 1) (column_in c.args.file.now 2) (column_in c.args.file.now 4) (column_in c.args.file.now 6) (column_in c.args.file.now 7) (column_in c.args.file.now 8) (column_in c.args.file.now 9) c.requires.1 c.requires.2 c.number_of-first_u.result c.number_of-first_v.result c.number_of-first_u.ensures c.number_of-first_v.ensures c.if-first_u-ne0.false c.if-first_v-ne0.false c.loop-node.far c.loop-node.node c.loop-node.invariant (omega (arith, c.loop-node-test.false, c.count_of-n.ensures))
