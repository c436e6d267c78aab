-- The rows of the nodes before i stand, and after a turn those of one more.
use Prim.Native.Nat.{◌+◌, ◌<◌}
use mathlib.Core.Path.{refl}
use mathlib.Core.Bool.{true, false}
use native.Mathlib.Omega.{arith}
use lib.ListN.{length, set, length-set}
use Rattle.node_rows.specs.Rows.{list_row}
use Rattle.around.proofs.Nodes.{well}
use Rattle.lists.proofs.Pairs.{pair-begun, pair-most, pair-over, pair-more, pair-all}
use Rattle.node_rows.proofs.Roots.{root-u, root-v}
use Rattle.lists.proofs.fill_rows.Goals as goal

pub bounds-starts-0 : goal.bounds-starts-0
bounds-starts-0 c = omega (arith, c.requires.rows_room.0)

pub bounds-starts-1 : goal.bounds-starts-1
bounds-starts-1 c = omega (arith, c.requires.rows_room.0, (well _ _ _ c.requires.linked_tree.0.tree).some, length-set c.args.starts.now 0 0)

pub loop-i-init : goal.loop-i-init
loop-i-init c = (pair-begun (list_row c.args.axes c.args.key.now c.args.own.now false) (list_row c.args.axes c.args.key.now c.args.own.now true) c.args.key.now (root-u _ _ _ c.requires.linked_tree.0.tree) (root-v _ _ _ c.requires.linked_tree.0.tree) (well _ _ _ c.requires.linked_tree.0.tree).some c.args.starts.now c.args.u_keys.now c.args.v_keys.now (omega (arith, c.requires.rows_room.0, (well _ _ _ c.requires.linked_tree.0.tree).some)) c.requires.rows_room.2, c.requires.linked_tree.1)

pub put_node-sizes-requires : goal.put_node-sizes-requires
put_node-sizes-requires c = record { linked_tree = (c.requires.linked_tree.0, c.loop-i.auto.i, c.loop-i-test.true); ready_2 = c.loop-i.invariant.1 }

pub returns-then-u_keys-sizes : goal.returns-then-u_keys-sizes
returns-then-u_keys-sizes c = pair-over (list_row c.args.axes c.args.key.now c.args.own.now false) (list_row c.args.axes c.args.key.now c.args.own.now true) c.args.key.now _ _ _ _ _ _ _ _ _ _ c.loop-i.invariant.0 c.loop-i-test.true c.put_node-sizes.ensures.near c.put_node-sizes.ensures.far c.if-u_keys-sizes.true _

pub overflow_mul-starts : goal.overflow_mul-starts
overflow_mul-starts c = record { fits = omega (arith, c.if-u_keys-sizes.false, c.put_node-sizes.auto.u_keys, c.loop-i.auto.u_keys, c.requires.rows_room.1) }

pub overflow_add-starts : goal.overflow_add-starts
overflow_add-starts c = record { fits = omega (arith, c.if-u_keys-sizes.false, c.put_node-sizes.auto.u_keys, c.loop-i.auto.u_keys, c.requires.rows_room.1, (pair-most (list_row c.args.axes c.args.key.now c.args.own.now false) (list_row c.args.axes c.args.key.now c.args.own.now true) c.args.key.now _ _ _ _ _ _ _ _ _ _ c.loop-i.invariant.0 c.loop-i-test.true c.put_node-sizes.ensures.near c.put_node-sizes.ensures.far).1, c.put_node-sizes.auto.v_keys, c.loop-i.auto.v_keys, c.requires.rows_room.2) }

pub offset_bounds-starts-i : goal.offset_bounds-starts-i
offset_bounds-starts-i c = record { fits = omega (arith, c.well_formed.1.0, c.loop-i-test.true) }

pub bounds-starts-i : goal.bounds-starts-i
bounds-starts-i c = omega (arith, c.requires.rows_room.0, c.loop-i.auto.starts, c.loop-i-test.true, length-set (set c.args.starts.now 0 0) 1 0, length-set c.args.starts.now 0 0)

pub loop-i-preserved : goal.loop-i-preserved
loop-i-preserved c = let long : c.loop-i.i + 1 < length c.loop-i.starts = omega (arith, c.requires.rows_room.0, c.loop-i.auto.starts, c.loop-i-test.true, length-set (set c.args.starts.now 0 0) 1 0, length-set c.args.starts.now 0 0) in (pair-more (list_row c.args.axes c.args.key.now c.args.own.now false) (list_row c.args.axes c.args.key.now c.args.own.now true) c.args.key.now _ _ _ _ _ _ _ _ _ _ c.loop-i.invariant.0 c.loop-i-test.true c.put_node-sizes.ensures.near c.put_node-sizes.ensures.far c.put_node-sizes.auto.u_keys c.put_node-sizes.auto.v_keys (omega (arith, c.loop-i.auto.v_keys, c.requires.rows_room.2)) _ long refl, c.put_node-sizes.ensures.ready)

pub returns : goal.returns
returns c = pair-all (list_row c.args.axes c.args.key.now c.args.own.now false) (list_row c.args.axes c.args.key.now c.args.own.now true) c.args.key.now _ _ _ _ _ _ c.loop-i.invariant.0 c.loop-i-test.false
