-- Each row is put into room for it, so that its count is its length.
use native.Mathlib.Omega.{arith}
use lib.ListN.{get_or}
use Rattle.around.proofs.Nodes.{well}
use Rattle.rows.specs.Lists.{u_row, v_row}
use Rattle.node_rows.proofs.Roots.{root-u, root-v}
use Rattle.list_sizes.proofs.Counts.{counted_none, counted-more, counted-all, row_count, u_short, v_short}
use Rattle.list_sizes.proofs.count_rows.Goals as goal

pub loop-i-init : goal.loop-i-init
loop-i-init c = let w = (well c.args.axes c.args.key.now c.args.own.now c.requires.linked_tree.0.tree).some in (counted_none (u_row c.args.axes c.args.key.now c.args.own.now) c.args.key.now (root-u _ _ _ c.requires.linked_tree.0.tree) w, counted_none (v_row c.args.axes c.args.key.now c.args.own.now) c.args.key.now (root-v _ _ _ c.requires.linked_tree.0.tree) w, c.requires.linked_tree.1)

pub put_node-sizes-requires : goal.put_node-sizes-requires
put_node-sizes-requires c = record { linked_tree = (c.requires.linked_tree.0, c.loop-i.auto.i, c.loop-i-test.true); ready_2 = c.loop-i.invariant.2 }

pub loop-i-preserved : goal.loop-i-preserved
loop-i-preserved c = let k = get_or c.args.key.now c.loop-i.i 0 in (
  counted-more (u_row c.args.axes c.args.key.now c.args.own.now) c.args.key.now c.loop-i.i _ _ _ c.loop-i-test.true c.loop-i.invariant.0 (row_count _ _ (u_row c.args.axes c.args.key.now c.args.own.now k) _ c.put_node-sizes.ensures.near c.put_node-sizes.auto.u_keys (omega (arith, u_short c.args.axes c.args.key.now c.args.own.now k, c.loop-i.auto.row, c.requires.key_in_bounds.0))) c.more-u.ensures,
  counted-more (v_row c.args.axes c.args.key.now c.args.own.now) c.args.key.now c.loop-i.i _ _ _ c.loop-i-test.true c.loop-i.invariant.1 (row_count _ _ (v_row c.args.axes c.args.key.now c.args.own.now k) _ c.put_node-sizes.ensures.far c.put_node-sizes.auto.v_keys (omega (arith, v_short c.args.axes c.args.key.now c.args.own.now c.requires.linked_tree.0.tree c.loop-i.i c.loop-i-test.true, c.loop-i.auto.far, c.requires.key_in_bounds.1))) c.more-v.ensures,
  c.put_node-sizes.ensures.ready,
)

pub returns : goal.returns
returns c = (counted-all (u_row c.args.axes c.args.key.now c.args.own.now) c.args.key.now _ _ c.loop-i.invariant.0 c.loop-i-test.false, counted-all (v_row c.args.axes c.args.key.now c.args.own.now) c.args.key.now _ _ c.loop-i.invariant.1 c.loop-i-test.false)
