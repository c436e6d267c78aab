-- `list_check::node_sources` meets its contract.
use Rattle.list_check.proofs.Nodes.{node-lost, met-small, node-says, node-fails}
use Rattle.sums.proofs.Tells.{tell-true, tell-false}
use Rattle.list_check.proofs.node_sources.Goals as goal

pub row_of-row-requires : goal.row_of-row-requires
row_of-row-requires c = (c.requires.counted.0.tree, c.requires.below.0)

pub far_sources-requires : goal.far_sources-requires
far_sources-requires c = record { counted = (c.requires.counted.0, c.requires.counted.1, c.requires.counted.2.far); below = (c.requires.below.0, c.row_of-row.ensures.cell, c.row_of-row.ensures.key, c.requires.below.1) }

pub returns-in_err-met : goal.returns-in_err-met
returns-in_err-met c = record { says = rw c.from_residual.ensures (node-lost c.args.axes c.args.key.now c.args.own.now c.args.total.now c.args.u_starts.now c.args.u_keys.now c.args.v_starts.now c.args.v_keys.now c.args.node c.args.above c.far_sources.result c.far_sources.ensures.says c.in_err-met.was); table = c.far_sources.ensures.table }

pub near_right-requires : goal.near_right-requires
near_right-requires c = record { counted = (c.requires.counted.0, c.far_sources.ensures.table, c.requires.counted.2.near); below = (c.requires.below.0, c.row_of-row.ensures.cell, c.row_of-row.ensures.key, met-small c.args.axes c.args.key.now c.args.own.now c.args.total.now c.args.u_starts.now c.args.u_keys.now c.args.v_starts.now c.args.v_keys.now c.args.node c.args.above c.far_sources.result c.far_sources.ensures.says _ c.in_ok-met.was) }

pub returns-then-near_right : goal.returns-then-near_right
returns-then-near_right c = record { says = node-says c.args.axes c.args.key.now c.args.own.now c.args.total.now c.args.u_starts.now c.args.u_keys.now c.args.v_starts.now c.args.v_keys.now c.args.node c.args.above c.far_sources.result c.far_sources.ensures.says _ c.in_ok-met.was (tell-true c.near_right.result c.near_right.ensures.tells c.if-near_right.true); table = c.near_right.ensures.table }

pub returns : goal.returns
returns c = record { says = node-fails c.args.axes c.args.key.now c.args.own.now c.args.total.now c.args.u_starts.now c.args.u_keys.now c.args.v_starts.now c.args.v_keys.now c.args.node c.args.above c.far_sources.result c.far_sources.ensures.says _ c.in_ok-met.was (tell-false c.near_right.result c.near_right.ensures.tells c.if-near_right.false); table = c.near_right.ensures.table }
