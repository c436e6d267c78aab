-- `file_lists::node_sources` meets its contract.
use Rattle.tree_file.specs.Trailer.{column_in}
use Rattle.sums.proofs.Tells.{tell-true, tell-false}
use Rattle.list_check.proofs.Nodes.{node-lost, met-small, node-says, node-fails}
use Rattle.file_lists.proofs.node_sources.Goals as goal

pub row_of-row-requires : goal.row_of-row-requires
row_of-row-requires c = (c.requires.sectioned.0, c.requires.sectioned.1, c.requires.below.0)

pub far_sources-requires : goal.far_sources-requires
far_sources-requires c = record { sectioned = (c.requires.sectioned.0, c.requires.sectioned.1, c.requires.sectioned.2.far); below = (c.requires.below.0, c.row_of-row.ensures.cell, c.row_of-row.ensures.key, c.requires.below.1) }

pub returns-in_err-met : goal.returns-in_err-met
returns-in_err-met c = rw c.from_residual.ensures (node-lost c.args.s.axes (column_in c.args.file.now 1) (column_in c.args.file.now 2) (column_in c.args.file.now 4) (column_in c.args.file.now 6) (column_in c.args.file.now 7) (column_in c.args.file.now 8) (column_in c.args.file.now 9) c.args.node c.args.above c.far_sources.result c.far_sources.ensures c.in_err-met.was)

pub near_right-requires : goal.near_right-requires
near_right-requires c = record { sectioned = (c.requires.sectioned.0, c.requires.sectioned.1, c.requires.sectioned.2.near); below = (c.requires.below.0, c.row_of-row.ensures.cell, c.row_of-row.ensures.key, met-small c.args.s.axes (column_in c.args.file.now 1) (column_in c.args.file.now 2) (column_in c.args.file.now 4) (column_in c.args.file.now 6) (column_in c.args.file.now 7) (column_in c.args.file.now 8) (column_in c.args.file.now 9) c.args.node c.args.above c.far_sources.result c.far_sources.ensures _ c.in_ok-met.was) }

pub returns-then-near_right : goal.returns-then-near_right
returns-then-near_right c = node-says c.args.s.axes (column_in c.args.file.now 1) (column_in c.args.file.now 2) (column_in c.args.file.now 4) (column_in c.args.file.now 6) (column_in c.args.file.now 7) (column_in c.args.file.now 8) (column_in c.args.file.now 9) c.args.node c.args.above c.far_sources.result c.far_sources.ensures _ c.in_ok-met.was (tell-true c.near_right.result c.near_right.ensures c.if-near_right.true)

pub returns : goal.returns
returns c = node-fails c.args.s.axes (column_in c.args.file.now 1) (column_in c.args.file.now 2) (column_in c.args.file.now 4) (column_in c.args.file.now 6) (column_in c.args.file.now 7) (column_in c.args.file.now 8) (column_in c.args.file.now 9) c.args.node c.args.above c.far_sources.result c.far_sources.ensures _ c.in_ok-met.was (tell-false c.near_right.result c.near_right.ensures c.if-near_right.false)
