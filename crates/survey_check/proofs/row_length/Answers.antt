-- `survey_check::row_length` meets its contract.
use Rattle.list_check.proofs.Starts.{start-in, part_up}
use Rattle.survey_check.proofs.Lengths.{row-length}
use native.Mathlib.Omega.{arith}
use Rattle.survey_check.proofs.row_length.Goals as goal

pub overflow_add-result : goal.overflow_add-result
overflow_add-result c = omega (arith, start-in c.args.key.now c.args.starts.now c.args.flat.now c.requires.0 c.args.node c.requires.1, c.well_formed.1.0)

pub offset_bounds-starts-node : goal.offset_bounds-starts-node
offset_bounds-starts-node c = omega (arith, start-in c.args.key.now c.args.starts.now c.args.flat.now c.requires.0 c.args.node c.requires.1, c.well_formed.1.0)

pub bounds-starts-node : goal.bounds-starts-node
bounds-starts-node c = start-in c.args.key.now c.args.starts.now c.args.flat.now c.requires.0 c.args.node c.requires.1

pub offset_bounds-starts-node-2 : goal.offset_bounds-starts-node-2
offset_bounds-starts-node-2 c = omega (arith, start-in c.args.key.now c.args.starts.now c.args.flat.now c.requires.0 c.args.node c.requires.1, c.well_formed.1.0)

pub bounds-starts-node-2 : goal.bounds-starts-node-2
bounds-starts-node-2 c = omega (arith, start-in c.args.key.now c.args.starts.now c.args.flat.now c.requires.0 c.args.node c.requires.1)

pub overflow_sub-result : goal.overflow_sub-result
overflow_sub-result c = part_up c.args.key.now c.args.starts.now c.args.flat.now c.requires.0 c.args.node c.requires.1

pub returns : goal.returns
returns c = row-length c.args.key.now c.args.starts.now c.args.flat.now c.requires.0 c.args.node c.requires.1
