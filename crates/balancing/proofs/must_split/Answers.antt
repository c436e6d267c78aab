-- `balancing::must_split` meets its contract: the neighbours that are still to come tell what all tell.
use Rattle.balancing.proofs.Forced.{must-split, looked-none, looked-hit, looked-more, looked-all}
use Rattle.balancing.proofs.must_split.Goals as goal

pub returns-then-is_split_cell : goal.returns-then-is_split_cell
returns-then-is_split_cell c = must-split c.args.axes c.args.key.now c.requires.0 c.args.r c.requires.1 _ c.is_split_cell.ensures c.if-is_split_cell.true

pub loop-i-init : goal.loop-i-init
loop-i-init c = looked-none c.args.axes c.args.key.now c.requires.0 c.args.r c.requires.1 _ c.list_neighbours-list.ensures _ c.is_split_cell.ensures c.if-is_split_cell.false

pub returns-then-is_forced_by : goal.returns-then-is_forced_by
returns-then-is_forced_by c = looked-hit c.args.axes c.args.key.now c.requires.0 c.args.r c.requires.1 _ _ _ c.loop-i.invariant c.loop-i-test.true _ c.is_forced_by.ensures c.if-is_forced_by.true

pub loop-i-preserved : goal.loop-i-preserved
loop-i-preserved c = looked-more c.args.axes c.args.key.now c.requires.0 c.args.r c.requires.1 _ _ _ c.loop-i.invariant c.loop-i-test.true _ c.is_forced_by.ensures c.if-is_forced_by.false

pub returns : goal.returns
returns c = looked-all c.args.axes c.args.key.now c.requires.0 c.args.r c.requires.1 _ _ _ c.loop-i.invariant c.loop-i-test.false
