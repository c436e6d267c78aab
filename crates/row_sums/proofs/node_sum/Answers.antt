-- `row_sums::node_sum` meets its contract.
use Rattle.row_sums.proofs.Found.{in_begin, in_count, node-run, node-is, none_is}
use native.Mathlib.Omega.{arith}
use Rattle.row_sums.proofs.node_sum.Goals as goal

pub find_node-found-requires : goal.find_node-found-requires
find_node-found-requires c = c.requires.0.axes

pub offset_bounds-begin-node : goal.offset_bounds-begin-node
offset_bounds-begin-node c = omega (arith, in_begin c.args.axes c.args.key.now c.args.count.now c.args.begin.now c.args.indices.now c.args.readings.now c.requires.0 c.requires.1 c.args.k c.find_node-found.result c.find_node-found.ensures _ c.in-Some.is, c.well_formed.1.1.1.0)

pub bounds-begin-node : goal.bounds-begin-node
bounds-begin-node c = in_begin c.args.axes c.args.key.now c.args.count.now c.args.begin.now c.args.indices.now c.args.readings.now c.requires.0 c.requires.1 c.args.k c.find_node-found.result c.find_node-found.ensures _ c.in-Some.is

pub offset_bounds-count-node : goal.offset_bounds-count-node
offset_bounds-count-node c = omega (arith, in_count c.args.axes c.args.key.now c.args.count.now c.args.begin.now c.args.indices.now c.args.readings.now c.requires.0 c.requires.1 c.args.k c.find_node-found.result c.find_node-found.ensures _ c.in-Some.is, c.well_formed.1.1.0)

pub bounds-count-node : goal.bounds-count-node
bounds-count-node c = in_count c.args.axes c.args.key.now c.args.count.now c.args.begin.now c.args.indices.now c.args.readings.now c.requires.0 c.requires.1 c.args.k c.find_node-found.result c.find_node-found.ensures _ c.in-Some.is

pub run_sum-requires : goal.run_sum-requires
run_sum-requires c = node-run c.args.axes c.args.key.now c.args.count.now c.args.begin.now c.args.indices.now c.args.readings.now c.requires.0 c.requires.1 c.args.k c.find_node-found.result c.find_node-found.ensures _ c.in-Some.is c.requires.2

pub returns-in-Some : goal.returns-in-Some
returns-in-Some c = let all = node-is c.args.axes c.args.key.now c.args.count.now c.args.begin.now c.args.indices.now c.args.readings.now c.requires.0 c.requires.1 c.args.k c.find_node-found.result c.find_node-found.ensures _ c.in-Some.is c.requires.2 _ c.run_sum.ensures.sum c.run_sum.ensures.bounded in record { sum = all.0; bounded = all.1 }

pub returns-in-None : goal.returns-in-None
returns-in-None c = let all = none_is c.args.axes c.args.key.now c.args.count.now c.args.begin.now c.args.indices.now c.args.readings.now c.requires.0 c.requires.1 c.args.k c.find_node-found.result c.find_node-found.ensures c.in-None.is in record { sum = all.0; bounded = all.1 }
