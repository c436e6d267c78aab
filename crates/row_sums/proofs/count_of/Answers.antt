-- `row_sums::count_of` meets its contract.
use Rattle.row_sums.proofs.Counting.{count-in, count-is, count_none}
use native.Mathlib.Omega.{arith}
use Rattle.row_sums.proofs.count_of.Goals as goal

pub find_node-found-requires : goal.find_node-found-requires
find_node-found-requires c = c.requires.axes

pub offset_bounds-count-node : goal.offset_bounds-count-node
offset_bounds-count-node c = omega (arith, count-in c.args.axes c.args.key.now c.args.count.now c.requires c.args.k c.find_node-found.result c.find_node-found.ensures _ c.in-Some.is, c.well_formed.1.1.0)

pub bounds-count-node : goal.bounds-count-node
bounds-count-node c = count-in c.args.axes c.args.key.now c.args.count.now c.requires c.args.k c.find_node-found.result c.find_node-found.ensures _ c.in-Some.is

pub returns-in-Some : goal.returns-in-Some
returns-in-Some c = count-is c.args.axes c.args.key.now c.args.count.now c.requires c.args.k c.find_node-found.result c.find_node-found.ensures _ c.in-Some.is

pub returns-in-None : goal.returns-in-None
returns-in-None c = count_none c.args.axes c.args.key.now c.args.count.now c.requires c.args.k c.find_node-found.result c.find_node-found.ensures c.in-None.is
