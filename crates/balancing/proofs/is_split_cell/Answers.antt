-- `balancing::is_split_cell` meets its contract.
use Rattle.leaf_points.proofs.OneKey.{found_at}
use Rattle.balancing.proofs.Splits.{split-found, split-nowhere}
use Rattle.balancing.proofs.is_split_cell.Goals as goal

pub find_node-found-requires : goal.find_node-found-requires
find_node-found-requires c = c.requires.axes

pub is_split-requires : goal.is_split-requires
is_split-requires c = (c.requires, (found_at c.args.axes c.args.key.now c.args.r c.find_node-found.result c.find_node-found.ensures _ c.in-Some.is).0)

pub returns-in-Some : goal.returns-in-Some
returns-in-Some c = split-found c.args.axes c.args.key.now c.requires c.args.r c.find_node-found.result c.find_node-found.ensures _ c.in-Some.is _ c.is_split.ensures

pub returns-in-None : goal.returns-in-None
returns-in-None c = split-nowhere c.args.axes c.args.key.now c.requires c.args.r c.find_node-found.result c.find_node-found.ensures c.in-None.is
