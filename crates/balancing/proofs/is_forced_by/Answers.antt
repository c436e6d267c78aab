-- `balancing::is_forced_by` meets its contract.
use borrow.Author.Tests.{not-true}
use Rattle.leaf_points.proofs.OneKey.{found_at}
use Rattle.balancing.proofs.Forced.{run-found, forced-leaf, forced-found, forced-nowhere}
use Rattle.balancing.proofs.is_forced_by.Goals as goal

pub find_node-found-requires : goal.find_node-found-requires
find_node-found-requires c = c.requires.0.axes

pub is_split-requires : goal.is_split-requires
is_split-requires c = (c.requires.0, (found_at c.args.axes c.args.key.now c.args.c c.find_node-found.result c.find_node-found.ensures _ c.in-Some.is).0)

pub returns-then-not-is_split : goal.returns-then-not-is_split
returns-then-not-is_split c = forced-leaf c.args.axes c.args.key.now c.requires.0 c.args.r c.args.c c.find_node-found.result c.find_node-found.ensures _ c.in-Some.is _ c.is_split.ensures (c.if-not-is_split.true)

pub end_of-end-requires : goal.end_of-end-requires
end_of-end-requires c = (c.requires.0, (found_at c.args.axes c.args.key.now c.args.c c.find_node-found.result c.find_node-found.ensures _ c.in-Some.is).0)

pub split_among-requires : goal.split_among-requires
split_among-requires c = let w = run-found c.args.axes c.args.key.now c.requires.0 c.args.r c.args.c c.find_node-found.result c.find_node-found.ensures _ c.in-Some.is _ c.end_of-end.ensures in
    (c.requires.0, c.requires.1, c.requires.2, w.0, w.1)

pub returns-else-not-is_split : goal.returns-else-not-is_split
returns-else-not-is_split c = forced-found c.args.axes c.args.key.now c.requires.0 c.args.r c.args.c c.find_node-found.result c.find_node-found.ensures _ c.in-Some.is _ c.end_of-end.ensures _ c.split_among.ensures

pub returns-in-None : goal.returns-in-None
returns-in-None c = forced-nowhere c.args.axes c.args.key.now c.requires.0 c.args.r c.args.c c.find_node-found.result c.find_node-found.ensures c.in-None.is
