-- `listed::own_of` meets its contract.
use native.Mathlib.Omega.{arith}
use Rattle.near_work.proofs.Owned.{found_in, found-own, found_nothing}
use Rattle.near_work.proofs.listed.own_of.Goals as goal

pub find_node-found-requires : goal.find_node-found-requires
find_node-found-requires c = c.requires.axes

pub offset_bounds-own-node : goal.offset_bounds-own-node
offset_bounds-own-node c = omega (arith, c.well_formed.1.0, found_in c.args.axes c.args.key.now c.args.own.now c.requires c.args.k c.find_node-found.result c.find_node-found.ensures _ c.in-Some.is)

pub bounds-own-node : goal.bounds-own-node
bounds-own-node c = found_in c.args.axes c.args.key.now c.args.own.now c.requires c.args.k c.find_node-found.result c.find_node-found.ensures _ c.in-Some.is

pub returns-in-Some : goal.returns-in-Some
returns-in-Some c = found-own c.args.axes c.args.key.now c.args.own.now c.requires c.args.k c.find_node-found.result c.find_node-found.ensures _ c.in-Some.is

pub returns-in-None : goal.returns-in-None
returns-in-None c = found_nothing c.args.axes c.args.key.now c.args.own.now c.requires c.args.k c.find_node-found.result c.find_node-found.ensures c.in-None.is
