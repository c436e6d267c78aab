-- `list_rows::seek` meets its contract.
use Rattle.list_rows.proofs.Entries.{tree-keys, found_none, tried-is, found-valid, found-new}
use Rattle.list_rows.proofs.seek.Goals as goal

pub returns-then-key-tried : goal.returns-then-key-tried
returns-then-key-tried c = record { found = tried-is c.args.axes c.args.key.now c.args.own.now c.args.nodes.now c.args.spots.now c.requires c.args.k c.slot_of-slot.result c.slot_of-slot.ensures.below c.if-tried-key.true c.if-key-tried.true; table = c.requires.1 }

pub find_node-requires : goal.find_node-requires
find_node-requires c = (tree-keys c.args.axes c.args.key.now c.args.own.now c.requires.0).axes

pub returns-in_err-node : goal.returns-in_err-node
returns-in_err-node c = record { found = rw c.from_residual.ensures (found_none c.args.axes c.args.key.now c.args.own.now c.requires.0 c.args.k c.find_node.result c.find_node.ensures c.in_err-node.was); table = c.requires.1 }

pub place_of-place-requires : goal.place_of-place-requires
place_of-place-requires c = found-valid c.args.axes c.args.key.now c.args.own.now c.args.nodes.now c.args.spots.now c.requires c.args.k c.slot_of-slot.result c.slot_of-slot.ensures.below c.find_node.result c.find_node.ensures _ c.in_ok-node.was

pub returns : goal.returns
returns c = let all = found-new c.args.axes c.args.key.now c.args.own.now c.args.nodes.now c.args.spots.now c.requires c.args.k c.slot_of-slot.result c.slot_of-slot.ensures.below c.find_node.result c.find_node.ensures _ c.in_ok-node.was c.place_of-place.result c.place_of-place.ensures in record { found = all.0; table = all.1 }
