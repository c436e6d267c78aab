-- `file_rows::seek` meets its contract.
use Rattle.tree_file.specs.Trailer.{column_in}
use Rattle.file_rows.proofs.Read.{sought-none, sought-valid, sought-at}
use Rattle.file_rows.proofs.seek.Goals as goal

pub find_node-requires : goal.find_node-requires
find_node-requires c = c.requires.0

pub returns-in_err-node : goal.returns-in_err-node
returns-in_err-node c = rw c.from_residual.ensures (sought-none c.args.s.axes (column_in c.args.file.now 1) (column_in c.args.file.now 2) (column_in c.args.file.now 4) c.requires.1 c.args.k c.find_node.result c.find_node.ensures c.in_err-node.was)

pub place_of-place-requires : goal.place_of-place-requires
place_of-place-requires c = sought-valid c.args.s.axes (column_in c.args.file.now 1) (column_in c.args.file.now 2) (column_in c.args.file.now 4) c.requires.1 c.args.k c.find_node.result c.find_node.ensures _ c.in_ok-node.was

pub returns : goal.returns
returns c = sought-at c.args.s.axes (column_in c.args.file.now 1) c.args.k c.find_node.result c.find_node.ensures _ c.in_ok-node.was _ c.place_of-place.ensures
