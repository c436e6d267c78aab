-- `file_rows::is_taken` meets its contract.
use Rattle.tree_file.specs.Trailer.{column_in}
use Rattle.list_rows.proofs.Entries.{taken-far, taken-near}
use Rattle.file_rows.proofs.is_taken.Goals as goal

pub takes_far-requires : goal.takes_far-requires
takes_far-requires c = record { sectioned = c.requires.sectioned; counted = c.requires.counted }

pub returns-then-far : goal.returns-then-far
returns-then-far c = taken-far c.args.s.axes (column_in c.args.file.now 1) (column_in c.args.file.now 2) (column_in c.args.file.now 4) c.args.row c.args.node c.args.place c.requires.counted c.args.far c.if-far.true _ c.takes_far.ensures

pub takes_near-requires : goal.takes_near-requires
takes_near-requires c = record { sectioned = c.requires.sectioned; counted = c.requires.counted }

pub returns : goal.returns
returns c = taken-near c.args.s.axes (column_in c.args.file.now 1) (column_in c.args.file.now 2) (column_in c.args.file.now 4) c.args.row c.args.node c.args.place c.requires.counted c.args.far c.if-far.false _ c.takes_near.ensures
