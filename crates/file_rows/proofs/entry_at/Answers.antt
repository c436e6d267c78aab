-- `file_rows::entry_at` meets its contract.
use native.Mathlib.Omega.{arith}
use Rattle.tree_file.specs.Trailer.{column_in}
use Rattle.file_rows.proofs.Read.{part_length, part_at}
use Rattle.file_rows.proofs.entry_at.Goals as goal

pub overflow_add-from : goal.overflow_add-from
overflow_add-from c = omega (arith, part_length (column_in c.args.file.now c.args.code) c.args.from c.args.to c.requires.from_le_to.0 c.requires.from_le_to.1, c.requires.from_le_to.2, c.well_formed.1.1.1.1.0)

pub key_of-requires : goal.key_of-requires
key_of-requires c = c.requires.sectioned

pub returns : goal.returns
returns c = part_at (column_in c.args.file.now c.args.code) c.args.from c.args.to c.requires.from_le_to.0 c.requires.from_le_to.1 c.args.i c.requires.from_le_to.2 _ c.key_of.ensures
