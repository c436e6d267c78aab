-- `file_rows::rises_at` meets its contract.
use native.Mathlib.Omega.{arith}
use Rattle.tree_file.specs.Trailer.{column_in}
use Rattle.file_rows.specs.Parts.{part}
use Rattle.list_rows.proofs.Entries.{first-rises}
use Rattle.file_rows.proofs.Read.{rises-later}
use Rattle.file_rows.proofs.rises_at.Goals as goal

pub returns-then-i-lt1 : goal.returns-then-i-lt1
returns-then-i-lt1 c = first-rises (part (column_in c.args.file.now c.args.code) c.args.from c.args.to) c.args.i c.if-i-lt1.true

pub entry_at-before-requires : goal.entry_at-before-requires
entry_at-before-requires c = record { sectioned = c.requires.sectioned; from_le_to = (c.requires.from_le_to.0, c.requires.from_le_to.1, omega (arith, c.requires.from_le_to.2)) }

pub entry_at-here-requires : goal.entry_at-here-requires
entry_at-here-requires c = record { sectioned = c.requires.sectioned; from_le_to = c.requires.from_le_to }

pub returns : goal.returns
returns c = rises-later (part (column_in c.args.file.now c.args.code) c.args.from c.args.to) c.args.i _ _ c.if-i-lt1.false c.entry_at-before.ensures c.entry_at-here.ensures
