-- `lists::write_rows` meets its contract.
use native.Mathlib.Omega.{arith}
use Rattle.lists.proofs.write_rows.Goals as goal

pub fill_rows-requires : goal.fill_rows-requires
fill_rows-requires c = record { linked_tree = (c.requires.0, c.begin.ensures _ (omega arith)); rows_room = c.requires.1 }

pub returns : goal.returns
returns c = c.fill_rows.ensures
