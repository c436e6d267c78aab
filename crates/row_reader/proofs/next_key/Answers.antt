-- `row_reader::next_key` meets its contract.
use native.Mathlib.Numerals.{add-one}
use borrow.Author.Tests.{le-ltb, lt-ltb}
use Rattle.row_reader.proofs.next_key.Goals as goal

pub returns-then-at-row : goal.returns-then-at-row
returns-then-at-row c = simp (lt-ltb _ _ c.if-at-row.true, add-one)

pub returns-else-at-row : goal.returns-else-at-row
returns-else-at-row c = simp (le-ltb _ _ c.if-at-row.false)
