-- `file_rows::row_sources` meets its contract.
use native.Mathlib.Omega.{arith}
use mathlib.Core.Path.{refl, sym, ◌∙◌}
use borrow.Author.Tests.{not-true, not-false}
use Rattle.tree_file.specs.Trailer.{column_in}
use Rattle.list_rows.proofs.Rows.{pass-start, pass-falls, pass-done}
use Rattle.file_rows.specs.Parts.{part}
use Rattle.file_rows.proofs.Read.{part_length, lost, node_at, fails, small, more}
use Rattle.file_rows.proofs.row_sources.Goals as goal

pub overflow_sub-n : goal.overflow_sub-n
overflow_sub-n c = c.requires.from_le_to.0

pub loop-i-init : goal.loop-i-init
loop-i-init c = pass-start c.args.s.axes (column_in c.args.file.now 1) (column_in c.args.file.now 2) (column_in c.args.file.now 4) c.args.far c.args.row.cell (part (column_in c.args.file.now c.args.code) c.args.from c.args.to)

pub rises_at-requires : goal.rises_at-requires
rises_at-requires c = record { sectioned = c.requires.sectioned; from_le_to = (c.requires.from_le_to.0, c.requires.from_le_to.1, (omega (arith, c.loop-i-test.true, (part_length (column_in c.args.file.now c.args.code) c.args.from c.args.to c.requires.from_le_to.0 c.requires.from_le_to.1)))) }

pub returns-then-not-rises_at : goal.returns-then-not-rises_at
returns-then-not-rises_at c = pass-falls c.args.s.axes (column_in c.args.file.now 1) (column_in c.args.file.now 2) (column_in c.args.file.now 4) c.args.far c.args.row.cell (part (column_in c.args.file.now c.args.code) c.args.from c.args.to) c.loop-i.i (omega (arith, c.loop-i-test.true, (part_length (column_in c.args.file.now c.args.code) c.args.from c.args.to c.requires.from_le_to.0 c.requires.from_le_to.1))) (sym c.rises_at.ensures ∙ c.if-not-rises_at.true)

pub entry_at-k-requires : goal.entry_at-k-requires
entry_at-k-requires c = record { sectioned = c.requires.sectioned; from_le_to = (c.requires.from_le_to.0, c.requires.from_le_to.1, (omega (arith, c.loop-i-test.true, (part_length (column_in c.args.file.now c.args.code) c.args.from c.args.to c.requires.from_le_to.0 c.requires.from_le_to.1)))) }

pub seek-requires : goal.seek-requires
seek-requires c = (c.requires.sectioned.0, c.requires.counted.0)

pub returns-in_err-spot : goal.returns-in_err-spot
returns-in_err-spot c = rw c.from_residual.ensures (lost c.args.s.axes (column_in c.args.file.now 1) (column_in c.args.file.now 2) (column_in c.args.file.now 4) c.args.far c.args.row.cell (part (column_in c.args.file.now c.args.code) c.args.from c.args.to) c.loop-i.i c.loop-i.sum (omega (arith, c.loop-i-test.true, (part_length (column_in c.args.file.now c.args.code) c.args.from c.args.to c.requires.from_le_to.0 c.requires.from_le_to.1))) c.entry_at-k.result c.entry_at-k.ensures c.seek.result c.seek.ensures c.in_err-spot.was)

pub is_taken-requires : goal.is_taken-requires
is_taken-requires c = record { sectioned = c.requires.sectioned.0; counted = (c.requires.counted.0, c.requires.counted.1, node_at c.args.s.axes (column_in c.args.file.now 1) (column_in c.args.file.now 2) (column_in c.args.file.now 4) c.args.far c.args.row.cell (part (column_in c.args.file.now c.args.code) c.args.from c.args.to) c.loop-i.i c.loop-i.sum (omega (arith, c.loop-i-test.true, (part_length (column_in c.args.file.now c.args.code) c.args.from c.args.to c.requires.from_le_to.0 c.requires.from_le_to.1))) c.entry_at-k.result c.entry_at-k.ensures c.seek.result c.seek.ensures _ c.in_ok-spot.was) }

pub returns-then-not-is_taken : goal.returns-then-not-is_taken
returns-then-not-is_taken c = fails c.args.s.axes (column_in c.args.file.now 1) (column_in c.args.file.now 2) (column_in c.args.file.now 4) c.args.far c.args.row.cell (part (column_in c.args.file.now c.args.code) c.args.from c.args.to) c.loop-i.i c.loop-i.sum (omega (arith, c.loop-i-test.true, (part_length (column_in c.args.file.now c.args.code) c.args.from c.args.to c.requires.from_le_to.0 c.requires.from_le_to.1))) c.entry_at-k.result c.entry_at-k.ensures c.seek.result c.seek.ensures _ c.in_ok-spot.was c.is_taken.result c.is_taken.ensures (c.if-not-is_taken.true)

pub number_of-total-requires : goal.number_of-total-requires
number_of-total-requires c = (c.requires.sectioned.0, omega arith, omega arith, refl)

pub overflow_add-sum : goal.overflow_add-sum
overflow_add-sum c = record { fits = omega (arith, small c.args.s.axes (column_in c.args.file.now 1) (column_in c.args.file.now 2) (column_in c.args.file.now 4) c.args.far c.args.row.cell (part (column_in c.args.file.now c.args.code) c.args.from c.args.to) c.loop-i.i c.loop-i.sum (omega (arith, c.loop-i-test.true, (part_length (column_in c.args.file.now c.args.code) c.args.from c.args.to c.requires.from_le_to.0 c.requires.from_le_to.1))) c.entry_at-k.result c.entry_at-k.ensures c.seek.result c.seek.ensures _ c.in_ok-spot.was c.is_taken.result c.is_taken.ensures c.requires.counted.0 c.number_of-total.result c.number_of-total.ensures, c.loop-i.invariant.brought) }

pub loop-i-preserved : goal.loop-i-preserved
loop-i-preserved c = more c.args.s.axes (column_in c.args.file.now 1) (column_in c.args.file.now 2) (column_in c.args.file.now 4) c.args.far c.args.row.cell (part (column_in c.args.file.now c.args.code) c.args.from c.args.to) c.loop-i.i c.loop-i.sum (omega (arith, c.loop-i-test.true, (part_length (column_in c.args.file.now c.args.code) c.args.from c.args.to c.requires.from_le_to.0 c.requires.from_le_to.1))) c.entry_at-k.result c.entry_at-k.ensures c.seek.result c.seek.ensures _ c.in_ok-spot.was c.is_taken.result c.is_taken.ensures c.requires.counted.0 c.number_of-total.result c.number_of-total.ensures c.loop-i.invariant (sym c.rises_at.ensures ∙ c.if-not-rises_at.false) (c.if-not-is_taken.false) _ c.held-sum.ensures

pub returns : goal.returns
returns c = pass-done c.args.s.axes (column_in c.args.file.now 1) (column_in c.args.file.now 2) (column_in c.args.file.now 4) c.args.far c.args.row.cell (part (column_in c.args.file.now c.args.code) c.args.from c.args.to) c.loop-i.i c.loop-i.sum c.loop-i.invariant (omega (arith, c.loop-i-test.false, (part_length (column_in c.args.file.now c.args.code) c.args.from c.args.to c.requires.from_le_to.0 c.requires.from_le_to.1)))
