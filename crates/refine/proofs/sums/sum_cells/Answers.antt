-- Counts added up are the counts of all cells up to each.
use native.Mathlib.Omega.{arith}
use Rattle.refine.proofs.Upto.{counts-few, sums-are}
use Rattle.refine.proofs.sums.sum_cells.Goals as goal

pub add_up-requires : goal.add_up-requires
add_up-requires c = omega (arith, counts-few c.args.shift c.args.codes.now c.count_cells.new.counts c.count_cells.ensures)

pub returns : goal.returns
returns c = sums-are c.args.shift c.args.codes.now c.count_cells.new.counts c.count_cells.ensures c.add_up.new.column (omega arith) c.add_up.ensures
