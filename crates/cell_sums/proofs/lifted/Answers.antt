-- `cell_sums::lifted` meets its contract.
use Rattle.cell_sums.proofs.Runs.{lift-fits, lift-casts, lift-returns}
use Rattle.cell_sums.proofs.lifted.Goals as goal

pub overflow_add-result : goal.overflow_add-result
overflow_add-result c = lift-fits c.args.reading c.requires c.ranges.reading

pub overflow_cast-result : goal.overflow_cast-result
overflow_cast-result c = lift-casts c.args.reading c.requires c.ranges.reading

pub returns : goal.returns
returns c = lift-returns c.args.reading c.requires c.ranges.reading
