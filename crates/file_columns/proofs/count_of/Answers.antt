-- `file_columns::count_of` meets its contract.
use native.Mathlib.Omega.{arith}
use Rattle.file_columns.proofs.Sectioned.{counted}
use Rattle.file_columns.proofs.count_of.Goals as goal

pub bounds-counts-code : goal.bounds-counts-code
bounds-counts-code c = omega (arith, c.requires.0.counts_size, c.requires.1, c.requires.2)

pub returns : goal.returns
returns c = counted c.args.file.now c.args.s c.requires.0 _ c.requires.1 c.requires.2
