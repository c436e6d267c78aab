-- `file_columns::number_of` meets its contract.
use native.Mathlib.Omega.{arith}
use Rattle.file_columns.proofs.Sectioned.{inside, entry-is}
use Rattle.file_columns.proofs.number_of.Goals as goal

pub bounds-starts-code : goal.bounds-starts-code
bounds-starts-code c = omega (arith, c.requires.0.starts_size, c.requires.1, c.requires.2)

pub bounds-counts-code : goal.bounds-counts-code
bounds-counts-code c = omega (arith, c.requires.0.counts_size, c.requires.1, c.requires.2)

pub number_at-requires : goal.number_at-requires
number_at-requires c = inside c.args.file.now c.args.s c.requires.0 c.args.code c.requires.1 c.requires.2 4 c.requires.3

pub returns : goal.returns
returns c = entry-is c.args.file.now c.args.s c.requires.0 c.args.code c.requires.1 c.requires.2 4 c.requires.3 c.args.i _ c.number_at.ensures
