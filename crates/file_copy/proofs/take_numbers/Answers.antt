-- `file_copy::take_numbers` meets its contract.
use native.Mathlib.Omega.{arith}
use Rattle.tree_file.specs.Trailer.{column_in}
use Rattle.file_copy.proofs.Taking.{taking-none, taking-more, taking-all}
use Rattle.file_copy.proofs.take_numbers.Goals as goal

pub count_of-n-requires : goal.count_of-n-requires
count_of-n-requires c = (c.requires.0, c.requires.1, c.requires.2)

pub loop-i-init : goal.loop-i-init
loop-i-init c = taking-none (column_in c.args.file.now c.args.code) _ c.requires.4

pub number_of-requires : goal.number_of-requires
number_of-requires c = (c.requires.0, c.requires.1, c.requires.2, c.requires.3)

pub loop-i-preserved : goal.loop-i-preserved
loop-i-preserved c = taking-more (column_in c.args.file.now c.args.code) _ _ c.loop-i.i c.loop-i.invariant (omega (arith, c.loop-i-test.true, c.count_of-n.ensures)) _ c.number_of.ensures

pub returns : goal.returns
returns c = taking-all (column_in c.args.file.now c.args.code) _ c.loop-i.out c.loop-i.i c.loop-i.invariant _ c.count_of-n.ensures c.loop-i-test.false _ c.clear_from_usize.ensures
