-- `file_order::all_below` meets its contract.
use native.Mathlib.Omega.{arith}
use mathlib.Core.Path.{refl}
use Rattle.tree_file.specs.Trailer.{column_in}
use Rattle.arrangement.proofs.Judged.{below-start, below_more, below-done, below_fails}
use Rattle.file_order.proofs.all_below.Goals as goal

pub count_of-count-requires : goal.count_of-count-requires
count_of-count-requires c = (c.requires, omega arith, omega arith)

pub loop-i-init : goal.loop-i-init
loop-i-init c = below-start (column_in c.args.file.now 5) c.args.n

pub number_of-index-requires : goal.number_of-index-requires
number_of-index-requires c = (c.requires, omega arith, omega arith, refl)

pub returns-then-n-index : goal.returns-then-n-index
returns-then-n-index c = below_fails (column_in c.args.file.now 5) c.args.n c.loop-i.i (omega (arith, c.loop-i-test.true, c.count_of-count.ensures)) (omega (arith, c.if-n-index.true, c.number_of-index.ensures))

pub loop-i-preserved : goal.loop-i-preserved
loop-i-preserved c = below_more (column_in c.args.file.now 5) c.args.n c.loop-i.i c.loop-i.invariant (omega (arith, c.loop-i-test.true, c.count_of-count.ensures)) (omega (arith, c.if-n-index.false, c.number_of-index.ensures))

pub returns : goal.returns
returns c = below-done (column_in c.args.file.now 5) c.args.n c.loop-i.i c.loop-i.invariant (omega (arith, c.loop-i-test.false, c.count_of-count.ensures))
