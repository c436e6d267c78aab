-- `row_sums::row_count` meets its contract.
use Rattle.row_sums.proofs.Counting.{counting-start, counting-few, counting_more, counting-done}
use native.Mathlib.Omega.{arith}
use Rattle.row_sums.proofs.row_count.Goals as goal

pub loop-k-init : goal.loop-k-init
loop-k-init c = counting-start c.args.key.now c.args.count.now c.args.row.now

pub overflow_add-sources : goal.overflow_add-sources
overflow_add-sources c = omega (arith, counting-few c.args.key.now c.args.count.now c.args.row.now c.loop-k.sources c.loop-k.k-index c.loop-k.invariant c.loop-k-test.true _ c.count_of-sources.ensures, c.requires.1)

pub loop-k-preserved : goal.loop-k-preserved
loop-k-preserved c = counting_more c.args.key.now c.args.count.now c.args.row.now c.loop-k.sources c.loop-k.k-index c.loop-k.invariant c.loop-k-test.true _ c.count_of-sources.ensures

pub returns : goal.returns
returns c = counting-done c.args.key.now c.args.count.now c.args.row.now c.loop-k.sources c.loop-k.k-index c.loop-k.invariant c.loop-k-test.false
