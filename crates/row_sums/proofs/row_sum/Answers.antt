-- `row_sums::row_sum` meets its contract.
use Rattle.row_sums.proofs.Walk.{stepped, ended, walk_start, walk-done, walk-few, walk-less, walk-fits, walk_more}
use Rattle.row_sums.proofs.row_sum.Goals as goal

pub loop-step-init : goal.loop-step-init
loop-step-init c = walk_start c.args.axes c.args.key.now c.args.count.now c.args.begin.now c.args.indices.now c.args.readings.now c.args.row.now

pub returns : goal.returns
returns c = let all = walk-done c.args.axes c.args.key.now c.args.count.now c.args.begin.now c.args.indices.now c.args.readings.now c.args.row.now c.requires _ _ c.loop-step.invariant (ended c.args.row.now _ c.read.result c.read.ensures c.in_default.is) in record { sum = all.0; bounded = all.1 }

pub node_sum-sum-requires : goal.node_sum-sum-requires
node_sum-sum-requires c = (c.requires.0, c.requires.1, walk-few c.args.axes c.args.key.now c.args.count.now c.args.begin.now c.args.indices.now c.args.readings.now c.args.row.now c.requires _ _ _ _ c.loop-step.invariant (stepped c.args.row.now _ c.read.result c.read.ensures _ c.in-Some.is))

pub overflow_add-sum : goal.overflow_add-sum
overflow_add-sum c = walk-fits c.args.axes c.args.key.now c.args.count.now c.args.begin.now c.args.indices.now c.args.readings.now c.args.row.now c.requires _ _ _ _ c.loop-step.invariant (stepped c.args.row.now _ c.read.result c.read.ensures _ c.in-Some.is) _ c.node_sum-sum.ensures.sum c.node_sum-sum.ensures.bounded

pub loop-step-smaller : goal.loop-step-smaller
loop-step-smaller c = walk-less c.args.axes c.args.key.now c.args.count.now c.args.begin.now c.args.indices.now c.args.readings.now c.args.row.now c.requires _ _ _ _ c.loop-step.invariant (stepped c.args.row.now _ c.read.result c.read.ensures _ c.in-Some.is)

pub loop-step-preserved : goal.loop-step-preserved
loop-step-preserved c = walk_more c.args.axes c.args.key.now c.args.count.now c.args.begin.now c.args.indices.now c.args.readings.now c.args.row.now c.requires _ _ _ _ c.loop-step.invariant (stepped c.args.row.now _ c.read.result c.read.ensures _ c.in-Some.is) _ c.node_sum-sum.ensures.sum c.node_sum-sum.ensures.bounded
