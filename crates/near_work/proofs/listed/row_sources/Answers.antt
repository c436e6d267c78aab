-- The sources of the entries passed are summed, and after a turn those of one more.
use native.Mathlib.Omega.{arith}
use Rattle.tree.specs.Nodes.{own_of}
use Rattle.node_rows.proofs.Marking.{summing-none, summing-room, summing-more, summing-all}
use Rattle.near_work.proofs.listed.row_sources.Goals as goal

pub loop-k-init : goal.loop-k-init
loop-k-init c = summing-none (own_of c.args.key.now c.args.own.now) c.args.row.now

pub own_of-requires : goal.own_of-requires
own_of-requires c = c.requires.0

pub overflow_add-sources : goal.overflow_add-sources
overflow_add-sources c = omega (arith, c.requires.1, summing-room (own_of c.args.key.now c.args.own.now) c.args.row.now _ _ c.loop-k.invariant _ c.loop-k-test.true c.own_of.ensures)

pub loop-k-preserved : goal.loop-k-preserved
loop-k-preserved c = summing-more (own_of c.args.key.now c.args.own.now) c.args.row.now _ _ c.loop-k.invariant _ c.loop-k-test.true c.own_of.ensures

pub returns : goal.returns
returns c = summing-all (own_of c.args.key.now c.args.own.now) c.args.row.now _ _ c.loop-k.invariant c.loop-k-test.false
