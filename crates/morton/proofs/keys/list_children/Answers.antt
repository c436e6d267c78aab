-- After c turns the array holds the first c children.
use native.Mathlib.Omega.{arith}
use Rattle.morton.proofs.Runs.{values-start, values-next, children-count, children-few}
use Rattle.morton.proofs.keys.list_children.Goals as goal

pub loop-c-init : goal.loop-c-init
loop-c-init c = values-start 26 _

pub loop-c-preserved : goal.loop-c-preserved
loop-c-preserved c = values-next 26 _ _ _ _ c.loop-c.invariant (omega (arith, children-count c.args.axes c.children_of-count.result c.requires.0.some c.requires.0.most c.children_of-count.ensures, children-few c.args.axes c.requires.0.most)) c.child_of.ensures
