-- At each turn the array holds the cells from the key up to the one reached, and the cells above that are left.
use native.Mathlib.Omega.{arith}
use Rattle.morton.proofs.Runs.{climb-start, climb-more, climb-end}
use Rattle.morton.proofs.keys.list_ancestors.Goals as goal

pub loop-at-init : goal.loop-at-init
loop-at-init c = climb-start c.args.axes c.args.key c.requires

pub loop-at-preserved : goal.loop-at-preserved
loop-at-preserved c = rw c.parent_of-at.ensures (climb-more c.args.axes c.args.key _ _ _ c.requires c.loop-at.invariant (omega (arith, c.level_of.ensures)))

pub returns : goal.returns
returns c = climb-end c.args.axes c.args.key _ _ _ c.requires c.loop-at.invariant (omega (arith, c.level_of.ensures))
