-- `lookup::point_to_leaf` meets its contract.
use mathlib.Core.Path.{◌∙◌}
use Rattle.refusal.proofs.Chain.{passed-on}
use Rattle.lookup.proofs.Steps.{with-steps}
use Rattle.lookup.proofs.Single.{tree-stops, tree-sound, leaf-is-at}
use Rattle.lookup.proofs.point_to_leaf.Goals as goal

pub returns-in_err-tree_outcome : goal.returns-in_err-tree_outcome
returns-in_err-tree_outcome c = let all = with-steps c.args.b c.args.key.now c.args.own.now c.args.begin.now c.args.total.now c.args.point _ (passed-on _ _ c.from_residual.ensures.1 ∙ tree-stops c.args.b c.args.key.now c.args.own.now c.args.begin.now c.args.total.now c.args.point c.tree_outcome.result c.tree_outcome.ensures _ c.in_err-tree_outcome.was) in record { value = all.0; steps = all.1 }

pub leaf_at-requires : goal.leaf_at-requires
leaf_at-requires c = tree-sound c.args.b c.args.key.now c.args.own.now c.args.begin.now c.args.total.now c.args.point c.tree_outcome.result c.tree_outcome.ensures c.in_ok-tree_outcome.was

pub returns : goal.returns
returns c = let all = with-steps c.args.b c.args.key.now c.args.own.now c.args.begin.now c.args.total.now c.args.point _ (leaf-is-at c.args.b c.args.key.now c.args.own.now c.args.begin.now c.args.total.now c.args.point c.tree_outcome.result c.tree_outcome.ensures c.in_ok-tree_outcome.was _ c.leaf_at.ensures) in record { value = all.0; steps = all.1 }
