-- `near_work::sum_up` meets its contract.
use native.Mathlib.Omega.{arith}
use mathlib.Core.Path.{◌∙◌}
use Rattle.links.proofs.Children.{sound-linked, linked-tree}
use Rattle.near_work.proofs.Counts.{linked-weights, linked-work, cleared-same}
use Rattle.near_work.proofs.sum_up.Goals as goal

pub link_nodes-requires : goal.link_nodes-requires
link_nodes-requires c = (sound-linked c.requires.sound_tree.0 c.requires.sound_tree.1, c.requires.weights.0.long)

pub work_of_tree-work-requires : goal.work_of_tree-work-requires
work_of_tree-work-requires c = (linked-tree c.requires.sound_tree.0 c.requires.sound_tree.1 c.requires.weights.0.long c.link_nodes.ensures, linked-weights c.args.axes c.args.key.now c.args.own.now c.args.total.now c.requires.sound_tree.0 c.args.counts.now _ c.link_nodes.ensures c.requires.weights.0)

pub clear_inner-requires : goal.clear_inner-requires
clear_inner-requires c = omega (arith, c.requires.weights.0.long, c.link_nodes.ensures.long)

pub returns : goal.returns
returns c = record { work = (c.work_of_tree-work.ensures.0 ∙ linked-work c.args.axes c.args.key.now c.args.own.now c.args.total.now c.requires.sound_tree.0 c.args.counts.now _ c.link_nodes.ensures c.requires.weights.0, c.work_of_tree-work.ensures.1); counts = cleared-same c.args.axes c.args.key.now c.args.own.now c.args.total.now c.requires.sound_tree.0 c.args.counts.now _ c.link_nodes.ensures c.requires.weights.0 c.requires.weights.1 _ c.clear_inner.ensures }
