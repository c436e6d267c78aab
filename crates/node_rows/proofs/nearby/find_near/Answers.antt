-- `nearby::find_near` meets its contract.
use mathlib.Core.Path.{refl}
use native.Mathlib.Omega.{arith}
use Rattle.node_rows.proofs.Nodes.{node-deep}
use Rattle.node_rows.proofs.Marking.{markable, marked-found}
use Rattle.node_rows.proofs.nearby.find_near.Goals as goal

pub index_of-s-requires : goal.index_of-s-requires
index_of-s-requires c = c.requires.sound_tree.0.most

pub overflow_sub-at : goal.overflow_sub-at
overflow_sub-at c = omega (arith, node-deep c.args.axes c.args.key.now c.args.own.now c.requires.sound_tree.0 c.args.node c.requires.sound_tree.1 c.requires.sound_tree.2)

pub mark_near-requires : goal.mark_near-requires
mark_near-requires c = markable c.args.axes c.args.key.now c.args.own.now c.requires.sound_tree.0 c.args.node c.requires.sound_tree.1 c.requires.sound_tree.2 c.args.stack.now c.args.held.now (c.requires.ready c.requires.sound_tree.2) _ _ refl refl c.index_of-s.result c.index_of-s.ensures _ c.requires.sound_tree.3

pub returns : goal.returns
returns c = marked-found c.args.axes c.args.key.now c.args.own.now c.requires.sound_tree.0 c.args.node c.requires.sound_tree.1 c.requires.sound_tree.2 c.args.stack.now c.args.held.now (c.requires.ready c.requires.sound_tree.2) _ _ refl refl c.index_of-s.result c.index_of-s.ensures _ _ c.mark_near.ensures
