-- The links, then the pass.
use native.Mathlib.Omega.{arith}
use Rattle.links.proofs.Children.{sound-linked, linked-tree}
use Rattle.list_sizes.proofs.count_lists.Goals as goal

pub link_nodes-requires : goal.link_nodes-requires
link_nodes-requires c = (sound-linked c.requires.sound_tree.0 c.requires.sound_tree.1, c.requires.key_in_bounds.0)

pub begin-requires : goal.begin-requires
begin-requires c = (linked-tree c.requires.sound_tree.0 c.requires.sound_tree.1 c.requires.key_in_bounds.0 c.link_nodes.ensures, omega arith)

pub count_rows-requires : goal.count_rows-requires
count_rows-requires c = record { linked_tree = (linked-tree c.requires.sound_tree.0 c.requires.sound_tree.1 c.requires.key_in_bounds.0 c.link_nodes.ensures, c.begin.ensures _ (omega arith)); key_in_bounds = (c.requires.key_in_bounds.1, omega arith) }
