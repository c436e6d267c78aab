-- `links::next_of` meets its contract.
use native.Mathlib.Omega.{arith}
use mathlib.Core.Path.{sym, ◌∙◌}
use Rattle.links.proofs.Links.{hop-start, leaf-here}
use Rattle.links.proofs.Children.{tree-linked}
use Rattle.links.proofs.next_of.Goals as goal

pub has_children-requires : goal.has_children-requires
has_children-requires c = c.requires.1

pub bounds-links-i : goal.bounds-links-i
bounds-links-i c = omega (arith, c.requires.1, c.requires.0.1.room)

pub returns-then-has_children : goal.returns-then-has_children
returns-then-has_children c = c.requires.0.1.right c.args.i (sym c.has_children.ensures ∙ c.if-has_children.true)

pub overflow_add-next : goal.overflow_add-next
overflow_add-next c = omega (arith, c.requires.1)

pub bounds-total-next : goal.bounds-total-next
bounds-total-next c = omega (arith, c.if-next-key.true, (tree-linked c.requires.0.1).totals)

pub returns-then-total-next-gt0 : goal.returns-then-total-next-gt0
returns-then-total-next-gt0 c = let k = tree-linked c.requires.0.1 in leaf-here _ _ k c.args.i c.requires.1 (sym c.has_children.ensures ∙ c.if-has_children.false) _ (hop-start _ _ k c.args.i c.requires.1) c.if-next-key.true c.if-total-next-gt0.true

pub past_leaf-requires : goal.past_leaf-requires
past_leaf-requires c = (c.requires.0, c.requires.1, sym c.has_children.ensures ∙ c.if-has_children.false)

pub returns : goal.returns
returns c = c.past_leaf.ensures
