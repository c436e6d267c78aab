-- `links::past_leaf` meets its contract.
use native.Mathlib.Omega.{arith}
use mathlib.Core.Path.{sym, ◌∙◌}
use mathlib.Core.Logic.{inr}
use Rattle.links.proofs.Links.{hop-start, hop-end, hop-more, hop-past, leaf-here, hop-far}
use Rattle.links.proofs.Children.{tree-linked}
use Rattle.links.proofs.past_leaf.Goals as goal

pub overflow_add-j : goal.overflow_add-j
overflow_add-j c = omega (arith, c.requires.1)

pub loop-j-init : goal.loop-j-init
loop-j-init c = hop-start _ _ (tree-linked c.requires.0.1) c.args.i c.requires.1

pub bounds-total-j : goal.bounds-total-j
bounds-total-j c = omega (arith, c.loop-j-test.true, (tree-linked c.requires.0.1).totals)

pub returns-then-total-j-gt0 : goal.returns-then-total-j-gt0
returns-then-total-j-gt0 c = leaf-here _ _ (tree-linked c.requires.0.1) c.args.i c.requires.1 c.requires.2 c.loop-j.j c.loop-j.invariant c.loop-j-test.true c.if-total-j-gt0.true

pub has_children-requires : goal.has_children-requires
has_children-requires c = c.loop-j-test.true

pub bounds-links-j : goal.bounds-links-j
bounds-links-j c = omega (arith, c.loop-j-test.true, c.requires.0.1.room)

pub loop-j-smaller-then-has_children : goal.loop-j-smaller-then-has_children
loop-j-smaller-then-has_children c = omega (arith, c.loop-j-test.true, hop-far _ _ (tree-linked c.requires.0.1) c.loop-j.j c.loop-j-test.true, c.requires.0.1.right c.loop-j.j (sym c.has_children.ensures ∙ c.if-has_children.true))

pub loop-j-preserved-then-has_children : goal.loop-j-preserved-then-has_children
loop-j-preserved-then-has_children c = hop-more _ _ (tree-linked c.requires.0.1) c.args.i c.requires.1 c.loop-j.j c.loop-j.invariant c.loop-j-test.true (inr (omega (arith, c.if-total-j-gt0.false))) _ (c.requires.0.1.right c.loop-j.j (sym c.has_children.ensures ∙ c.if-has_children.true))

pub overflow_add-j-else-has_children : goal.overflow_add-j-else-has_children
overflow_add-j-else-has_children c = omega (arith, c.loop-j-test.true)

pub loop-j-smaller : goal.loop-j-smaller
loop-j-smaller c = omega (arith, c.loop-j-test.true)

pub loop-j-preserved : goal.loop-j-preserved
loop-j-preserved c = hop-past _ _ (tree-linked c.requires.0.1) c.args.i c.requires.1 c.loop-j.j c.loop-j.invariant c.loop-j-test.true (inr (omega (arith, c.if-total-j-gt0.false)))

pub returns : goal.returns
returns c = hop-end _ _ (tree-linked c.requires.0.1) c.args.i c.requires.1 c.loop-j.j c.loop-j.invariant c.loop-j-test.false
