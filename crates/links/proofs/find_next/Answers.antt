-- `links::find_next` meets its contract.
use native.Mathlib.Omega.{arith}
use mathlib.Core.Path.{sym, ◌∙◌}
use Rattle.links.proofs.Links.{hop-start, hop-end, hop-more, hop-past, stop-here, stop-not, hop-far}
use Rattle.links.proofs.find_next.Goals as goal

pub bounds-key-i : goal.bounds-key-i
bounds-key-i c = omega (arith, c.requires.1)

pub overflow_add-j : goal.overflow_add-j
overflow_add-j c = omega (arith, c.requires.1)

pub loop-j-init : goal.loop-j-init
loop-j-init c = hop-start _ _ c.requires.0.linked c.args.i c.requires.1

pub bounds-key-j : goal.bounds-key-j
bounds-key-j c = omega (arith, c.loop-j-test.true)

pub bounds-total-j : goal.bounds-total-j
bounds-total-j c = omega (arith, c.loop-j-test.true, c.requires.0.linked.totals)

pub returns-then-stops : goal.returns-then-stops
returns-then-stops c = stop-here _ _ c.requires.0.linked c.args.i c.requires.1 c.loop-j.j c.loop-j.invariant c.loop-j-test.true (sym c.stops.ensures ∙ c.if-stops.true)

pub has_children-requires : goal.has_children-requires
has_children-requires c = c.loop-j-test.true

pub bounds-links-j : goal.bounds-links-j
bounds-links-j c = omega (arith, c.loop-j-test.true, c.requires.0.room)

pub loop-j-smaller-then-has_children : goal.loop-j-smaller-then-has_children
loop-j-smaller-then-has_children c = omega (arith, c.loop-j-test.true, hop-far _ _ c.requires.0.linked c.loop-j.j c.loop-j-test.true, c.requires.0.right c.loop-j.j (omega (arith, c.loop-j.invariant.after)) (sym c.has_children.ensures ∙ c.if-has_children.true))

pub loop-j-preserved-then-has_children : goal.loop-j-preserved-then-has_children
loop-j-preserved-then-has_children c = hop-more _ _ c.requires.0.linked c.args.i c.requires.1 c.loop-j.j c.loop-j.invariant c.loop-j-test.true (stop-not _ _ c.requires.0.linked c.args.i c.requires.1 c.loop-j.j (sym c.stops.ensures ∙ c.if-stops.false)) _ (c.requires.0.right c.loop-j.j (omega (arith, c.loop-j.invariant.after)) (sym c.has_children.ensures ∙ c.if-has_children.true))

pub overflow_add-j-else-has_children : goal.overflow_add-j-else-has_children
overflow_add-j-else-has_children c = omega (arith, c.loop-j-test.true)

pub loop-j-smaller : goal.loop-j-smaller
loop-j-smaller c = omega (arith, c.loop-j-test.true)

pub loop-j-preserved : goal.loop-j-preserved
loop-j-preserved c = hop-past _ _ c.requires.0.linked c.args.i c.requires.1 c.loop-j.j c.loop-j.invariant c.loop-j-test.true (stop-not _ _ c.requires.0.linked c.args.i c.requires.1 c.loop-j.j (sym c.stops.ensures ∙ c.if-stops.false))

pub returns : goal.returns
returns c = hop-end _ _ c.requires.0.linked c.args.i c.requires.1 c.loop-j.j c.loop-j.invariant c.loop-j-test.false
