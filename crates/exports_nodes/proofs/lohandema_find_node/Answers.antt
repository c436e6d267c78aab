-- The node that the tree's search finds is told.
use mathlib.Core.Path.{refl, sym, ◌∙◌}
use borrow.Author.Tests.{not-true, not-false}
use Rattle.slices.proofs.Tests.{clash}
use Rattle.exports_nodes.proofs.Rows.{found_at, found_none}
use Rattle.exports_nodes.proofs.lohandema_find_node.Goals as goal

pub returns-then-not-axes_known : goal.returns-then-not-axes_known
returns-then-not-axes_known c = (refl, λ known o. absurd (clash known (sym c.axes_known.ensures ∙ c.if-not-axes_known.true)))

pub find_node-found-requires : goal.find_node-found-requires
find_node-found-requires c = sym c.axes_known.ensures ∙ c.if-not-axes_known.false

pub returns-in-Some : goal.returns-in-Some
returns-in-Some c = found_at c.args.axes c.args.key.now c.args.wanted c.find_node-found.result c.find_node-found.ensures _ c.in-Some.is

pub returns-in-None : goal.returns-in-None
returns-in-None c = (refl, λ known o. found_none c.args.axes c.args.key.now c.args.wanted c.find_node-found.result c.find_node-found.ensures c.in-None.is o)
