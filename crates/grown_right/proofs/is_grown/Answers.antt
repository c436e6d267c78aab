-- `grown_right::is_grown` meets its contract.
use borrow.Author.Tests.{not-true, not-false}
use Rattle.slices.proofs.Tests.{clash}
use Rattle.sums.proofs.Tells.{tell-true}
use Rattle.grown_right.proofs.Nodes.{apart, alike, not_root, all_grown, by-full}
use Rattle.grown_right.proofs.is_grown.Goals as goal

pub returns-then-has_children-kept : goal.returns-then-has_children-kept
returns-then-has_children-kept c = not_root c.args.g c.args.key.now c.args.total.now c.requires.0 c.has_children.result c.is_kept-kept.result c.has_children.ensures c.is_kept-kept.ensures (apart _ _ c.if-has_children-kept.true)

pub returns-then-not-g : goal.returns-then-not-g
returns-then-not-g c = all_grown c.args.g c.args.key.now c.args.total.now c.requires.0 c.has_children.result c.is_kept-kept.result c.has_children.ensures c.is_kept-kept.ensures (alike _ _ c.if-has_children-kept.false) (tell-true c.nodes_right.result c.nodes_right.ensures (c.if-not-nodes_right.false)) (λ k. absurd (clash k ((not-true _ c.if-not-g.true))))

pub returns : goal.returns
returns c = by-full c.args.g c.args.key.now c.args.total.now c.requires.0 c.is_full.result c.is_full.ensures c.has_children.result c.is_kept-kept.result c.has_children.ensures c.is_kept-kept.ensures (alike _ _ c.if-has_children-kept.false) (tell-true c.nodes_right.result c.nodes_right.ensures (c.if-not-nodes_right.false)) ((not-false _ c.if-not-g.false))
