-- `leaf_search::leaf_by_search` meets its contract.
use Rattle.std.proofs.Common.{sym, ◌∙◌}
use Rattle.leaf_search.proofs.Leaves.{leaf-told, none_told}
use Rattle.leaf_search.proofs.leaf_by_search.Goals as goal

pub leaf_holds-requires : goal.leaf_holds-requires
leaf_holds-requires c = (c.requires, c.last_from-node.ensures.within)

pub returns-then-leaf_holds : goal.returns-then-leaf_holds
returns-then-leaf_holds c = leaf-told c.args.axes c.args.key.now c.requires c.args.code _ c.last_from-node.ensures.within (sym c.leaf_holds.ensures ∙ c.if-leaf_holds.true)

pub returns : goal.returns
returns c = none_told c.args.axes c.args.key.now c.requires c.args.code _ c.last_from-node.ensures (sym c.leaf_holds.ensures ∙ c.if-leaf_holds.false)
