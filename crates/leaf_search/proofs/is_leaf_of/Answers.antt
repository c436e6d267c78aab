-- `leaf_search::is_leaf_of` meets its contract.
use Rattle.std.proofs.Common.{sym, refl, ◌∙◌, arith}
use Rattle.slices.proofs.Tests.{clash}
use Rattle.leaf_search.proofs.Leaves.{leaf-told}
use Rattle.leaf_search.proofs.is_leaf_of.Goals as goal

pub returns-then-key-node : goal.returns-then-key-node
returns-then-key-node c = λ e. absurd (clash e refl)

pub returns : goal.returns
returns c = λ e. leaf-told c.args.axes c.args.key.now c.requires c.args.code c.args.node (omega (arith, c.if-key-node.false)) (sym c.leaf_holds.ensures ∙ e)
