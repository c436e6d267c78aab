-- `tree::find_node` meets its contract.
use native.Mathlib.Omega.{arith}
use Rattle.tree.proofs.Finding.{none-stored}
use Rattle.tree.proofs.find_node.Goals as goal

pub first_from-node-requires : goal.first_from-node-requires
first_from-node-requires c = c.requires

pub returns-then-key-node : goal.returns-then-key-node
returns-then-key-node c = none-stored _ _ _ _ c.first_from-node.ensures (λ l e. omega (arith, c.if-key-node.true))

pub returns-then-key-node-2 : goal.returns-then-key-node-2
returns-then-key-node-2 c = none-stored _ _ _ _ c.first_from-node.ensures (λ l e. c.if-key-node-2.true e)
