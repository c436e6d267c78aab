-- `tree::leaf_sources` meets its contract.
use native.Mathlib.Omega.{arith}
use Rattle.tree.proofs.Parts.{no_own, no-begin, no_room, whole}
use Rattle.tree.proofs.leaf_sources.Goals as goal

pub returns-then-own-node : goal.returns-then-own-node
returns-then-own-node c = no_own _ _ _ _ c.if-own-node.true

pub returns-then-begin-node : goal.returns-then-begin-node
returns-then-begin-node c = no-begin _ _ _ _ c.if-begin-node.true

pub returns-then-order-start : goal.returns-then-order-start
returns-then-order-start c = no_room _ _ _ _ (omega (arith, c.if-order-start.true))

pub returns-then-order-start-2 : goal.returns-then-order-start-2
returns-then-order-start-2 c = no_room _ _ _ _ (omega (arith, c.if-order-start-2.true, c.if-order-start.false))

pub returns : goal.returns
returns c = whole _ _ _ _ c.if-own-node.false c.if-begin-node.false (omega (arith, c.if-order-start-2.false, c.if-order-start.false))
