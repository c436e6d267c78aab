-- By the next row, and in a tree by the law that this is a leaf.
use mathlib.Core.Path.{◌∙◌}
use Rattle.exports_nodes.proofs.Rows.{row_first, row-past, row_last, row_next, row_is}
use Rattle.exports_nodes.proofs.lohandema_is_leaf.Goals as goal

pub returns-then-node-lt1 : goal.returns-then-node-lt1
returns-then-node-lt1 c = let e = row_first c.args.key.now c.args.node c.if-node-lt1.true in record { row = e; tree = λ d t l. e ∙ row_is c.args.key.now c.args.node d t l }

pub returns-then-key-node : goal.returns-then-key-node
returns-then-key-node c = let e = row-past c.args.key.now c.args.node c.if-node-lt1.false c.if-key-node.true in record { row = e; tree = λ d t l. e ∙ row_is c.args.key.now c.args.node d t l }

pub returns-then-key-next : goal.returns-then-key-next
returns-then-key-next c = let e = row_last c.args.key.now c.args.node c.if-node-lt1.false c.if-key-node.false c.if-key-next.true in record { row = e; tree = λ d t l. e ∙ row_is c.args.key.now c.args.node d t l }

pub returns : goal.returns
returns c = let e = row_next c.args.key.now c.args.node c.if-node-lt1.false c.if-key-node.false c.if-key-next.false in record { row = e; tree = λ d t l. e ∙ row_is c.args.key.now c.args.node d t l }
