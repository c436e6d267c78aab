-- `leaf_search::leaf_from` meets its contract.
use Rattle.leaf_search.proofs.leaf_from.Goals as goal

pub returns-then-is_leaf_of : goal.returns-then-is_leaf_of
returns-then-is_leaf_of c = c.is_leaf_of.ensures c.if-is_leaf_of.true

pub returns-then-is_leaf_of-2 : goal.returns-then-is_leaf_of-2
returns-then-is_leaf_of-2 c = c.is_leaf_of-2.ensures c.if-is_leaf_of-2.true

pub returns : goal.returns
returns c = c.leaf_by_search.ensures
