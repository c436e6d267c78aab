-- `leaf_search::last_from` meets its contract.
use Rattle.leaf_search.proofs.Searching.{between-all}
use Rattle.leaf_search.proofs.last_from.Goals as goal

pub gallop-requires : goal.gallop-requires
gallop-requires c = let s = c.may_start.ensures c.if-may_start.true in (c.requires, s.0, s.1)

pub last_between-requires : goal.last_between-requires
last_between-requires c = (c.requires, between-all c.args.axes c.args.key.now c.requires c.args.code)
