-- `leaf_search::begins_by` meets its contract.
use Rattle.leaf_search.proofs.Searching.{first-test}
use Rattle.leaf_search.proofs.begins_by.Goals as goal

pub returns : goal.returns
returns c = first-test c.args.axes c.args.k c.args.code _ c.up_to.ensures
