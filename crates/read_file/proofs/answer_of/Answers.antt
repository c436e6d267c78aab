-- `read_file::answer_of` meets its contract.
use native.Mathlib.Omega.{arith}
use Rattle.read_file.proofs.Ending.{numbers}
use Rattle.read_file.proofs.answer_of.Goals as goal

pub count_of-nodes-requires : goal.count_of-nodes-requires
count_of-nodes-requires c = (c.requires, omega arith, omega arith)

pub count_of-sources-requires : goal.count_of-sources-requires
count_of-sources-requires c = (c.requires, omega arith, omega arith)

pub count_of-u-requires : goal.count_of-u-requires
count_of-u-requires c = (c.requires, omega arith, omega arith)

pub count_of-v-requires : goal.count_of-v-requires
count_of-v-requires c = (c.requires, omega arith, omega arith)

pub returns : goal.returns
returns c = numbers c.args.file.now _ _ _ _ _ c.requires.says c.count_of-nodes.ensures c.count_of-sources.ensures c.count_of-u.ensures c.count_of-v.ensures
