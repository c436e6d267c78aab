-- `write_file::lengths_fit` meets its contract.
use Rattle.write_file.proofs.Fitting.{too-many-nodes, too-many-keys, columns-long, lists-long, by_bytes}
use Rattle.write_file.proofs.lengths_fit.Goals as goal

pub returns-then-keys-gt1048576 : goal.returns-then-keys-gt1048576
returns-then-keys-gt1048576 c = too-many-nodes _ _ _ _ _ _ _ _ _ c.if-keys-gt1048576.true

pub returns-then-larger-gt16777216 : goal.returns-then-larger-gt16777216
returns-then-larger-gt16777216 c = too-many-keys _ _ _ _ _ _ _ _ _ _ c.larger.ensures c.if-larger-gt16777216.true

pub returns-then-larger-gt1073741824 : goal.returns-then-larger-gt1073741824
returns-then-larger-gt1073741824 c = columns-long _ _ _ _ _ _ _ _ _ _ _ c.larger-2.ensures c.larger-3.ensures c.if-larger-gt1073741824.true

pub returns-then-larger-gt1073741824-2 : goal.returns-then-larger-gt1073741824-2
returns-then-larger-gt1073741824-2 c = lists-long _ _ _ _ _ _ _ _ _ _ _ c.larger-4.ensures c.larger-5.ensures c.if-larger-gt1073741824-2.true

pub returns : goal.returns
returns c = by_bytes _ _ _ _ _ _ _ _ _ c.if-keys-gt1048576.false _ c.larger.ensures c.if-larger-gt16777216.false
