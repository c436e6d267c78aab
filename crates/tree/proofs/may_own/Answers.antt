-- `tree::may_own` meets its contract.
use Rattle.tree.proofs.KeyTests.{own-deeper, own_any}
use Rattle.tree.proofs.may_own.Goals as goal

pub returns-then-p-k : goal.returns-then-p-k
returns-then-p-k c = own-deeper c.args.p c.args.k c.args.n c.if-p-k.true

pub returns : goal.returns
returns c = own_any c.args.p c.args.k c.args.n c.if-p-k.false
