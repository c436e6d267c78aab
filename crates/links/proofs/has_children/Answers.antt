-- `links::has_children` meets its contract.
use Rattle.links.proofs.Readers.{inner_last, inner-next}
use Rattle.links.proofs.has_children.Goals as goal

pub returns-then-key-next : goal.returns-then-key-next
returns-then-key-next c = inner_last c.args.key.now c.args.i c.if-key-next.true

pub returns : goal.returns
returns c = inner-next c.args.key.now c.args.i c.if-key-next.false
