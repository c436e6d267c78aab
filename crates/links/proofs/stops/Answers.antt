-- `links::stops` meets its contract.
use Rattle.links.proofs.Links.{goes_on, may-stop}
use Rattle.links.proofs.stops.Goals as goal

pub returns-then-level-k : goal.returns-then-level-k
returns-then-level-k c = goes_on c.args.level c.args.k c.args.n c.if-level-k.true

pub returns : goal.returns
returns c = may-stop c.args.level c.args.k c.args.n c.if-level-k.false
