-- `grids::starts_out` meets its contract.
use Rattle.grids.proofs.Leaving.{starts-yes, starts-rest}
use Rattle.grids.proofs.starts_out.Goals as goal

pub returns-then-first_from-gt0 : goal.returns-then-first_from-gt0
returns-then-first_from-gt0 c = starts-yes c.args.f c.args.g c.args.a c.first_from.result c.first_from.ensures c.if-first_from-gt0.true

pub returns : goal.returns
returns c = starts-rest c.args.f c.args.g c.args.a c.first_from.result c.first_from-2.result c.first_from.ensures c.if-first_from-gt0.false c.first_from-2.ensures
