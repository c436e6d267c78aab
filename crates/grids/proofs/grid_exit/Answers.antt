-- `grids::grid_exit` meets its contract.
use Rattle.grids.proofs.Leaving.{exit-first, exit-later}
use Rattle.grids.proofs.grid_exit.Goals as goal

pub returns-in-Some : goal.returns-in-Some
returns-in-Some c = exit-first c.args.f c.args.g c.first_out.result c.in-Some.axis c.first_out.ensures c.in-Some.is

pub returns-in-None : goal.returns-in-None
returns-in-None c = exit-later c.args.f c.args.g c.first_out.result c.last_out.result c.first_out.ensures c.in-None.is c.last_out.ensures
