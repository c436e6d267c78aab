-- The check decides, and a good key has its neighbours.
use mathlib.Core.Path.{sym, ◌∙◌}
use Rattle.morton.proofs.Checks.{checked}
use Rattle.refusal.proofs.Chain.{answered}
use Rattle.neighbours.proofs.get_neighbours.Goals as goal

pub list_neighbours-requires : goal.list_neighbours-requires
list_neighbours-requires c = checked c.args.axes c.args.key (sym c.check_key.ensures ∙ c.in_ok-check_key.was)

pub returns : goal.returns
returns c = answered _ _ _ (sym c.check_key.ensures ∙ c.in_ok-check_key.was) c.list_neighbours.ensures
