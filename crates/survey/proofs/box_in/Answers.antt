-- `survey::box_in` meets its contract.
use Rattle.survey.proofs.box_in.Goals as goal

pub returns : goal.returns
returns c = cc
