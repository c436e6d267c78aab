-- `centres::key_outcome` meets its contract: the box is checked first, then the key.
use mathlib.Core.Path.{sym, ◌∙◌}
use Rattle.centres.proofs.Centres.{key-box-refused, key-checked}
use Rattle.centres.proofs.key_outcome.Goals as goal

pub returns : goal.returns
returns c = c.check_key.ensures ∙ key-checked c.args.b c.args.key (sym c.box_outcome.ensures ∙ c.in_ok-box_outcome.was)
