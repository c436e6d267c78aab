-- Number and values are those of the outcome.
use native.Mathlib.Omega.{arith}
use Rattle.exports_keys.proofs.Told.{told-small, told-as}
use Rattle.exports_keys.proofs.end_of.Goals as goal

pub overflow_cast-result : goal.overflow_cast-result
overflow_cast-result c = omega (arith, told-small c.args.outcome c.tell_outcome-told.result c.tell_outcome-told.ensures)

pub returns : goal.returns
returns c = told-as c.args.outcome c.tell_outcome-told.result c.tell_outcome-told.ensures
