-- `lookup::clear_rest` meets its contract.
use mathlib.Core.Path.{sym, ap, ◌∙◌}
use Prim.Native.Nat.{◌/◌}
use Rattle.lookup.specs.Work.{rest_cleared}
use Rattle.lookup.proofs.clear_rest.Goals as goal

pub returns-in-Ok : goal.returns-in-Ok
returns-in-Ok c = c.clear_from.ensures ∙ sym (ap (λ t. rest_cleared t (c.args.numbers / c.args.axes) c.args.output.now) c.in-Ok.is)

pub returns-in-Err : goal.returns-in-Err
returns-in-Err c = c.clear.ensures ∙ sym (ap (λ t. rest_cleared t (c.args.numbers / c.args.axes) c.args.output.now) c.in-Err.is)
