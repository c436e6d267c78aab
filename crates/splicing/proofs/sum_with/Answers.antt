-- `splicing::sum_with` meets its contract.
use mathlib.Core.Path.{sym, ◌∙◌}
use mathlib.Core.Bool.{true, false}
use native.Mathlib.Nat.{add-zero}
use Rattle.splicing.proofs.Copies.{with-bit}
use Rattle.splicing.proofs.sum_with.Goals as goal

pub returns-then-is_on : goal.returns-then-is_on
returns-then-is_on c = with-bit c.args.total _ true (sym (sym c.is_on.ensures ∙ c.if-is_on.true))

pub returns : goal.returns
returns c = sym (add-zero c.args.total) ∙ with-bit c.args.total _ false (sym (sym c.is_on.ensures ∙ c.if-is_on.false))
