-- `text::put_field` meets its contract.
use mathlib.Core.List.{[], ◌∷◌}
use Rattle.text.specs.Digits.{decimal}
use Rattle.text.proofs.Putting.{puts-join}
use Rattle.text.proofs.put_field.Goals as goal

pub returns : goal.returns
returns c = puts-join _ _ _ (32 ∷ []) (decimal c.args.x) _ _ _ c.put-m.ensures c.put_decimal.ensures
