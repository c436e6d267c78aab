-- `text::write_refusal` meets its contract: the number and as many values as there are.
use mathlib.Core.Path.{ap}
use mathlib.Core.List.{[], ◌∷◌}
use native.Mathlib.Omega.{arith}
use Rattle.text.specs.Listing.{line}
use Rattle.text.proofs.Putting.{puts-same, ended}
use Rattle.text.proofs.Refused.{told-most, told-printed}
use Rattle.text.proofs.write_refusal.Goals as goal

pub overflow_add-count : goal.overflow_add-count
overflow_add-count c = omega (arith, told-most c.args.refusal c.tell-told.result c.tell-told.ensures)

pub slice_bounds-numbers-end : goal.slice_bounds-numbers-end
slice_bounds-numbers-end c = omega (arith, told-most c.args.refusal c.tell-told.result c.tell-told.ensures)

pub returns : goal.returns
returns c = let all = ended _ _ _ _ _ _ (puts-same _ _ _ _ _ _ (ap (line (114 ∷ 101 ∷ 102 ∷ 117 ∷ 115 ∷ 101 ∷ 100 ∷ [])) (told-printed c.args.refusal c.tell-told.result c.tell-told.ensures)) c.put_line-n.ensures) c.put_line-n.auto.out c.finish.ensures in record { answer = all.0; text = all.1 }
