-- The answer told is the definition's, and agrees.
use mathlib.Core.Path.{refl, ap, ◌∙◌}
use mathlib.Core.Bool.{Bool, false}
use Rattle.refusal.specs.Outcome.{Answer, ending, answer_or}
use Rattle.exports_keys.specs.Told.{told}
use Rattle.centres.specs.Centres.{are_adjacent}
use Rattle.exports_points.proofs.Agreed.{agreed-told}
use Rattle.exports_points.proofs.lohandema_are_adjacent.Goals as goal

pub returns : goal.returns
returns c =
    let e = c.are_adjacent.ensures.answer ∙ ap (λ b. are_adjacent b c.args.first c.args.second) c.box_at-b.ensures in
    let ended = c.tell.ensures.ended ∙ ap (λ (a : Answer Bool). told (ending a)) e in
    let adjacent = c.tell.ensures.place ∙ ap (answer_or false) e in
    record { ended = ended; adjacent = adjacent; agrees = agreed-told _ _ c.args.first c.args.second _ _ _ _ c.box_at-b.ensures refl c.are_adjacent.ensures.agrees c.tell.ensures.ended c.tell.ensures.place }
