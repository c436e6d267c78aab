-- `centres::get_side_length` meets its contract.
use mathlib.Core.Path.{sym, ap, ◌∙◌}
use Rattle.space.specs.Cells.{side}
use Rattle.refusal.specs.Chain.{◌then◌}
use Rattle.space.proofs.Refusals.{level-done}
use Rattle.centres.proofs.get_side_length.Goals as goal
use Rattle.std.specs.Prelude.{Ok}

pub side_at-requires : goal.side_at-requires
side_at-requires c = (level-done c.args.b c.args.level (sym c.level_outcome.ensures ∙ c.in_ok-level_outcome.was)).1

pub returns : goal.returns
returns c = let x = side c.args.b.radius c.args.level in
    ap Ok c.side_at.ensures ∙ ap (λ o. o then Ok x) (sym c.in_ok-level_outcome.was ∙ c.level_outcome.ensures)
