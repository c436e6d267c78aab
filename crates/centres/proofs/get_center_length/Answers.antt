-- `centres::get_center_length` meets its contract.
use mathlib.Core.Path.{sym, ap, ◌∙◌}
use native.Mathlib.Omega.{arith}
use lib.Dec.{lit<}
use Rattle.morton.specs.Keys.{ValidKey}
use Rattle.space.specs.Cells.{side}
use Rattle.centres.proofs.Centres.{key-done}
use Rattle.centres.proofs.Answers.{done-centre}
use Rattle.centres.proofs.get_center_length.Goals as goal

pub anchors_of-anchor-requires : goal.anchors_of-anchor-requires
anchors_of-anchor-requires c =
    let done : ValidKey c.args.b.axes c.args.key = (key-done c.args.b c.args.key (sym c.key_outcome.ensures ∙ c.in_ok-key_outcome.was)).1 in
    done

pub centre_on-x-requires : goal.centre_on-x-requires
centre_on-x-requires c =
    let done : ValidKey c.args.b.axes c.args.key = (key-done c.args.b c.args.key (sym c.key_outcome.ensures ∙ c.in_ok-key_outcome.was)).1 in
    (done, c.anchors_of-anchor.ensures, lit< tt)

pub centre_on-y-requires : goal.centre_on-y-requires
centre_on-y-requires c =
    let done : ValidKey c.args.b.axes c.args.key = (key-done c.args.b c.args.key (sym c.key_outcome.ensures ∙ c.in_ok-key_outcome.was)).1 in
    (done, c.anchors_of-anchor.ensures, lit< tt)

pub centre_on-z-requires : goal.centre_on-z-requires
centre_on-z-requires c =
    let done : ValidKey c.args.b.axes c.args.key = (key-done c.args.b c.args.key (sym c.key_outcome.ensures ∙ c.in_ok-key_outcome.was)).1 in
    (done, c.anchors_of-anchor.ensures, lit< tt)

pub side_at-requires : goal.side_at-requires
side_at-requires c =
    let done : ValidKey c.args.b.axes c.args.key = (key-done c.args.b c.args.key (sym c.key_outcome.ensures ∙ c.in_ok-key_outcome.was)).1 in
    omega (arith, c.level_of.ensures, done.level)

pub returns : goal.returns
returns c = done-centre c.args.b c.args.key c.centre_on-x.result c.centre_on-y.result c.centre_on-z.result c.side_at.result
    (sym c.key_outcome.ensures ∙ c.in_ok-key_outcome.was) c.centre_on-x.ensures c.centre_on-y.ensures c.centre_on-z.ensures (c.side_at.ensures ∙ ap (side c.args.b.radius) c.level_of.ensures)
