-- `list_check::row_of` meets its contract.
use Rattle.list_check.proofs.Nodes.{valid, deep, cell}
use lib.ListN.{get_or}
use Rattle.places.specs.Places.{place_of}
use mathlib.Core.Path.{subst, sym}
use Rattle.morton.specs.Keys.{ValidKey}
use Rattle.morton.proofs.Arithmetic.{parent-valid}
use mathlib.Core.Path.{refl, ap, ◌∙◌}
use Rattle.list_check.proofs.row_of.Goals as goal

pub place_of-place-requires : goal.place_of-place-requires
place_of-place-requires c = valid c.args.axes c.args.key.now c.args.own.now c.requires.0 c.args.node c.requires.1

pub parent_of-requires : goal.parent_of-requires
parent_of-requires c = (valid c.args.axes c.args.key.now c.args.own.now c.requires.0 c.args.node c.requires.1, deep c.args.axes c.args.key.now c.args.own.now c.requires.0 c.args.node c.requires.1)

pub place_of-above-requires : goal.place_of-above-requires
place_of-above-requires c = subst (ValidKey c.args.axes) (sym c.parent_of.ensures) (parent-valid c.args.axes (get_or c.args.key.now c.args.node 0) (valid c.args.axes c.args.key.now c.args.own.now c.requires.0 c.args.node c.requires.1) (deep c.args.axes c.args.key.now c.args.own.now c.requires.0 c.args.node c.requires.1))

pub returns : goal.returns
returns c = record { cell = cell c.args.axes c.args.key.now c.args.own.now c.requires.0 c.args.node c.requires.1 c.place_of-place.result c.place_of-above.result c.place_of-place.ensures (c.place_of-above.ensures ∙ ap (place_of c.args.axes) c.parent_of.ensures); key = refl }
