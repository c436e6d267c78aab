-- The tree's check, then the room.
use mathlib.Core.Path.{sym, ◌∙◌}
use Rattle.list_sizes.proofs.Checks.{not-tree, short-links, short_row, both-have}
use Rattle.list_sizes.proofs.room_outcome.Goals as goal

pub returns-then-links-key : goal.returns-then-links-key
returns-then-links-key c = short-links c.args.axes c.args.key.now c.args.own.now c.args.begin.now c.args.total.now c.args.links c.args.row (sym c.check_tree.ensures ∙ c.in_ok-check_tree.was) c.if-links-key.true

pub returns-then-row-key : goal.returns-then-row-key
returns-then-row-key c = short_row c.args.axes c.args.key.now c.args.own.now c.args.begin.now c.args.total.now c.args.links c.args.row (sym c.check_tree.ensures ∙ c.in_ok-check_tree.was) c.if-links-key.false c.if-row-key.true

pub returns : goal.returns
returns c = both-have c.args.axes c.args.key.now c.args.own.now c.args.begin.now c.args.total.now c.args.links c.args.row (sym c.check_tree.ensures ∙ c.in_ok-check_tree.was) c.if-links-key.false c.if-row-key.false
