-- `sum_check::readings_outcome` meets its contract.
use Rattle.sum_check.proofs.Checks.{root_in, not-tree, other-number, too_large, readings-done}
use mathlib.Core.Path.{sym, ◌∙◌}
use Rattle.sum_check.proofs.readings_outcome.Goals as goal

pub bounds-total-0 : goal.bounds-total-0
bounds-total-0 c = root_in c.args.axes c.args.key.now c.args.own.now c.args.begin.now c.args.total.now (sym c.check_tree.ensures ∙ c.in_ok-check_tree.was)

pub returns-then-readings-total : goal.returns-then-readings-total
returns-then-readings-total c = other-number c.args.axes c.args.key.now c.args.own.now c.args.begin.now c.args.total.now c.args.readings.now (sym c.check_tree.ensures ∙ c.in_ok-check_tree.was) c.if-readings-total.true

pub returns-then-large-readings : goal.returns-then-large-readings
returns-then-large-readings c = too_large c.args.axes c.args.key.now c.args.own.now c.args.begin.now c.args.total.now c.args.readings.now (sym c.check_tree.ensures ∙ c.in_ok-check_tree.was) c.if-readings-total.false c.first_large-large.result c.first_large-large.ensures c.if-large-readings.true

pub returns : goal.returns
returns c = readings-done c.args.axes c.args.key.now c.args.own.now c.args.begin.now c.args.total.now c.args.readings.now (sym c.check_tree.ensures ∙ c.in_ok-check_tree.was) c.if-readings-total.false c.first_large-large.result c.first_large-large.ensures c.if-large-readings.false
