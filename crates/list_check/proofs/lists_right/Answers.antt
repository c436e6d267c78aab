-- `list_check::lists_right` meets its contract.
use Rattle.list_check.proofs.Judged.{counted, answered}
use mathlib.Core.Path.{sym, ◌∙◌}
use Rattle.list_check.proofs.lists_right.Goals as goal

pub are_lists-requires : goal.are_lists-requires
are_lists-requires c = counted c.args.axes c.args.key.now c.args.own.now c.args.begin.now c.args.total.now c.args.u_starts.now c.args.u_keys.now c.args.v_starts.now c.args.v_keys.now (sym c.check_tree.ensures ∙ c.in_ok-check_tree.was)

pub returns : goal.returns
returns c = answered c.args.axes c.args.key.now c.args.own.now c.args.begin.now c.args.total.now c.args.u_starts.now c.args.u_keys.now c.args.v_starts.now c.args.v_keys.now (sym c.check_tree.ensures ∙ c.in_ok-check_tree.was) c.are_lists.result c.are_lists.ensures
