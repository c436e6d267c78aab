-- `write_file::write_outcome` meets its contract.
use mathlib.Core.Path.{sym, ◌∙◌}
use native.Mathlib.Omega.{arith}
use Rattle.refusal.proofs.Chain.{passed-on}
use Rattle.write_file.proofs.Checks.{not-writeable, fits, has_room, no_room}
use Rattle.write_file.proofs.write_outcome.Goals as goal

pub returns-in_err-tree_outcome : goal.returns-in_err-tree_outcome
returns-in_err-tree_outcome c = passed-on _ _ c.from_residual.ensures.1 ∙ not-writeable c.args.axes c.args.key.now c.args.own.now c.args.begin.now c.args.total.now c.args.indices.now c.args.u_starts.now c.args.u_keys.now c.args.v_starts.now c.args.v_keys.now c.args.room _ (sym c.tree_outcome.ensures ∙ c.in_err-tree_outcome.was)

pub body_length-bytes-requires : goal.body_length-bytes-requires
body_length-bytes-requires c = (fits c.args.axes c.args.key.now c.args.own.now c.args.begin.now c.args.total.now c.args.indices.now c.args.u_starts.now c.args.u_keys.now c.args.v_starts.now c.args.v_keys.now (sym c.tree_outcome.ensures ∙ c.in_ok-tree_outcome.was)).bytes

pub overflow_add-bytes : goal.overflow_add-bytes
overflow_add-bytes c = omega (arith, c.body_length-bytes.ensures, (fits c.args.axes c.args.key.now c.args.own.now c.args.begin.now c.args.total.now c.args.indices.now c.args.u_starts.now c.args.u_keys.now c.args.v_starts.now c.args.v_keys.now (sym c.tree_outcome.ensures ∙ c.in_ok-tree_outcome.was)).bytes)

pub returns-then-bytes-room : goal.returns-then-bytes-room
returns-then-bytes-room c = has_room c.args.axes c.args.key.now c.args.own.now c.args.begin.now c.args.total.now c.args.indices.now c.args.u_starts.now c.args.u_keys.now c.args.v_starts.now c.args.v_keys.now c.args.room (sym c.tree_outcome.ensures ∙ c.in_ok-tree_outcome.was) _ c.body_length-bytes.ensures c.if-bytes-room.true

pub returns : goal.returns
returns c = no_room c.args.axes c.args.key.now c.args.own.now c.args.begin.now c.args.total.now c.args.indices.now c.args.u_starts.now c.args.u_keys.now c.args.v_starts.now c.args.v_keys.now c.args.room (sym c.tree_outcome.ensures ∙ c.in_ok-tree_outcome.was) _ c.body_length-bytes.ensures c.if-bytes-room.false
