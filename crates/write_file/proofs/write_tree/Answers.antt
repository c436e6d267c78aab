-- `write_file::write_tree` meets its contract.
use mathlib.Core.Path.{refl, sym, ◌∙◌}
use lib.ListN.{length}
use Rattle.refusal.proofs.Chain.{after-refused, answered}
use Rattle.refusal.proofs.Left.{left-done, left-refused}
use Rattle.tree_file.specs.Contents.{contents}
use Rattle.tree_file.specs.Written.{file_of}
use Rattle.file_layout.proofs.Putting.{then-zeros}
use Rattle.write_file.specs.Answers.{write_check}
use Rattle.write_file.proofs.Checks.{fits, checked}
use Rattle.write_file.proofs.write_tree.Goals as goal

pub returns-in-Err : goal.returns-in-Err
returns-in-Err c = record { answer = sym (after-refused (write_check (contents c.args.axes c.args.key.now c.args.own.now c.args.begin.now c.args.total.now c.args.indices.now c.args.u_starts.now c.args.u_keys.now c.args.v_starts.now c.args.v_keys.now) (length c.args.file.now)) _ _ (sym c.write_outcome-checked.ensures ∙ c.in-Err.is)); file = left-refused (write_check (contents c.args.axes c.args.key.now c.args.own.now c.args.begin.now c.args.total.now c.args.indices.now c.args.u_starts.now c.args.u_keys.now c.args.v_starts.now c.args.v_keys.now) (length c.args.file.now)) (length c.args.file.now) (file_of (contents c.args.axes c.args.key.now c.args.own.now c.args.begin.now c.args.total.now c.args.indices.now c.args.u_starts.now c.args.u_keys.now c.args.v_starts.now c.args.v_keys.now)) _ _ _ (sym c.write_outcome-checked.ensures ∙ c.in-Err.is) refl c.clear.ensures }

pub put_file-bytes-requires : goal.put_file-bytes-requires
put_file-bytes-requires c = ((fits c.args.axes c.args.key.now c.args.own.now c.args.begin.now c.args.total.now c.args.indices.now c.args.u_starts.now c.args.u_keys.now c.args.v_starts.now c.args.v_keys.now (checked c.args.axes c.args.key.now c.args.own.now c.args.begin.now c.args.total.now c.args.indices.now c.args.u_starts.now c.args.u_keys.now c.args.v_starts.now c.args.v_keys.now (length c.args.file.now) (sym c.write_outcome-checked.ensures ∙ c.in_default.is)).0).bytes, (checked c.args.axes c.args.key.now c.args.own.now c.args.begin.now c.args.total.now c.args.indices.now c.args.u_starts.now c.args.u_keys.now c.args.v_starts.now c.args.v_keys.now (length c.args.file.now) (sym c.write_outcome-checked.ensures ∙ c.in_default.is)).1)

pub returns : goal.returns
returns c = record { answer = answered (write_check (contents c.args.axes c.args.key.now c.args.own.now c.args.begin.now c.args.total.now c.args.indices.now c.args.u_starts.now c.args.u_keys.now c.args.v_starts.now c.args.v_keys.now) (length c.args.file.now)) _ _ (sym c.write_outcome-checked.ensures ∙ c.in_default.is) c.put_file-bytes.ensures.length; file = left-done (write_check (contents c.args.axes c.args.key.now c.args.own.now c.args.begin.now c.args.total.now c.args.indices.now c.args.u_starts.now c.args.u_keys.now c.args.v_starts.now c.args.v_keys.now) (length c.args.file.now)) (length c.args.file.now) (file_of (contents c.args.axes c.args.key.now c.args.own.now c.args.begin.now c.args.total.now c.args.indices.now c.args.u_starts.now c.args.u_keys.now c.args.v_starts.now c.args.v_keys.now)) _ (sym c.write_outcome-checked.ensures ∙ c.in_default.is) (then-zeros c.args.file.now (file_of (contents c.args.axes c.args.key.now c.args.own.now c.args.begin.now c.args.total.now c.args.indices.now c.args.u_starts.now c.args.u_keys.now c.args.v_starts.now c.args.v_keys.now)) c.put_file-bytes.new.file _ _ (checked c.args.axes c.args.key.now c.args.own.now c.args.begin.now c.args.total.now c.args.indices.now c.args.u_starts.now c.args.u_keys.now c.args.v_starts.now c.args.v_keys.now (length c.args.file.now) (sym c.write_outcome-checked.ensures ∙ c.in_default.is)).1 c.put_file-bytes.auto.file c.put_file-bytes.ensures.bytes c.put_file-bytes.ensures.length c.clear_from.ensures) }
