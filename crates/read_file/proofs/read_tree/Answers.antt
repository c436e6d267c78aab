-- `read_file::read_tree` meets its contract.
use lib.ListN.{length}
use Rattle.tree_file.specs.Trailer.{column_in}
use Rattle.read_file.proofs.Ending.{refused-answer, refused-left, stands, columned, listed, read_answer, read_left}
use Rattle.read_file.proofs.read_tree.Goals as goal

pub returns-in-Err : goal.returns-in-Err
returns-in-Err c = record { answer = refused-answer c.args.file.now c.args.indices.now c.args.key.now c.args.own.now c.args.begin.now c.args.total.now c.args.u_starts.now c.args.u_keys.now c.args.v_starts.now c.args.v_keys.now c.node_room-nodes.result c.min.result c.min-2.result c.node_room-nodes.ensures c.min.ensures c.min-2.ensures c.judge-judged.result c.judge-judged.ensures _ c.in-Err.is; indices = refused-left c.args.file.now c.args.indices.now c.args.key.now c.args.own.now c.args.begin.now c.args.total.now c.args.u_starts.now c.args.u_keys.now c.args.v_starts.now c.args.v_keys.now c.node_room-nodes.result c.min.result c.min-2.result c.node_room-nodes.ensures c.min.ensures c.min-2.ensures c.judge-judged.result c.judge-judged.ensures _ c.in-Err.is (length c.args.indices.now) (column_in c.args.file.now 5) _ c.clear_columns.ensures.indices_after; key = refused-left c.args.file.now c.args.indices.now c.args.key.now c.args.own.now c.args.begin.now c.args.total.now c.args.u_starts.now c.args.u_keys.now c.args.v_starts.now c.args.v_keys.now c.node_room-nodes.result c.min.result c.min-2.result c.node_room-nodes.ensures c.min.ensures c.min-2.ensures c.judge-judged.result c.judge-judged.ensures _ c.in-Err.is (length c.args.key.now) (column_in c.args.file.now 1) _ c.clear_columns.ensures.key_after; own = refused-left c.args.file.now c.args.indices.now c.args.key.now c.args.own.now c.args.begin.now c.args.total.now c.args.u_starts.now c.args.u_keys.now c.args.v_starts.now c.args.v_keys.now c.node_room-nodes.result c.min.result c.min-2.result c.node_room-nodes.ensures c.min.ensures c.min-2.ensures c.judge-judged.result c.judge-judged.ensures _ c.in-Err.is (length c.args.own.now) (column_in c.args.file.now 2) _ c.clear_columns.ensures.own_after; begin = refused-left c.args.file.now c.args.indices.now c.args.key.now c.args.own.now c.args.begin.now c.args.total.now c.args.u_starts.now c.args.u_keys.now c.args.v_starts.now c.args.v_keys.now c.node_room-nodes.result c.min.result c.min-2.result c.node_room-nodes.ensures c.min.ensures c.min-2.ensures c.judge-judged.result c.judge-judged.ensures _ c.in-Err.is (length c.args.begin.now) (column_in c.args.file.now 3) _ c.clear_columns.ensures.begin_after; total = refused-left c.args.file.now c.args.indices.now c.args.key.now c.args.own.now c.args.begin.now c.args.total.now c.args.u_starts.now c.args.u_keys.now c.args.v_starts.now c.args.v_keys.now c.node_room-nodes.result c.min.result c.min-2.result c.node_room-nodes.ensures c.min.ensures c.min-2.ensures c.judge-judged.result c.judge-judged.ensures _ c.in-Err.is (length c.args.total.now) (column_in c.args.file.now 4) _ c.clear_columns.ensures.total_after; u_starts = refused-left c.args.file.now c.args.indices.now c.args.key.now c.args.own.now c.args.begin.now c.args.total.now c.args.u_starts.now c.args.u_keys.now c.args.v_starts.now c.args.v_keys.now c.node_room-nodes.result c.min.result c.min-2.result c.node_room-nodes.ensures c.min.ensures c.min-2.ensures c.judge-judged.result c.judge-judged.ensures _ c.in-Err.is (length c.args.u_starts.now) (column_in c.args.file.now 6) _ c.clear_lists.ensures.u_starts_after; u_keys = refused-left c.args.file.now c.args.indices.now c.args.key.now c.args.own.now c.args.begin.now c.args.total.now c.args.u_starts.now c.args.u_keys.now c.args.v_starts.now c.args.v_keys.now c.node_room-nodes.result c.min.result c.min-2.result c.node_room-nodes.ensures c.min.ensures c.min-2.ensures c.judge-judged.result c.judge-judged.ensures _ c.in-Err.is (length c.args.u_keys.now) (column_in c.args.file.now 7) _ c.clear_lists.ensures.u_keys_after; v_starts = refused-left c.args.file.now c.args.indices.now c.args.key.now c.args.own.now c.args.begin.now c.args.total.now c.args.u_starts.now c.args.u_keys.now c.args.v_starts.now c.args.v_keys.now c.node_room-nodes.result c.min.result c.min-2.result c.node_room-nodes.ensures c.min.ensures c.min-2.ensures c.judge-judged.result c.judge-judged.ensures _ c.in-Err.is (length c.args.v_starts.now) (column_in c.args.file.now 8) _ c.clear_lists.ensures.v_starts_after; v_keys = refused-left c.args.file.now c.args.indices.now c.args.key.now c.args.own.now c.args.begin.now c.args.total.now c.args.u_starts.now c.args.u_keys.now c.args.v_starts.now c.args.v_keys.now c.node_room-nodes.result c.min.result c.min-2.result c.node_room-nodes.ensures c.min.ensures c.min-2.ensures c.judge-judged.result c.judge-judged.ensures _ c.in-Err.is (length c.args.v_keys.now) (column_in c.args.file.now 9) _ c.clear_lists.ensures.v_keys_after }

pub take_columns-requires : goal.take_columns-requires
take_columns-requires c = (stands c.args.file.now c.args.indices.now c.args.key.now c.args.own.now c.args.begin.now c.args.total.now c.args.u_starts.now c.args.u_keys.now c.args.v_starts.now c.args.v_keys.now c.node_room-nodes.result c.min.result c.min-2.result c.node_room-nodes.ensures c.min.ensures c.min-2.ensures c.judge-judged.result c.judge-judged.ensures _ c.in-Ok.is, columned c.args.file.now c.args.indices.now c.args.key.now c.args.own.now c.args.begin.now c.args.total.now c.args.u_starts.now c.args.u_keys.now c.args.v_starts.now c.args.v_keys.now c.node_room-nodes.result c.min.result c.min-2.result c.node_room-nodes.ensures c.min.ensures c.min-2.ensures c.judge-judged.result c.judge-judged.ensures _ c.in-Ok.is)

pub take_lists-requires : goal.take_lists-requires
take_lists-requires c = (stands c.args.file.now c.args.indices.now c.args.key.now c.args.own.now c.args.begin.now c.args.total.now c.args.u_starts.now c.args.u_keys.now c.args.v_starts.now c.args.v_keys.now c.node_room-nodes.result c.min.result c.min-2.result c.node_room-nodes.ensures c.min.ensures c.min-2.ensures c.judge-judged.result c.judge-judged.ensures _ c.in-Ok.is, listed c.args.file.now c.args.indices.now c.args.key.now c.args.own.now c.args.begin.now c.args.total.now c.args.u_starts.now c.args.u_keys.now c.args.v_starts.now c.args.v_keys.now c.node_room-nodes.result c.min.result c.min-2.result c.node_room-nodes.ensures c.min.ensures c.min-2.ensures c.judge-judged.result c.judge-judged.ensures _ c.in-Ok.is)

pub answer_of-requires : goal.answer_of-requires
answer_of-requires c = stands c.args.file.now c.args.indices.now c.args.key.now c.args.own.now c.args.begin.now c.args.total.now c.args.u_starts.now c.args.u_keys.now c.args.v_starts.now c.args.v_keys.now c.node_room-nodes.result c.min.result c.min-2.result c.node_room-nodes.ensures c.min.ensures c.min-2.ensures c.judge-judged.result c.judge-judged.ensures _ c.in-Ok.is

pub returns-in-Ok : goal.returns-in-Ok
returns-in-Ok c = record { answer = read_answer c.args.file.now c.args.indices.now c.args.key.now c.args.own.now c.args.begin.now c.args.total.now c.args.u_starts.now c.args.u_keys.now c.args.v_starts.now c.args.v_keys.now c.node_room-nodes.result c.min.result c.min-2.result c.node_room-nodes.ensures c.min.ensures c.min-2.ensures c.judge-judged.result c.judge-judged.ensures _ c.in-Ok.is _ c.answer_of.ensures; indices = read_left c.args.file.now c.args.indices.now c.args.key.now c.args.own.now c.args.begin.now c.args.total.now c.args.u_starts.now c.args.u_keys.now c.args.v_starts.now c.args.v_keys.now c.node_room-nodes.result c.min.result c.min-2.result c.node_room-nodes.ensures c.min.ensures c.min-2.ensures c.judge-judged.result c.judge-judged.ensures _ c.in-Ok.is (length c.args.indices.now) (column_in c.args.file.now 5) _ c.take_columns.ensures.indices_after; key = read_left c.args.file.now c.args.indices.now c.args.key.now c.args.own.now c.args.begin.now c.args.total.now c.args.u_starts.now c.args.u_keys.now c.args.v_starts.now c.args.v_keys.now c.node_room-nodes.result c.min.result c.min-2.result c.node_room-nodes.ensures c.min.ensures c.min-2.ensures c.judge-judged.result c.judge-judged.ensures _ c.in-Ok.is (length c.args.key.now) (column_in c.args.file.now 1) _ c.take_columns.ensures.key_after; own = read_left c.args.file.now c.args.indices.now c.args.key.now c.args.own.now c.args.begin.now c.args.total.now c.args.u_starts.now c.args.u_keys.now c.args.v_starts.now c.args.v_keys.now c.node_room-nodes.result c.min.result c.min-2.result c.node_room-nodes.ensures c.min.ensures c.min-2.ensures c.judge-judged.result c.judge-judged.ensures _ c.in-Ok.is (length c.args.own.now) (column_in c.args.file.now 2) _ c.take_columns.ensures.own_after; begin = read_left c.args.file.now c.args.indices.now c.args.key.now c.args.own.now c.args.begin.now c.args.total.now c.args.u_starts.now c.args.u_keys.now c.args.v_starts.now c.args.v_keys.now c.node_room-nodes.result c.min.result c.min-2.result c.node_room-nodes.ensures c.min.ensures c.min-2.ensures c.judge-judged.result c.judge-judged.ensures _ c.in-Ok.is (length c.args.begin.now) (column_in c.args.file.now 3) _ c.take_columns.ensures.begin_after; total = read_left c.args.file.now c.args.indices.now c.args.key.now c.args.own.now c.args.begin.now c.args.total.now c.args.u_starts.now c.args.u_keys.now c.args.v_starts.now c.args.v_keys.now c.node_room-nodes.result c.min.result c.min-2.result c.node_room-nodes.ensures c.min.ensures c.min-2.ensures c.judge-judged.result c.judge-judged.ensures _ c.in-Ok.is (length c.args.total.now) (column_in c.args.file.now 4) _ c.take_columns.ensures.total_after; u_starts = read_left c.args.file.now c.args.indices.now c.args.key.now c.args.own.now c.args.begin.now c.args.total.now c.args.u_starts.now c.args.u_keys.now c.args.v_starts.now c.args.v_keys.now c.node_room-nodes.result c.min.result c.min-2.result c.node_room-nodes.ensures c.min.ensures c.min-2.ensures c.judge-judged.result c.judge-judged.ensures _ c.in-Ok.is (length c.args.u_starts.now) (column_in c.args.file.now 6) _ c.take_lists.ensures.u_starts_after; u_keys = read_left c.args.file.now c.args.indices.now c.args.key.now c.args.own.now c.args.begin.now c.args.total.now c.args.u_starts.now c.args.u_keys.now c.args.v_starts.now c.args.v_keys.now c.node_room-nodes.result c.min.result c.min-2.result c.node_room-nodes.ensures c.min.ensures c.min-2.ensures c.judge-judged.result c.judge-judged.ensures _ c.in-Ok.is (length c.args.u_keys.now) (column_in c.args.file.now 7) _ c.take_lists.ensures.u_keys_after; v_starts = read_left c.args.file.now c.args.indices.now c.args.key.now c.args.own.now c.args.begin.now c.args.total.now c.args.u_starts.now c.args.u_keys.now c.args.v_starts.now c.args.v_keys.now c.node_room-nodes.result c.min.result c.min-2.result c.node_room-nodes.ensures c.min.ensures c.min-2.ensures c.judge-judged.result c.judge-judged.ensures _ c.in-Ok.is (length c.args.v_starts.now) (column_in c.args.file.now 8) _ c.take_lists.ensures.v_starts_after; v_keys = read_left c.args.file.now c.args.indices.now c.args.key.now c.args.own.now c.args.begin.now c.args.total.now c.args.u_starts.now c.args.u_keys.now c.args.v_starts.now c.args.v_keys.now c.node_room-nodes.result c.min.result c.min-2.result c.node_room-nodes.ensures c.min.ensures c.min-2.ensures c.judge-judged.result c.judge-judged.ensures _ c.in-Ok.is (length c.args.v_keys.now) (column_in c.args.file.now 9) _ c.take_lists.ensures.v_keys_after }
