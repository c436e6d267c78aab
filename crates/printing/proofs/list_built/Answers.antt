-- `printing::list_built` meets its contract.
use mathlib.Core.Path.{sym, ap, ◌∙◌}
use lib.ListN.{length}
use lib.Seq.{length-take-le}
use Rattle.tree.specs.Columns.{node_room}
use Rattle.text.specs.Listing.{text_answer, text_left}
use Rattle.printing.proofs.Rooms.{built-refused, key-long, own-long, begin-long, total-long, built-text}
use Rattle.printing.proofs.list_built.Goals as goal

pub slice_bounds-list_columns-end : goal.slice_bounds-list_columns-end
slice_bounds-list_columns-end c = key-long c.args.survey c.args.sources.now c.args.targets.now (length c.args.work.now) (length c.args.indices.now) (node_room (length c.args.key.now) (length c.args.own.now) (length c.args.begin.now) (length c.args.total.now)) c.build_tree-built.result c.build_tree-built.ensures.value _ c.in-Ok.is _ _ c.build_tree-built.ensures.key_after

pub slice_bounds-list_columns-end-in-Ok : goal.slice_bounds-list_columns-end-in-Ok
slice_bounds-list_columns-end-in-Ok c = sym (length-take-le _ _ (key-long c.args.survey c.args.sources.now c.args.targets.now (length c.args.work.now) (length c.args.indices.now) (node_room (length c.args.key.now) (length c.args.own.now) (length c.args.begin.now) (length c.args.total.now)) c.build_tree-built.result c.build_tree-built.ensures.value _ c.in-Ok.is _ _ c.build_tree-built.ensures.key_after))

pub slice_bounds-list_columns-end-in-Ok-2 : goal.slice_bounds-list_columns-end-in-Ok-2
slice_bounds-list_columns-end-in-Ok-2 c = own-long c.args.survey c.args.sources.now c.args.targets.now (length c.args.work.now) (length c.args.indices.now) (node_room (length c.args.key.now) (length c.args.own.now) (length c.args.begin.now) (length c.args.total.now)) c.build_tree-built.result c.build_tree-built.ensures.value _ c.in-Ok.is _ _ c.build_tree-built.ensures.own_after

pub slice_bounds-list_columns-end-in-Ok-3 : goal.slice_bounds-list_columns-end-in-Ok-3
slice_bounds-list_columns-end-in-Ok-3 c = sym (length-take-le _ _ (own-long c.args.survey c.args.sources.now c.args.targets.now (length c.args.work.now) (length c.args.indices.now) (node_room (length c.args.key.now) (length c.args.own.now) (length c.args.begin.now) (length c.args.total.now)) c.build_tree-built.result c.build_tree-built.ensures.value _ c.in-Ok.is _ _ c.build_tree-built.ensures.own_after))

pub slice_bounds-list_columns-end-in-Ok-4 : goal.slice_bounds-list_columns-end-in-Ok-4
slice_bounds-list_columns-end-in-Ok-4 c = begin-long c.args.survey c.args.sources.now c.args.targets.now (length c.args.work.now) (length c.args.indices.now) (node_room (length c.args.key.now) (length c.args.own.now) (length c.args.begin.now) (length c.args.total.now)) c.build_tree-built.result c.build_tree-built.ensures.value _ c.in-Ok.is _ _ c.build_tree-built.ensures.begin_after

pub slice_bounds-list_columns-end-in-Ok-5 : goal.slice_bounds-list_columns-end-in-Ok-5
slice_bounds-list_columns-end-in-Ok-5 c = sym (length-take-le _ _ (begin-long c.args.survey c.args.sources.now c.args.targets.now (length c.args.work.now) (length c.args.indices.now) (node_room (length c.args.key.now) (length c.args.own.now) (length c.args.begin.now) (length c.args.total.now)) c.build_tree-built.result c.build_tree-built.ensures.value _ c.in-Ok.is _ _ c.build_tree-built.ensures.begin_after))

pub slice_bounds-list_columns-end-in-Ok-6 : goal.slice_bounds-list_columns-end-in-Ok-6
slice_bounds-list_columns-end-in-Ok-6 c = total-long c.args.survey c.args.sources.now c.args.targets.now (length c.args.work.now) (length c.args.indices.now) (node_room (length c.args.key.now) (length c.args.own.now) (length c.args.begin.now) (length c.args.total.now)) c.build_tree-built.result c.build_tree-built.ensures.value _ c.in-Ok.is _ _ c.build_tree-built.ensures.total_after

pub slice_bounds-list_columns-end-in-Ok-7 : goal.slice_bounds-list_columns-end-in-Ok-7
slice_bounds-list_columns-end-in-Ok-7 c = sym (length-take-le _ _ (total-long c.args.survey c.args.sources.now c.args.targets.now (length c.args.work.now) (length c.args.indices.now) (node_room (length c.args.key.now) (length c.args.own.now) (length c.args.begin.now) (length c.args.total.now)) c.build_tree-built.result c.build_tree-built.ensures.value _ c.in-Ok.is _ _ c.build_tree-built.ensures.total_after))

pub returns-in-Err : goal.returns-in-Err
returns-in-Err c = let e = built-refused c.args.survey c.args.sources.now c.args.targets.now (length c.args.work.now) (length c.args.indices.now) (node_room (length c.args.key.now) (length c.args.own.now) (length c.args.begin.now) (length c.args.total.now)) c.build_tree-built.result c.build_tree-built.ensures.value _ c.in-Err.is in record { answer = c.write_refusal.ensures.answer ∙ ap (text_answer (length c.args.out.now)) e; text = c.write_refusal.ensures.text ∙ ap (text_left (length c.args.out.now)) e }

pub returns-in-Ok : goal.returns-in-Ok
returns-in-Ok c = let e = built-text c.args.survey c.args.sources.now c.args.targets.now (length c.args.work.now) (length c.args.indices.now) (node_room (length c.args.key.now) (length c.args.own.now) (length c.args.begin.now) (length c.args.total.now)) c.build_tree-built.result c.build_tree-built.ensures.value _ c.in-Ok.is _ _ _ _ _ _ _ _ c.build_tree-built.ensures.key_after c.build_tree-built.ensures.own_after c.build_tree-built.ensures.begin_after c.build_tree-built.ensures.total_after in record { answer = c.list_columns.ensures.answer ∙ ap (text_answer (length c.args.out.now)) e; text = c.list_columns.ensures.text ∙ ap (text_left (length c.args.out.now)) e }
