-- `file_layout::put_file` meets its contract.
use Rattle.tree_file.specs.Contents.{contents}
use Rattle.file_layout.proofs.Putting.{columns-fit, lists-fit, trailer-fit, file-done}
use Rattle.file_layout.proofs.put_file.Goals as goal

pub put_columns-middle-requires : goal.put_columns-middle-requires
put_columns-middle-requires c = columns-fit (contents c.args.axes c.args.key.now c.args.own.now c.args.begin.now c.args.total.now c.args.indices.now c.args.u_starts.now c.args.u_keys.now c.args.v_starts.now c.args.v_keys.now) c.args.file.now c.requires.1

pub put_lists-end-requires : goal.put_lists-end-requires
put_lists-end-requires c = lists-fit (contents c.args.axes c.args.key.now c.args.own.now c.args.begin.now c.args.total.now c.args.indices.now c.args.u_starts.now c.args.u_keys.now c.args.v_starts.now c.args.v_keys.now) c.args.file.now c.requires.1 c.put_columns-middle.new.file _ c.put_columns-middle.auto.file c.put_columns-middle.ensures.end

pub put_trailer-requires : goal.put_trailer-requires
put_trailer-requires c = trailer-fit (contents c.args.axes c.args.key.now c.args.own.now c.args.begin.now c.args.total.now c.args.indices.now c.args.u_starts.now c.args.u_keys.now c.args.v_starts.now c.args.v_keys.now) c.args.file.now c.requires.1 c.put_columns-middle.new.file _ c.put_columns-middle.auto.file c.put_columns-middle.ensures.end c.put_lists-end.new.file _ _ c.put_lists-end.auto.file c.put_lists-end.ensures.end c.section_lengths-lengths.ensures

pub returns : goal.returns
returns c = let all = file-done (contents c.args.axes c.args.key.now c.args.own.now c.args.begin.now c.args.total.now c.args.indices.now c.args.u_starts.now c.args.u_keys.now c.args.v_starts.now c.args.v_keys.now) c.args.file.now c.requires.1 c.put_columns-middle.new.file _ c.put_columns-middle.auto.file c.put_columns-middle.ensures.end c.put_lists-end.new.file _ _ c.put_lists-end.auto.file c.put_lists-end.ensures.end c.section_lengths-lengths.ensures _ c.put_columns-middle.ensures.bytes c.put_lists-end.ensures.bytes c.put_trailer.ensures in record { bytes = all.0; length = all.1 }
