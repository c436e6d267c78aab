-- `lists::write_lists` meets its contract.
use mathlib.Core.Path.{refl, sym, ◌∙◌}
use mathlib.Core.Bool.{true, false}
use native.Mathlib.Omega.{arith}
use lib.ListN.{length, drop}
use lib.Seq.{length-take-le}
use Rattle.node_rows.specs.Rows.{list_row}
use Rattle.lists.proofs.Writing.{cap-le, rest-length}
use Rattle.links.proofs.Children.{sound-linked, linked-tree}
use Rattle.lists.proofs.Both.{cap-most, both-short, both-kept}
use Rattle.lists.proofs.write_lists.Goals as goal

pub link_nodes-requires : goal.link_nodes-requires
link_nodes-requires c = (sound-linked c.requires.0 c.requires.3, omega (arith, c.requires.2))

pub slice_bounds-write_rows-end-2 : goal.slice_bounds-write_rows-end-2
slice_bounds-write_rows-end-2 c = sym (length-take-le _ _ (cap-le _ _ c.room_of-u_room.ensures))

pub slice_bounds-write_rows-end-4 : goal.slice_bounds-write_rows-end-4
slice_bounds-write_rows-end-4 c = sym (length-take-le _ _ (cap-le _ _ c.room_of-v_room.ensures))

pub write_rows-sizes-requires : goal.write_rows-sizes-requires
write_rows-sizes-requires c = (linked-tree c.requires.0 c.requires.3 (omega (arith, c.requires.2)) c.link_nodes.ensures, (c.requires.1, cap-most _ c.args.u_keys.now c.room_of-u_room.ensures, cap-most _ c.args.v_keys.now c.room_of-v_room.ensures))

pub overflow_add-places : goal.overflow_add-places
overflow_add-places c = record { fits = omega (arith, c.well_formed.1.0) }

pub returns-in-Err : goal.returns-in-Err
returns-in-Err c = both-short (list_row c.args.axes c.args.key.now c.args.own.now false) (list_row c.args.axes c.args.key.now c.args.own.now true) c.args.key.now c.write_rows-sizes.new.starts c.write_rows-sizes.new.u_keys c.write_rows-sizes.new.v_keys _ _ c.room_of-u_room.result (length c.args.u_keys.now) c.room_of-v_room.result (length c.args.v_keys.now) c.write_rows-sizes.ensures (c.write_rows-sizes.auto.u_keys ∙ length-take-le _ _ (cap-le _ _ c.room_of-u_room.ensures)) c.room_of-u_room.ensures (c.write_rows-sizes.auto.v_keys ∙ length-take-le _ _ (cap-le _ _ c.room_of-v_room.ensures)) c.room_of-v_room.ensures _ (sym c.check_room.ensures ∙ c.in-Err.is) (length c.args.u_starts.now) (length c.args.v_starts.now) (length c.link_nodes.new.links) (drop c.room_of-u_room.result c.args.u_keys.now) (drop c.room_of-v_room.result c.args.v_keys.now) _ _ _ _ (rest-length _ c.args.u_keys.now (cap-le _ _ c.room_of-u_room.ensures)) (rest-length _ c.args.v_keys.now (cap-le _ _ c.room_of-v_room.ensures)) c.write_rows-sizes.auto.starts c.link_nodes.auto.links c.clear_lists.ensures.u_starts_after c.clear_lists.ensures.u_keys_after c.clear_lists.ensures.v_starts_after c.clear_lists.ensures.v_keys_after

pub finish-requires : goal.finish-requires
finish-requires c = (omega (arith, c.requires.1, c.write_rows-sizes.auto.starts), omega (arith, c.requires.2, c.link_nodes.auto.links))

pub returns : goal.returns
returns c = both-kept (list_row c.args.axes c.args.key.now c.args.own.now false) (list_row c.args.axes c.args.key.now c.args.own.now true) c.args.key.now c.write_rows-sizes.new.starts c.write_rows-sizes.new.u_keys c.write_rows-sizes.new.v_keys _ _ c.room_of-u_room.result (length c.args.u_keys.now) c.room_of-v_room.result (length c.args.v_keys.now) c.write_rows-sizes.ensures (c.write_rows-sizes.auto.u_keys ∙ length-take-le _ _ (cap-le _ _ c.room_of-u_room.ensures)) c.room_of-u_room.ensures (c.write_rows-sizes.auto.v_keys ∙ length-take-le _ _ (cap-le _ _ c.room_of-v_room.ensures)) c.room_of-v_room.ensures (sym c.check_room.ensures ∙ c.in_default.is) c.write_rows-sizes.result refl refl (length c.args.u_starts.now) (length c.args.v_starts.now) (length c.link_nodes.new.links) (drop c.room_of-u_room.result c.args.u_keys.now) (drop c.room_of-v_room.result c.args.v_keys.now) _ _ _ _ (rest-length _ c.args.u_keys.now (cap-le _ _ c.room_of-u_room.ensures)) (rest-length _ c.args.v_keys.now (cap-le _ _ c.room_of-v_room.ensures)) c.write_rows-sizes.auto.starts c.link_nodes.auto.links (c.finish.ensures.u_starts_after, c.finish.ensures.v_starts_after) c.finish.ensures.u_keys_after
