-- Refused by the arguments, or counted and told; both slices are cleared.
use mathlib.Core.Path.{sym, ap, ◌∙◌}
use lib.ListN.{length, replicate}
use Rattle.refusal.proofs.Chain.{passed-on}
use Rattle.list_sizes.proofs.Checks.{has-passed, refused, told-over, told-sizes}
use Rattle.list_sizes.proofs.get_list_sizes.Goals as goal

pub returns-in-Err : goal.returns-in-Err
returns-in-Err c = record { answer = refused c.args.axes c.args.key.now c.args.own.now c.args.begin.now c.args.total.now (length c.args.links.now) (length c.args.row.now) _ (sym c.room_outcome-checked.ensures ∙ c.in-Err.is); links = c.clear_usize.ensures; row = c.clear.ensures }

pub count_lists-sizes-requires : goal.count_lists-sizes-requires
count_lists-sizes-requires c = let p = has-passed c.args.axes c.args.key.now c.args.own.now c.args.begin.now c.args.total.now (length c.args.links.now) (length c.args.row.now) (sym c.room_outcome-checked.ensures ∙ c.in_default.is) in record { sound_tree = (p.sound, p.totals); key_in_bounds = (p.links, p.row) }

pub returns-in_err-check_room : goal.returns-in_err-check_room
returns-in_err-check_room c = record { answer = passed-on _ _ c.from_residual.ensures.1 ∙ told-over c.args.axes c.args.key.now c.args.own.now c.args.begin.now c.args.total.now (length c.args.links.now) (length c.args.row.now) (sym c.room_outcome-checked.ensures ∙ c.in_default.is) _ _ c.count_lists-sizes.ensures _ (sym c.check_room.ensures ∙ c.in_err-check_room.was); links = c.clear_usize-2.ensures ∙ ap (λ n. replicate n 0) c.count_lists-sizes.auto.links; row = c.clear-2.ensures ∙ ap (λ n. replicate n 0) c.count_lists-sizes.auto.row }

pub returns : goal.returns
returns c = record { answer = told-sizes c.args.axes c.args.key.now c.args.own.now c.args.begin.now c.args.total.now (length c.args.links.now) (length c.args.row.now) (sym c.room_outcome-checked.ensures ∙ c.in_default.is) _ _ c.count_lists-sizes.ensures (sym c.check_room.ensures ∙ c.in_ok-check_room.was); links = c.clear_usize-2.ensures ∙ ap (λ n. replicate n 0) c.count_lists-sizes.auto.links; row = c.clear-2.ensures ∙ ap (λ n. replicate n 0) c.count_lists-sizes.auto.row }
