-- `salvage::salvage` meets its contract.
use mathlib.Core.Path.{refl, sym, ap, ◌∙◌}
use mathlib.Core.List.{◌++◌}
use Prim.Native.Nat.{ℕ}
use native.Mathlib.Omega.{arith}
use lib.ListN.{length, drop}
use lib.Seq.{length-take-le}
use Rattle.salvaged.specs.Nodes.{input}
use Rattle.salvaged.specs.Columns.{new_keys, new_own, new_begins, new_totals, new_order_of}
use Rattle.salvaged.specs.Changes.{changed_keys, change_codes}
use Rattle.salvaged.specs.Answers.{salvage_check, counts}
use Rattle.salvaged.proofs.Listed.{codes-length}
use Rattle.refusal.specs.Outcome.{Answer, ending}
use Rattle.refusal.proofs.Chain.{after-refused}
use Rattle.std.specs.Prelude.{Ok}
use Rattle.salvage_start.specs.declared.Started.{Started}
use Rattle.salvage_start.specs.Started.{start_check}
use Rattle.salvage_start.proofs.Filling.{whole-kept}
use Rattle.salvage.specs.Rooms.{rooms}
use Rattle.salvage.proofs.Finish.{start-refused, list-short, list-fits, told-are, passed, many, keys_are, owns-are, own-many, begin-many, total-many, listable, begins-are, totallable, totals-are, left-refused, left-filled, left-part, answer-done}
use Rattle.salvage.proofs.salvage.Goals as goal

pub node_room-room-requires : goal.node_room-room-requires
node_room-room-requires c = tt

pub start-started-requires : goal.start-started-requires
start-started-requires c = record { keys = omega (arith, c.node_room-room.ensures); owns = omega (arith, c.node_room-room.ensures); begins = omega (arith, c.node_room-room.ensures) }

pub clear_keys-requires : goal.clear_keys-requires
clear_keys-requires c = tt

pub clear_columns-requires : goal.clear_columns-requires
clear_columns-requires c = tt

pub returns-in-Err : goal.returns-in-Err
returns-in-Err c = let i = input c.args.axes c.args.key.now c.args.own.now c.args.begin.now c.args.indices.now in let r = rooms c.args.new_indices.now c.args.new_key.now c.args.new_own.now c.args.new_begin.now c.args.new_total.now c.args.codes.now c.args.changed.now in let chk = salvage_check i r in let e0 = c.start-started.ensures.outcome_value ∙ ap (λ (x : ℕ). start_check i (length c.args.new_indices.now) x) c.node_room-room.ensures in record { value = sym (after-refused chk (Ok (counts i)) _ (start-refused i r (ending c.start-started.result) _ e0 (ap (λ (a : Answer Started). ending a) c.in-Err.is))); new_indices_after = left-refused chk _ (start-refused i r (ending c.start-started.result) _ e0 (ap (λ (a : Answer Started). ending a) c.in-Err.is)) (length c.args.new_indices.now) (new_order_of i) _ _ (refl) c.clear_keys.ensures.order_after; new_key_after = left-refused chk _ (start-refused i r (ending c.start-started.result) _ e0 (ap (λ (a : Answer Started). ending a) c.in-Err.is)) (length c.args.new_key.now) (new_keys i) _ _ c.start-started.auto.new_key c.clear_keys.ensures.key_after; new_own_after = left-refused chk _ (start-refused i r (ending c.start-started.result) _ e0 (ap (λ (a : Answer Started). ending a) c.in-Err.is)) (length c.args.new_own.now) (new_own i) _ _ c.start-started.auto.new_own c.clear_columns.ensures.own_after; new_begin_after = left-refused chk _ (start-refused i r (ending c.start-started.result) _ e0 (ap (λ (a : Answer Started). ending a) c.in-Err.is)) (length c.args.new_begin.now) (new_begins i) _ _ c.start-started.auto.new_begin c.clear_columns.ensures.begin_after; new_total_after = left-refused chk _ (start-refused i r (ending c.start-started.result) _ e0 (ap (λ (a : Answer Started). ending a) c.in-Err.is)) (length c.args.new_total.now) (new_totals i) _ _ (refl) c.clear_columns.ensures.total_after; codes_after = left-refused chk _ (start-refused i r (ending c.start-started.result) _ e0 (ap (λ (a : Answer Started). ending a) c.in-Err.is)) (length c.args.codes.now) (change_codes i) _ _ (refl) c.clear_keys.ensures.codes_after; changed_after = left-refused chk _ (start-refused i r (ending c.start-started.result) _ e0 (ap (λ (a : Answer Started). ending a) c.in-Err.is)) (length c.args.changed.now) (changed_keys i) _ _ (refl) c.clear_keys.ensures.changed_after }

pub slice_bounds-list-end : goal.slice_bounds-list-end
slice_bounds-list-end c = (omega (arith, (c.in-Ok.ensures.started_with).fits, c.node_room-room.ensures, c.start-started.auto.new_key))

pub slice_bounds-list-end-2 : goal.slice_bounds-list-end-2
slice_bounds-list-end-2 c = sym (length-take-le _ _ (omega (arith, (c.in-Ok.ensures.started_with).fits, c.node_room-room.ensures, c.start-started.auto.new_key)))

pub slice_bounds-list-end-3 : goal.slice_bounds-list-end-3
slice_bounds-list-end-3 c = (omega (arith, (c.in-Ok.ensures.started_with).fits, c.node_room-room.ensures, c.start-started.auto.new_own))

pub slice_bounds-list-end-4 : goal.slice_bounds-list-end-4
slice_bounds-list-end-4 c = sym (length-take-le _ _ (omega (arith, (c.in-Ok.ensures.started_with).fits, c.node_room-room.ensures, c.start-started.auto.new_own)))

pub slice_bounds-list-end-5 : goal.slice_bounds-list-end-5
slice_bounds-list-end-5 c = (omega (arith, (c.in-Ok.ensures.started_with).fits, c.node_room-room.ensures, c.start-started.auto.new_begin))

pub slice_bounds-list-end-6 : goal.slice_bounds-list-end-6
slice_bounds-list-end-6 c = sym (length-take-le _ _ (omega (arith, (c.in-Ok.ensures.started_with).fits, c.node_room-room.ensures, c.start-started.auto.new_begin)))

pub slice_bounds-list-end-7 : goal.slice_bounds-list-end-7
slice_bounds-list-end-7 c = (omega (arith, (c.in-Ok.ensures.started_with).fits, c.node_room-room.ensures))

pub slice_bounds-list-end-8 : goal.slice_bounds-list-end-8
slice_bounds-list-end-8 c = sym (length-take-le _ _ (omega (arith, (c.in-Ok.ensures.started_with).fits, c.node_room-room.ensures)))

pub list-changes-requires : goal.list-changes-requires
list-changes-requires c = let i = input c.args.axes c.args.key.now c.args.own.now c.args.begin.now c.args.indices.now in let w = c.in-Ok.ensures.started_with in listable i (length c.args.new_indices.now) c.node_room-room.result c.in-Ok.s.nodes c.in-Ok.s.sources c.start-started.new.new_key c.start-started.new.new_own c.start-started.new.new_begin (passed i (length c.args.new_indices.now) c.node_room-room.result (ending c.start-started.result) c.start-started.ensures.outcome_value (ap (λ (a : Answer Started). ending a) c.in-Ok.is)) w c.args.new_indices.now c.args.new_total.now refl (omega (arith, w.fits, c.node_room-room.ensures))

pub clear_keys-requires-then-min-changes : goal.clear_keys-requires-then-min-changes
clear_keys-requires-then-min-changes c = tt

pub clear_columns-requires-then-min-changes : goal.clear_columns-requires-then-min-changes
clear_columns-requires-then-min-changes c = tt

pub returns-then-min-changes : goal.returns-then-min-changes
returns-then-min-changes c = let i = input c.args.axes c.args.key.now c.args.own.now c.args.begin.now c.args.indices.now in let r = rooms c.args.new_indices.now c.args.new_key.now c.args.new_own.now c.args.new_begin.now c.args.new_total.now c.args.codes.now c.args.changed.now in let chk = salvage_check i r in let e0 = c.start-started.ensures.outcome_value ∙ ap (λ (x : ℕ). start_check i (length c.args.new_indices.now) x) c.node_room-room.ensures in let w = c.in-Ok.ensures.started_with in record { value = sym (after-refused chk (Ok (counts i)) _ (list-short i r (ending c.start-started.result) e0 (ap (λ (a : Answer Started). ending a) c.in-Ok.is) c.list-changes.new.codes c.list-changes.new.changed _ c.list-changes.ensures.listed c.list-changes.auto.codes c.list-changes.auto.changed (omega (arith, c.min.ensures, c.if-min-changes.true)))); new_indices_after = left-refused chk _ (list-short i r (ending c.start-started.result) e0 (ap (λ (a : Answer Started). ending a) c.in-Ok.is) c.list-changes.new.codes c.list-changes.new.changed _ c.list-changes.ensures.listed c.list-changes.auto.codes c.list-changes.auto.changed (omega (arith, c.min.ensures, c.if-min-changes.true))) (length c.args.new_indices.now) (new_order_of i) _ _ c.list-changes.auto.new_order c.clear_keys-then-min-changes.ensures.order_after; new_key_after = left-refused chk _ (list-short i r (ending c.start-started.result) e0 (ap (λ (a : Answer Started). ending a) c.in-Ok.is) c.list-changes.new.codes c.list-changes.new.changed _ c.list-changes.ensures.listed c.list-changes.auto.codes c.list-changes.auto.changed (omega (arith, c.min.ensures, c.if-min-changes.true))) (length c.args.new_key.now) (new_keys i) _ _ c.start-started.auto.new_key c.clear_keys-then-min-changes.ensures.key_after; new_own_after = left-refused chk _ (list-short i r (ending c.start-started.result) e0 (ap (λ (a : Answer Started). ending a) c.in-Ok.is) c.list-changes.new.codes c.list-changes.new.changed _ c.list-changes.ensures.listed c.list-changes.auto.codes c.list-changes.auto.changed (omega (arith, c.min.ensures, c.if-min-changes.true))) (length c.args.new_own.now) (new_own i) _ _ c.start-started.auto.new_own c.clear_columns-then-min-changes.ensures.own_after; new_begin_after = left-refused chk _ (list-short i r (ending c.start-started.result) e0 (ap (λ (a : Answer Started). ending a) c.in-Ok.is) c.list-changes.new.codes c.list-changes.new.changed _ c.list-changes.ensures.listed c.list-changes.auto.codes c.list-changes.auto.changed (omega (arith, c.min.ensures, c.if-min-changes.true))) (length c.args.new_begin.now) (new_begins i) _ _ (whole-kept c.list-changes.new.new_begin c.start-started.new.new_begin c.in-Ok.s.nodes (omega (arith, w.fits, c.node_room-room.ensures, c.start-started.auto.new_begin)) c.list-changes.auto.new_begin ∙ c.start-started.auto.new_begin) c.clear_columns-then-min-changes.ensures.begin_after; new_total_after = left-refused chk _ (list-short i r (ending c.start-started.result) e0 (ap (λ (a : Answer Started). ending a) c.in-Ok.is) c.list-changes.new.codes c.list-changes.new.changed _ c.list-changes.ensures.listed c.list-changes.auto.codes c.list-changes.auto.changed (omega (arith, c.min.ensures, c.if-min-changes.true))) (length c.args.new_total.now) (new_totals i) _ _ (whole-kept c.list-changes.new.new_total c.args.new_total.now c.in-Ok.s.nodes (omega (arith, w.fits, c.node_room-room.ensures)) c.list-changes.auto.new_total) c.clear_columns-then-min-changes.ensures.total_after; codes_after = left-refused chk _ (list-short i r (ending c.start-started.result) e0 (ap (λ (a : Answer Started). ending a) c.in-Ok.is) c.list-changes.new.codes c.list-changes.new.changed _ c.list-changes.ensures.listed c.list-changes.auto.codes c.list-changes.auto.changed (omega (arith, c.min.ensures, c.if-min-changes.true))) (length c.args.codes.now) (change_codes i) _ _ c.list-changes.auto.codes c.clear_keys-then-min-changes.ensures.codes_after; changed_after = left-refused chk _ (list-short i r (ending c.start-started.result) e0 (ap (λ (a : Answer Started). ending a) c.in-Ok.is) c.list-changes.new.codes c.list-changes.new.changed _ c.list-changes.ensures.listed c.list-changes.auto.codes c.list-changes.auto.changed (omega (arith, c.min.ensures, c.if-min-changes.true))) (length c.args.changed.now) (changed_keys i) _ _ c.list-changes.auto.changed c.clear_keys-then-min-changes.ensures.changed_after }

pub slice_bounds-fill_totals-end : goal.slice_bounds-fill_totals-end
slice_bounds-fill_totals-end c = (omega (arith, (c.in-Ok.ensures.started_with).fits, c.node_room-room.ensures, c.start-started.auto.new_key))

pub slice_bounds-fill_totals-end-2 : goal.slice_bounds-fill_totals-end-2
slice_bounds-fill_totals-end-2 c = sym (length-take-le _ _ (omega (arith, (c.in-Ok.ensures.started_with).fits, c.node_room-room.ensures, c.start-started.auto.new_key)))

pub slice_bounds-fill_totals-end-3 : goal.slice_bounds-fill_totals-end-3
slice_bounds-fill_totals-end-3 c = (omega (arith, (c.in-Ok.ensures.started_with).fits, c.node_room-room.ensures, c.start-started.auto.new_begin, whole-kept c.list-changes.new.new_begin c.start-started.new.new_begin c.in-Ok.s.nodes (omega (arith, (c.in-Ok.ensures.started_with).fits, c.node_room-room.ensures, c.start-started.auto.new_begin)) c.list-changes.auto.new_begin))

pub slice_bounds-fill_totals-end-4 : goal.slice_bounds-fill_totals-end-4
slice_bounds-fill_totals-end-4 c = sym (length-take-le _ _ (omega (arith, (c.in-Ok.ensures.started_with).fits, c.node_room-room.ensures, c.start-started.auto.new_begin, whole-kept c.list-changes.new.new_begin c.start-started.new.new_begin c.in-Ok.s.nodes (omega (arith, (c.in-Ok.ensures.started_with).fits, c.node_room-room.ensures, c.start-started.auto.new_begin)) c.list-changes.auto.new_begin)))

pub slice_bounds-fill_totals-end-5 : goal.slice_bounds-fill_totals-end-5
slice_bounds-fill_totals-end-5 c = let w = c.in-Ok.ensures.started_with in (omega (arith, w.fits, c.node_room-room.ensures, whole-kept c.list-changes.new.new_total c.args.new_total.now c.in-Ok.s.nodes (omega (arith, w.fits, c.node_room-room.ensures)) c.list-changes.auto.new_total))

pub slice_bounds-fill_totals-end-6 : goal.slice_bounds-fill_totals-end-6
slice_bounds-fill_totals-end-6 c = let w = c.in-Ok.ensures.started_with in sym (length-take-le _ _ (omega (arith, w.fits, c.node_room-room.ensures, whole-kept c.list-changes.new.new_total c.args.new_total.now c.in-Ok.s.nodes (omega (arith, w.fits, c.node_room-room.ensures)) c.list-changes.auto.new_total)))

pub fill_totals-requires : goal.fill_totals-requires
fill_totals-requires c = let i = input c.args.axes c.args.key.now c.args.own.now c.args.begin.now c.args.indices.now in let w = c.in-Ok.ensures.started_with in totallable i (length c.args.new_indices.now) c.node_room-room.result c.in-Ok.s.nodes c.in-Ok.s.sources c.start-started.new.new_key c.start-started.new.new_own c.start-started.new.new_begin (passed i (length c.args.new_indices.now) c.node_room-room.result (ending c.start-started.result) c.start-started.ensures.outcome_value (ap (λ (a : Answer Started). ending a) c.in-Ok.is)) w c.list-changes.new.new_begin c.list-changes.ensures.new_begin_after (c.list-changes.new.new_total ++ drop c.in-Ok.s.nodes c.args.new_total.now) (omega (arith, w.fits, c.node_room-room.ensures, whole-kept c.list-changes.new.new_total c.args.new_total.now c.in-Ok.s.nodes (omega (arith, w.fits, c.node_room-room.ensures)) c.list-changes.auto.new_total))

pub clear_nodes-requires : goal.clear_nodes-requires
clear_nodes-requires c = tt

pub clear_list-requires : goal.clear_list-requires
clear_list-requires c = tt

pub returns : goal.returns
returns c = let i = input c.args.axes c.args.key.now c.args.own.now c.args.begin.now c.args.indices.now in let r = rooms c.args.new_indices.now c.args.new_key.now c.args.new_own.now c.args.new_begin.now c.args.new_total.now c.args.codes.now c.args.changed.now in let chk = salvage_check i r in let e0 = c.start-started.ensures.outcome_value ∙ ap (λ (x : ℕ). start_check i (length c.args.new_indices.now) x) c.node_room-room.ensures in let w = c.in-Ok.ensures.started_with in let p = passed i (length c.args.new_indices.now) c.node_room-room.result (ending c.start-started.result) c.start-started.ensures.outcome_value (ap (λ (a : Answer Started). ending a) c.in-Ok.is) in record { value = answer-done i chk (list-fits i r (ending c.start-started.result) e0 (ap (λ (a : Answer Started). ending a) c.in-Ok.is) c.list-changes.new.codes c.list-changes.new.changed _ c.list-changes.ensures.listed c.list-changes.auto.codes c.list-changes.auto.changed (omega (arith, c.min.ensures, c.if-min-changes.false))) c.in-Ok.s.nodes c.in-Ok.s.sources _ (many i (length c.args.new_indices.now) c.node_room-room.result c.in-Ok.s.nodes c.in-Ok.s.sources c.start-started.new.new_key c.start-started.new.new_own c.start-started.new.new_begin p w) w.sum (told-are i c.list-changes.new.codes c.list-changes.new.changed _ c.list-changes.ensures.listed (omega (arith, c.min.ensures, c.if-min-changes.false))).0; new_indices_after = left-filled chk (list-fits i r (ending c.start-started.result) e0 (ap (λ (a : Answer Started). ending a) c.in-Ok.is) c.list-changes.new.codes c.list-changes.new.changed _ c.list-changes.ensures.listed c.list-changes.auto.codes c.list-changes.auto.changed (omega (arith, c.min.ensures, c.if-min-changes.false))) (length c.args.new_indices.now) (new_order_of i) _ c.list-changes.ensures.new_order_after; new_key_after = left-part chk (list-fits i r (ending c.start-started.result) e0 (ap (λ (a : Answer Started). ending a) c.in-Ok.is) c.list-changes.new.codes c.list-changes.new.changed _ c.list-changes.ensures.listed c.list-changes.auto.codes c.list-changes.auto.changed (omega (arith, c.min.ensures, c.if-min-changes.false))) (length c.args.new_key.now) c.in-Ok.s.nodes (new_keys i) c.start-started.new.new_key _ (many i (length c.args.new_indices.now) c.node_room-room.result c.in-Ok.s.nodes c.in-Ok.s.sources c.start-started.new.new_key c.start-started.new.new_own c.start-started.new.new_begin p w) (keys_are i (length c.args.new_indices.now) c.node_room-room.result c.in-Ok.s.nodes c.in-Ok.s.sources c.start-started.new.new_key c.start-started.new.new_own c.start-started.new.new_begin p w) c.start-started.auto.new_key c.clear_nodes.ensures.key_after; new_own_after = left-part chk (list-fits i r (ending c.start-started.result) e0 (ap (λ (a : Answer Started). ending a) c.in-Ok.is) c.list-changes.new.codes c.list-changes.new.changed _ c.list-changes.ensures.listed c.list-changes.auto.codes c.list-changes.auto.changed (omega (arith, c.min.ensures, c.if-min-changes.false))) (length c.args.new_own.now) c.in-Ok.s.nodes (new_own i) c.start-started.new.new_own _ (own-many i (length c.args.new_indices.now) c.node_room-room.result c.in-Ok.s.nodes c.in-Ok.s.sources c.start-started.new.new_key c.start-started.new.new_own c.start-started.new.new_begin p w) (owns-are i (length c.args.new_indices.now) c.node_room-room.result c.in-Ok.s.nodes c.in-Ok.s.sources c.start-started.new.new_key c.start-started.new.new_own c.start-started.new.new_begin p w) c.start-started.auto.new_own c.clear_nodes.ensures.own_after; new_begin_after = left-part chk (list-fits i r (ending c.start-started.result) e0 (ap (λ (a : Answer Started). ending a) c.in-Ok.is) c.list-changes.new.codes c.list-changes.new.changed _ c.list-changes.ensures.listed c.list-changes.auto.codes c.list-changes.auto.changed (omega (arith, c.min.ensures, c.if-min-changes.false))) (length c.args.new_begin.now) c.in-Ok.s.nodes (new_begins i) (c.list-changes.new.new_begin ++ drop c.in-Ok.s.nodes c.start-started.new.new_begin) _ (begin-many i (length c.args.new_indices.now) c.node_room-room.result c.in-Ok.s.nodes c.in-Ok.s.sources c.start-started.new.new_key c.start-started.new.new_own c.start-started.new.new_begin p w) (begins-are i (length c.args.new_indices.now) c.node_room-room.result c.in-Ok.s.nodes c.in-Ok.s.sources c.start-started.new.new_key c.start-started.new.new_own c.start-started.new.new_begin p w c.list-changes.new.new_begin c.list-changes.ensures.new_begin_after) (whole-kept c.list-changes.new.new_begin c.start-started.new.new_begin c.in-Ok.s.nodes (omega (arith, w.fits, c.node_room-room.ensures, c.start-started.auto.new_begin)) c.list-changes.auto.new_begin ∙ c.start-started.auto.new_begin) c.clear_nodes.ensures.begin_after; new_total_after = left-part chk (list-fits i r (ending c.start-started.result) e0 (ap (λ (a : Answer Started). ending a) c.in-Ok.is) c.list-changes.new.codes c.list-changes.new.changed _ c.list-changes.ensures.listed c.list-changes.auto.codes c.list-changes.auto.changed (omega (arith, c.min.ensures, c.if-min-changes.false))) (length c.args.new_total.now) c.in-Ok.s.nodes (new_totals i) (c.fill_totals.new.total ++ drop c.in-Ok.s.nodes (c.list-changes.new.new_total ++ drop c.in-Ok.s.nodes c.args.new_total.now)) _ (total-many i (length c.args.new_indices.now) c.node_room-room.result c.in-Ok.s.nodes c.in-Ok.s.sources c.start-started.new.new_key c.start-started.new.new_own c.start-started.new.new_begin p w) (totals-are i (length c.args.new_indices.now) c.node_room-room.result c.in-Ok.s.nodes c.in-Ok.s.sources c.start-started.new.new_key c.start-started.new.new_own c.start-started.new.new_begin p w c.list-changes.new.new_begin c.list-changes.ensures.new_begin_after c.fill_totals.new.total (drop c.in-Ok.s.nodes (c.list-changes.new.new_total ++ drop c.in-Ok.s.nodes c.args.new_total.now)) c.fill_totals.ensures) (whole-kept c.fill_totals.new.total (c.list-changes.new.new_total ++ drop c.in-Ok.s.nodes c.args.new_total.now) c.in-Ok.s.nodes (omega (arith, w.fits, c.node_room-room.ensures, whole-kept c.list-changes.new.new_total c.args.new_total.now c.in-Ok.s.nodes (omega (arith, w.fits, c.node_room-room.ensures)) c.list-changes.auto.new_total)) c.fill_totals.auto.total ∙ whole-kept c.list-changes.new.new_total c.args.new_total.now c.in-Ok.s.nodes (omega (arith, w.fits, c.node_room-room.ensures)) c.list-changes.auto.new_total) c.clear_nodes.ensures.total_after; codes_after = left-part chk (list-fits i r (ending c.start-started.result) e0 (ap (λ (a : Answer Started). ending a) c.in-Ok.is) c.list-changes.new.codes c.list-changes.new.changed _ c.list-changes.ensures.listed c.list-changes.auto.codes c.list-changes.auto.changed (omega (arith, c.min.ensures, c.if-min-changes.false))) (length c.args.codes.now) _ (change_codes i) c.list-changes.new.codes _ ((told-are i c.list-changes.new.codes c.list-changes.new.changed _ c.list-changes.ensures.listed (omega (arith, c.min.ensures, c.if-min-changes.false))).0 ∙ sym (codes-length i)) (told-are i c.list-changes.new.codes c.list-changes.new.changed _ c.list-changes.ensures.listed (omega (arith, c.min.ensures, c.if-min-changes.false))).1 c.list-changes.auto.codes c.clear_list.ensures.codes_after; changed_after = left-part chk (list-fits i r (ending c.start-started.result) e0 (ap (λ (a : Answer Started). ending a) c.in-Ok.is) c.list-changes.new.codes c.list-changes.new.changed _ c.list-changes.ensures.listed c.list-changes.auto.codes c.list-changes.auto.changed (omega (arith, c.min.ensures, c.if-min-changes.false))) (length c.args.changed.now) _ (changed_keys i) c.list-changes.new.changed _ (told-are i c.list-changes.new.codes c.list-changes.new.changed _ c.list-changes.ensures.listed (omega (arith, c.min.ensures, c.if-min-changes.false))).0 (told-are i c.list-changes.new.codes c.list-changes.new.changed _ c.list-changes.ensures.listed (omega (arith, c.min.ensures, c.if-min-changes.false))).2 c.list-changes.auto.changed c.clear_list.ensures.changed_after }
