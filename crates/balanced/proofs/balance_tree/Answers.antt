-- `balanced::balance_tree` meets its contract.
use mathlib.Core.Path.{sym, ap, ◌∙◌, subst}
use mathlib.Core.List.{List}
use Prim.Native.Nat.{ℕ}
use native.Mathlib.Omega.{arith}
use lib.ListN.{length, replicate}
use lib.Seq.{length-take-le}
use Rattle.laying.specs.Points.{codes_of}
use Rattle.tree.specs.Columns.{columns, node_room}
use Rattle.tree.specs.Totals.{total_column}
use Rattle.growth.specs.Grown.{grown}
use Rattle.refusal.specs.Outcome.{Answer, ending}
use Rattle.refusal.proofs.Chain.{after-refused}
use Rattle.std.specs.Prelude.{Ok}
use Rattle.growth.specs.Columns.{own_column, begin_column, order_column}
use Rattle.balance.specs.Splitting.{balanced_cells}
use Rattle.settling.specs.Settled.{Settles}
use Rattle.balanced.specs.Outcomes.{balance_outcome}
use Rattle.balanced.proofs.Finish.{left-refused, left-done, left-keys, answer-done}
use Rattle.balanced.proofs.balance_tree.Goals as goal

pub start-started-requires : goal.start-started-requires
start-started-requires c = (omega (arith, c.node_room-room.ensures), omega (arith, c.node_room-room.ensures))

pub returns-in-Err : goal.returns-in-Err
returns-in-Err c = let z = (ap (λ (x : ℕ). balance_outcome c.args.b c.args.points.now (columns c.args.key.now c.args.own.now c.args.begin.now c.args.total.now) c.args.indices.now (length c.args.work.now) (length c.args.new_indices.now) x) (sym c.node_room-room.ensures) ∙ sym c.start-started.ensures.outcome_value ∙ ap (λ (a : Answer ℕ). ending a) c.in-Err.is) in record { value = sym (after-refused (balance_outcome c.args.b c.args.points.now (columns c.args.key.now c.args.own.now c.args.begin.now c.args.total.now) c.args.indices.now (length c.args.work.now) (length c.args.new_indices.now) (node_room (length c.args.new_key.now) (length c.args.new_own.now) (length c.args.new_begin.now) (length c.args.new_total.now))) (Ok (grown (balanced_cells c.args.b.axes c.args.key.now))) _ z); work_after = c.clear_keys.ensures.work_after; new_indices_after = left-refused (balance_outcome c.args.b c.args.points.now (columns c.args.key.now c.args.own.now c.args.begin.now c.args.total.now) c.args.indices.now (length c.args.work.now) (length c.args.new_indices.now) (node_room (length c.args.new_key.now) (length c.args.new_own.now) (length c.args.new_begin.now) (length c.args.new_total.now))) _ z (length c.args.new_indices.now) (order_column c.args.b.axes (balanced_cells c.args.b.axes c.args.key.now) (codes_of c.args.b c.args.points.now)) _ c.clear_keys.ensures.indices_after; new_key_after = left-refused (balance_outcome c.args.b c.args.points.now (columns c.args.key.now c.args.own.now c.args.begin.now c.args.total.now) c.args.indices.now (length c.args.work.now) (length c.args.new_indices.now) (node_room (length c.args.new_key.now) (length c.args.new_own.now) (length c.args.new_begin.now) (length c.args.new_total.now))) _ z (length c.args.new_key.now) (balanced_cells c.args.b.axes c.args.key.now) _ (c.clear_keys.ensures.key_after ∙ ap (λ (n : ℕ). replicate n 0) c.start-started.auto.new_key); new_own_after = left-refused (balance_outcome c.args.b c.args.points.now (columns c.args.key.now c.args.own.now c.args.begin.now c.args.total.now) c.args.indices.now (length c.args.work.now) (length c.args.new_indices.now) (node_room (length c.args.new_key.now) (length c.args.new_own.now) (length c.args.new_begin.now) (length c.args.new_total.now))) _ z (length c.args.new_own.now) (own_column c.args.b.axes (balanced_cells c.args.b.axes c.args.key.now) (codes_of c.args.b c.args.points.now)) _ c.clear_columns.ensures.own_after; new_begin_after = left-refused (balance_outcome c.args.b c.args.points.now (columns c.args.key.now c.args.own.now c.args.begin.now c.args.total.now) c.args.indices.now (length c.args.work.now) (length c.args.new_indices.now) (node_room (length c.args.new_key.now) (length c.args.new_own.now) (length c.args.new_begin.now) (length c.args.new_total.now))) _ z (length c.args.new_begin.now) (begin_column (own_column c.args.b.axes (balanced_cells c.args.b.axes c.args.key.now) (codes_of c.args.b c.args.points.now))) _ c.clear_columns.ensures.begin_after; new_total_after = left-refused (balance_outcome c.args.b c.args.points.now (columns c.args.key.now c.args.own.now c.args.begin.now c.args.total.now) c.args.indices.now (length c.args.work.now) (length c.args.new_indices.now) (node_room (length c.args.new_key.now) (length c.args.new_own.now) (length c.args.new_begin.now) (length c.args.new_total.now))) _ z (length c.args.new_total.now) (total_column c.args.b.axes (balanced_cells c.args.b.axes c.args.key.now) (own_column c.args.b.axes (balanced_cells c.args.b.axes c.args.key.now) (codes_of c.args.b c.args.points.now))) _ c.clear_columns.ensures.total_after }

pub slice_bounds-depth_of-end : goal.slice_bounds-depth_of-end
slice_bounds-depth_of-end c = omega (arith, c.in-Ok.ensures.started_with.fits, c.node_room-room.ensures, c.start-started.auto.new_key)

pub slice_bounds-depth_of-end-2 : goal.slice_bounds-depth_of-end-2
slice_bounds-depth_of-end-2 c = sym (length-take-le _ _ (omega (arith, c.in-Ok.ensures.started_with.fits, c.node_room-room.ensures, c.start-started.auto.new_key)))

pub slice_bounds-settle-end : goal.slice_bounds-settle-end
slice_bounds-settle-end c = omega (arith, c.in-Ok.ensures.started_with.fits, c.node_room-room.ensures, c.start-started.auto.new_key)

pub slice_bounds-settle-end-2 : goal.slice_bounds-settle-end-2
slice_bounds-settle-end-2 c = sym (length-take-le _ _ (omega (arith, c.in-Ok.ensures.started_with.fits, c.node_room-room.ensures, c.start-started.auto.new_key)))

pub settle-requires : goal.settle-requires
settle-requires c = let s = c.in-Ok.ensures.started_with in let e = ap length s.cells in record { settles = (subst (Settles c.args.b c.args.points.now) (sym s.cells) s.settles, s.works, s.orders); key_in_bounds = (omega (arith, e, s.number, s.fits, c.node_room-room.ensures), omega (arith, e, s.number, s.fits, c.node_room-room.ensures), omega (arith, e, s.number, s.fits, c.node_room-room.ensures)) }

pub returns : goal.returns
returns c = let z = (ap (λ (x : ℕ). balance_outcome c.args.b c.args.points.now (columns c.args.key.now c.args.own.now c.args.begin.now c.args.total.now) c.args.indices.now (length c.args.work.now) (length c.args.new_indices.now) x) (sym c.node_room-room.ensures) ∙ sym c.start-started.ensures.outcome_value ∙ ap (λ (a : Answer ℕ). ending a) c.in-Ok.is) in let s = c.in-Ok.ensures.started_with in record { value = answer-done (balance_outcome c.args.b c.args.points.now (columns c.args.key.now c.args.own.now c.args.begin.now c.args.total.now) c.args.indices.now (length c.args.work.now) (length c.args.new_indices.now) (node_room (length c.args.new_key.now) (length c.args.new_own.now) (length c.args.new_begin.now) (length c.args.new_total.now))) z _ _ (balanced_cells c.args.b.axes c.args.key.now) _ s.number s.cells c.depth_of-depth.ensures; work_after = c.clear.ensures ∙ ap (λ (n : ℕ). replicate n 0) c.settle.auto.work; new_indices_after = left-done (balance_outcome c.args.b c.args.points.now (columns c.args.key.now c.args.own.now c.args.begin.now c.args.total.now) c.args.indices.now (length c.args.work.now) (length c.args.new_indices.now) (node_room (length c.args.new_key.now) (length c.args.new_own.now) (length c.args.new_begin.now) (length c.args.new_total.now))) z (length c.args.new_indices.now) (order_column c.args.b.axes (balanced_cells c.args.b.axes c.args.key.now) (codes_of c.args.b c.args.points.now)) _ _ (ap (λ (ks : List ℕ). order_column c.args.b.axes ks (codes_of c.args.b c.args.points.now)) s.cells) c.settle.ensures.indices_after; new_key_after = left-keys (balance_outcome c.args.b c.args.points.now (columns c.args.key.now c.args.own.now c.args.begin.now c.args.total.now) c.args.indices.now (length c.args.work.now) (length c.args.new_indices.now) (node_room (length c.args.new_key.now) (length c.args.new_own.now) (length c.args.new_begin.now) (length c.args.new_total.now))) z (length c.args.new_key.now) _ (balanced_cells c.args.b.axes c.args.key.now) _ _ s.number s.cells c.start-started.auto.new_key c.clear_from.ensures; new_own_after = left-done (balance_outcome c.args.b c.args.points.now (columns c.args.key.now c.args.own.now c.args.begin.now c.args.total.now) c.args.indices.now (length c.args.work.now) (length c.args.new_indices.now) (node_room (length c.args.new_key.now) (length c.args.new_own.now) (length c.args.new_begin.now) (length c.args.new_total.now))) z (length c.args.new_own.now) (own_column c.args.b.axes (balanced_cells c.args.b.axes c.args.key.now) (codes_of c.args.b c.args.points.now)) _ _ (ap (λ (ks : List ℕ). own_column c.args.b.axes ks (codes_of c.args.b c.args.points.now)) s.cells) c.settle.ensures.own_after; new_begin_after = left-done (balance_outcome c.args.b c.args.points.now (columns c.args.key.now c.args.own.now c.args.begin.now c.args.total.now) c.args.indices.now (length c.args.work.now) (length c.args.new_indices.now) (node_room (length c.args.new_key.now) (length c.args.new_own.now) (length c.args.new_begin.now) (length c.args.new_total.now))) z (length c.args.new_begin.now) (begin_column (own_column c.args.b.axes (balanced_cells c.args.b.axes c.args.key.now) (codes_of c.args.b c.args.points.now))) _ _ (ap (λ (ks : List ℕ). begin_column (own_column c.args.b.axes ks (codes_of c.args.b c.args.points.now))) s.cells) c.settle.ensures.begin_after; new_total_after = left-done (balance_outcome c.args.b c.args.points.now (columns c.args.key.now c.args.own.now c.args.begin.now c.args.total.now) c.args.indices.now (length c.args.work.now) (length c.args.new_indices.now) (node_room (length c.args.new_key.now) (length c.args.new_own.now) (length c.args.new_begin.now) (length c.args.new_total.now))) z (length c.args.new_total.now) (total_column c.args.b.axes (balanced_cells c.args.b.axes c.args.key.now) (own_column c.args.b.axes (balanced_cells c.args.b.axes c.args.key.now) (codes_of c.args.b c.args.points.now))) _ _ (ap (λ (ks : List ℕ). total_column c.args.b.axes ks (own_column c.args.b.axes ks (codes_of c.args.b c.args.points.now))) s.cells) c.settle.ensures.total_after }
