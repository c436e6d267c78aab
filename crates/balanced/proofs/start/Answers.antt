-- `balanced::start` meets its contract.
use mathlib.Core.Path.{sym, ap, ◌∙◌}
use Prim.Native.Nat.{ℕ}
use native.Mathlib.Omega.{arith}
use Rattle.refusal.specs.Outcome.{Answer, ending}
use Rattle.refusal.proofs.Chain.{passed-on}
use Rattle.tree.specs.Columns.{columns}
use Rattle.balanced.proofs.Finish.{keys-known, checked, given-refused, short-work, short-order, short-nodes, all-put, started}
use Rattle.balanced.proofs.start.Goals as goal

pub returns-in_err-given_outcome-clause-outcome_value : goal.returns-in_err-given_outcome-clause-outcome_value
returns-in_err-given_outcome-clause-outcome_value c = ap (λ (a : Answer ℕ). ending a) (passed-on _ _ c.from_residual.ensures.1) ∙ given-refused c.args.b c.args.points.now (columns c.args.key.now c.args.own.now c.args.begin.now c.args.total.now) c.args.indices.now c.args.work c.args.places c.args.room _ (sym c.given_outcome.ensures ∙ c.in_err-given_outcome.was)

pub overflow_add-rows : goal.overflow_add-rows
overflow_add-rows c = omega (arith, (checked c.args.b c.args.points.now c.args.key.now c.args.own.now c.args.begin.now c.args.total.now c.args.indices.now (sym c.given_outcome.ensures ∙ c.in_ok-given_outcome.was)).1)

pub returns-then-work-rows : goal.returns-then-work-rows
returns-then-work-rows c = record { outcome_value = short-work c.args.b c.args.points.now c.args.key.now c.args.own.now c.args.begin.now c.args.total.now c.args.indices.now (sym c.given_outcome.ensures ∙ c.in_ok-given_outcome.was) c.args.work c.args.places c.args.room c.if-work-rows.true; started_with = tt }

pub returns-then-places-rows : goal.returns-then-places-rows
returns-then-places-rows c = record { outcome_value = short-order c.args.b c.args.points.now c.args.key.now c.args.own.now c.args.begin.now c.args.total.now c.args.indices.now (sym c.given_outcome.ensures ∙ c.in_ok-given_outcome.was) c.args.work c.args.places c.args.room c.if-work-rows.false c.if-places-rows.true; started_with = tt }

pub put_cells-n-requires : goal.put_cells-n-requires
put_cells-n-requires c = (keys-known c.args.b c.args.points.now c.args.key.now c.args.own.now c.args.begin.now c.args.total.now c.args.indices.now (sym c.given_outcome.ensures ∙ c.in_ok-given_outcome.was), c.requires.0, omega (arith, c.requires.1))

pub returns-then-room-n : goal.returns-then-room-n
returns-then-room-n c = record { outcome_value = short-nodes c.args.b c.args.points.now c.args.key.now c.args.own.now c.args.begin.now c.args.total.now c.args.indices.now (sym c.given_outcome.ensures ∙ c.in_ok-given_outcome.was) c.args.work c.args.places c.args.room c.if-work-rows.false c.if-places-rows.false _ _ c.put_cells-n.ensures c.if-room-n.true; started_with = tt }

pub returns : goal.returns
returns c = record { outcome_value = all-put c.args.b c.args.points.now c.args.key.now c.args.own.now c.args.begin.now c.args.total.now c.args.indices.now (sym c.given_outcome.ensures ∙ c.in_ok-given_outcome.was) c.args.work c.args.places c.args.room c.if-work-rows.false c.if-places-rows.false _ _ c.put_cells-n.ensures c.if-room-n.false; started_with = started c.args.b c.args.points.now c.args.key.now c.args.own.now c.args.begin.now c.args.total.now c.args.indices.now (sym c.given_outcome.ensures ∙ c.in_ok-given_outcome.was) c.args.work c.args.places c.args.room c.if-work-rows.false c.if-places-rows.false _ _ c.put_cells-n.ensures c.if-room-n.false }

pub nonzero_div-rows : goal.nonzero_div-rows
nonzero_div-rows c = omega (arith, (checked c.args.b c.args.points.now c.args.key.now c.args.own.now c.args.begin.now c.args.total.now c.args.indices.now (sym c.given_outcome.ensures ∙ c.in_ok-given_outcome.was)).0)
