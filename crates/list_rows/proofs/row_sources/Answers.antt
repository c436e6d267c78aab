-- The first i entries pass, and after a turn one more.
use Rattle.list_rows.proofs.Rows.{total-in, total-le, pass-start, pass-falls, pass-lost, found_within, found-place, pass-fails, pass-more, pass-done}
use borrow.Author.Tests.{not-true, not-false}
use native.Mathlib.Omega.{arith}
use mathlib.Core.Path.{sym, ◌∙◌}
use Rattle.list_rows.proofs.row_sources.Goals as goal

pub loop-i-init : goal.loop-i-init
loop-i-init c = (c.requires.1, pass-start c.args.axes c.args.key.now c.args.own.now c.args.total.now c.args.far c.args.row.cell c.args.flat.now)

pub returns-then-not-rises_at : goal.returns-then-not-rises_at
returns-then-not-rises_at c = record { brings = pass-falls c.args.axes c.args.key.now c.args.own.now c.args.total.now c.args.far c.args.row.cell c.args.flat.now c.loop-i.i c.loop-i-test.true (sym c.rises_at.ensures ∙ c.if-not-rises_at.true); table = c.loop-i.invariant.0 }

pub seek-requires : goal.seek-requires
seek-requires c = (c.requires.0.tree, c.loop-i.invariant.0)

pub returns-in_err-spot : goal.returns-in_err-spot
returns-in_err-spot c = record { brings = rw c.from_residual.ensures (pass-lost c.args.axes c.args.key.now c.args.own.now c.args.total.now c.args.far c.args.row.cell c.args.flat.now c.loop-i.i c.loop-i-test.true c.seek.result c.seek.ensures.found c.in_err-spot.was); table = c.seek.ensures.table }

pub is_taken-requires : goal.is_taken-requires
is_taken-requires c = (c.requires.0, c.requires.2, record { within = found_within c.args.axes c.args.key.now c.args.own.now c.args.total.now c.args.far c.args.row.cell c.args.flat.now c.loop-i.i c.loop-i.sum c.loop-i-test.true c.seek.result c.seek.ensures.found _ c.in_ok-spot.was; is = found-place c.args.axes c.args.key.now c.args.own.now c.args.total.now c.args.far c.args.row.cell c.args.flat.now c.loop-i.i c.loop-i.sum c.loop-i-test.true c.seek.result c.seek.ensures.found _ c.in_ok-spot.was })

pub returns-then-not-is_taken : goal.returns-then-not-is_taken
returns-then-not-is_taken c = record { brings = pass-fails c.args.axes c.args.key.now c.args.own.now c.args.total.now c.args.far c.args.row.cell c.args.flat.now c.loop-i.i c.loop-i.sum c.loop-i-test.true c.seek.result c.seek.ensures.found _ c.in_ok-spot.was c.is_taken.result c.is_taken.ensures (c.if-not-is_taken.true); table = c.seek.ensures.table }

pub with_total-sum-requires : goal.with_total-sum-requires
with_total-sum-requires c = let l = found_within c.args.axes c.args.key.now c.args.own.now c.args.total.now c.args.far c.args.row.cell c.args.flat.now c.loop-i.i c.loop-i.sum c.loop-i-test.true c.seek.result c.seek.ensures.found _ c.in_ok-spot.was in (total-in c.args.axes c.args.key.now c.args.own.now c.args.total.now c.requires.0 _ l, total-le c.args.axes c.args.key.now c.args.own.now c.args.total.now c.requires.0 _ l, omega (arith, c.loop-i.invariant.1.brought))

pub loop-i-preserved : goal.loop-i-preserved
loop-i-preserved c = (c.seek.ensures.table, pass-more c.args.axes c.args.key.now c.args.own.now c.args.total.now c.args.far c.args.row.cell c.args.flat.now c.loop-i.i c.loop-i.sum c.loop-i-test.true c.seek.result c.seek.ensures.found _ c.in_ok-spot.was c.is_taken.result c.is_taken.ensures c.requires.0 c.loop-i.invariant.1 (sym c.rises_at.ensures ∙ c.if-not-rises_at.false) (c.if-not-is_taken.false) c.with_total-sum.result c.with_total-sum.ensures)

pub returns : goal.returns
returns c = record { brings = pass-done c.args.axes c.args.key.now c.args.own.now c.args.total.now c.args.far c.args.row.cell c.args.flat.now c.loop-i.i c.loop-i.sum c.loop-i.invariant.1 c.loop-i-test.false; table = c.loop-i.invariant.0 }
