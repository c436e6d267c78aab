-- `grid_laying::call_outcome` meets its contract.
use mathlib.Core.Path.{sym, ◌∙◌}
use native.Mathlib.Omega.{arith}
use borrow.Author.Tests.{not-true, not-false}
use Rattle.refusal.proofs.Chain.{passed-on}
use Rattle.space.proofs.Refusals.{fine}
use Rattle.laying.specs.Outcomes.{asked_outcome}
use Rattle.grids.specs.Grids.{listed}
use Rattle.grid_laying.proofs.Chains.{call-split, many-points, order-none, order-large, order-known, box-first, grid-first, grid-passed, listed-some}
use Rattle.grid_laying.proofs.call_outcome.Goals as goal

pub returns-in_err-box_outcome : goal.returns-in_err-box_outcome
returns-in_err-box_outcome c = passed-on _ _ c.from_residual.ensures.1 ∙ box-first c.args.b c.args.grid (asked_outcome c.args.b c.args.sources.now (listed c.args.b.axes c.args.grid) c.args.order) _ (sym c.box_outcome.ensures ∙ c.in_err-box_outcome.was)

pub grid_known-requires : goal.grid_known-requires
grid_known-requires c = (fine c.args.b (sym c.box_outcome.ensures ∙ c.in_ok-box_outcome.was)).most

pub returns-then-not-grid_known : goal.returns-then-not-grid_known
returns-then-not-grid_known c = grid-first c.args.b c.args.grid (asked_outcome c.args.b c.args.sources.now (listed c.args.b.axes c.args.grid) c.args.order) (sym c.box_outcome.ensures ∙ c.in_ok-box_outcome.was) (sym c.grid_known.ensures ∙ c.if-not-grid_known.true)

pub returns-in_err-call_outcome : goal.returns-in_err-call_outcome
returns-in_err-call_outcome c = passed-on _ _ c.from_residual-in_err-call_outcome.ensures.1 ∙ (let o = sym c.box_outcome.ensures ∙ c.in_ok-box_outcome.was in let k = sym c.grid_known.ensures ∙ c.if-not-grid_known.false in let l = (fine c.args.b o).least in grid-passed c.args.b c.args.grid (asked_outcome c.args.b c.args.sources.now (listed c.args.b.axes c.args.grid) c.args.order) o k _ (call-split c.args.b c.args.sources.now c.args.grid c.args.order l _ (sym c.call_outcome.ensures ∙ c.in_err-call_outcome.was)))

pub few_points-requires : goal.few_points-requires
few_points-requires c = ((fine c.args.b (sym c.box_outcome.ensures ∙ c.in_ok-box_outcome.was)).most, sym c.grid_known.ensures ∙ c.if-not-grid_known.false)

pub returns-then-not-few_points : goal.returns-then-not-few_points
returns-then-not-few_points c = let o = sym c.box_outcome.ensures ∙ c.in_ok-box_outcome.was in let k = sym c.grid_known.ensures ∙ c.if-not-grid_known.false in let l = (fine c.args.b o).least in grid-passed c.args.b c.args.grid (asked_outcome c.args.b c.args.sources.now (listed c.args.b.axes c.args.grid) c.args.order) o k _ (many-points c.args.b c.args.sources.now c.args.grid c.args.order l (sym c.call_outcome.ensures ∙ c.in_ok-call_outcome.was) (sym c.few_points.ensures ∙ c.if-not-few_points.true))

pub returns-then-order-lt1 : goal.returns-then-order-lt1
returns-then-order-lt1 c = let o = sym c.box_outcome.ensures ∙ c.in_ok-box_outcome.was in let k = sym c.grid_known.ensures ∙ c.if-not-grid_known.false in let l = (fine c.args.b o).least in grid-passed c.args.b c.args.grid (asked_outcome c.args.b c.args.sources.now (listed c.args.b.axes c.args.grid) c.args.order) o k _ (order-none c.args.b c.args.sources.now c.args.grid c.args.order l (sym c.call_outcome.ensures ∙ c.in_ok-call_outcome.was) (sym c.few_points.ensures ∙ c.if-not-few_points.false) (listed-some c.args.b.axes c.args.grid l k) c.if-order-lt1.true)

pub returns-then-order-gt64 : goal.returns-then-order-gt64
returns-then-order-gt64 c = let o = sym c.box_outcome.ensures ∙ c.in_ok-box_outcome.was in let k = sym c.grid_known.ensures ∙ c.if-not-grid_known.false in let l = (fine c.args.b o).least in grid-passed c.args.b c.args.grid (asked_outcome c.args.b c.args.sources.now (listed c.args.b.axes c.args.grid) c.args.order) o k _ (order-large c.args.b c.args.sources.now c.args.grid c.args.order l (sym c.call_outcome.ensures ∙ c.in_ok-call_outcome.was) (sym c.few_points.ensures ∙ c.if-not-few_points.false) (listed-some c.args.b.axes c.args.grid l k) (omega (arith, c.if-order-lt1.false)) c.if-order-gt64.true)

pub returns : goal.returns
returns c = let o = sym c.box_outcome.ensures ∙ c.in_ok-box_outcome.was in let k = sym c.grid_known.ensures ∙ c.if-not-grid_known.false in let l = (fine c.args.b o).least in grid-passed c.args.b c.args.grid (asked_outcome c.args.b c.args.sources.now (listed c.args.b.axes c.args.grid) c.args.order) o k _ (order-known c.args.b c.args.sources.now c.args.grid c.args.order l (sym c.call_outcome.ensures ∙ c.in_ok-call_outcome.was) (sym c.few_points.ensures ∙ c.if-not-few_points.false) (listed-some c.args.b.axes c.args.grid l k) (omega (arith, c.if-order-lt1.false)) (omega (arith, c.if-order-gt64.false)))
