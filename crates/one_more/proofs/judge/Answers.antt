-- `one_more::judge` meets its contract.
use mathlib.Core.Path.{sym, ◌∙◌}
use native.Mathlib.Omega.{arith}
use borrow.Author.Tests.{not-true, not-false}
use Rattle.refusal.proofs.Chain.{passed-on}
use Rattle.axes.proofs.Known.{axes-known}
use Rattle.space.proofs.Refusals.{fine}
use Rattle.tree.specs.Columns.{columns}
use Rattle.tree.specs.WellFormed.{well_formed}
use Rattle.one_more.specs.More.{asks_more}
use Rattle.one_more.proofs.Judging.{box-refused, ragged, many, not-formed, not-built, by-point, formed-is}
use Rattle.one_more.proofs.judge.Goals as goal

pub returns-in_err-box_outcome : goal.returns-in_err-box_outcome
returns-in_err-box_outcome c = passed-on _ _ c.from_residual.ensures.1 ∙ box-refused (asks_more c.args.b c.args.sources.now c.args.point c.args.limit c.args.keep (columns c.args.key.now c.args.own.now c.args.begin.now c.args.total.now) c.args.indices.now) _ (sym c.box_outcome.ensures ∙ c.in_err-box_outcome.was)

pub returns-then-sources-axes-ne0 : goal.returns-then-sources-axes-ne0
returns-then-sources-axes-ne0 c = ragged (asks_more c.args.b c.args.sources.now c.args.point c.args.limit c.args.keep (columns c.args.key.now c.args.own.now c.args.begin.now c.args.total.now) c.args.indices.now) (sym c.box_outcome.ensures ∙ c.in_ok-box_outcome.was) c.if-sources-axes-ne0.true

pub returns-then-n-ge-MOST_POINTS : goal.returns-then-n-ge-MOST_POINTS
returns-then-n-ge-MOST_POINTS c = many (asks_more c.args.b c.args.sources.now c.args.point c.args.limit c.args.keep (columns c.args.key.now c.args.own.now c.args.begin.now c.args.total.now) c.args.indices.now) (sym c.box_outcome.ensures ∙ c.in_ok-box_outcome.was) c.if-sources-axes-ne0.false (omega (arith, c.if-n-ge-MOST_POINTS.true))

pub returns-then-not-is_well_formed : goal.returns-then-not-is_well_formed
returns-then-not-is_well_formed c = not-formed (asks_more c.args.b c.args.sources.now c.args.point c.args.limit c.args.keep (columns c.args.key.now c.args.own.now c.args.begin.now c.args.total.now) c.args.indices.now) (sym c.box_outcome.ensures ∙ c.in_ok-box_outcome.was) c.if-sources-axes-ne0.false (omega (arith, c.if-n-ge-MOST_POINTS.false)) (formed-is c.args.b.axes (well_formed c.args.b.axes c.args.key.now c.args.own.now c.args.begin.now c.args.total.now) c.is_well_formed.result (axes-known c.args.b.axes (fine c.args.b (sym c.box_outcome.ensures ∙ c.in_ok-box_outcome.was)).least (fine c.args.b (sym c.box_outcome.ensures ∙ c.in_ok-box_outcome.was)).most) c.is_well_formed.ensures ∙ c.if-not-is_well_formed.true)

pub is_build_in-requires : goal.is_build_in-requires
is_build_in-requires c = ((axes-known c.args.b.axes (fine c.args.b (sym c.box_outcome.ensures ∙ c.in_ok-box_outcome.was)).least (fine c.args.b (sym c.box_outcome.ensures ∙ c.in_ok-box_outcome.was)).most), (formed-is c.args.b.axes (well_formed c.args.b.axes c.args.key.now c.args.own.now c.args.begin.now c.args.total.now) c.is_well_formed.result (axes-known c.args.b.axes (fine c.args.b (sym c.box_outcome.ensures ∙ c.in_ok-box_outcome.was)).least (fine c.args.b (sym c.box_outcome.ensures ∙ c.in_ok-box_outcome.was)).most) c.is_well_formed.ensures ∙ c.if-not-is_well_formed.false))

pub returns-then-not-is_build_in : goal.returns-then-not-is_build_in
returns-then-not-is_build_in c = not-built (asks_more c.args.b c.args.sources.now c.args.point c.args.limit c.args.keep (columns c.args.key.now c.args.own.now c.args.begin.now c.args.total.now) c.args.indices.now) (sym c.box_outcome.ensures ∙ c.in_ok-box_outcome.was) c.if-sources-axes-ne0.false (omega (arith, c.if-n-ge-MOST_POINTS.false)) (formed-is c.args.b.axes (well_formed c.args.b.axes c.args.key.now c.args.own.now c.args.begin.now c.args.total.now) c.is_well_formed.result (axes-known c.args.b.axes (fine c.args.b (sym c.box_outcome.ensures ∙ c.in_ok-box_outcome.was)).least (fine c.args.b (sym c.box_outcome.ensures ∙ c.in_ok-box_outcome.was)).most) c.is_well_formed.ensures ∙ c.if-not-is_well_formed.false) (sym c.is_build_in.ensures ∙ c.if-not-is_build_in.true)

pub point_outcome-requires : goal.point_outcome-requires
point_outcome-requires c = (fine c.args.b (sym c.box_outcome.ensures ∙ c.in_ok-box_outcome.was)).most

pub returns : goal.returns
returns c = c.point_outcome.ensures ∙ by-point (asks_more c.args.b c.args.sources.now c.args.point c.args.limit c.args.keep (columns c.args.key.now c.args.own.now c.args.begin.now c.args.total.now) c.args.indices.now) (sym c.box_outcome.ensures ∙ c.in_ok-box_outcome.was) c.if-sources-axes-ne0.false (omega (arith, c.if-n-ge-MOST_POINTS.false)) (formed-is c.args.b.axes (well_formed c.args.b.axes c.args.key.now c.args.own.now c.args.begin.now c.args.total.now) c.is_well_formed.result (axes-known c.args.b.axes (fine c.args.b (sym c.box_outcome.ensures ∙ c.in_ok-box_outcome.was)).least (fine c.args.b (sym c.box_outcome.ensures ∙ c.in_ok-box_outcome.was)).most) c.is_well_formed.ensures ∙ c.if-not-is_well_formed.false) (sym c.is_build_in.ensures ∙ c.if-not-is_build_in.false)
