-- `was_built::is_coded_build` meets its contract.
use mathlib.Core.Path.{sym, ◌∙◌}
use native.Mathlib.Omega.{arith}
use lib.ListN.{take}
use lib.Seq.{length-take-le}
use borrow.Author.Tests.{not-true, not-false}
use Rattle.axes.proofs.Known.{axes-facts}
use Rattle.space.specs.Rows.{rows_of}
use Rattle.sums.proofs.Tells.{tell-true, tell-false}
use Rattle.was_built.proofs.Judged.{no_wall, not-inside, not-codes, coded-growth, tree-keys, not-all-in, all_in, codes-first}
use Rattle.was_built.proofs.is_coded_build.Goals as goal

pub points_to_codes-requires : goal.points_to_codes-requires
points_to_codes-requires c = ((axes-facts c.args.b.axes c.requires.0).0, (axes-facts c.args.b.axes c.requires.0).1, c.requires.2)

pub returns-then-is_err : goal.returns-then-is_err
returns-then-is_err c = not-inside c.args.b c.args.limit c.args.keep c.args.sources.now c.args.key.now c.args.own.now c.args.begin.now c.args.total.now c.args.order.now c.requires.0 c.requires.1 (not-all-in c.args.b c.args.sources.now c.points_to_codes.result c.points_to_codes.ensures.value c.is_err.result c.is_err.ensures.value c.if-is_err.true)

pub slice_bounds-codes_right-end : goal.slice_bounds-codes_right-end
slice_bounds-codes_right-end c = omega (arith, c.requires.2, c.points_to_codes.auto.codes)

pub slice_bounds-codes_right-end-2 : goal.slice_bounds-codes_right-end-2
slice_bounds-codes_right-end-2 c = sym (length-take-le _ _ (omega (arith, c.requires.2, c.points_to_codes.auto.codes)))

pub codes_right-requires : goal.codes_right-requires
codes_right-requires c = (c.requires.0, c.requires.1)

pub returns-then-not-codes_right : goal.returns-then-not-codes_right
returns-then-not-codes_right c = not-codes c.args.b c.args.limit c.args.keep c.args.sources.now c.args.key.now c.args.own.now c.args.begin.now c.args.total.now c.args.order.now c.requires.0 c.requires.1 (take (rows_of c.args.b c.args.sources.now) c.points_to_codes.new.codes) (codes-first c.args.b c.args.sources.now c.args.work.now c.points_to_codes.new.codes (sym c.points_to_codes.ensures.value ∙ no_wall c.points_to_codes.result c.is_err.result c.is_err.ensures.value c.if-is_err.false) c.points_to_codes.ensures.codes_after) (tell-false c.codes_right.result c.codes_right.ensures (c.if-not-codes_right.true))

pub is_grown-requires : goal.is_grown-requires
is_grown-requires c = tree-keys c.args.b.axes c.args.key.now c.args.own.now c.args.begin.now c.args.total.now c.requires.0 c.requires.1

pub returns : goal.returns
returns c = coded-growth c.args.b c.args.limit c.args.keep c.args.sources.now c.args.key.now c.args.own.now c.args.begin.now c.args.total.now c.args.order.now c.requires.0 c.requires.1 (take (rows_of c.args.b c.args.sources.now) c.points_to_codes.new.codes) (codes-first c.args.b c.args.sources.now c.args.work.now c.points_to_codes.new.codes (sym c.points_to_codes.ensures.value ∙ no_wall c.points_to_codes.result c.is_err.result c.is_err.ensures.value c.if-is_err.false) c.points_to_codes.ensures.codes_after) c.is_grown.result c.is_grown.ensures (all_in c.args.b c.args.sources.now c.args.work.now c.points_to_codes.new.codes (sym c.points_to_codes.ensures.value ∙ no_wall c.points_to_codes.result c.is_err.result c.is_err.ensures.value c.if-is_err.false) c.points_to_codes.ensures.codes_after) (tell-true c.codes_right.result c.codes_right.ensures (c.if-not-codes_right.false))
