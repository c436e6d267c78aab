-- `kept_sources::row_count` meets its contract.
use mathlib.Core.Path.{sym, ◌∙◌}
use mathlib.Core.Bool.{true, false}
use native.Mathlib.Omega.{arith}
use borrow.Author.Tests.{not-true, not-false}
use Rattle.salvaged.specs.Nodes.{input}
use Rattle.kept_sources.proofs.Adding.{count-invalid, count_past, count_most, count-root, count-repeat, count_by}
use Rattle.kept_sources.proofs.row_count.Goals as goal

pub is_valid-requires : goal.is_valid-requires
is_valid-requires c = c.requires.0.axes

pub returns-then-not-is_valid : goal.returns-then-not-is_valid
returns-then-not-is_valid c = count-invalid (input c.args.axes c.args.key.now c.args.own.now c.args.begin.now c.args.order.now) c.args.row c.args.exact (sym c.is_valid.ensures ∙ c.if-not-is_valid.true)

pub offset_bounds-begin-row : goal.offset_bounds-begin-row
offset_bounds-begin-row c = omega (arith, c.requires.1, c.requires.0.begins)

pub bounds-begin-row : goal.bounds-begin-row
bounds-begin-row c = omega (arith, c.requires.1, c.requires.0.begins)

pub offset_bounds-own-row : goal.offset_bounds-own-row
offset_bounds-own-row c = omega (arith, c.requires.1, c.requires.0.owns)

pub bounds-own-row : goal.bounds-own-row
bounds-own-row c = omega (arith, c.requires.1, c.requires.0.owns)

pub returns-then-not-run_fits : goal.returns-then-not-run_fits
returns-then-not-run_fits c = count_past (input c.args.axes c.args.key.now c.args.own.now c.args.begin.now c.args.order.now) c.args.row (sym c.is_valid.ensures ∙ c.if-not-is_valid.false) c.args.exact (sym c.run_fits.ensures ∙ c.if-not-run_fits.true)

pub offset_bounds-own-row-then-not-exact : goal.offset_bounds-own-row-then-not-exact
offset_bounds-own-row-then-not-exact c = omega (arith, c.requires.1, c.requires.0.owns)

pub bounds-own-row-then-not-exact : goal.bounds-own-row-then-not-exact
bounds-own-row-then-not-exact c = omega (arith, c.requires.1, c.requires.0.owns)

pub returns-then-not-exact : goal.returns-then-not-exact
returns-then-not-exact c = count_most (input c.args.axes c.args.key.now c.args.own.now c.args.begin.now c.args.order.now) c.args.row (sym c.is_valid.ensures ∙ c.if-not-is_valid.false) (sym c.run_fits.ensures ∙ c.if-not-run_fits.false) c.args.exact (c.if-not-exact.true)

pub returns-then-k-eq0 : goal.returns-then-k-eq0
returns-then-k-eq0 c = count-root (input c.args.axes c.args.key.now c.args.own.now c.args.begin.now c.args.order.now) c.args.row (sym c.is_valid.ensures ∙ c.if-not-is_valid.false) (sym c.run_fits.ensures ∙ c.if-not-run_fits.false) c.args.exact (c.if-not-exact.false) c.if-k-eq0.true

pub is_first-requires : goal.is_first-requires
is_first-requires c = c.requires.1

pub returns-then-not-is_first : goal.returns-then-not-is_first
returns-then-not-is_first c = count-repeat (input c.args.axes c.args.key.now c.args.own.now c.args.begin.now c.args.order.now) c.args.row (sym c.is_valid.ensures ∙ c.if-not-is_valid.false) (sym c.run_fits.ensures ∙ c.if-not-run_fits.false) c.args.exact (c.if-not-exact.false) c.if-k-eq0.false (sym c.is_first.ensures ∙ c.if-not-is_first.true)

pub is_lowest-requires : goal.is_lowest-requires
is_lowest-requires c = c.requires.0.axes

pub offset_bounds-own-row-then-is_lowest : goal.offset_bounds-own-row-then-is_lowest
offset_bounds-own-row-then-is_lowest c = omega (arith, c.requires.1, c.requires.0.owns)

pub bounds-own-row-then-is_lowest : goal.bounds-own-row-then-is_lowest
bounds-own-row-then-is_lowest c = omega (arith, c.requires.1, c.requires.0.owns)

pub returns-then-is_lowest : goal.returns-then-is_lowest
returns-then-is_lowest c = count_by (input c.args.axes c.args.key.now c.args.own.now c.args.begin.now c.args.order.now) c.args.row (sym c.is_valid.ensures ∙ c.if-not-is_valid.false) (sym c.run_fits.ensures ∙ c.if-not-run_fits.false) c.args.exact (c.if-not-exact.false) c.if-k-eq0.false true (sym c.is_first.ensures ∙ c.if-not-is_first.false) (sym c.is_lowest.ensures ∙ c.if-is_lowest.true)

pub returns : goal.returns
returns c = count_by (input c.args.axes c.args.key.now c.args.own.now c.args.begin.now c.args.order.now) c.args.row (sym c.is_valid.ensures ∙ c.if-not-is_valid.false) (sym c.run_fits.ensures ∙ c.if-not-run_fits.false) c.args.exact (c.if-not-exact.false) c.if-k-eq0.false false (sym c.is_first.ensures ∙ c.if-not-is_first.false) (sym c.is_lowest.ensures ∙ c.if-is_lowest.false)
