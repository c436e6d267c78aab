-- `tree::is_well_formed` meets its contract.
use mathlib.Core.Path.{sym, ◌∙◌}
use native.Mathlib.Omega.{arith}
use borrow.Author.Tests.{not-true, not-false}
use Rattle.tree.proofs.Verdict.{other-axes, other-own, other-begin, other-total, no-nodes, other-root, root-owns, other-first, other-rows, by-totals}
use Rattle.tree.proofs.is_well_formed.Goals as goal

pub returns-then-not-axes_known : goal.returns-then-not-axes_known
returns-then-not-axes_known c = other-axes c.args.axes c.args.key.now c.args.own.now c.args.begin.now c.args.total.now (sym c.axes_known.ensures ∙ c.if-not-axes_known.true)

pub returns-then-own-key : goal.returns-then-own-key
returns-then-own-key c = other-own c.args.axes c.args.key.now c.args.own.now c.args.begin.now c.args.total.now c.if-own-key.true

pub returns-then-begin-key : goal.returns-then-begin-key
returns-then-begin-key c = other-begin c.args.axes c.args.key.now c.args.own.now c.args.begin.now c.args.total.now c.if-begin-key.true

pub returns-then-total-key : goal.returns-then-total-key
returns-then-total-key c = other-total c.args.axes c.args.key.now c.args.own.now c.args.begin.now c.args.total.now c.if-total-key.true

pub returns-then-key-lt1 : goal.returns-then-key-lt1
returns-then-key-lt1 c = no-nodes c.args.axes c.args.key.now c.args.own.now c.args.begin.now c.args.total.now c.if-key-lt1.true

pub bounds-key-0 : goal.bounds-key-0
bounds-key-0 c = omega (arith, c.if-key-lt1.false, c.if-begin-key.false, c.if-own-key.false)

pub returns-then-key-ne0 : goal.returns-then-key-ne0
returns-then-key-ne0 c = other-root c.args.axes c.args.key.now c.args.own.now c.args.begin.now c.args.total.now c.if-key-ne0.true

pub bounds-own-0 : goal.bounds-own-0
bounds-own-0 c = omega (arith, c.if-key-lt1.false, c.if-begin-key.false, c.if-own-key.false)

pub returns-then-own-ne0 : goal.returns-then-own-ne0
returns-then-own-ne0 c = root-owns c.args.axes c.args.key.now c.args.own.now c.args.begin.now c.args.total.now c.if-own-ne0.true

pub bounds-begin-0 : goal.bounds-begin-0
bounds-begin-0 c = omega (arith, c.if-key-lt1.false, c.if-begin-key.false, c.if-own-key.false)

pub returns-then-begin-ne0 : goal.returns-then-begin-ne0
returns-then-begin-ne0 c = other-first c.args.axes c.args.key.now c.args.own.now c.args.begin.now c.args.total.now c.if-begin-ne0.true

pub rows_right-requires : goal.rows_right-requires
rows_right-requires c = record { axes = (sym c.axes_known.ensures ∙ c.if-not-axes_known.false); owns = c.if-own-key.false; begins = c.if-begin-key.false; some = c.if-key-lt1.false; root = c.if-key-ne0.false; rootless = c.if-own-ne0.false; first = c.if-begin-ne0.false }

pub returns-then-not-rows_right : goal.returns-then-not-rows_right
returns-then-not-rows_right c = other-rows c.args.axes c.args.key.now c.args.own.now c.args.begin.now c.args.total.now (sym c.rows_right.ensures ∙ c.if-not-rows_right.true)

pub totals_right-requires : goal.totals_right-requires
totals_right-requires c = record { owns = c.if-own-key.false; begins = c.if-begin-key.false; totals = c.if-total-key.false; some = c.if-key-lt1.false; rows = sym c.rows_right.ensures ∙ c.if-not-rows_right.false }

pub returns : goal.returns
returns c = by-totals c.args.axes c.args.key.now c.args.own.now c.args.begin.now c.args.total.now _ (sym c.axes_known.ensures ∙ c.if-not-axes_known.false) c.totals_right.ensures
