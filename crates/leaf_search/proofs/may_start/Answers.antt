-- `leaf_search::may_start` meets its contract.
use Rattle.std.proofs.Common.{get_or, sym, refl, ◌∙◌, arith, leb-true}
use Rattle.slices.proofs.Tests.{clash}
use Rattle.tree.specs.Order.{first}
use Rattle.leaf_search.proofs.Searching.{node-level}
use Rattle.leaf_search.proofs.may_start.Goals as goal

pub returns-then-hint-lt1 : goal.returns-then-hint-lt1
returns-then-hint-lt1 c = λ e. absurd (clash e refl)

pub returns-then-key-hint : goal.returns-then-key-hint
returns-then-key-hint c = λ e. absurd (clash e refl)

pub begins_by-requires : goal.begins_by-requires
begins_by-requires c = (c.requires.axes, node-level c.args.axes c.args.key.now c.requires c.args.code c.args.hint (omega (arith, c.if-key-hint.false)))

pub returns : goal.returns
returns c = λ e. (omega (arith, c.if-key-hint.false), leb-true (first c.args.axes (get_or c.args.key.now c.args.hint 0)) c.args.code (sym c.begins_by.ensures ∙ e))
