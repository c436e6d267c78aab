-- `space::wall_by` meets its contract: the coordinate is asked before its quotient.
use mathlib.Core.Path.{sym, ◌∙◌}
use borrow.Author.Tests.{not-true, not-false}
use Rattle.space.proofs.Walls.{by-rubbish, by-lower, by-upper}
use Rattle.space.proofs.wall_by.Goals as goal

pub returns-then-not-is_finite : goal.returns-then-not-is_finite
returns-then-not-is_finite c = by-rubbish c.args.x c.args.q (sym c.is_finite.ensures ∙ c.if-not-is_finite.true)

pub returns-then-q : goal.returns-then-q
returns-then-q c = by-lower c.args.x c.args.q (sym c.is_finite.ensures ∙ c.if-not-is_finite.false) c.if-q.true

pub returns : goal.returns
returns c = by-upper c.args.x c.args.q (sym c.is_finite.ensures ∙ c.if-not-is_finite.false) c.if-q.false
