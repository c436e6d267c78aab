-- `space::locate` meets its contract: the point is outside by axis 0, 1 or 2, or inside.
use mathlib.Core.Path.{sym, ◌∙◌}
use lib.ListN.{drop}
use Rattle.space.proofs.Points.{out-0, out-1, out-2, outside-located, all_in}
use Rattle.space.proofs.locate.Goals as goal

pub returns-in_err-x : goal.returns-in_err-x
returns-in_err-x c = c.from_residual.ensures ∙ outside-located c.args.f (drop c.args.at c.args.points.now) (out-0 c.args.f (drop c.args.at c.args.points.now) (sym c.cell_on.ensures ∙ c.in_err-x.was))

pub returns-in_err-y : goal.returns-in_err-y
returns-in_err-y c = c.from_residual-in_err-y.ensures ∙ outside-located c.args.f (drop c.args.at c.args.points.now) (out-1 c.args.f (drop c.args.at c.args.points.now) c.in_ok-x.x (sym c.cell_on.ensures ∙ c.in_ok-x.was) (sym c.cell_on-2.ensures ∙ c.in_err-y.was))

pub returns-in_err-z : goal.returns-in_err-z
returns-in_err-z c = c.from_residual-in_err-z.ensures ∙ outside-located c.args.f (drop c.args.at c.args.points.now) (out-2 c.args.f (drop c.args.at c.args.points.now) c.in_ok-x.x c.in_ok-y.y (sym c.cell_on.ensures ∙ c.in_ok-x.was) (sym c.cell_on-2.ensures ∙ c.in_ok-y.was) (sym c.cell_on-3.ensures ∙ c.in_err-z.was))

pub returns : goal.returns
returns c = all_in c.args.f (drop c.args.at c.args.points.now) c.in_ok-x.x c.in_ok-y.y c.in_ok-z.z (sym c.cell_on.ensures ∙ c.in_ok-x.was) (sym c.cell_on-2.ensures ∙ c.in_ok-y.was) (sym c.cell_on-3.ensures ∙ c.in_ok-z.was)
