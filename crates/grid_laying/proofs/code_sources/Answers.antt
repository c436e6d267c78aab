-- `grid_laying::code_sources` meets its contract.
use mathlib.Core.Path.{sym, ap, ap₂, ◌∙◌}
use mathlib.Core.List.{[]}
use native.Mathlib.Omega.{arith}
use lib.ListN.{length}
use Rattle.refusal.specs.declared.Refusal.TheVariants.{Room}
use Rattle.refusal.specs.Chain.{◌then◌}
use Rattle.refusal.proofs.Chain.{never, both-done, passed-on}
use Rattle.laying.specs.Outcomes.{inside_outcome, work_outcome}
use Rattle.grids.specs.Grids.{listed}
use Rattle.grid_laying.proofs.Chains.{then-done, none_needed, sited-box, sources-first, points-then, work-short, work-passed}
use Rattle.grid_laying.proofs.code_sources.Goals as goal
use Rattle.std.specs.Prelude.{Err}
use Rattle.refusal.specs.Outcome.{Outcome}

pub overflow_add-twice : goal.overflow_add-twice
overflow_add-twice c = omega (arith, c.requires.1)

pub short_work-requires : goal.short_work-requires
short_work-requires c = c.requires.0

pub returns-then-work-twice : goal.returns-then-work-twice
returns-then-work-twice c = let r = c.short_work.ensures ∙ ap (inside_outcome c.args.b c.args.sources.now (listed c.args.b.axes c.args.grid) then◌) (sym (work-short c.args.b c.args.sources.now (listed c.args.b.axes c.args.grid) (length c.args.work.now) c.if-work-twice.true)) in record { value = r; codes_laid = λ d. absurd (never (Room 1) (both-done (inside_outcome c.args.b c.args.sources.now (listed c.args.b.axes c.args.grid)) (Err (Room 1)) (sym c.short_work.ensures ∙ d)).1) }

pub code_points-requires : goal.code_points-requires
code_points-requires c = let f = sited-box c.args.b c.args.grid c.requires.0 in (f.least, f.most, omega (arith, none_needed c.args.b c.args.sources.now, c.if-work-twice.false))

pub returns-in_err-code_points-clause-value : goal.returns-in_err-code_points-clause-value
returns-in_err-code_points-clause-value c = passed-on _ _ c.from_residual.ensures.1 ∙ sym (ap (λ (o : Outcome). o then work_outcome c.args.b c.args.sources.now [] (length c.args.work.now)) (sources-first c.args.b c.args.sources.now (listed c.args.b.axes c.args.grid) _ (sym c.code_points.ensures.value ∙ c.in_err-code_points.was)))

pub points_outcome-requires : goal.points_outcome-requires
points_outcome-requires c = c.requires.0

pub returns : goal.returns
returns c = record { value = c.points_outcome.ensures ∙ sym (ap₂ (λ (o p : Outcome). o then p) (points-then c.args.b c.args.sources.now (listed c.args.b.axes c.args.grid) (sym c.code_points.ensures.value ∙ c.in_ok-code_points.was)) (work-passed c.args.b c.args.sources.now (listed c.args.b.axes c.args.grid) (length c.args.work.now) c.if-work-twice.false) ∙ then-done (inside_outcome c.args.b [] (listed c.args.b.axes c.args.grid))); codes_laid = λ d. c.code_points.ensures.codes_laid c.in_ok-code_points.was }
