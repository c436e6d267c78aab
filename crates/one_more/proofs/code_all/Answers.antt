-- `one_more::code_all` meets its contract.
use mathlib.Core.Path.{refl, sym, ◌∙◌}
use native.Mathlib.Omega.{arith}
use Rattle.one_more.proofs.Longer.{new-long}
use Rattle.one_more.proofs.Laid.{code-needs, all_in, all_laid, mid-long}
use Rattle.one_more.proofs.code_all.Goals as goal

pub slice_bounds-code_points-end : goal.slice_bounds-code_points-end
slice_bounds-code_points-end c = sym (new-long c.args.b c.args.sources.now c.args.point.now c.requires.0)

pub code_points-requires : goal.code_points-requires
code_points-requires c = code-needs c.args.b c.args.sources.now c.args.point.now c.requires.0 _ (omega (arith, c.requires.1))

pub returns : goal.returns
returns c = all_laid c.args.b c.args.sources.now c.args.point.now c.requires.0 c.args.work.now c.code_points.new.work _ c.requires.1 (c.code_points.auto.work ∙ mid-long c.args.work.now) refl (c.code_points.ensures.codes_laid (c.code_points.ensures.value ∙ all_in c.args.b c.args.sources.now c.args.point.now c.requires.0))
