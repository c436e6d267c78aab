-- `extents::all_finite` meets its contract.
use Rattle.std.proofs.Common.{rules, tests}
use Rattle.std.proofs.lemmas.Iterator.Search.{all_from_yields_List}
use Rattle.std.proofs.lemmas.Iterator.{YieldsList-from_slice}
use mathlib.Core.Path.{◌∙◌}
use Rattle.space.specs.Floats.{is_finite}
use Rattle.extents.proofs.Spans.{finite_is}
use Rattle.extents.proofs.all_finite.Goals as goal

pub returns : goal.returns
returns c = all_from_yields_List is_finite _ _ c.all.result c.all.ensures.ran (YieldsList-from_slice c.args.extents.now cc) (λ x b q k. search (rules, tests)) ∙ finite_is c.args.extents.now
