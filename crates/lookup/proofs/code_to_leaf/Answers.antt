-- `lookup::code_to_leaf` meets its contract.
use mathlib.Core.Path.{ap, ◌∙◌}
use Rattle.std.specs.Option.{ok_or}
use Rattle.refusal.specs.declared.Refusal.TheVariants.{Unstored}
use Rattle.lookup.proofs.Single.{code-is}
use Rattle.lookup.proofs.code_to_leaf.Goals as goal

pub holder_by_search-requires : goal.holder_by_search-requires
holder_by_search-requires c = (c.requires, c.depth_of-depth.ensures)

pub returns : goal.returns
returns c = c.ok_or.ensures.value ∙ ap (λ h. ok_or h (Unstored 0)) c.holder_by_search.ensures ∙ code-is c.args.axes c.args.key.now c.args.code
