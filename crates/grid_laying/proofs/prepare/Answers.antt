-- `grid_laying::prepare` meets its contract.
use mathlib.Core.Path.{sym, ◌∙◌}
use lib.ListN.{length}
use Rattle.refusal.proofs.Chain.{never}
use Rattle.grid_laying.proofs.Chains.{sited-of, checks-early, checks-of, laid_of}
use Rattle.grid_laying.proofs.prepare.Goals as goal

pub code_sources-requires : goal.code_sources-requires
code_sources-requires c = let sited = sited-of c.args.b c.args.sources.now c.args.grid c.args.order (sym c.call_outcome.ensures ∙ c.in_ok-call_outcome.was) in (sited.0, sited.1)

pub returns : goal.returns
returns c = let e = sym c.call_outcome.ensures ∙ c.in_ok-call_outcome.was in record { value = c.code_sources.ensures.value ∙ sym (checks-of c.args.b c.args.sources.now c.args.grid c.args.order (length c.args.work.now) e); grid_laid = λ d. laid_of c.args.b c.args.sources.now c.args.grid c.args.order (length c.args.work.now) e (sym c.code_sources.ensures.value ∙ d) c.code_sources.new.work c.code_sources.auto.work (c.code_sources.ensures.codes_laid d) }
