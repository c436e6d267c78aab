-- `survey::read_survey` meets its contract: after a refusal no number is read.
use Rattle.std.proofs.Common.{rules}
use mathlib.Core.Path.{◌≡◌, sym, ap, ap₂, ◌∙◌}
use native.Mathlib.Omega.{arith}
use lib.ListN.{length}
use Rattle.survey.specs.File.{filled_with}
use Rattle.survey.proofs.Surveys.{reads, no-rows}
use Rattle.survey.proofs.read_survey.Goals as goal

pub returns-in-Err-clause-sources : goal.returns-in-Err-clause-sources
returns-in-Err-clause-sources c = let m : length c.args.sources.now ≡ 4088 = search rules in
    c.read_numbers.ensures ∙ ap₂ filled_with m (no-rows c.args.file.now _ _ (sym c.check_file.ensures ∙ c.in-Err.is))

pub returns-in-Err-clause-targets : goal.returns-in-Err-clause-targets
returns-in-Err-clause-targets c = let n : length c.args.targets.now ≡ 4088 = search rules in
    c.read_numbers-in-Err.ensures ∙ ap₂ filled_with n (no-rows c.args.file.now _ _ (sym c.check_file.ensures ∙ c.in-Err.is))
