-- What the C face tells of the sum checks: what stands in place of the sums of a leaf and of a survey's tally after a refusal.
use Rattle.std.specs.Prelude.{pos}
use Rattle.sum_check.specs.declared.Sums.{Sums}
use Rattle.survey_check.specs.declared.Tally.{Tally}

abbrev pub no_sums : Sums
no_sums = record { near = pos 0; far = pos 0; additions = 0 }

abbrev pub no_tally : Tally
no_tally = record { leaves = 0; additions = 0 }
