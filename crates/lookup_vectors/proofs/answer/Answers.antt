-- A file has room for 4,088 numbers of sources, and of targets.
use mathlib.Core.Path.{sym, ◌∙◌}
use native.Mathlib.Omega.{arith}
use Rattle.survey.proofs.Surveys.{reads-said}
use Rattle.lookup_vectors.proofs.answer.Goals as goal

pub overflow_mul-m : goal.overflow_mul-m
overflow_mul-m g c = omega (arith, (reads-said c.args.file.now _ (sym c.in-Ok.is ∙ c.read_survey-read.ensures.survey)).room)

pub overflow_mul-n : goal.overflow_mul-n
overflow_mul-n g c = omega (arith, (reads-said c.args.file.now _ (sym c.in-Ok.is ∙ c.read_survey-read.ensures.survey)).room_2)
