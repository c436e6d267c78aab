-- `printing::list_file` meets its contract.
use mathlib.Core.Path.{sym, ap, ◌∙◌}
use native.Mathlib.Omega.{arith}
use lib.ListN.{length}
use lib.Seq.{length-take-le}
use Rattle.survey.proofs.Surveys.{reads-said}
use Rattle.text.specs.Listing.{text_answer, text_left}
use Rattle.printing.proofs.Rooms.{file-refused, sources-long, targets-long, file-text}
use Rattle.printing.proofs.list_file.Goals as goal

pub overflow_mul-m : goal.overflow_mul-m
overflow_mul-m c = omega (arith, (reads-said c.args.file.now _ (sym c.in-Ok.is ∙ c.read_survey-read.ensures.survey)).room)

pub overflow_mul-n : goal.overflow_mul-n
overflow_mul-n c = omega (arith, (reads-said c.args.file.now _ (sym c.in-Ok.is ∙ c.read_survey-read.ensures.survey)).room_2)

pub slice_bounds-sources-end : goal.slice_bounds-sources-end
slice_bounds-sources-end c = sources-long c.args.file.now _ (sym c.in-Ok.is ∙ c.read_survey-read.ensures.survey) _ c.read_survey-read.ensures.sources

pub slice_bounds-list_survey-end : goal.slice_bounds-list_survey-end
slice_bounds-list_survey-end c = sym (length-take-le _ _ (sources-long c.args.file.now _ (sym c.in-Ok.is ∙ c.read_survey-read.ensures.survey) _ c.read_survey-read.ensures.sources))

pub slice_bounds-targets-end : goal.slice_bounds-targets-end
slice_bounds-targets-end c = targets-long c.args.file.now _ (sym c.in-Ok.is ∙ c.read_survey-read.ensures.survey) _ c.read_survey-read.ensures.targets

pub slice_bounds-list_survey-end-in-Ok : goal.slice_bounds-list_survey-end-in-Ok
slice_bounds-list_survey-end-in-Ok c = sym (length-take-le _ _ (targets-long c.args.file.now _ (sym c.in-Ok.is ∙ c.read_survey-read.ensures.survey) _ c.read_survey-read.ensures.targets))

pub returns-in-Err : goal.returns-in-Err
returns-in-Err c = let e = file-refused c.args.file.now _ (sym c.in-Err.is ∙ c.read_survey-read.ensures.survey) in record { answer = c.write_refusal.ensures.answer ∙ ap (text_answer (length c.args.out.now)) e; text = c.write_refusal.ensures.text ∙ ap (text_left (length c.args.out.now)) e }

pub returns-in-Ok : goal.returns-in-Ok
returns-in-Ok c = let e = file-text c.args.file.now _ (sym c.in-Ok.is ∙ c.read_survey-read.ensures.survey) _ _ c.read_survey-read.ensures.sources c.read_survey-read.ensures.targets in record { answer = c.list_survey.ensures.answer ∙ ap (text_answer (length c.args.out.now)) e; text = c.list_survey.ensures.text ∙ ap (text_left (length c.args.out.now)) e }
