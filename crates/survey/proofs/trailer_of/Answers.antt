-- `survey::trailer_of` meets its contract.
use Rattle.survey.proofs.Surveys.{said-is}
use Rattle.survey.proofs.trailer_of.Goals as goal

pub returns : goal.returns
returns c = said-is c.args.file.now _ _ _ _ _ _ c.box_in-b.ensures c.u32_at.ensures.0 c.u32_at-2.ensures.0 c.u32_at-3.ensures.0 c.u32_at-4.ensures.0 c.u32_at-5.ensures.0
