-- `file_sections::entry_right` meets its contract.
use borrow.Author.Tests.{not-true, not-false}
use Rattle.file_sections.proofs.Judged.{entry-bad, entry-skipped, entry-outside, entry_known}
use Rattle.file_sections.proofs.entry_right.Goals as goal

pub returns-then-not-is_inside : goal.returns-then-not-is_inside
returns-then-not-is_inside c = entry-outside c.args.file.now c.args.trailer c.args.i c.requires.0 _ _ _ c.u32_at.ensures.0 c.u32_at-back.ensures.0 c.u32_at-bytes.ensures.0 _ c.section_of-section.ensures _ c.in-Known.is _ c.is_inside-in-Known.ensures (c.if-not-is_inside.true)

pub returns-in-Bad : goal.returns-in-Bad
returns-in-Bad c = entry-bad c.args.file.now c.args.trailer c.args.i c.requires.0 _ _ _ c.u32_at.ensures.0 c.u32_at-back.ensures.0 c.u32_at-bytes.ensures.0 _ c.section_of-section.ensures c.in-Bad.is

pub returns-in-Skipped : goal.returns-in-Skipped
returns-in-Skipped c = entry-skipped c.args.file.now c.args.trailer c.args.i c.requires.0 _ _ _ c.u32_at.ensures.0 c.u32_at-back.ensures.0 c.u32_at-bytes.ensures.0 _ c.section_of-section.ensures c.in-Skipped.is _ c.is_inside.ensures

pub returns-else-not-is_inside : goal.returns-else-not-is_inside
returns-else-not-is_inside c = entry_known c.args.file.now c.args.trailer c.args.i c.requires.0 _ _ _ c.u32_at.ensures.0 c.u32_at-back.ensures.0 c.u32_at-bytes.ensures.0 _ c.section_of-section.ensures _ c.in-Known.is _ c.is_inside-in-Known.ensures (c.if-not-is_inside.false) _ c.is_whole.ensures
