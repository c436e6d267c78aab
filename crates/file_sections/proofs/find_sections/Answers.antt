-- `file_sections::find_sections` meets its contract.
use Rattle.file_sections.proofs.Located.{entries-found, entries-bad, too_short, no-trailer, not_known, trailer-is, trailer-room, not_good, not-present, placed, all_found}
use Rattle.file_sections.proofs.find_sections.Goals as goal

pub returns-then-n-lt8 : goal.returns-then-n-lt8
returns-then-n-lt8 c = too_short c.args.file.now c.if-n-lt8.true

pub returns-then-entries-n : goal.returns-then-entries-n
returns-then-entries-n c = no-trailer c.args.file.now c.if-n-lt8.false _ c.u32_at-entries.ensures.0 c.if-entries-n.true

pub returns-then-not-axes_known : goal.returns-then-not-axes_known
returns-then-not-axes_known c = not_known c.args.file.now c.if-n-lt8.false _ c.u32_at-entries.ensures.0 c.if-entries-n.false _ c.u32_at-axes.ensures.0 _ c.axes_known.ensures c.if-not-axes_known.true

pub find_entries-requires : goal.find_entries-requires
find_entries-requires c = (trailer-is c.args.file.now c.if-n-lt8.false _ c.u32_at-entries.ensures.0 c.if-entries-n.false, trailer-room c.args.file.now c.if-n-lt8.false _ c.u32_at-entries.ensures.0 c.if-entries-n.false)

pub returns-in_default : goal.returns-in_default
returns-in_default c = not_good c.args.file.now c.if-n-lt8.false _ c.u32_at-entries.ensures.0 c.if-entries-n.false _ c.u32_at-axes.ensures.0 _ c.axes_known.ensures c.if-not-axes_known.false (entries-bad c.args.file.now _ _ c.find_entries.ensures c.in_default.is)

pub all_present-requires : goal.all_present-requires
all_present-requires c = (entries-found c.args.file.now _ _ _ c.find_entries.ensures c.in-Some.is).size

pub returns-then-not-all_present : goal.returns-then-not-all_present
returns-then-not-all_present c = not-present c.args.file.now c.if-n-lt8.false _ c.u32_at-entries.ensures.0 c.if-entries-n.false _ c.u32_at-axes.ensures.0 _ c.axes_known.ensures c.if-not-axes_known.false _ (entries-found c.args.file.now _ _ _ c.find_entries.ensures c.in-Some.is) _ c.all_present.ensures c.if-not-all_present.true

pub locate-requires : goal.locate-requires
locate-requires c = placed c.args.file.now c.if-n-lt8.false _ c.u32_at-entries.ensures.0 c.if-entries-n.false _ c.u32_at-axes.ensures.0 _ c.axes_known.ensures c.if-not-axes_known.false _ (entries-found c.args.file.now _ _ _ c.find_entries.ensures c.in-Some.is) _ c.all_present.ensures c.if-not-all_present.false

pub returns : goal.returns
returns c = all_found c.args.file.now c.if-n-lt8.false _ c.u32_at-entries.ensures.0 c.if-entries-n.false _ c.u32_at-axes.ensures.0 _ c.axes_known.ensures c.if-not-axes_known.false _ (entries-found c.args.file.now _ _ _ c.find_entries.ensures c.in-Some.is) _ c.all_present.ensures c.if-not-all_present.false _ c.locate.ensures
