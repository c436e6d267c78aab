-- `file_sections::locate` meets its contract.
use native.Mathlib.Omega.{arith}
use Rattle.file_sections.proofs.Located.{entry-some, entry-fits, back_fits, locating-none, locating-more, locating-done}
use Rattle.file_sections.proofs.locate.Goals as goal

pub loop-c-init : goal.loop-c-init
loop-c-init c = locating-none _

pub bounds-at-c : goal.bounds-at-c
bounds-at-c c = omega (arith, c.requires.size)

pub overflow_sub-entry : goal.overflow_sub-entry
overflow_sub-entry c = entry-some c.args.file.now c.args.trailer c.args.axes c.args.at c.requires _ c.loop-c-test.true

pub overflow_mul-entry : goal.overflow_mul-entry
overflow_mul-entry c = omega (arith, entry-fits c.args.file.now c.args.trailer c.args.axes c.args.at c.requires _ c.loop-c-test.true)

pub overflow_add-entry-in-loop-c : goal.overflow_add-entry-in-loop-c
overflow_add-entry-in-loop-c c = omega (arith, entry-fits c.args.file.now c.args.trailer c.args.axes c.args.at c.requires _ c.loop-c-test.true)

pub overflow_add-entry-in-loop-c-2 : goal.overflow_add-entry-in-loop-c-2
overflow_add-entry-in-loop-c-2 c = omega (arith, entry-fits c.args.file.now c.args.trailer c.args.axes c.args.at c.requires _ c.loop-c-test.true)

pub u32_at-back-requires : goal.u32_at-back-requires
u32_at-back-requires c = omega (arith, entry-fits c.args.file.now c.args.trailer c.args.axes c.args.at c.requires _ c.loop-c-test.true)

pub overflow_add-entry-in-loop-c-3 : goal.overflow_add-entry-in-loop-c-3
overflow_add-entry-in-loop-c-3 c = omega (arith, entry-fits c.args.file.now c.args.trailer c.args.axes c.args.at c.requires _ c.loop-c-test.true)

pub u32_at-bytes-requires : goal.u32_at-bytes-requires
u32_at-bytes-requires c = omega (arith, entry-fits c.args.file.now c.args.trailer c.args.axes c.args.at c.requires _ c.loop-c-test.true)

pub overflow_sub-starts : goal.overflow_sub-starts
overflow_sub-starts c = back_fits c.args.file.now c.args.trailer c.args.axes c.args.at c.requires _ c.loop-c-test.true _ _ c.u32_at-back.ensures.0 c.u32_at-bytes.ensures.0

pub bounds-starts-c : goal.bounds-starts-c
bounds-starts-c c = omega (arith, c.loop-c.invariant.starts_size)

pub bounds-counts-c : goal.bounds-counts-c
bounds-counts-c c = omega (arith, c.loop-c.invariant.counts_size)

pub loop-c-preserved : goal.loop-c-preserved
loop-c-preserved c = locating-more c.args.file.now c.args.trailer c.args.axes c.args.at c.requires _ _ _ c.loop-c.invariant c.loop-c-test.true _ _ _ c.u32_at-back.ensures.0 c.u32_at-bytes.ensures.0 c.width_of.ensures.0

pub returns : goal.returns
returns c = locating-done c.args.file.now c.args.trailer c.args.axes c.args.at c.requires _ _ _ c.loop-c.invariant c.loop-c-test.false
