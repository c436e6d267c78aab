-- The first i entries are copied.
use native.Mathlib.Omega.{arith}
use Rattle.near_work.proofs.Counts.{copying-start, copying-more, copying-all}
use Rattle.near_work.proofs.copy_own.Goals as goal

pub loop-i-init : goal.loop-i-init
loop-i-init c = copying-start _ _ c.requires.0 c.requires.1

pub offset_bounds-own-i : goal.offset_bounds-own-i
offset_bounds-own-i c = omega (arith, c.loop-i-test.true, c.well_formed.0)

pub bounds-own-i : goal.bounds-own-i
bounds-own-i c = omega (arith, c.loop-i-test.true)

pub offset_bounds-counts-i : goal.offset_bounds-counts-i
offset_bounds-counts-i c = omega (arith, c.loop-i-test.true, c.well_formed.0)

pub bounds-counts-i : goal.bounds-counts-i
bounds-counts-i c = omega (arith, c.loop-i-test.true, c.requires.0, c.loop-i.invariant.long)

pub loop-i-preserved : goal.loop-i-preserved
loop-i-preserved c = copying-more _ _ c.requires.0 c.requires.1 _ _ c.loop-i.invariant c.loop-i-test.true

pub returns : goal.returns
returns c = copying-all _ _ c.requires.0 c.requires.1 _ _ c.loop-i.invariant c.loop-i-test.false
