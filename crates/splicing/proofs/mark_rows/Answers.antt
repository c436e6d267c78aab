-- `splicing::mark_rows` meets its contract.
use native.Mathlib.Omega.{arith}
use Prim.Native.Nat.{◌+◌}
use Rattle.splicing.specs.Copies.{row_at}
use Rattle.splicing.proofs.Copies.{copied_none, copied_more, copied_all}
use Rattle.splicing.proofs.mark_rows.Goals as goal

pub loop-i-init : goal.loop-i-init
loop-i-init c = (omega arith, copied_none c.args.at (λ j. row_at c.args.axes c.args.code c.args.key.now c.args.own.now c.args.total.now (c.args.from + j)) c.args.mark.now)

pub bounds-key-row : goal.bounds-key-row
bounds-key-row c = omega (arith, c.requires.1, c.loop-i-test.true)

pub bounds-own-row : goal.bounds-own-row
bounds-own-row c = omega (arith, c.requires.1, c.loop-i-test.true, c.requires.0.owns)

pub bounds-total-row : goal.bounds-total-row
bounds-total-row c = omega (arith, c.requires.1, c.loop-i-test.true, c.requires.0.totals)

pub mark_row-requires : goal.mark_row-requires
mark_row-requires c = (c.requires.0.most, c.requires.0.levels (c.args.from + c.loop-i.i) (omega (arith, c.requires.1, c.loop-i-test.true)), c.requires.0.few (c.args.from + c.loop-i.i) (omega (arith, c.requires.1, c.loop-i-test.true)))

pub bounds-mark-at : goal.bounds-mark-at
bounds-mark-at c = omega (arith, c.requires.2, c.loop-i-test.true, c.loop-i.invariant.1.kept)

pub loop-i-preserved : goal.loop-i-preserved
loop-i-preserved c = (omega (arith, c.loop-i-test.true), copied_more c.args.at (λ j. row_at c.args.axes c.args.code c.args.key.now c.args.own.now c.args.total.now (c.args.from + j)) c.args.mark.now c.loop-i.i c.loop-i.mark c.loop-i.invariant.1 (omega (arith, c.requires.2, c.loop-i-test.true)) _ c.mark_row.ensures)

pub returns : goal.returns
returns c = copied_all c.args.at (λ j. row_at c.args.axes c.args.code c.args.key.now c.args.own.now c.args.total.now (c.args.from + j)) c.args.mark.now c.args.n c.loop-i.i c.loop-i.mark c.loop-i.invariant.1 c.loop-i.invariant.0 (omega (arith, c.loop-i-test.false))
