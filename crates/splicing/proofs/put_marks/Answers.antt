-- `splicing::put_marks` meets its contract.
use native.Mathlib.Omega.{arith}
use Prim.Native.Nat.{◌+◌, ◌*◌}
use lib.ListN.{length, length-set}
use Rattle.splicing.specs.Copies.{row_at}
use Rattle.splicing.proofs.Copies.{values-around}
use Rattle.splicing.proofs.put_marks.Goals as goal

pub mark_rows-requires-2 : goal.mark_rows-requires-2
mark_rows-requires-2 c = (c.requires.0, omega (arith, c.requires.2), omega (arith, c.requires.4, c.mark_rows.auto.mark, length-set c.mark_rows.new.mark c.args.from (2 * c.args.sum + 1)))

pub returns : goal.returns
returns c = values-around (row_at c.args.axes c.args.code c.args.key.now c.args.own.now c.args.total.now) (length c.args.key.now) c.args.from c.args.to (2 * c.args.sum + 1) c.args.mark.now c.mark_rows.new.mark c.mark_rows-2.new.mark c.mark_rows.ensures c.mark_rows-2.ensures c.requires.4
