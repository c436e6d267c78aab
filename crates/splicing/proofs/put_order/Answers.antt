-- `splicing::put_order` meets its contract.
use native.Mathlib.Omega.{arith}
use lib.ListN.{length-set}
use Rattle.splicing.proofs.Copies.{column-around}
use Rattle.splicing.proofs.put_order.Goals as goal

pub copy_order-requires-2 : goal.copy_order-requires-2
copy_order-requires-2 c = (omega (arith, c.requires.0), omega (arith, c.requires.1, c.copy_order.auto.work, length-set c.copy_order.new.work c.args.at c.args.index))

pub returns : goal.returns
returns c = column-around c.args.order.now c.args.at c.args.at c.args.index c.args.work.now c.copy_order.new.work c.copy_order-2.new.work (omega arith) c.requires.0 c.copy_order.ensures c.copy_order-2.ensures c.requires.1
