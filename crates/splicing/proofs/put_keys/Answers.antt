-- `splicing::put_keys` meets its contract.
use native.Mathlib.Omega.{arith}
use lib.ListN.{length-set}
use Rattle.splicing.proofs.Copies.{column-around}
use Rattle.splicing.proofs.put_keys.Goals as goal

pub copy_keys-requires-2 : goal.copy_keys-requires-2
copy_keys-requires-2 c = (omega (arith, c.requires.1), omega (arith, c.requires.2, c.copy_keys.auto.out, length-set c.copy_keys.new.out c.args.from c.args.cell))

pub returns : goal.returns
returns c = column-around c.args.key.now c.args.from c.args.to c.args.cell c.args.out.now c.copy_keys.new.out c.copy_keys-2.new.out c.requires.0 c.requires.1 c.copy_keys.ensures c.copy_keys-2.ensures c.requires.2
