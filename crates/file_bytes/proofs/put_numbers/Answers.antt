-- `file_bytes::put_numbers` meets its contract.
use Rattle.file_bytes.proofs.Numbers.{putting-none, putting-more, putting-all}
use Rattle.file_bytes.proofs.put_numbers.Goals as goal

pub loop-i-init : goal.loop-i-init
loop-i-init c = putting-none 4 _ _ _ c.requires

pub loop-i-preserved : goal.loop-i-preserved
loop-i-preserved c = putting-more 4 _ _ _ _ _ c.loop-i.invariant _ c.loop-i-test.true c.put_number.ensures c.put_number.auto.out

pub returns : goal.returns
returns c = putting-all 4 _ _ _ _ _ c.loop-i.invariant c.loop-i-test.false
