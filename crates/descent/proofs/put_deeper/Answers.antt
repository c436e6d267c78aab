-- `descent::put_deeper` meets its contract: a deal puts the same keys in another order.
use native.Mathlib.Omega.{arith}
use borrow.Author.Tests.{leb-true}
use Rattle.descent.proofs.Below.{those-dealt}
use Rattle.descent.proofs.put_deeper.Goals as goal

pub offset_bounds-out-n : goal.offset_bounds-out-n
offset_bounds-out-n c = omega (arith, leb-true, c.if-n-m.true, c.put_under-m.auto.out)

pub deal_by_level-requires : goal.deal_by_level-requires
deal_by_level-requires c = omega (arith, leb-true, c.if-n-m.true, c.put_under-m.auto.out)

pub returns-then-not-is_ascending : goal.returns-then-not-is_ascending
returns-then-not-is_ascending c = those-dealt _ _ _ _ _ _ _ c.put_under-m.auto.out c.deal_by_level.auto.keys (omega (arith, c.if-n-m.true)) (omega (arith, leb-true, c.put_under-m.auto.out)) c.put_under-m.ensures c.deal_by_level.ensures
