-- `text::put_decimal` meets its contract: the number falls.
use native.Mathlib.Omega.{arith}
use Rattle.text.proofs.Putting.{puts-same, puts-join, decimal-one, decimal-more}
use Rattle.text.proofs.+put_decimal.Goals as goal

pub returns-then-x-lt10 : goal.returns-then-x-lt10
returns-then-x-lt10 t c = puts-same _ _ _ _ _ _ (decimal-one c.args.x c.if-x-lt10.true) c.put.ensures

pub returns : goal.returns
returns t c = puts-same _ _ _ _ _ _ (decimal-more c.args.x c.if-x-lt10.false (omega arith)) (puts-join _ _ _ _ _ _ _ _ c.put_decimal-m.ensures c.put-2.ensures)
