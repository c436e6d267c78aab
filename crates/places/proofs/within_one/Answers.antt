-- `places::within_one` meets its contract.
use mathlib.Core.Path.{sym, ap, ◌∙◌}
use mathlib.Core.Bool.{◌&&◌}
use Prim.Native.Nat.{◌+◌}
use lib.Dec.{leb}
use borrow.Author.Tests.{le-leb, lt-leb}
use Rattle.places.proofs.within_one.Goals as goal

pub returns-then-x-y : goal.returns-then-x-y
returns-then-x-y c = sym (ap (λ b. b && leb c.args.y (c.args.x + 1)) (le-leb _ _ c.if-x-y.true))

pub returns-else-x-y : goal.returns-else-x-y
returns-else-x-y c = lt-leb _ _ c.if-x-y.false ∙ sym (ap (λ b. b && leb c.args.y (c.args.x + 1)) (lt-leb _ _ c.if-x-y.false))
