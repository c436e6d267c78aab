-- `grow::mark_of` meets its contract.
use mathlib.Core.Path.{sym, ap}
use mathlib.Core.Bool.{Bool, cond}
use Prim.Native.Nat.{◌+◌, ◌*◌}
use Rattle.grow.proofs.mark_of.Goals as goal

pub returns-then-split : goal.returns-then-split
returns-then-split c = sym (ap (λ (b : Bool). cond b (2 * c.args.sum) (2 * c.args.sum + 1)) c.if-split.true)

pub returns-else-split : goal.returns-else-split
returns-else-split c = sym (ap (λ (b : Bool). cond b (2 * c.args.sum) (2 * c.args.sum + 1)) c.if-split.false)
