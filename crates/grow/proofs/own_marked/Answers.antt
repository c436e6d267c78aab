-- `grow::own_marked` meets its contract.
use mathlib.Core.Path.{sym, ap}
use mathlib.Core.Bool.{Bool, cond}
use Prim.Native.Nat.{◌/◌, ◌%◌}
use borrow.Author.Tests.{eq-eqb, ne_eqb}
use Rattle.grow.proofs.own_marked.Goals as goal

pub returns-then-mark-eq0 : goal.returns-then-mark-eq0
returns-then-mark-eq0 c = sym (ap (λ (b : Bool). cond b 0 (c.args.mark / 2)) (eq-eqb (c.args.mark % 2) 0 c.if-mark-eq0.true))

pub returns-else-mark-eq0 : goal.returns-else-mark-eq0
returns-else-mark-eq0 c = sym (ap (λ (b : Bool). cond b 0 (c.args.mark / 2)) (ne_eqb (c.args.mark % 2) 0 c.if-mark-eq0.false))
