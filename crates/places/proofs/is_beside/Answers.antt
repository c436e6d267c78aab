-- `places::is_beside` meets its contract.
use Prim.Native.Nat.{◌/◌, ◌%◌}
use native.Mathlib.Omega.{arith}
use mathlib.Core.Path.{sym, ◌∙◌}
use borrow.Author.Tests.{not-true, not-false}
use Rattle.places.proofs.Laws.{beside-no-1, beside-no-2, beside-yes, low-lt}
use Rattle.places.proofs.is_beside.Goals as goal

pub within_one-requires : goal.within_one-requires
within_one-requires c = (omega arith, low-lt (c.args.q % 1048576) c.args.up (omega arith))

pub returns-then-not-within_one : goal.returns-then-not-within_one
returns-then-not-within_one c = beside-no-1 c.args.p c.args.q c.args.up (sym c.within_one.ensures ∙ c.if-not-within_one.true)

pub within_one-requires-2 : goal.within_one-requires-2
within_one-requires-2 c = (omega arith, low-lt (c.args.q / 1048576 % 1048576) c.args.up (omega arith))

pub returns-then-not-within_one-2 : goal.returns-then-not-within_one-2
returns-then-not-within_one-2 c = beside-no-2 c.args.p c.args.q c.args.up (sym c.within_one.ensures ∙ c.if-not-within_one.false) (sym c.within_one-2.ensures ∙ c.if-not-within_one-2.true)

pub within_one-requires-3 : goal.within_one-requires-3
within_one-requires-3 c = (omega arith, low-lt (c.args.q / 1099511627776) c.args.up (omega arith))

pub returns : goal.returns
returns c = c.within_one-3.ensures ∙ beside-yes c.args.p c.args.q c.args.up (sym c.within_one.ensures ∙ c.if-not-within_one.false) (sym c.within_one-2.ensures ∙ c.if-not-within_one-2.false)
