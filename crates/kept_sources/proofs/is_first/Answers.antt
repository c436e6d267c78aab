-- `kept_sources::is_first` meets its contract.
use native.Mathlib.Omega.{arith}
use Rattle.first_rows.proofs.Numbers.{first-not, first-is, earlier_more}
use Rattle.kept_sources.proofs.is_first.Goals as goal

pub loop-j-init : goal.loop-j-init
loop-j-init c = (omega arith, λ p h. absurd (omega arith))

pub returns-then-key-j : goal.returns-then-key-j
returns-then-key-j c = first-not c.args.key.now c.args.row c.requires _ c.loop-j-test.true c.if-key-j.true

pub loop-j-preserved : goal.loop-j-preserved
loop-j-preserved c = (omega (arith, c.loop-j-test.true), earlier_more c.args.key.now c.args.row c.loop-j.j c.loop-j.invariant.1 c.if-key-j.false)

pub returns : goal.returns
returns c = first-is c.args.key.now c.args.row c.requires _ c.loop-j-test.false c.loop-j.invariant.1
