-- `extents::whole_under` meets its contract.
use lib.Dec.{lit≤}
use Prim.Native.Nat.{◌-◌, ◌/◌}
use Rattle.extents.proofs.Wholes.{under_low, under-high, under-fits}
use Rattle.extents.proofs.whole_under.Goals as goal

pub returns-then-exponent-lt1023 : goal.returns-then-exponent-lt1023
returns-then-exponent-lt1023 c = (under_low c.args.bits c.if-exponent-lt1023.true, lit≤ tt)

pub returns : goal.returns
returns c = (under-high c.args.bits c.if-exponent-lt1023.false c.requires, under-fits c.args.bits (1075 - c.args.bits / 4503599627370496))
