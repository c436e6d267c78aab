-- `extents::whole_over` meets its contract.
use mathlib.Core.Path.{◌≡◌, sym, ap, ◌∙◌, subst}
use Prim.Native.Nat.{◌+◌, ◌-◌, ◌*◌, ◌/◌, ◌%◌, ◌^◌, ◌≤◌}
use native.Mathlib.Omega.{arith}
use lib.Bits.{bit_and, bit_or}
use lib.Dec.{lit≤}
use lib.Pow.{pow_pos, pow_mono}
use Rattle.extents.proofs.Wholes.{shifted_one, over_none, over-low, over-high, over-fits, lead}
use Rattle.extents.proofs.whole_over.Goals as goal

pub returns-then-bits-eq0 : goal.returns-then-bits-eq0
returns-then-bits-eq0 c = (over_none c.args.bits c.if-bits-eq0.true, lit≤ tt)

pub returns-then-exponent-lt1023 : goal.returns-then-exponent-lt1023
returns-then-exponent-lt1023 c = (over-low c.args.bits c.if-bits-eq0.false c.if-exponent-lt1023.true, lit≤ tt)

-- the shifted one, and its size
unit-is : (c : goal.Else-exponent-lt1023) → 1 * 2 ^ (1075 - c.args.bits / 4503599627370496) % 18446744073709551616 ≡ 2 ^ (1075 - c.args.bits / 4503599627370496)
unit-is c = shifted_one (1075 - c.args.bits / 4503599627370496) (omega (arith, c.if-exponent-lt1023.false))

unit-under : (c : goal.Else-exponent-lt1023) → 2 ^ (1075 - c.args.bits / 4503599627370496) ≤ 4503599627370496
unit-under c = pow_mono {i = 1075 - c.args.bits / 4503599627370496} {j = 52} (omega (arith, c.if-exponent-lt1023.false))

pub overflow_sub-result : goal.overflow_sub-result
overflow_sub-result c = omega (arith, unit-is c, pow_pos (1075 - c.args.bits / 4503599627370496))

pub overflow_add-result : goal.overflow_add-result
overflow_add-result c = omega (arith, unit-is c, unit-under c, lead c.args.bits)

pub returns : goal.returns
returns c = let s = 1075 - c.args.bits / 4503599627370496 in
    let q = bit_or (bit_and c.args.bits 4503599627370495) 4503599627370496 in
    let e : (q + (1 * 2 ^ s % 18446744073709551616 - 1)) / 2 ^ s ≡ (q + (2 ^ s - 1)) / 2 ^ s = ap (λ u. (q + (u - 1)) / 2 ^ s) (unit-is c) in
    (e ∙ over-high c.args.bits c.if-exponent-lt1023.false c.requires, subst (λ n. n ≤ 9007199254740992) (sym e) (over-fits c.args.bits s))
