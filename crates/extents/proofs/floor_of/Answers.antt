-- `extents::floor_of` meets its contract, by what `proofs/Values.antt` says of a bit pattern.
use mathlib.Core.Path.{sym, subst}
use Prim.Native.Nat.{ℕ, ◌≤◌}
use lib.Dec.{T}
use lib.IntN.{pos}
use lib.Ieee.{Float, binary64, fits, in_float}
use Rattle.space.proofs.Patterns.{no_nan, le→leb}
use Rattle.extents.proofs.Values.{floor-nan, floor-big, floor-over, floor-under}
use Rattle.extents.proofs.floor_of.Goals as goal

whole_float : (k : ℕ) → k ≤ 9007199254740992 → T (in_float binary64 (pos k))
unfolding in_float
whole_float k h = le→leb k 9007199254740992 h

pub returns-then-x : goal.returns-then-x
returns-then-x c = floor-nan c.args.x c.if-x.true

pub float_to_bits-bits : goal.float_to_bits-bits
float_to_bits-bits c = no_nan c.args.x c.if-x.false

pub returns-then-size-ge1075 : goal.returns-then-size-ge1075
returns-then-size-ge1075 c = floor-big c.args.x (let held : T (fits binary64 c.args.x) = subst T (sym c.well_formed.0.1) tt in held) c.if-size-ge1075.true

pub whole_over-requires : goal.whole_over-requires
whole_over-requires c = c.if-size-ge1075.false

pub int_to_float-result : goal.int_to_float-result
int_to_float-result c = whole_float c.whole_over.result c.whole_over.ensures.1

pub returns-then-bits-ge9223372036854775808 : goal.returns-then-bits-ge9223372036854775808
returns-then-bits-ge9223372036854775808 c = floor-over c.args.x (let held : T (fits binary64 c.args.x) = subst T (sym c.well_formed.0.1) tt in held) c.if-size-ge1075.false c.if-bits-ge9223372036854775808.true c.whole_over.result c.whole_over.ensures.0

pub whole_under-requires : goal.whole_under-requires
whole_under-requires c = c.if-size-ge1075.false

pub int_to_float-result-2 : goal.int_to_float-result-2
int_to_float-result-2 c = whole_float c.whole_under.result c.whole_under.ensures.1

pub returns : goal.returns
returns c = floor-under c.args.x (let held : T (fits binary64 c.args.x) = subst T (sym c.well_formed.0.1) tt in held) c.if-size-ge1075.false c.if-bits-ge9223372036854775808.false c.whole_under.result c.whole_under.ensures.0
