-- `space::number_of` meets its contract, by what `proofs/Patterns.antt` says of a bit pattern.
use mathlib.Core.Path.{sym, subst}
use lib.Dec.{T}
use lib.Ieee.{Float, binary64, fits}
use Rattle.space.proofs.Patterns.{no_nan, nan-out, minus-zero, minus, under_one, too-high, shifted}
use Rattle.space.proofs.number_of.Goals as goal

pub returns-then-q : goal.returns-then-q
returns-then-q c = nan-out c.args.q c.if-q.true

pub float_to_bits-bits : goal.float_to_bits-bits
float_to_bits-bits c = no_nan c.args.q c.if-q.false

pub returns-then-bits : goal.returns-then-bits
returns-then-bits c = minus-zero c.args.q (let held : T (fits binary64 c.args.q) = subst T (sym c.well_formed.0.1) tt in held) c.if-bits.true

pub returns-then-bits-ge9223372036854775808 : goal.returns-then-bits-ge9223372036854775808
returns-then-bits-ge9223372036854775808 c = minus c.args.q (let held : T (fits binary64 c.args.q) = subst T (sym c.well_formed.0.1) tt in held) c.if-bits-ge9223372036854775808.true c.if-bits.false

pub returns-then-exponent-lt1023 : goal.returns-then-exponent-lt1023
returns-then-exponent-lt1023 c = under_one c.args.q (let held : T (fits binary64 c.args.q) = subst T (sym c.well_formed.0.1) tt in held) c.if-bits-ge9223372036854775808.false c.if-exponent-lt1023.true

pub returns-then-exponent-ge1039 : goal.returns-then-exponent-ge1039
returns-then-exponent-ge1039 c = too-high c.args.q (let held : T (fits binary64 c.args.q) = subst T (sym c.well_formed.0.1) tt in held) c.if-bits-ge9223372036854775808.false c.if-exponent-ge1039.true

pub returns : goal.returns
returns c = shifted c.args.q (let held : T (fits binary64 c.args.q) = subst T (sym c.well_formed.0.1) tt in held) c.if-bits-ge9223372036854775808.false c.if-exponent-lt1023.false c.if-exponent-ge1039.false
