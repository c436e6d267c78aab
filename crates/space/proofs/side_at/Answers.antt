-- `space::side_at` meets its contract: 2 ^ level is at most 2 ^ 16, so it wraps nowhere and is a float exactly.
use mathlib.Core.Path.{◌≡◌, sym, ap, ◌∙◌, subst}
use Prim.Native.Nat.{ℕ, ◌^◌, ◌≤◌}
use native.Mathlib.Omega.{arith}
use lib.IntN.{pos}
use lib.Dec.{T}
use lib.Pow.{pow_mono}
use lib.Ieee.{Float, fin, binary64, in_float, of_int, of_bits, mul, div}
use Rattle.morton.proofs.Arithmetic.{one_shifted}
use Rattle.space.proofs.Patterns.{le→leb}
use Rattle.space.proofs.side_at.Goals as goal

in-float : (l : ℕ) → l ≤ 16 → T (in_float binary64 (pos (2 ^ l)))
unfolding in_float
in-float l h = let k : l ≤ 53 = omega arith in le→leb (2 ^ l) (2 ^ 53) (pow_mono k)

two_is : (r s : Float) → div binary64 (mul binary64 (of_bits binary64 4611686018427387904) r) s ≡ div binary64 (mul binary64 (fin mathlib.Core.Bool.false 1 (pos 1)) r) s
unfolding of_bits
two_is r s = mathlib.Core.Path.refl

pub int_to_float-result : goal.int_to_float-result
int_to_float-result c = subst (λ (n : ℕ). T (in_float binary64 (pos n))) (sym (one_shifted c.args.level c.requires)) (in-float c.args.level c.requires)

pub returns : goal.returns
returns c = ap (λ (n : ℕ). div binary64 (mul binary64 (of_bits binary64 4611686018427387904) c.args.radius) (of_int binary64 (pos n))) (one_shifted c.args.level c.requires)
    ∙ two_is c.args.radius (of_int binary64 (pos (2 ^ c.args.level)))
