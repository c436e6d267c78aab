-- By the step's value.
use mathlib.Core.Path.{◌≡◌, refl, sym, ap, ◌∙◌}
use Prim.Native.Nat.{ℕ, zero, suc}
use native.Mathlib.Omega.{arith}
use lib.IntN.{ℤ, pos, negsuc}
use mir.Facts.{to_z-of_z}
use mir.Syntax.{w64}
use mir.Val.{SFits, to_z, of_z}
use Rattle.neighbours.specs.Steps.{raised}
use Rattle.neighbours.proofs.raised.Goals as goal

-- a step is known by the number that holds it
held : (z : ℤ) (n : ℕ) → SFits w64 z → of_z w64 z ≡ n → raised (to_z w64 n) ≡ raised z
held z n f e = ap raised (ap (to_z w64) (sym e) ∙ to_z-of_z f)

other : (z : ℤ) → (of_z w64 z ≡ 18446744073709551615 → ⊥) → (of_z w64 z ≡ 0 → ⊥) → 2 ≡ raised z
other (pos zero) m n = absurd (n refl)
other (pos (suc k)) m n = refl
other (negsuc zero) m n = absurd (m refl)
other (negsuc (suc k)) m n = refl

pub returns-in-minus1 : goal.returns-in-minus1
returns-in-minus1 c = (held c.args.step _ c.ranges.step c.in-minus1.in-minus1-own.keys1, omega arith)

pub returns-in-0 : goal.returns-in-0
returns-in-0 c = (held c.args.step _ c.ranges.step c.in-0.in-0-own.keys2, omega arith)

pub returns-in_default : goal.returns-in_default
returns-in_default c = (other c.args.step c.in_default.in_default-own.rest.0.1 c.in_default.in_default-own.rest.1, omega arith)
