-- A finite value that its format holds is a whole number of the format's smallest values, its units.
use mathlib.Core.Path.{◌≡◌, sym, ap, ◌∙◌}
use mathlib.Core.Bool.{Bool, ◌&&◌}
use Prim.Native.Nat.{ℕ, zero, suc, ◌+◌, ◌-◌, ◌*◌, ◌%◌, ◌^◌, ◌≤◌, ◌<◌}
use native.Mathlib.Nat.{mul-one, mul_assoc, mul_right_comm, zero-mul, eq_of_mul-eq-mul_right, not-le_of_lt}
use native.Mathlib.Omega.{arith}
use lib.IntN.{ℤ, pos, negsuc}
use lib.Dec.{T, leb, ltb, eqb, leb→le}
use lib.Pow.{pow-add, pow-lt}
use lib.Ieee.{Float, nan, inf, fin, Format, prec, emax, low, up, down, fits}
use lib.Ieee.Fits.{and_l, and_r, down_pos}
use lib.Ieee.Exact.{HasValue}
use mathlib.Core.Logic.{inl, inr}
use Rattle.slices.proofs.Tests.{lt-or-le}

-- m * 2 ^ e in units, where 2 ^ -e is no more than the number of units in 1
count : (m : ℕ) (e : ℤ) (l : ℕ) → down e ≤ 2 ^ l → (n : ℕ) × (m * up e * 2 ^ l ≡ n * down e)
count m (pos k) l h = (m * 2 ^ k * 2 ^ l, sym (mul-one (m * 2 ^ k * 2 ^ l)))
count m (negsuc k) l h =
    let less : suc k ≤ l = elim (lt-or-le l (suc k)) [ inl g ↦ absurd (not-le_of_lt (pow-lt g) h) | inr g ↦ g ] in
    let parts : l - suc k + suc k ≡ l = omega arith in
    (m * 2 ^ (l - suc k), ap (λ (x : ℕ). x * 2 ^ l) (mul-one m) ∙ ap (λ (x : ℕ). m * 2 ^ x) (sym parts) ∙ ap (λ (x : ℕ). m * x) (pow-add 2 (l - suc k) (suc k)) ∙ sym (mul_assoc m (2 ^ (l - suc k)) (2 ^ suc k)))

low-enough : (f : Format) (s : Bool) (m : ℕ) (e : ℤ) → T (fits f (fin s (suc m) e)) → down e ≤ 2 ^ low f
unfolding fits
low-enough f s m e h =
    let a = eqb (suc m % 2) 1 in
    let b = ltb (suc m) (2 ^ prec f) in
    let c = leb (down e) (2 ^ low f) in
    leb→le (down e) (2 ^ low f) (and_r (a && b) c (and_l (a && b && c) (ltb (suc m * up e) (2 ^ suc (emax f) * down e)) h))

units_of : (f : Format) (s : Bool) (m : ℕ) (e : ℤ) → T (fits f (fin s m e)) → (n : ℕ) × (m * up e * 2 ^ low f ≡ n * down e)
units_of f s zero e h = (0, ap (λ (x : ℕ). x * 2 ^ low f) (zero-mul (up e)) ∙ zero-mul (2 ^ low f) ∙ sym (zero-mul (down e)))
units_of f s (suc m) e h = count (suc m) e (low f) (low-enough f s m e h)

-- the same size as a fraction a / c and in units
cross : (p u d n a c : ℕ) → 0 < d → p * u ≡ n * d → p * c ≡ a * d → n * c ≡ a * u
cross p u d n a c D h k = eq_of_mul-eq-mul_right d D (n * c) (a * u) (mul_right_comm n c d ∙ ap (λ (x : ℕ). x * c) (sym h) ∙ mul_right_comm p u c ∙ ap (λ (x : ℕ). x * u) k ∙ mul_right_comm a d u)

pub units : (f : Format) (x : Float) (s : Bool) (a c : ℕ) → T (fits f x) → HasValue x s a c → (n : ℕ) × HasValue x s n (2 ^ low f) × (n * c ≡ a * 2 ^ low f)
units f nan s a c h v = absurd v
units f (inf t) s a c h v = absurd v
units f (fin t m e) s a c h v =
    let n = units_of f t m e h in
    (n.0, (v.0, n.1), cross (m * up e) (2 ^ low f) (down e) n.0 a c (down_pos e) n.1 v.1)
