-- When the number of axes is 1 to 3, and when it is not.
use mathlib.Core.Path.{◌≡◌, refl}
use mathlib.Core.Bool.{true, false}
use Prim.Native.Nat.{ℕ, zero, suc, ◌≤◌, ◌<◌}
use native.Mathlib.Omega.{arith}
use lib.Dec.{leb}
use borrow.Author.Tests.{leb-true, le-leb, lt-leb}
use Rattle.slices.proofs.Tests.{and_l, and_r, both}
use Rattle.axes.specs.Axes.{axes_known, neighbours_room}

pub axes-known : (d : ℕ) → 1 ≤ d → d ≤ 3 → axes_known d ≡ true
axes-known d l h = both (le-leb 1 d l) (le-leb d 3 h)

pub axes-few : (d : ℕ) → d < 1 → axes_known d ≡ false
axes-few d h = rw (lt-leb 1 d h)

pub axes-many : (d : ℕ) → 3 < d → axes_known d ≡ false
axes-many d h = rw (le-leb 1 d (omega arith), lt-leb d 3 h)

pub axes-other : (d : ℕ) → (d ≡ 1 → ⊥) → (d ≡ 2 → ⊥) → (d ≡ 3 → ⊥) → axes_known d ≡ false
axes-other zero a b c = refl
axes-other (suc zero) a b c = absurd (a refl)
axes-other (suc (suc zero)) a b c = absurd (b refl)
axes-other (suc (suc (suc zero))) a b c = absurd (c refl)
axes-other (suc (suc (suc (suc d)))) a b c = axes-many (suc (suc (suc (suc d)))) (omega arith)

pub axes-facts : (d : ℕ) → axes_known d ≡ true → (1 ≤ d) × (d ≤ 3)
axes-facts d h = (leb-true 1 d (and_l _ _ h), leb-true d 3 (and_r (leb 1 d) _ h))

-- three axes have the most
pub neighbours-most : (d : ℕ) → neighbours_room d ≤ neighbours_room 3
neighbours-most zero = omega arith
neighbours-most (suc zero) = omega arith
neighbours-most (suc (suc zero)) = omega arith
neighbours-most (suc (suc (suc zero))) = omega arith
neighbours-most (suc (suc (suc (suc d)))) = rw (axes-many (suc (suc (suc (suc d)))) (omega arith)) (omega arith)
