-- What is known where a test says yes, and where it says no.
use mathlib.Core.Path.{◌≡◌, refl}
use mathlib.Core.Bool.{Bool, true, false}
use Rattle.slices.proofs.Tests.{clash}
use Rattle.sums.specs.Tells.{Tells}

pub tell-true : {P : Type 0} (r : Bool) → Tells P r → r ≡ true → P
tell-true true h e = h
tell-true false h e = absurd (clash e refl)

pub tell-false : {P : Type 0} (r : Bool) → Tells P r → r ≡ false → P → ⊥
tell-false true h e = absurd (clash refl e)
tell-false false h e = h
