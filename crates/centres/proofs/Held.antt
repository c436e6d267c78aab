-- A box's numbers are of binary64, as every f64 is; and past an array's end `get_or` gives a NaN, which is too.
use mathlib.Core.Path.{◌≡◌, refl, subst}
use mathlib.Core.Bool.{true}
use mathlib.Core.List.{List, [], ◌∷◌, map, map-id}
use Prim.Native.Nat.{ℕ, zero, suc}
use lib.Ieee.{Float, nan, binary64, fits}
use lib.ListN.{get_or}
use mir.Val.{Val}
use denote.Array.{each}
use denote.Floats.{FloatOf}
use denote.Shadow.{shadow}
use Rattle.space.specs.declared.Box.{Box}

pub record Held (b : Box) : Type 0 where
  pub radius : fits binary64 b.radius ≡ true
  pub centre : (a : ℕ) → fits binary64 (get_or b.centre a nan) ≡ true

held-nan : fits binary64 nan ≡ true
unfolding fits
held-nan = refl

held-each : (xs : List Float) (us : List Val) (i : ℕ) → shadow (each Float (FloatOf binary64).own_val xs us) → fits binary64 (get_or xs i nan) ≡ true
held-each [] us i p = held-nan
held-each (x ∷ xs) [] i p = absurd p
held-each (x ∷ xs) (u ∷ us) zero p = p.0.1
held-each (x ∷ xs) (u ∷ us) (suc i) p = held-each xs us i p.1

pub held : (b : Box) (us : List Val) → fits binary64 b.radius ≡ true → shadow (each Float (FloatOf binary64).own_val b.centre us) → Held b
held b us r p = record { radius = r; centre = λ a. held-each b.centre us a p }
