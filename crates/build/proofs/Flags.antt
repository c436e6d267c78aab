-- The two flags decide whether the targets are used.
use mathlib.Core.Path.{◌≡◌, refl, sym, ap, ◌∙◌}
use mathlib.Core.Bool.{Bool, true, false, cond, ◌&&◌}
use mathlib.Core.List.{List, []}
use Prim.Native.Nat.{ℕ, ◌≤◌}
use native.Mathlib.Omega.{arith}
use lib.Ieee.{Float}
use lib.ListN.{length, take}
use lib.Seq.{take_all}
use Rattle.build.specs.Asked.{used}

-- all entries or none
some_of : (u : Bool) (n m : ℕ) → m ≡ cond u n 0 → m ≤ n
some_of true n m e = omega (arith, e)
some_of false n m e = omega (arith, e)

part_of : (u : Bool) (t : List Float) → take (cond u (length t) 0) t ≡ cond u t []
part_of true t = take_all (length t) t (omega arith)
part_of false t = refl

module _ (keep refine : Bool) (t : List Float) (m : ℕ) (e : m ≡ cond (keep && refine) (length t) 0) where
  pub used-within : m ≤ length t
  used-within = some_of (keep && refine) (length t) m e

  pub used-are : take m t ≡ used keep refine t
  used-are = ap (λ (x : ℕ). take x t) e ∙ part_of (keep && refine) t
