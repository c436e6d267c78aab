-- What `end_of` tells: a refusal's number fits the 32 bits that the C face gives it.
use mathlib.Core.Path.{◌≡◌, ap}
use Prim.Native.Nat.{ℕ, ◌≤◌}
use native.Mathlib.Omega.{arith}
use Rattle.refusal.specs.declared.Told.{Told}
use Rattle.refusal.specs.Numbers.{outcome_number, outcome_values, tells}
use Rattle.refusal.proofs.Most.{number-most}
use Rattle.exports_keys.specs.declared.Ended.{Ended}
use Rattle.exports_keys.specs.Told.{told}
use Rattle.refusal.specs.Outcome.{Outcome}

abbrev end_of : Told → Ended
end_of t = record { number = t.number; axis = t.axis; reason = t.reason; value = t.value }

module _ (o : Outcome) (t : Told) (e : t ≡ tells (outcome_number o) (outcome_values o)) where
  pub told-small : t.number ≤ 20
  told-small = omega (arith, ap (λ (s : Told). s.number) e, number-most o)

  pub told-as : end_of t ≡ told o
  told-as = ap end_of e
