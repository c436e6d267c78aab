-- The places passed have one number.
use mathlib.Core.Path.{◌≡◌}
use mathlib.Core.Bool.{true}
use Rattle.key_vectors.specs.Sameness.{same_numbers}
use Rattle.key_vectors.proofs.calls.same_numbers.Given as goal

abbrev pub invariant-loop-n : goal.invariant-loop-n
invariant-loop-n l = same_numbers l.n l.a l.b ≡ true
