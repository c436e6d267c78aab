-- A cell holds a code if they agree at its level.
use mathlib.Core.Path.{◌≡◌}
use mathlib.Core.Bool.{true, false}
use mathlib.Core.List.{List}
use Prim.Native.Nat.{ℕ, ◌*◌, ◌-◌, ◌/◌, ◌^◌}
use lib.ListN.{get_or}
use borrow.Author.Tests.{eq-eqb, ne_eqb}
use Rattle.morton.specs.Keys.{level_of, code_of}
use Rattle.points_right.specs.Points.{code_in}

module _ (d : ℕ) (codes : List ℕ) (k i : ℕ) where
  pub held-so : get_or codes i 0 / 2 ^ (d * (16 - level_of k)) ≡ code_of k → code_in d codes k i ≡ true
  held-so e = eq-eqb (get_or codes i 0 / 2 ^ (d * (16 - level_of k))) (code_of k) e

  pub held-not : (get_or codes i 0 / 2 ^ (d * (16 - level_of k)) ≡ code_of k → ⊥) → code_in d codes k i ≡ false
  held-not e = ne_eqb (get_or codes i 0 / 2 ^ (d * (16 - level_of k))) (code_of k) e
