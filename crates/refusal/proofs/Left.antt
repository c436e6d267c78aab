-- What is left in a lent slice once it is known how the call ended.
use mathlib.Core.Path.{◌≡◌, sym, ap, ◌∙◌}
use mathlib.Core.List.{List}
use Prim.Native.Nat.{ℕ}
use lib.ListN.{replicate}
use Rattle.slices.specs.Lists.{filled}
use Rattle.refusal.specs.declared.Refusal.{Refusal}
use Rattle.refusal.specs.Left.{left}
use Rattle.refusal.specs.Outcome.{Outcome, accepted}
use Rattle.std.specs.Prelude.{Err}

module _ (o : Outcome) (n : ℕ) (answer slice : List ℕ) where
  pub left-done : o ≡ accepted → slice ≡ filled n answer → slice ≡ left o n answer
  left-done e z = z ∙ sym (ap (λ q. left q n answer) e)

  pub done-left : o ≡ accepted → slice ≡ left o n answer → slice ≡ filled n answer
  done-left e z = z ∙ ap (λ q. left q n answer) e

  pub left-refused : (r : Refusal) (m : ℕ) → o ≡ Err r → m ≡ n → slice ≡ replicate m 0 → slice ≡ left o n answer
  left-refused r m e l z = z ∙ ap (λ (x : ℕ). replicate x 0) l ∙ sym (ap (λ q. left q n answer) e)
