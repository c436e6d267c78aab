-- What the call on a cell's centre answers.
use mathlib.Core.Path.{◌≡◌, ap, ap₂, ◌∙◌}
use mathlib.Core.List.{[], ◌∷◌}
use Prim.Native.Nat.{ℕ}
use lib.Ieee.{Float}
use Rattle.std.specs.Prelude.{Ok}
use Rattle.refusal.specs.Outcome.{accepted}
use Rattle.refusal.proofs.Chain.{answered}
use Rattle.morton.specs.Keys.{level_of, code_of}
use Rattle.space.specs.declared.Box.{Box}
use Rattle.space.specs.Cells.{side}
use Rattle.centres.specs.Centres.{key_outcome, centre_on, centre_length}

module _ (b : Box) (k : ℕ) where
  pub done-centre : (x y z l : Float) → key_outcome b k ≡ accepted
      → x ≡ centre_on b (level_of k) (code_of k) 0 → y ≡ centre_on b (level_of k) (code_of k) 1 → z ≡ centre_on b (level_of k) (code_of k) 2 → l ≡ side b.radius (level_of k)
      → Ok (record { centre = x ∷ y ∷ z ∷ []; length = l }) ≡ centre_length b k
  done-centre x y z l h e f g s =
      answered _ _ _ h (ap₂ (λ c l. record { centre = c; length = l }) (ap₂ (λ x y. x ∷ y ∷ z ∷ []) e f ∙ ap (λ z. centre_on b (level_of k) (code_of k) 0 ∷ centre_on b (level_of k) (code_of k) 1 ∷ z ∷ []) g) s)
