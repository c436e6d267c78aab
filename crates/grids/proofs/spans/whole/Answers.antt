-- `grids::spans::whole` meets its contract.
use mathlib.Core.Path.{◌≡◌, refl}
use mathlib.Core.List.{[], ◌∷◌}
use Prim.Native.Nat.{ℕ, zero, suc, ◌<◌}
use native.Mathlib.Omega.{arith}
use lib.ListN.{get_or}
use Rattle.grids.proofs.spans.whole.Goals as goal

pub returns : goal.returns
returns c = record { from = zeros; to = λ a. refl }
  where
    zeros : (a : ℕ) → a < 3 → ◌≡◌ {A = ℕ} (get_or (0 ∷ 0 ∷ 0 ∷ []) a 0) 0
    zeros zero h = refl
    zeros (suc zero) h = refl
    zeros (suc (suc zero)) h = refl
    zeros (suc (suc (suc a))) h = absurd (omega arith)
