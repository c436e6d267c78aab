-- `kept_sources::is_first` meets its contract.
use mathlib.Core.Path.{◌≡◌}
use Prim.Native.Nat.{ℕ, ◌-◌, ◌≤◌, ◌<◌}
use lib.ListN.{get_or}
use Rattle.kept_sources.proofs.is_first.Given as goal

abbrev pub invariant-loop-j : goal.invariant-loop-j
invariant-loop-j l = (l.j ≤ l.row) × ((p : ℕ) → p < l.j → get_or l.key p 0 ≡ get_or l.key l.row 0 → ⊥)
