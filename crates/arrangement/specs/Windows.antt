-- An order column is looked at in windows of 131,072 indices: no index of a window stands twice.
use Rattle.std.specs.Prelude.{List, ℕ, ◌+◌, ◌≤◌, ◌<◌, eqb, length, get_or}
use Rattle.slices.specs.Lists.{count}

abbrev pub window : ℕ
window = 131072

-- each entry is below n
abbrev pub AllBelow : List ℕ → ℕ → Type 0
AllBelow order n = (i : ℕ) → i < length order → get_or order i 0 < n

-- no index of the window stands twice
abbrev pub OnceFrom : List ℕ → ℕ → Type 0
OnceFrom order from = (v : ℕ) → v < window → count (λ c. eqb c (from + v)) order ≤ 1
