-- What a call leaves in a slice that was lent to it.
use Rattle.std.specs.Prelude.{List, ℕ, replicate, Err, Ok}
use Rattle.slices.specs.Lists.{filled}
use Rattle.refusal.specs.Outcome.{Outcome}

-- n entries: the answer and 0 in the unused rest, or 0 throughout after a refusal
abbrev pub left : Outcome → ℕ → List ℕ → List ℕ
left (Ok tt) n answer = filled n answer
left (Err r) n answer = replicate n 0
