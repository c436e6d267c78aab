-- What is left of a slice into which something was put at a place.
use Rattle.std.specs.Prelude.{List, ◌++◌, ℕ, ◌+◌, length, take, drop}

-- xs from place `at` on, and the rest as it was
unfoldable pub pasted : List ℕ → ℕ → List ℕ → List ℕ
pasted s at xs = take at s ++ xs ++ drop (at + length xs) s
