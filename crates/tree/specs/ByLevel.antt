-- The order that nodes had before order 10: by level, then ascending code. No promise speaks of it: it serves the theorems that tie both orders to each other.
use Rattle.std.specs.Prelude.{Bool, ◌&&◌, ◌||◌, List, ℕ, ◌-◌, max, ltb, eqb, length, get_or}
use Rattle.morton.specs.Keys.{level_of, code_of}

-- k's number was lower than j's
abbrev pub before_by_level : ℕ → ℕ → Bool
before_by_level k j = ltb (level_of k) (level_of j) || (eqb (level_of k) (level_of j) && ltb (code_of k) (code_of j))

-- the depth was the last node's level, at least 1
abbrev pub depth_by_level : List ℕ → ℕ
depth_by_level keys = max 1 (level_of (get_or keys (length keys - 1) 0))
