-- What the calls on a batch of points or keys share: how many there may be, and those before the first that fails.
use Rattle.std.specs.Prelude.{Bool, cond, List, [], ◌∷◌, ℕ, suc}

-- the most keys to group
abbrev pub most_keys : ℕ
most_keys = 1048576

-- how many stand before the first that fails a test
unfoldable pub passing : (ℕ → Bool) → List ℕ → ℕ
passing p [] = 0
passing p (x ∷ xs) = cond (p x) (suc (passing p xs)) 0
