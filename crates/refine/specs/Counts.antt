-- How many points lie in a cell, by their codes at level 16.
use Rattle.std.specs.Prelude.{List, ℕ, ◌-◌, eqb}
use Rattle.slices.specs.Lists.{count}
use Rattle.morton.specs.Keys.{deepest, level_of, code_of, above}

-- how many codes, taken up to a level, are this code
unfoldable pub count_at : ℕ → List ℕ → ℕ → ℕ → ℕ
count_at d codes level code = count (λ c. eqb (above d (deepest - level) c) code) codes

-- how many sources a cell has
abbrev pub sources_in : ℕ → List ℕ → ℕ → ℕ
sources_in d sources k = count_at d sources (level_of k) (code_of k)

-- how many targets a cell has: refinement asks nothing else of the targets
abbrev pub targets_in : ℕ → List ℕ → ℕ → ℕ
targets_in d targets k = count_at d targets (level_of k) (code_of k)
