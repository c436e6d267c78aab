-- Document 01, "How the tree grows": when targets split a cell. d is the number of axes.
use Rattle.std.specs.Prelude.{Bool, ◌&&◌, cond, List, ◌∷◌, map, ℕ, ◌*◌, ◌-◌, ◌^◌, ◌≤◌, max, leb, ltb, eqb, length}
use Rattle.slices.specs.Lists.{sum}
use Rattle.morton.specs.Keys.{level_of, code_of, key, above, ValidKey}
use Rattle.neighbours.specs.Directions.{neighbours}
use Rattle.morton.specs.Depth.{reference_depth}
use Rattle.refine.specs.declared.Around.{Around}
use Rattle.refine.specs.Counts.{sources_in, targets_in}

-- the larger of the cell limit and order^d
abbrev pub near_limit : ℕ → ℕ → ℕ → ℕ
near_limit d limit order = max limit (order ^ d)

-- the cell and its neighbours, stored or not
abbrev pub peers : ℕ → ℕ → List ℕ
peers d k = k ∷ neighbours d k

-- a cell at or below the reference depth is replaced by its ancestor one level above that depth
abbrev pub lifted : ℕ → ℕ → ℕ → ℕ
lifted d depth k = cond (leb depth (level_of k)) (key (depth - 1) (above d (level_of k - (depth - 1)) (code_of k))) k

-- the counts found there, repeats kept
unfoldable pub counts_around : ℕ → ℕ → List ℕ → ℕ → List ℕ
counts_around d depth sources k = map (λ p. sources_in d sources (lifted d depth p)) (peers d k)

abbrev pub squares : List ℕ → List ℕ
squares cs = map (λ c. c * c) cs

-- their number, their sum and the sum of their squares
abbrev pub around_by : List ℕ → Around
around_by cs = record { peers = length cs; sum = sum cs; squares = sum (squares cs) }

-- 2·sum² ≥ peers·(sum of c²)
abbrev pub alike : List ℕ → Bool
alike cs = leb (length cs * sum (squares cs)) (2 * (sum cs * sum cs))

-- sum 0: 32; else 16 where the cell's level is at most the reference depth and the counts are alike; else 1
abbrev pub factor_by : Bool → List ℕ → ℕ
factor_by coarse cs = cond (eqb (sum cs) 0) 32 (cond (coarse && alike cs) 16 1)

unfoldable pub factor : ℕ → ℕ → List ℕ → ℕ → ℕ
factor d depth sources k = factor_by (leb (level_of k) depth) (counts_around d depth sources k)

-- so many targets exceed near limit times factor
abbrev pub splits_by : ℕ → ℕ → ℕ → ℕ → List ℕ → ℕ → ℕ → Bool
splits_by d depth limit order sources held k = ltb (near_limit d limit order * factor d depth sources k) held

-- the targets do
abbrev pub splits_at : ℕ → ℕ → ℕ → ℕ → List ℕ → List ℕ → ℕ → Bool
splits_at d depth limit order sources targets k = splits_by d depth limit order sources (targets_in d targets k) k

-- the same at the sources' reference depth
abbrev pub splits_for_targets : ℕ → ℕ → ℕ → List ℕ → List ℕ → ℕ → Bool
splits_for_targets d limit order sources targets k = splits_at d (reference_depth d (length sources)) limit order sources targets k

-- what is known of a cell, a reference depth and the codes of the sources where refinement is asked for
pub record Refinable (d k depth : ℕ) (sources : List ℕ) : Type 0 where
  pub good : ValidKey d k
  pub deep : 1 ≤ depth
  pub few : length sources ≤ 1048576
