-- Document 02, orders 7 and 9: when the order column of a tree holds these points, asked of each place by itself.
-- A point goes by its number, of n; `held k i` says whether point i lies in cell k.
use Rattle.std.specs.Prelude.{◌≡◌, Bool, true, false, List, ℕ, suc, ◌+◌, ◌*◌, ◌≤◌, ◌<◌, Float, length, get_or, drop, None, Option, Some}
use Rattle.slices.specs.Lists.{sum}
use Rattle.morton.specs.Keys.{holds}
use Rattle.space.specs.declared.Frame.{Frame}
use Rattle.space.specs.Cells.{point_code}

-- a cell holds a point that is inside by its code, and none that is outside
abbrev pub held_code : ℕ → ℕ → Option ℕ → Bool
held_code d k (Some code) = holds d k code
held_code d k None = false

-- point i of a flat slice lies in cell k
unfoldable pub point_in : Frame → List Float → ℕ → ℕ → Bool
point_in f points k i = held_code f.axes k (point_code f (drop (i * f.axes) points))

-- the same by the points' codes, where all points are inside
abbrev pub code_in : ℕ → List ℕ → ℕ → ℕ → Bool
code_in d codes k i = holds d k (get_or codes i 0)

-- each entry of a run, from one place to another, is the number of a point that the cell holds, and the entries rise
pub record RunRight (n : ℕ) (held : ℕ → ℕ → Bool) (order : List ℕ) (k from to : ℕ) : Type 0 where
  pub index : (p : ℕ) → from ≤ p → p < to → get_or order p 0 < n
  pub inside : (p : ℕ) → from ≤ p → p < to → held k (get_or order p 0) ≡ true
  pub rises : (p : ℕ) → from ≤ p → suc p < to → get_or order p 0 < get_or order (suc p) 0

-- the order column has as many entries as there are points, all of them in runs, and each node's run is right
pub record PointsRight (n : ℕ) (held : ℕ → ℕ → Bool) (keys own begin order : List ℕ) : Type 0 where
  pub many : length order ≡ n
  pub whole : sum own ≡ n
  pub runs : (j : ℕ) → j < length keys → RunRight n held order (get_or keys j 0) (get_or begin j 0) (get_or begin j 0 + get_or own j 0)
