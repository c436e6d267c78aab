-- What the well-formed check tests: each row against the one before it, and sums that wait for their parents.
use Rattle.std.specs.Prelude.{◌≡◌, Bool, true, false, ◌&&◌, ◌||◌, cond, List, [], ◌∷◌, ℕ, zero, suc, ◌+◌, ◌-◌, ◌≤◌, ◌<◌, leb, ltb, eqb, length, get_or}
use Rattle.morton.specs.Keys.{deepest, axes_known, parent, level_of, under}
use Rattle.tree.specs.WellFormed.{parents_stored, leaves_own, runs_add}
use Rattle.tree.specs.Order.{before}
use Rattle.tree.specs.WellFormed.{keys_ascend}

-- k may stand after p: its level is 1 to 16, its parent holds p, and it comes after p
unfoldable pub follows : ℕ → ℕ → ℕ → Bool
follows d p k = ltb 0 (level_of k) && (leb (level_of k) deepest && (under d (parent d k) p && before d p k))

-- p may own a number of sources with k after it: none, if k is deeper
abbrev pub may_own : ℕ → ℕ → ℕ → Bool
may_own p k n = leb (level_of k) (level_of p) || eqb n 0

-- the clauses on keys, own counts and begins
unfoldable pub rows_right : ℕ → List ℕ → List ℕ → List ℕ → Bool
rows_right d keys own begin = keys_ascend d keys && (parents_stored d keys && (leaves_own d keys own && runs_add own begin))

-- the number of axes, the lengths and the first row are right
pub record Rooted (d : ℕ) (keys own begin : List ℕ) : Type 0 where
  pub axes : axes_known d ≡ true
  pub owns : length own ≡ length keys
  pub begins : length begin ≡ length keys
  pub some : 0 < length keys
  pub root : get_or keys 0 0 ≡ 0
  pub rootless : get_or own 0 0 ≡ 0
  pub first : get_or begin 0 0 ≡ 0

-- all but the totals is right
pub record Rowed (d : ℕ) (keys own begin total : List ℕ) : Type 0 where
  pub owns : length own ≡ length keys
  pub begins : length begin ≡ length keys
  pub totals : length total ≡ length keys
  pub some : 0 < length keys
  pub rows : rows_right d keys own begin ≡ true

-- from the last row back: what the cells of level l hold whose parent is still to come
unfoldable pub waiting : ℕ → List ℕ → List ℕ → ℕ
waiting l [] own = 0
waiting l (k ∷ ks) [] = 0
waiting l (k ∷ ks) (n ∷ own) = cond (ltb (level_of k) l) 0 (cond (ltb l (level_of k)) 0 (n + waiting (suc l) ks own) + waiting l ks own)
