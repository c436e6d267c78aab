-- Document 01, "Lists, lookup, sourced cells", with orders 3 and 10: when a tree handed in is well formed, for any four columns.
-- Every clause but that of the order and that of the totals is document 01's, in its words.
use Rattle.std.specs.Prelude.{◌≡◌, Bool, true, false, ◌&&◌, ◌||◌, List, [], ◌∷◌, ℕ, zero, suc, ◌+◌, ◌-◌, ◌≤◌, ◌<◌, leb, ltb, eqb, length, get_or, take}
use Rattle.slices.specs.Lists.{sum}
use Rattle.slices.specs.Every.{every}
use Rattle.morton.specs.Keys.{valid, parent}
use Rattle.tree.specs.Nodes.{stored, leaf}
use Rattle.tree.specs.Order.{in_order}
use Rattle.tree.specs.Totals.{total_in}

-- the most sources of a tree
abbrev pub most_sources : ℕ
most_sources = 1048576

-- columns have one length N ≥ 1
abbrev pub one_length : List ℕ → List ℕ → List ℕ → Bool
one_length keys own begin = eqb (length own) (length keys) && (eqb (length begin) (length keys) && ltb 0 (length keys))

-- keys are valid, strictly ascending in Z order, the first 0
unfoldable pub keys_ascend : ℕ → List ℕ → Bool
unfolding every
keys_ascend d keys = eqb (get_or keys 0 0) 0 && (every (length keys) (λ i. valid d (get_or keys i 0)) && in_order d keys)

-- every other's parent is present
unfoldable pub parents_stored : ℕ → List ℕ → Bool
unfolding every
parents_stored d keys = every (length keys) (λ i. eqb i 0 || stored keys (parent d (get_or keys i 0)))

-- the root and nodes with children own none
unfoldable pub leaves_own : ℕ → List ℕ → List ℕ → Bool
unfolding every
leaves_own d keys own = every (length keys) (λ i. leaf d keys (get_or keys i 0) || eqb (get_or own i 0) 0)

-- begins are the running sums; the total is at most 1,048,576
unfoldable pub runs_add : List ℕ → List ℕ → Bool
unfolding every
runs_add own begin = every (length own) (λ i. eqb (get_or begin i 0) (sum (take i own))) && leb (sum own) most_sources

-- all of this: the rule but for the totals
unfoldable pub formed : ℕ → List ℕ → List ℕ → List ℕ → Bool
unfolding keys_ascend parents_stored leaves_own runs_add
formed d keys own begin =
    one_length keys own begin && (keys_ascend d keys && (parents_stored d keys && (leaves_own d keys own && runs_add own begin)))

-- the column of totals has the same length, and each is the number of sources in the cell and all below it
unfoldable pub totals_right : ℕ → List ℕ → List ℕ → List ℕ → Bool
unfolding every
totals_right d keys own total = eqb (length total) (length keys) && every (length keys) (λ i. eqb (get_or total i 0) (total_in d keys own (get_or keys i 0)))

unfoldable pub well_formed : ℕ → List ℕ → List ℕ → List ℕ → List ℕ → Bool
unfolding formed totals_right
well_formed d keys own begin total = formed d keys own begin && totals_right d keys own total

-- 1 to 3 axes, and the columns of a well-formed tree, whatever its begins
pub record SoundTree (d : ℕ) (keys own : List ℕ) : Type 0 where
  pub some : 1 ≤ d
  pub most : d ≤ 3
  pub begin : List ℕ
  pub sound : formed d keys own begin ≡ true

-- A source of a tree is one place in its runs: place p lies in the run of node j
pub record Run (own begin : List ℕ) (j p : ℕ) : Type 0 where
  pub node : j < length own
  pub from : get_or begin j 0 ≤ p
  pub to : p < get_or begin j 0 + get_or own j 0
