-- What the sum check asks of its arguments: document 02, order 12.
use Rattle.std.specs.Prelude.{◌≡◌, Bool, true, false, ◌&&◌, cond, List, [], ◌∷◌, ℕ, suc, ◌≤◌, leb, ltb, eqb, ℤ, nat_abs, length, get_or}
use Rattle.slices.specs.Lists.{sum}
use Rattle.refusal.specs.declared.Refusal.TheVariants.{Shape, NotLeaf, NotBuilt, Reading}
use Rattle.refusal.specs.Chain.{ask, ◌then◌}
use Rattle.tree.specs.Columns.{Columns}
use Rattle.tree.specs.Nodes.{leaf}
use Rattle.sourced.specs.Answers.{tree_check}
use Rattle.sums.specs.Right.{lists_are}
use Rattle.sums.specs.Arrangement.{arranges}
use Rattle.row_sums.specs.Readings.{largest}
use Rattle.refusal.specs.Outcome.{Outcome}

-- a reading is at most 2 ^ 40 in size
abbrev pub is_small : ℤ → Bool
is_small x = leb (nat_abs x) largest

-- the lowest index of a reading that is too large, the number of readings if none is
unfoldable pub first_large : List ℤ → ℕ
first_large [] = 0
first_large (x ∷ xs) = cond (is_small x) (suc (first_large xs)) 0

-- a number is a leaf's
abbrev pub is_leaf_at : ℕ → List ℕ → ℕ → Bool
is_leaf_at d keys node = ltb node (length keys) && leaf d keys (get_or keys node 0)

-- 1, 13, then 3 when readings and sources differ in number, 20 for a reading that is too large
abbrev pub readings_check : ℕ → Columns → List ℤ → Outcome
readings_check d t readings = tree_check d t then ask (eqb (length readings) (sum t.own)) Shape then ask (eqb (first_large readings) (length readings)) (Reading (first_large readings))

-- the lists are the tree's, and the order arranges all indices
abbrev pub is_built : ℕ → Columns → (order us uk vs vk : List ℕ) → Bool
is_built d t order us uk vs vk = lists_are d t.keys t.own us uk vs vk && arranges order (sum t.own)

-- after these 14, with the number given as its value, when that is no leaf, and 18 when the lists or the order are not the tree's
abbrev pub sum_check : ℕ → Columns → (order : List ℕ) → List ℤ → (us uk vs vk : List ℕ) → ℕ → Outcome
sum_check d t order readings us uk vs vk node = readings_check d t readings then ask (is_leaf_at d t.keys node) (NotLeaf node) then ask (is_built d t order us uk vs vk) NotBuilt
