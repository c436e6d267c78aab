-- Which changes are told of a row of the input, beside the new nodes.
use Rattle.std.specs.Prelude.{◌≡◌, Bool, true, ◌&&◌, not, ℕ, ◌<◌, ltb, eqb, length, get_or}
use Rattle.std.proofs.Math.Bool.{cond}
use mathlib.Core.List.{List, map}
use Rattle.slices.specs.Lists.{filter, range, Mem}
use Rattle.morton.specs.Keys.{axes_known, valid}
use Rattle.tree.specs.Nodes.{node_number, own_of}
use Rattle.tree.specs.WellFormed.{keys_ascend}

-- the columns of the input, and those of the new tree
pub record Beside : Type 0 where
  pub axes : ℕ
  pub key : List ℕ
  pub own : List ℕ
  pub begin : List ℕ
  pub nodes : List ℕ
  pub counts : List ℕ
  pub begins : List ℕ

abbrev pub beside : (axes : ℕ) → (key own begin nodes counts begins : List ℕ) → Beside
beside axes key own begin nodes counts begins = record { axes = axes; key = key; own = own; begin = begin; nodes = nodes; counts = counts; begins = begins }

-- a row by its key, count and begin, whether it is the first with its key, and the count and begin of its node: 2 is told of a repeat, 4 of a count that was cleared, 5 of a begin that was changed
unfoldable pub told_node : ℕ → Bool → (own begin count new_begin : ℕ) → Bool
told_node code first own begin count new_begin =
    cond (eqb code 2) (not first) (first && cond (eqb code 4) (ltb 0 own && eqb count 0) (not (eqb begin new_begin)))

module _ (b : Beside) where
  abbrev pub key_in : ℕ → ℕ
  key_in row = get_or b.key row 0

  abbrev pub valid_in : ℕ → Bool
  valid_in row = valid b.axes (key_in row)

  abbrev pub first_in : ℕ → Bool
  first_in row = eqb (node_number b.key (key_in row)) row

  -- whether a code is told of a row: 1 of a key that is not valid
  unfoldable pub told_row : ℕ → ℕ → Bool
  unfolding told_node
  told_row code row = cond (eqb code 1) (not (valid_in row))
      (valid_in row && told_node code (first_in row) (get_or b.own row 0) (get_or b.begin row 0) (own_of b.nodes b.counts (key_in row)) (own_of b.nodes b.begins (key_in row)))

  -- the keys of these rows
  unfoldable pub told_keys : ℕ → List ℕ
  unfolding told_row
  told_keys code = map key_in (filter (told_row code) (range 0 (length b.key)))

-- the nodes are in order, each valid row's key is one's, and `firsts` has for each the number of the first row with its key, counted from 1, or 0
pub record Comparable (b : Beside) (firsts : List ℕ) : Type 0 where
  pub known : axes_known b.axes ≡ true
  pub ascend : keys_ascend b.axes b.nodes ≡ true
  pub kept : (row : ℕ) → row < length b.key → valid b.axes (get_or b.key row 0) ≡ true → Mem (get_or b.key row 0) b.nodes
  pub owned : length b.own ≡ length b.key
  pub begun : length b.begin ≡ length b.key
  pub counted : length b.counts ≡ length b.nodes
  pub placed : length b.begins ≡ length b.nodes
  pub first : firsts ≡ map (own_of b.key (range 1 (length b.key))) b.nodes
