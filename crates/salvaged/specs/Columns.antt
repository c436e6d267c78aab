-- Document 02, order 8: the columns of the tree that is had from the input's.
use Rattle.std.specs.Prelude.{Bool, ◌&&◌, cond, ℕ, ◌+◌, leb, length, drop}
use mathlib.Core.List.{List, map}
use Rattle.std.proofs.Math.ListN.{take}
use Rattle.slices.specs.Lists.{sum, concat_map}
use Rattle.tree.specs.Nodes.{leaf, own_of}
use Rattle.tree.specs.Totals.{total_column}
use Rattle.growth.specs.Columns.{begin_column}
use Rattle.salvaged.specs.Nodes.{Input, kept_keys}

-- what a column has in the first row with key k: a repeated key keeps its first row; 0 if there is none
abbrev pub first_of : List ℕ → List ℕ → ℕ → ℕ
first_of key column k = own_of key column k

module _ (i : Input) where
  abbrev pub new_keys : List ℕ
  new_keys = kept_keys i.axes i.key

  abbrev pub old_own : ℕ → ℕ
  old_own k = first_of i.key i.own k

  abbrev pub old_begin : ℕ → ℕ
  old_begin k = first_of i.key i.begin k

  -- the run does not pass the order column's end
  abbrev pub run_fits : ℕ → Bool
  run_fits k = leb (old_begin k + old_own k) (length i.order)

  -- a node that now has children, the root, or a leaf whose run passes the order column's end gets count 0
  unfoldable pub new_count : ℕ → ℕ
  new_count k = cond (leaf i.axes new_keys k && run_fits k) (old_own k) 0

  unfoldable pub new_own : List ℕ
  unfolding new_count
  new_own = map new_count new_keys

  -- how many sources there are
  abbrev pub new_sources : ℕ
  new_sources = sum new_own

  -- begins are the running sums
  abbrev pub new_begins : List ℕ
  new_begins = begin_column new_own

  -- totals are worked out afresh
  abbrev pub new_totals : List ℕ
  new_totals = total_column i.axes new_keys new_own

  -- every other run is copied to a new order column, from where it began
  unfoldable pub new_order_of : List ℕ
  unfolding new_count
  new_order_of = concat_map (λ k. take (new_count k) (drop (old_begin k) i.order)) new_keys
