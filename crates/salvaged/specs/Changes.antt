-- Document 02, order 8: each change by code and key; by code, then input row, or key for 3.
use Rattle.std.specs.Prelude.{Bool, ◌&&◌, not, List, ◌++◌, map, ℕ, ltb, eqb, length, get_or, replicate}
use Rattle.slices.specs.Lists.{filter, range}
use Rattle.slices.specs.Order.{ascending}
use Rattle.morton.specs.Keys.{valid}
use Rattle.tree.specs.Nodes.{stored, node_number}
use Rattle.salvaged.specs.Nodes.{Input}
use Rattle.salvaged.specs.Columns.{first_of, new_keys, new_count, new_begins}

module _ (i : Input) where
  abbrev pub key_at : ℕ → ℕ
  key_at row = get_or i.key row 0

  -- the keys of the rows that pass a test, by row
  unfoldable pub keys_where : (ℕ → Bool) → List ℕ
  keys_where p = map key_at (filter p (range 0 (length i.key)))

  abbrev pub valid_row : ℕ → Bool
  valid_row row = valid i.axes (key_at row)

  -- no row before it has its key
  abbrev pub first_row : ℕ → Bool
  first_row row = eqb (node_number i.key (key_at row)) row

  abbrev pub kept_row : ℕ → Bool
  kept_row row = valid_row row && first_row row

  -- 1 dropped as not valid
  abbrev pub not_valid : List ℕ
  not_valid = keys_where (λ row. not (valid_row row))

  -- 2 dropped as a repeat
  abbrev pub repeated : List ℕ
  repeated = keys_where (λ row. valid_row row && not (first_row row))

  -- 3 added
  abbrev pub added : List ℕ
  added = ascending (filter (λ k. not (stored i.key k)) (new_keys i))

  -- 4 a count above 0 cleared
  abbrev pub cleared : List ℕ
  cleared = keys_where (λ row. kept_row row && (ltb 0 (get_or i.own row 0) && eqb (new_count i (key_at row)) 0))

  -- 5 begin changed on a kept row
  abbrev pub moved : List ℕ
  moved = keys_where (λ row. kept_row row && not (eqb (get_or i.begin row 0) (first_of (new_keys i) (new_begins i) (key_at row))))

  -- the list's two columns
  unfoldable pub changed_keys : List ℕ
  unfolding keys_where
  changed_keys = not_valid ++ (repeated ++ (added ++ (cleared ++ moved)))

  abbrev coded : ℕ → List ℕ → List ℕ
  coded code keys = replicate (length keys) code

  unfoldable pub change_codes : List ℕ
  unfolding keys_where
  change_codes = coded 1 not_valid ++ (coded 2 repeated ++ (coded 3 added ++ (coded 4 cleared ++ coded 5 moved)))
