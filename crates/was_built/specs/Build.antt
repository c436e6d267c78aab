-- Document 02, order 7: a tree is the build of these sources, with this box, limit and flag, and no targets.
use Rattle.std.specs.Prelude.{Bool, ◌&&◌, List, [], ℕ, eqb, Float}
use Rattle.space.specs.declared.Box.{Box}
use Rattle.space.specs.Rows.{rows_of, rows_inside}
use Rattle.tree.specs.Columns.{Columns}
use Rattle.sums.specs.Right.{same}
use Rattle.build.specs.Asked.{Asked, asks, built_keys, built_own, built_begins, built_totals, built_order}

-- a build without targets, for which the order of the expansions does not matter
abbrev pub asks_alone : Box → ℕ → Bool → List Float → Asked
asks_alone b limit keep sources = asks b limit 0 keep sources []

-- the columns and the order column are those of a build
unfoldable pub columns_are : Asked → Columns → List ℕ → Bool
columns_are a t order =
    (same t.keys (built_keys a) && same t.own (built_own a))
    && ((same t.begin (built_begins a) && same t.total (built_totals a)) && same order (built_order a))

-- and no source is outside
unfoldable pub is_build : Box → ℕ → Bool → List Float → Columns → List ℕ → Bool
unfolding columns_are
is_build b limit keep sources t order = eqb (rows_inside b sources) (rows_of b sources) && columns_are (asks_alone b limit keep sources) t order
