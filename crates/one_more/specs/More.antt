-- Document 02, order 7: one further source, numbered after the last, in a tree built without targets. The result is the build of the longer list.
use Rattle.std.specs.Prelude.{Bool, List, ◌++◌, ℕ, ◌%◌, eqb, ltb, Float, length, take, Ok}
use Rattle.refusal.specs.declared.Refusal.TheVariants.{Shape, Count, Source, Tree, NotBuilt}
use Rattle.refusal.specs.Chain.{ask, ◌then◌}
use Rattle.refusal.specs.Left.{left}
use Rattle.space.specs.declared.Box.{Box}
use Rattle.space.specs.Domain.{box_outcome}
use Rattle.space.specs.Cells.{frame_of, inside}
use Rattle.space.specs.Rows.{most_points, rows_of}
use Rattle.space.specs.Walls.{first_wall}
use Rattle.tree.specs.Columns.{Columns}
use Rattle.tree.specs.WellFormed.{well_formed}
use Rattle.growth.specs.declared.Grown.{Grown}
use Rattle.growth.specs.Grown.{grown}
use Rattle.build.specs.Asked.{Asked, built_keys, built_own, built_begins, built_totals, built_order}
use Rattle.build.specs.Outcomes.{Rooms, build_check}
use Rattle.was_built.specs.Build.{asks_alone, is_build}
use Rattle.refusal.specs.Outcome.{Answer, Outcome}

-- what is asked: the box, the limit, the flag and the former sources of a build, the new source, and the tree and order column that were built
pub record More : Type 0 where
  pub box : Box
  pub limit : ℕ
  pub keep : Bool
  pub sources : List Float
  pub point : List Float
  pub tree : Columns
  pub order : List ℕ

abbrev pub asks_more : Box → (sources point : List Float) → ℕ → Bool → Columns → List ℕ → More
asks_more b sources point limit keep tree order =
    record { box = b; limit = limit; keep = keep; sources = sources; point = point; tree = tree; order = order }

-- the former sources and the new one, of which entries past the axes are not read
abbrev pub longer_of : Box → (sources point : List Float) → List Float
longer_of b sources point = sources ++ take b.axes point

module _ (q : More) where
  abbrev longer : List Float
  longer = longer_of q.box q.sources q.point

  -- their build
  abbrev pub longer_build : Asked
  longer_build = asks_alone q.box q.limit q.keep longer

  -- 1 DIMS, 2 BOX, 3 SHAPE, 4 COUNT where there are 1,048,576 former sources, 13 TREE, 18 NOTBUILT, 6 SOURCE for the new source only
  unfoldable pub judged : Outcome
  judged =
      box_outcome q.box
      then ask (eqb (length q.sources % q.box.axes) 0) Shape
      then ask (ltb (rows_of q.box q.sources) most_points) Count
      then ask (well_formed q.box.axes q.tree.keys q.tree.own q.tree.begin q.tree.total) Tree
      then ask (is_build q.box q.limit q.keep q.sources q.tree q.order) NotBuilt
      then ask (inside (frame_of q.box) q.point) (Source (first_wall (rows_of q.box q.sources) (frame_of q.box) q.point))

  module _ (r : Rooms) where
    -- then 8 as in the build
    abbrev pub more_check : Outcome
    more_check = judged then build_check longer_build r

    -- the number of nodes and the depth, or the refusal
    abbrev pub more_answer : Answer Grown
    more_answer = more_check then Ok (grown (built_keys longer_build))

    -- what is left in each of the slices; all of the work is 0
    abbrev pub order_more : List ℕ
    order_more = left more_check r.order (built_order longer_build)

    abbrev pub keys_more : List ℕ
    keys_more = left more_check r.keys (built_keys longer_build)

    abbrev pub own_more : List ℕ
    own_more = left more_check r.own (built_own longer_build)

    abbrev pub begins_more : List ℕ
    begins_more = left more_check r.begins (built_begins longer_build)

    abbrev pub totals_more : List ℕ
    totals_more = left more_check r.totals (built_totals longer_build)
