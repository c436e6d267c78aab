-- Document 02, order 8: the refusals in order, and what a salvage answers and leaves in the slices lent to it.
use Rattle.std.specs.Prelude.{◌&&◌, List, ℕ, min, leb, eqb, length, Ok}
use Rattle.refusal.specs.declared.Refusal.TheVariants.{Dims, Shape, Tree as NoTree, Room}
use Rattle.refusal.specs.Chain.{ask, ◌then◌}
use Rattle.refusal.specs.Left.{left}
use Rattle.morton.specs.Keys.{axes_known}
use Rattle.tree.specs.WellFormed.{most_sources}
use Rattle.salvaged.specs.declared.Salvaged.{Salvaged}
use Rattle.salvaged.specs.Nodes.{Input}
use Rattle.salvaged.specs.Columns.{new_keys, new_own, new_begins, new_totals, new_order_of, new_sources}
use Rattle.salvaged.specs.Changes.{change_codes, changed_keys}
use Rattle.refusal.specs.Outcome.{Answer, Outcome}

-- how many entries the lent slices have
pub record Rooms : Type 0 where
  pub order : ℕ
  pub keys : ℕ
  pub own : ℕ
  pub begins : ℕ
  pub totals : ℕ
  pub codes : ℕ
  pub changed : ℕ

-- the shortest of the four node columns, of which at most 1,048,576 entries count
abbrev pub node_room : Rooms → ℕ
node_room r = min 1048576 (min r.keys (min r.own (min r.begins r.totals)))

-- how many nodes, sources and changes there are
abbrev pub counts : Input → Salvaged
counts i = record { nodes = length (new_keys i); sources = new_sources i; changes = length (changed_keys i) }

module _ (i : Input) (r : Rooms) where
  -- 1; 3 when the key, count and begin columns differ in length; 13 when the total would exceed 1,048,576; 8 with value 2 for the order, 3 for the node columns, 10 for the change list
  unfoldable pub salvage_check : Outcome
  salvage_check =
      ask (axes_known i.axes) Dims
      then ask (eqb (length i.own) (length i.key) && eqb (length i.begin) (length i.key)) Shape
      then ask (leb (new_sources i) most_sources) NoTree
      then ask (leb (new_sources i) r.order) (Room 2)
      then ask (leb (length (new_keys i)) (node_room r)) (Room 3)
      then ask (leb (length (changed_keys i)) (min r.codes r.changed)) (Room 10)

  -- how many nodes, sources and changes, or the refusal
  abbrev pub salvage_answer : Answer Salvaged
  salvage_answer = salvage_check then Ok (counts i)

  -- what is left in each of the slices
  abbrev pub order_left : List ℕ
  order_left = left salvage_check r.order (new_order_of i)

  abbrev pub keys_left : List ℕ
  keys_left = left salvage_check r.keys (new_keys i)

  abbrev pub own_left : List ℕ
  own_left = left salvage_check r.own (new_own i)

  abbrev pub begins_left : List ℕ
  begins_left = left salvage_check r.begins (new_begins i)

  abbrev pub totals_left : List ℕ
  totals_left = left salvage_check r.totals (new_totals i)

  abbrev pub codes_left : List ℕ
  codes_left = left salvage_check r.codes (change_codes i)

  abbrev pub changed_left : List ℕ
  changed_left = left salvage_check r.changed (changed_keys i)
