-- The reader's refusals in their order, with so much room: document 02, order 6.
use Rattle.std.specs.Prelude.{List, ℕ, leb, length}
use Rattle.refusal.specs.declared.Refusal.TheVariants.{Room}
use Rattle.refusal.specs.Chain.{ask, ◌then◌}
use Rattle.tree.specs.Columns.{node_room}
use Rattle.rows.specs.Written.{keys_room}
use Rattle.tree_file.specs.Contents.{Contents}
use Rattle.tree_file.specs.Trailer.{tree_in}
use Rattle.tree_file.specs.Checks.{readable}
use Rattle.refusal.specs.Outcome.{Outcome}

-- how many entries the lent slices have; of the four node columns the shortest counts, and of it at most 1,048,576
pub record Rooms : Type 0 where
  pub order : ℕ
  pub nodes : ℕ
  pub u_starts : ℕ
  pub u_keys : ℕ
  pub v_starts : ℕ
  pub v_keys : ℕ

abbrev pub rooms : (order key own begin total us uk vs vk : List ℕ) → Rooms
rooms order key own begin total us uk vs vk = record {
  order = length order;
  nodes = node_room (length key) (length own) (length begin) (length total);
  u_starts = length us;
  u_keys = keys_room (length uk);
  v_starts = length vs;
  v_keys = keys_room (length vk);
}

abbrev pub given : (order nodes us uk vs vk : ℕ) → Rooms
given order nodes us uk vs vk = record { order = order; nodes = nodes; u_starts = us; u_keys = uk; v_starts = vs; v_keys = vk }

-- 8 with the value of the lowest short slice: 2 the order, 3 the node columns, 4 and 5 the starts of U and V, 6 and 7 their keys
abbrev pub room_check : Contents → Rooms → Outcome
room_check t r =
    ask (leb (length t.order) r.order) (Room 2)
    then ask (leb (length t.keys) r.nodes) (Room 3)
    then ask (leb (length t.u_starts) r.u_starts) (Room 4)
    then ask (leb (length t.v_starts) r.v_starts) (Room 5)
    then ask (leb (length t.u_keys) r.u_keys) (Room 6)
    then ask (leb (length t.v_keys) r.v_keys) (Room 7)

-- 17, 1, 17, 13, 17, and then 8
unfoldable pub read_check : List ℕ → Rooms → Outcome
read_check file r = readable file then room_check (tree_in file) r
