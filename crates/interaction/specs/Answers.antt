-- What the list call answers for a tree over d axes, and what it leaves in the lent slices: U and V starts of us and vs entries, U and V keys of uk and vk.
use Rattle.std.specs.Prelude.{List, ℕ, leb, ltb, length, Ok}
use Rattle.refusal.specs.declared.Refusal.TheVariants.{Room}
use Rattle.refusal.specs.Chain.{ask, ◌then◌}
use Rattle.refusal.specs.Left.{left}
use Rattle.tree.specs.Columns.{Columns}
use Rattle.rows.specs.Lists.{u_rows, v_rows}
use Rattle.rows.specs.Written.{row_starts, row_keys, keys_room}
use Rattle.sourced.specs.Answers.{tree_check}
use Rattle.refusal.specs.Outcome.{Answer, Outcome}
use Rattle.node_rows.specs.declared.Sizes.{Sizes}

-- how many keys the rows of all nodes have
abbrev pub keys_of : (ℕ → List ℕ) → List ℕ → ℕ
keys_of row keys = length (row_keys row keys)

-- both lists' rows
abbrev pub both_keys : (u v : ℕ → List ℕ) → List ℕ → Sizes
both_keys u v keys = record { u = keys_of u keys; v = keys_of v keys }

module _ (d : ℕ) (t : Columns) where
  -- 1, 13, then 8: starts need one entry for each node and one more
  abbrev pub starts_check : (us vs : ℕ) → Outcome
  starts_check us vs = tree_check d t then ask (ltb (length t.keys) us) (Room 4) then ask (ltb (length t.keys) vs) (Room 5)

  -- and keys their full number, where at most 16,777,216 entries count
  abbrev pub lists_check : (us uk vs vk : ℕ) → Outcome
  lists_check us uk vs vk =
      starts_check us vs then ask (leb (keys_of (u_rows d t) t.keys) (keys_room uk)) (Room 6) then ask (leb (keys_of (v_rows d t) t.keys) (keys_room vk)) (Room 7)

  -- how many keys U and V have, or the refusal
  abbrev pub lists_answer : (us uk vs vk : ℕ) → Answer Sizes
  lists_answer us uk vs vk = lists_check us uk vs vk then Ok (both_keys (u_rows d t) (v_rows d t) t.keys)

  -- what is left in each of the slices
  abbrev pub u_starts_left : (us uk vs vk : ℕ) → List ℕ
  u_starts_left us uk vs vk = left (lists_check us uk vs vk) us (row_starts (u_rows d t) t.keys)

  abbrev pub u_keys_left : (us uk vs vk : ℕ) → List ℕ
  u_keys_left us uk vs vk = left (lists_check us uk vs vk) uk (row_keys (u_rows d t) t.keys)

  abbrev pub v_starts_left : (us uk vs vk : ℕ) → List ℕ
  v_starts_left us uk vs vk = left (lists_check us uk vs vk) vs (row_starts (v_rows d t) t.keys)

  abbrev pub v_keys_left : (us uk vs vk : ℕ) → List ℕ
  v_keys_left us uk vs vk = left (lists_check us uk vs vk) vk (row_keys (v_rows d t) t.keys)
