-- How many keys the lists of a tree over d axes have, with no list: ls and rs are the entries of the two slices lent for the work.
use Rattle.std.specs.Prelude.{◌≡◌, List, ℕ, min, leb, length, Ok}
use Rattle.refusal.specs.declared.Refusal.TheVariants.{Room}
use Rattle.refusal.specs.Chain.{ask, ◌then◌}
use Rattle.tree.specs.Columns.{Columns}
use Rattle.rows.specs.Lists.{u_row, v_row, u_rows, v_rows}
use Rattle.sourced.specs.Answers.{tree_check}
use Rattle.interaction.specs.Answers.{keys_of, both_keys}
use Rattle.node_rows.specs.declared.Sizes.{Sizes}
use Rattle.refusal.specs.Outcome.{Answer, Outcome}

-- a list has at most 16,777,216 keys; one more stands for all that are too many
abbrev pub counted : ℕ → ℕ
counted n = min n 16777217

-- u and v are the counts of both lists
abbrev pub CountsBoth : (d : ℕ) (keys own : List ℕ) (u v : ℕ) → Type 0
CountsBoth d keys own u v = (u ≡ counted (keys_of (u_row d keys own) keys)) × (v ≡ counted (keys_of (v_row d keys own) keys))

-- refused where a list has too many keys, U's before V's
abbrev pub keys_check : (u v : ℕ) → Outcome
keys_check u v = ask (leb u 16777216) (Room 6) then ask (leb v 16777216) (Room 7)

module _ (d : ℕ) (t : Columns) where
  -- 1, 13, then 8: each of the two slices needs one entry for each node
  abbrev pub room_check : (ls rs : ℕ) → Outcome
  room_check ls rs = tree_check d t then ask (leb (length t.keys) ls) (Room 1) then ask (leb (length t.keys) rs) (Room 1)

  -- the keys of both lists are counted as the list call counts them that is lent as many entries as count
  abbrev pub sizes_answer : (ls rs : ℕ) → Answer Sizes
  sizes_answer ls rs = room_check ls rs then keys_check (keys_of (u_rows d t) t.keys) (keys_of (v_rows d t) t.keys) then Ok (both_keys (u_rows d t) (v_rows d t) t.keys)
