-- What each key call answers: its refusals, in document 01's order, else its result.
use Rattle.std.specs.Prelude.{Bool, true, false, ◌&&◌, List, ℕ, leb, ltb, length, Ok}
use Rattle.refusal.specs.declared.Refusal.TheVariants.{Dims, Key, Root, Deep}
use Rattle.refusal.specs.Chain.{ask, ◌then◌}
use Rattle.slices.specs.Lists.{filled}
use Rattle.morton.specs.declared.KeyList.{KeyList}
use Rattle.morton.specs.Keys.{deepest, axes_known, neighbours_room, valid, level_of, code_of, parent, child_index, children, siblings, ancestors}
use Rattle.morton.specs.Anchors.{anchors, key_at, on_level, touching}
use Rattle.refusal.specs.Outcome.{Answer, Outcome}

-- a key list by value with its length, room for the most neighbours, unused places 0
abbrev pub key_list : List ℕ → KeyList
key_list xs = record { keys = filled (neighbours_room 3) xs; len = length xs }

-- ---- the order of the refusals: 1, 9, then 10 or 11

abbrev pub key_check : ℕ → ℕ → Outcome
key_check d k = ask (axes_known d) Dims then ask (valid d k) Key

abbrev pub below_root_check : ℕ → ℕ → Outcome
below_root_check d k = key_check d k then ask (ltb 0 (level_of k)) Root

abbrev pub above_deepest : ℕ → ℕ → Outcome
above_deepest d k = key_check d k then ask (ltb (level_of k) deepest) Deep

-- ---- the calls

abbrev pub level_answer : ℕ → ℕ → Answer ℕ
level_answer d k = key_check d k then Ok (level_of k)

abbrev pub parent_answer : ℕ → ℕ → Answer ℕ
parent_answer d k = below_root_check d k then Ok (parent d k)

abbrev pub child_index_answer : ℕ → ℕ → Answer ℕ
child_index_answer d k = key_check d k then Ok (child_index d k)

abbrev pub children_answer : ℕ → ℕ → Answer KeyList
children_answer d k = above_deepest d k then Ok (key_list (children d k))

abbrev pub siblings_answer : ℕ → ℕ → Answer KeyList
siblings_answer d k = below_root_check d k then Ok (key_list (siblings d k))

abbrev pub ancestors_answer : ℕ → ℕ → Answer KeyList
ancestors_answer d k = key_check d k then Ok (key_list (ancestors d k))
