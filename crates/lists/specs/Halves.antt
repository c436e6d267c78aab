-- Two starts in one entry: V's in the lower half, U's in the upper one.
use Rattle.std.specs.Prelude.{Bool, true, false, ◌≡◌, List, map, ◌++◌, ℕ, ◌-◌, ◌/◌, ◌%◌, ◌≤◌, ◌<◌, leb, length, take, replicate, Err, Ok}
use Rattle.rows.specs.Written.{row_keys, keys_room}
use Rattle.refusal.specs.declared.Refusal.TheVariants.{Room}
use Rattle.refusal.specs.Chain.{ask, ◌then◌}
use Rattle.refusal.specs.Outcome.{Answer, Outcome}
use Rattle.node_rows.specs.declared.Sizes.{Sizes}
use Rattle.node_rows.specs.Rows.{list_row}
use Rattle.lists.specs.Written.{WritesRows, WritesList}

-- U's start in an entry
abbrev pub upper : ℕ → ℕ
upper x = x / 4294967296

-- V's
abbrev pub lower : ℕ → ℕ
lower x = x % 4294967296

-- the rows of both lists were written, n keys and m; V's only where U's have room
pub record WritesTwo (u v : ℕ → List ℕ) (keys starts uk vk : List ℕ) (n m : ℕ) : Type 0 where
  pub near : WritesRows u keys (map upper starts) uk n
  pub far : n ≤ length uk → WritesRows v keys (map lower starts) vk m

-- U's list and V's of a tree
abbrev pub WritesLists : ℕ → List ℕ → List ℕ → List ℕ → List ℕ → List ℕ → ℕ → ℕ → Type 0
WritesLists d keys own starts uk vk n m = WritesTwo (list_row d keys own false) (list_row d keys own true) keys starts uk vk n m

-- room for the starts of all nodes, and keys whose number fits a half
abbrev pub RowsRoom : List ℕ → List ℕ → List ℕ → List ℕ → Type 0
RowsRoom keys starts uk vk = (length keys < length starts) × (length uk ≤ 16777216) × (length vk ≤ 16777216)

-- one half of each of the first n entries, and 0 in the rest of a column of so many
abbrev pub half_of : (ℕ → ℕ) → ℕ → List ℕ → ℕ → List ℕ
half_of half n both len = map half (take n both) ++ replicate (len - n) 0

-- the first n, and 0 in the rest
abbrev pub first_of : ℕ → List ℕ → List ℕ
first_of n xs = take n xs ++ replicate (length xs - n) 0

-- whether the keys of a list's rows have room
abbrev pub has_room : (ℕ → List ℕ) → List ℕ → ℕ → Bool
has_room row keys len = leb (length (row_keys row keys)) (keys_room len)

-- 0 throughout the four slices
abbrev pub Cleared : (u_places u_len v_places v_len : ℕ) (us uk vs vk : List ℕ) → Type 0
Cleared u_places u_len v_places v_len us uk vs vk = (us ≡ replicate u_places 0) × (uk ≡ replicate u_len 0) × (vs ≡ replicate v_places 0) × (vk ≡ replicate v_len 0)

-- U's keys and V's have so much room: refused where it is too little, U's (6) before V's (7)
abbrev pub room_check : (u v u_room v_room : ℕ) → Outcome
room_check u v u_room v_room = ask (leb u u_room) (Room 6) then ask (leb v v_room) (Room 7)

-- how many keys the rows of all nodes have
abbrev pub both_sizes : (u v : ℕ → List ℕ) → List ℕ → Sizes
both_sizes u v keys = record { u = length (row_keys u keys); v = length (row_keys v keys) }

-- both lists: written whole where both have room; else refused, U's keys (6) before V's (7), and 0 throughout
pub record WritesBoth (u v : ℕ → List ℕ) (keys : List ℕ) (u_places u_len v_places v_len : ℕ) (us uk vs vk : List ℕ) (r : Answer Sizes) : Type 0 where
  pub u_short : has_room u keys u_len ≡ false → (r ≡ Err (Room 6)) × Cleared u_places u_len v_places v_len us uk vs vk
  pub v_short : has_room u keys u_len ≡ true → has_room v keys v_len ≡ false → (r ≡ Err (Room 7)) × Cleared u_places u_len v_places v_len us uk vs vk
  pub written : has_room u keys u_len ≡ true → has_room v keys v_len ≡ true
      → (r ≡ Ok (both_sizes u v keys)) × WritesList u keys u_places u_len us uk true × WritesList v keys v_places v_len vs vk true

-- U's list and V's of a tree, in four slices
abbrev pub WritesTree : ℕ → (keys own us uk vs vk us' uk' vs' vk' : List ℕ) → Answer Sizes → Type 0
WritesTree d keys own us uk vs vk us' uk' vs' vk' r = WritesBoth (list_row d keys own false) (list_row d keys own true) keys (length us) (length uk) (length vs) (length vk) us' uk' vs' vk' r
