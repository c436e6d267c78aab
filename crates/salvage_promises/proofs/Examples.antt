-- Small inputs on one axis, computed: which row of a repeated key is kept, how added keys are ordered, and what room a call needs.
use mathlib.Core.Path.{◌≡◌, refl}
use mathlib.Core.List.{[], ◌∷◌}
use Prim.Native.Nat.{ℕ}
use Rattle.refusal.specs.declared.Refusal.TheVariants.{Room}
use Rattle.slices.specs.Lists.{any, sum, filter, range, concat_map}
use Rattle.slices.specs.Order.{ascending}
use Rattle.morton.specs.Keys.{upwards}
use Rattle.tree.specs.Nodes.{leaf, own_of, node_number}
use Rattle.tree.specs.Order.{before}
use Rattle.growth.specs.Columns.{begin_column}
use Rattle.salvaged.specs.Nodes.{Input, input, put, put_all, kept_keys}
use Rattle.salvaged.specs.Columns.{new_keys, new_count, new_own, new_order_of}
use Rattle.salvaged.specs.Changes.{keys_where, change_codes, changed_keys}
use Rattle.salvaged.specs.Answers.{Rooms, salvage_check}
use Rattle.refusal.specs.Outcome.{accepted}
use Rattle.std.specs.Prelude.{Err}

-- of two rows with one key, and runs that both fit, the first is kept
abbrev twice : Input
twice = input 1 (1 ∷ 1 ∷ []) (1 ∷ 2 ∷ []) (0 ∷ 0 ∷ []) (7 ∷ 8 ∷ [])

twice-order : new_order_of twice ≡ 7 ∷ []
unfolding new_order_of new_count leaf any own_of kept_keys put_all put before filter concat_map upwards
twice-order = refl

twice-keys : changed_keys twice ≡ 1 ∷ 0 ∷ []
unfolding changed_keys keys_where new_own new_count begin_column sum leaf any own_of node_number ascending range kept_keys put_all put before filter concat_map upwards
twice-keys = refl

twice-codes : change_codes twice ≡ 2 ∷ 3 ∷ []
unfolding change_codes keys_where new_own new_count begin_column sum leaf any own_of node_number ascending range kept_keys put_all put before filter concat_map upwards
twice-codes = refl

-- added keys stand in the list by their value, and not level by level
abbrev deep : Input
deep = input 1 (3 ∷ 131075 ∷ []) (0 ∷ 0 ∷ []) (0 ∷ 0 ∷ []) []

deep-tree : new_keys deep ≡ 0 ∷ 1 ∷ 2 ∷ 3 ∷ 32769 ∷ 65538 ∷ 131075 ∷ []
unfolding kept_keys put_all put before filter concat_map upwards
deep-tree = refl

deep-added : changed_keys deep ≡ 0 ∷ 1 ∷ 2 ∷ 32769 ∷ 65538 ∷ []
unfolding changed_keys keys_where new_own new_count begin_column sum leaf any own_of node_number ascending range kept_keys put_all put before filter concat_map upwards
deep-added = refl

-- by their value, where the tree's order, the levels' and this are three
abbrev apart : Input
apart = input 1 (3 ∷ 65539 ∷ 131075 ∷ []) (0 ∷ 0 ∷ 0 ∷ []) (0 ∷ 0 ∷ 0 ∷ []) []

apart-tree : new_keys apart ≡ 0 ∷ 1 ∷ 2 ∷ 3 ∷ 32770 ∷ 65539 ∷ 32769 ∷ 65538 ∷ 131075 ∷ []
unfolding kept_keys put_all put before filter concat_map upwards
apart-tree = refl

apart-added : changed_keys apart ≡ 0 ∷ 1 ∷ 2 ∷ 32769 ∷ 32770 ∷ 65538 ∷ []
unfolding changed_keys keys_where new_own new_count begin_column sum leaf any own_of node_number ascending range kept_keys put_all put before filter concat_map upwards
apart-added = refl

-- rows that only move to their places in Z order are in the list under no code
abbrev shuffled : Input
shuffled = input 1 (0 ∷ 32769 ∷ 1 ∷ []) (0 ∷ 1 ∷ 1 ∷ []) (0 ∷ 1 ∷ 0 ∷ []) (7 ∷ 8 ∷ [])

shuffled-tree : new_keys shuffled ≡ 0 ∷ 1 ∷ 32769 ∷ []
unfolding kept_keys put_all put before filter concat_map upwards
shuffled-tree = refl

shuffled-order : new_order_of shuffled ≡ 7 ∷ 8 ∷ []
unfolding new_order_of new_count leaf any own_of kept_keys put_all put before filter concat_map upwards
shuffled-order = refl

shuffled-list : changed_keys shuffled ≡ []
unfolding changed_keys keys_where new_own new_count begin_column sum leaf any own_of node_number ascending range kept_keys put_all put before filter concat_map upwards
shuffled-list = refl

-- ---- rooms

abbrev rooms_of : (order nodes changes : ℕ) → Rooms
rooms_of order nodes changes = record { order = order; keys = nodes; own = nodes; begins = nodes; totals = nodes; codes = changes; changed = changes }

-- one source, two nodes and two changes are enough room, and one less of any is too little; the first in this order is told
twice-done : salvage_check twice (rooms_of 1 2 2) ≡ accepted
unfolding salvage_check changed_keys keys_where new_own new_count begin_column sum leaf any own_of node_number ascending range kept_keys put_all put before filter concat_map upwards
twice-done = refl

no-order : salvage_check twice (rooms_of 0 1 1) ≡ Err (Room 2)
unfolding salvage_check changed_keys keys_where new_own new_count begin_column sum leaf any own_of node_number ascending range kept_keys put_all put before filter concat_map upwards
no-order = refl

no-nodes : salvage_check twice (rooms_of 1 1 1) ≡ Err (Room 3)
unfolding salvage_check changed_keys keys_where new_own new_count begin_column sum leaf any own_of node_number ascending range kept_keys put_all put before filter concat_map upwards
no-nodes = refl

no-changes : salvage_check twice (rooms_of 1 2 1) ≡ Err (Room 10)
unfolding salvage_check changed_keys keys_where new_own new_count begin_column sum leaf any own_of node_number ascending range kept_keys put_all put before filter concat_map upwards
no-changes = refl
