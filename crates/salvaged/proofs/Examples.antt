-- What the text of order 8 leaves to be missed, computed on one axis.
use mathlib.Core.Path.{◌≡◌, refl}
use mathlib.Core.List.{List, [], ◌∷◌}
use Prim.Native.Nat.{ℕ}
use Rattle.slices.specs.Lists.{any, sum, count, filter, range, concat_map}
use Rattle.slices.specs.Order.{ascending}
use Rattle.morton.specs.Keys.{upwards}
use Rattle.tree.specs.Nodes.{leaf, own_of, node_number}
use Rattle.tree.specs.Order.{before}
use Rattle.growth.specs.Columns.{begin_column}
use Rattle.salvaged.specs.Nodes.{Input, input, put, put_all, kept_keys}
use Rattle.salvaged.specs.Columns.{new_keys, new_count, new_own, new_begins, new_order_of}
use Rattle.salvaged.specs.Changes.{keys_where, change_codes, changed_keys}

-- an empty input gives the tree of the root alone, which is added
abbrev none : Input
none = input 1 [] [] [] []

root-alone : new_keys none ≡ 0 ∷ []
unfolding kept_keys put_all put filter concat_map
root-alone = refl

root-added : changed_keys none ≡ 0 ∷ []
unfolding changed_keys keys_where kept_keys put_all put filter concat_map ascending any range
root-added = refl

root-code : change_codes none ≡ 3 ∷ []
unfolding change_codes keys_where kept_keys put_all put filter concat_map ascending any range
root-code = refl

-- a begin near 2^64 passes the end: the sum is one of whole numbers; the row is in the list for its count and for its begin
abbrev past : Input
past = input 1 (1 ∷ []) (1 ∷ []) (18446744073709551615 ∷ []) (7 ∷ [])

past-own : new_own past ≡ 0 ∷ 0 ∷ []
unfolding new_own new_count leaf any own_of kept_keys put_all put before filter concat_map upwards
past-own = refl

past-keys : changed_keys past ≡ 0 ∷ 1 ∷ 1 ∷ []
unfolding changed_keys keys_where new_own new_count begin_column sum leaf any own_of node_number ascending range kept_keys put_all put before filter concat_map upwards
past-keys = refl

past-codes : change_codes past ≡ 3 ∷ 4 ∷ 5 ∷ []
unfolding change_codes keys_where new_own new_count begin_column sum leaf any own_of node_number ascending range kept_keys put_all put before filter concat_map upwards
past-codes = refl

-- a run that ends exactly at the column's end stays
abbrev last : Input
last = input 1 (1 ∷ []) (2 ∷ []) (1 ∷ []) (5 ∷ 6 ∷ 7 ∷ [])

last-own : new_own last ≡ 0 ∷ 2 ∷ []
unfolding new_own new_count leaf any own_of kept_keys put_all put before filter concat_map upwards
last-own = refl

last-order : new_order_of last ≡ 6 ∷ 7 ∷ []
unfolding new_order_of new_count leaf any own_of kept_keys put_all put before filter concat_map upwards
last-order = refl

last-codes : change_codes last ≡ 3 ∷ 5 ∷ []
unfolding change_codes keys_where new_own new_count begin_column sum leaf any own_of node_number ascending range kept_keys put_all put before filter concat_map upwards
last-codes = refl

-- keys added stand in the list by their value, and in the tree in Z order
abbrev gaps : Input
gaps = input 1 (65539 ∷ 131075 ∷ []) (0 ∷ 0 ∷ []) (0 ∷ 0 ∷ []) []

gaps-tree : new_keys gaps ≡ 0 ∷ 1 ∷ 32770 ∷ 65539 ∷ 32769 ∷ 65538 ∷ 131075 ∷ []
unfolding kept_keys put_all put before filter concat_map upwards
gaps-tree = refl

gaps-added : changed_keys gaps ≡ 0 ∷ 1 ∷ 32769 ∷ 32770 ∷ 65538 ∷ []
unfolding changed_keys keys_where new_own new_count begin_column sum leaf any own_of node_number ascending range kept_keys put_all put before filter concat_map upwards
gaps-added = refl

-- a key that is not valid is never a repeat; a repeated key keeps its first row, and a root or a node with children no count
abbrev mixed : Input
mixed = input 1 (17 ∷ 1 ∷ 17 ∷ 32769 ∷ 1 ∷ 0 ∷ 2 ∷ []) (9 ∷ 1 ∷ 9 ∷ 2 ∷ 3 ∷ 1 ∷ 1 ∷ []) (0 ∷ 0 ∷ 0 ∷ 1 ∷ 0 ∷ 0 ∷ 3 ∷ []) (10 ∷ 11 ∷ 12 ∷ 13 ∷ [])

mixed-tree : new_keys mixed ≡ 0 ∷ 1 ∷ 2 ∷ 32769 ∷ []
unfolding kept_keys put_all put before filter concat_map upwards
mixed-tree = refl

mixed-order : new_order_of mixed ≡ 13 ∷ 11 ∷ 12 ∷ []
unfolding new_order_of new_count leaf any own_of kept_keys put_all put before filter concat_map upwards
mixed-order = refl

mixed-keys : changed_keys mixed ≡ 17 ∷ 17 ∷ 1 ∷ 1 ∷ 0 ∷ 2 ∷ []
unfolding changed_keys keys_where new_own new_count begin_column sum leaf any own_of node_number ascending range kept_keys put_all put before filter concat_map upwards
mixed-keys = refl

mixed-codes : change_codes mixed ≡ 1 ∷ 1 ∷ 2 ∷ 4 ∷ 4 ∷ 5 ∷ []
unfolding change_codes keys_where new_own new_count begin_column sum leaf any own_of node_number ascending range kept_keys put_all put before filter concat_map upwards
mixed-codes = refl
