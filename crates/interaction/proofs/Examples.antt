-- The list call at document 01's example: 9 nodes, so 10 starts; 8 U keys and 2 V keys.
use mathlib.Core.Path.{◌≡◌, refl}
use mathlib.Core.List.{[], ◌∷◌}
use Prim.Native.Nat.{zero, suc}
use Rattle.refusal.specs.declared.Refusal.TheVariants.{Dims, Tree, Room}
use Rattle.slices.specs.Every.{every}
use Rattle.slices.specs.Lists.{any, filter, concat_map, sum}
use Rattle.slices.specs.Order.{ascending}
use Rattle.morton.specs.Keys.{upwards}
use Rattle.morton.specs.Anchors.{near}
use Rattle.tree.specs.Columns.{columns}
use Rattle.tree.specs.Nodes.{leaf, own_of, sourced}
use Rattle.tree.specs.Totals.{total_in}
use Rattle.tree.specs.Order.{in_order}
use Rattle.tree.specs.WellFormed.{well_formed}
use Rattle.tree.proofs.Examples.{keys₁, own₁, begin₁, total₁}
use Rattle.rows.specs.Lists.{in_u, in_v, u_row, v_row}
use Rattle.rows.specs.Written.{starts_from}
use Rattle.std.specs.Prelude.{Err, Ok}
use Rattle.interaction.specs.Answers.{lists_answer, u_starts_left, u_keys_left, v_starts_left, v_keys_left}

-- exactly enough room, and one entry less in each slice: the lowest short one is named
pub room : (lists_answer 1 (columns keys₁ own₁ begin₁ total₁) 10 8 10 2 ≡ Ok (record { u = 8; v = 2 }))
    × (lists_answer 1 (columns keys₁ own₁ begin₁ total₁) 9 7 9 1 ≡ Err (Room 4))
    × (lists_answer 1 (columns keys₁ own₁ begin₁ total₁) 10 7 9 1 ≡ Err (Room 5))
    × (lists_answer 1 (columns keys₁ own₁ begin₁ total₁) 10 7 10 1 ≡ Err (Room 6))
    × (lists_answer 1 (columns keys₁ own₁ begin₁ total₁) 10 8 10 1 ≡ Err (Room 7))
unfolding well_formed in_order total_in sum concat_map u_row v_row in_u in_v leaf sourced own_of any ascending filter near every upwards
room = (refl, refl, refl, refl, refl)

-- the number of axes and the tree come before the room
pub before-room : (lists_answer 4 (columns keys₁ own₁ begin₁ total₁) 0 0 0 0 ≡ Err Dims) × (lists_answer 1 (columns keys₁ own₁ own₁ total₁) 0 0 0 0 ≡ Err Tree)
unfolding well_formed in_order total_in sum concat_map u_row v_row in_u in_v leaf sourced own_of any ascending filter near every upwards
before-room = (refl, refl)

-- what is left in slices with one entry more than needed
pub contents :
    (u_starts_left 1 (columns keys₁ own₁ begin₁ total₁) 11 9 11 3 ≡ 0 ∷ 0 ∷ 0 ∷ 0 ∷ 2 ∷ 4 ∷ 4 ∷ 4 ∷ 6 ∷ 8 ∷ 0 ∷ [])
    × (u_keys_left 1 (columns keys₁ own₁ begin₁ total₁) 11 9 11 3 ≡ 3 ∷ 32771 ∷ 3 ∷ 32771 ∷ 196611 ∷ 229379 ∷ 196611 ∷ 229379 ∷ 0 ∷ [])
    × (v_starts_left 1 (columns keys₁ own₁ begin₁ total₁) 11 9 11 3 ≡ 0 ∷ 0 ∷ 0 ∷ 1 ∷ 1 ∷ 1 ∷ 1 ∷ 2 ∷ 2 ∷ 2 ∷ 0 ∷ [])
    × (v_keys_left 1 (columns keys₁ own₁ begin₁ total₁) 11 9 11 3 ≡ 98306 ∷ 2 ∷ 0 ∷ [])
unfolding well_formed in_order total_in sum starts_from concat_map u_row v_row in_u in_v leaf sourced own_of any ascending filter near every upwards
contents = (refl, refl, refl, refl)

pub after-refusal : v_keys_left 1 (columns keys₁ own₁ own₁ total₁) 11 9 11 3 ≡ 0 ∷ 0 ∷ 0 ∷ []
unfolding well_formed in_order total_in sum concat_map u_row v_row in_u in_v leaf sourced own_of any ascending filter near every upwards
after-refusal = refl
