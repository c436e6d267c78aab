-- The rows of document 01's example and of two trees made by the Rust, as the Rust's build_tree gave them.
-- How the trees were made is said where their columns are, in the crate tree, proofs/Examples.antt.
use mathlib.Core.Path.{◌≡◌, refl}
use mathlib.Core.List.{List, [], ◌∷◌, map}
use Prim.Native.Nat.{ℕ, zero, suc}
use Rattle.slices.specs.Every.{every}
use Rattle.slices.specs.Lists.{any, filter, count, sum}
use Rattle.slices.specs.Order.{ascending}
use Rattle.morton.specs.Keys.{upwards}
use Rattle.morton.specs.Anchors.{near}
use Rattle.tree.specs.Nodes.{leaf, own_of, sourced}
use Rattle.tree.proofs.Examples.{keys₁, own₁, keys₂, own₂, keys₃, own₃}
use Rattle.rows.specs.Lists.{in_u, in_v, u_row, v_row, sourced_cells, near_work, targets_at}

pub u-rows₁ : map (u_row 1 keys₁ own₁) keys₁ ≡ [] ∷ [] ∷ [] ∷ (3 ∷ 32771 ∷ []) ∷ (3 ∷ 32771 ∷ []) ∷ [] ∷ [] ∷ (196611 ∷ 229379 ∷ []) ∷ (196611 ∷ 229379 ∷ []) ∷ []
unfolding u_row in_u leaf sourced own_of any ascending filter near every upwards
u-rows₁ = refl

pub v-rows₁ : map (v_row 1 keys₁ own₁) keys₁ ≡ [] ∷ [] ∷ (98306 ∷ []) ∷ [] ∷ [] ∷ [] ∷ (2 ∷ []) ∷ [] ∷ [] ∷ []
unfolding v_row in_v sourced own_of any ascending filter near every
v-rows₁ = refl

pub sourced-cells₁ : sourced_cells 1 keys₁ own₁ ≡ 0 ∷ 1 ∷ 2 ∷ 3 ∷ 32769 ∷ 32771 ∷ 98306 ∷ 196611 ∷ 229379 ∷ []
unfolding sourced_cells sourced own_of any ascending filter
sourced-cells₁ = refl

pub near-work₁ : near_work 1 keys₁ own₁ (own_of keys₁ own₁) ≡ 8
unfolding near_work sum u_row in_u leaf sourced own_of any ascending filter near every upwards
near-work₁ = refl

-- one target in the leaf 3, and three in two leaves
pub target-work₁ : near_work 1 keys₁ own₁ (targets_at (3 ∷ [])) ≡ 2
unfolding near_work count sum u_row in_u leaf sourced own_of any ascending filter near every upwards
target-work₁ = refl

pub targets-work₁ : near_work 1 keys₁ own₁ (targets_at (3 ∷ 229379 ∷ 3 ∷ [])) ≡ 6
unfolding near_work count sum u_row in_u leaf sourced own_of any ascending filter near every upwards
targets-work₁ = refl

pub u-rows₂ : map (u_row 2 keys₂ own₂) keys₂ ≡ [] ∷ [] ∷ [] ∷ (3 ∷ 32769 ∷ 98307 ∷ []) ∷ (3 ∷ 32769 ∷ 98307 ∷ []) ∷ (3 ∷ 32769 ∷ 98307 ∷ []) ∷ (3 ∷ 32769 ∷ 98307 ∷ []) ∷ (3 ∷ 32769 ∷ 98307 ∷ []) ∷ (3 ∷ 32769 ∷ 98307 ∷ []) ∷ (3 ∷ 32769 ∷ 98307 ∷ []) ∷ (3 ∷ 32769 ∷ 98307 ∷ 1966083 ∷ 2064387 ∷ []) ∷ (3 ∷ 32769 ∷ 98307 ∷ 1966083 ∷ 2064387 ∷ []) ∷ [] ∷ (32769 ∷ 1966083 ∷ 2064387 ∷ []) ∷ (32769 ∷ 1966083 ∷ 2064387 ∷ []) ∷ (32769 ∷ 1966083 ∷ 2064387 ∷ []) ∷ [] ∷ (32769 ∷ 1966083 ∷ 2064387 ∷ []) ∷ (32769 ∷ 1966083 ∷ 2064387 ∷ []) ∷ (32769 ∷ 1966083 ∷ 2064387 ∷ []) ∷ (32769 ∷ 1966083 ∷ 2064387 ∷ []) ∷ []
unfolding u_row in_u leaf sourced own_of any ascending filter near every upwards
u-rows₂ = refl

pub v-rows₂ : map (v_row 2 keys₂ own₂) keys₂ ≡ [] ∷ [] ∷ (491522 ∷ []) ∷ [] ∷ [] ∷ [] ∷ [] ∷ (491522 ∷ []) ∷ (491522 ∷ []) ∷ (491522 ∷ []) ∷ [] ∷ [] ∷ [] ∷ (2 ∷ []) ∷ (2 ∷ []) ∷ (2 ∷ []) ∷ (2 ∷ []) ∷ [] ∷ [] ∷ [] ∷ [] ∷ []
unfolding v_row in_v sourced own_of any ascending filter near every
v-rows₂ = refl

pub sourced-cells₂ : sourced_cells 2 keys₂ own₂ ≡ 0 ∷ 1 ∷ 2 ∷ 3 ∷ 32769 ∷ 98305 ∷ 98307 ∷ 491522 ∷ 1966083 ∷ 2064387 ∷ []
unfolding sourced_cells sourced own_of any ascending filter
sourced-cells₂ = refl

pub near-work₂ : near_work 2 keys₂ own₂ (own_of keys₂ own₂) ≡ 17
unfolding near_work sum u_row in_u leaf sourced own_of any ascending filter near every upwards
near-work₂ = refl

pub u-rows₃ : map (u_row 3 keys₃ own₃) keys₃ ≡ [] ∷ [] ∷ [] ∷ (3 ∷ 65537 ∷ 229378 ∷ 229379 ∷ []) ∷ (3 ∷ 65537 ∷ 229378 ∷ 229379 ∷ []) ∷ (3 ∷ 65537 ∷ 229378 ∷ 229379 ∷ 1835010 ∷ []) ∷ (3 ∷ 65537 ∷ 229378 ∷ 229379 ∷ 1835010 ∷ 1933314 ∷ 2064386 ∷ []) ∷ [] ∷ (65537 ∷ 229378 ∷ 1835010 ∷ 1933314 ∷ 2064386 ∷ []) ∷ (65537 ∷ 1835010 ∷ 1933314 ∷ 2064386 ∷ []) ∷ (65537 ∷ 1835010 ∷ 1933314 ∷ 2064386 ∷ []) ∷ []
unfolding u_row in_u leaf sourced own_of any ascending filter near every upwards
u-rows₃ = refl

pub v-rows₃ : map (v_row 3 keys₃ own₃) keys₃ ≡ [] ∷ [] ∷ (1835010 ∷ 1933314 ∷ 2064386 ∷ []) ∷ [] ∷ [] ∷ (1933314 ∷ 2064386 ∷ []) ∷ [] ∷ [] ∷ (2 ∷ []) ∷ (2 ∷ 229378 ∷ []) ∷ (2 ∷ 229378 ∷ []) ∷ []
unfolding v_row in_v sourced own_of any ascending filter near every
v-rows₃ = refl

pub sourced-cells₃ : sourced_cells 3 keys₃ own₃ ≡ 0 ∷ 1 ∷ 2 ∷ 3 ∷ 65537 ∷ 229377 ∷ 229378 ∷ 229379 ∷ 1835010 ∷ 1933314 ∷ 2064386 ∷ []
unfolding sourced_cells sourced own_of any ascending filter
sourced-cells₃ = refl

pub near-work₃ : near_work 3 keys₃ own₃ (own_of keys₃ own₃) ≡ 33
unfolding near_work sum u_row in_u leaf sourced own_of any ascending filter near every upwards
near-work₃ = refl
