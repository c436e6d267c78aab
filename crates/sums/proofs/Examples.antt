-- Document 01's example, with readings: what the definitions say there, and that a wrong V key is refused.
use mathlib.Core.Path.{◌≡◌, refl}
use mathlib.Core.Bool.{Bool, true, false}
use mathlib.Core.List.{List, [], ◌∷◌, map}
use Prim.Native.Nat.{ℕ, zero, suc}
use lib.IntN.{ℤ, pos, negsuc}
use Rattle.slices.specs.Every.{every}
use Rattle.slices.specs.Lists.{any, count, filter, sum, range, concat_map}
use Rattle.slices.specs.Order.{insert, ascending}
use Rattle.morton.specs.Keys.{upwards}
use Rattle.morton.specs.Anchors.{near}
use Rattle.tree.specs.Nodes.{leaf, own_of, sourced, node_number}
use Rattle.tree.proofs.Examples.{keys₁, own₁, begin₁}
use Rattle.rows.specs.Lists.{in_u, in_v, u_row, v_row}
use Rattle.rows.specs.Written.{starts_from}
use Rattle.sums.specs.Adding.{added}
use Rattle.sums.specs.Sums.{node_readings, cell_readings, near_sum, far_sum, additions}
use Rattle.sums.specs.Right.{same, lists_are}
use Rattle.sums.specs.Arrangement.{arranges}

-- an arrangement that is not 0, 1, 2, 3, so that a reading by place is not one by index
abbrev pub order₁ : List ℕ
order₁ = 2 ∷ 0 ∷ 3 ∷ 1 ∷ []

abbrev pub readings₁ : List ℤ
readings₁ = pos 1 ∷ negsuc 1 ∷ pos 3 ∷ pos 4 ∷ []

pub arranged₁ : map (arranges order₁) (3 ∷ 4 ∷ 5 ∷ []) ≡ false ∷ true ∷ false ∷ []
unfolding arranges same ascending range
arranged₁ = refl

-- leaf 3 sums 3 and 1 singly, and 4 and -2 as one cell
pub near₁ : near_sum 1 keys₁ own₁ begin₁ order₁ readings₁ (u_row 1 keys₁ own₁) 3 ≡ pos 4
unfolding near_sum node_readings added range u_row in_u leaf sourced own_of any ascending filter near every upwards
near₁ = refl

pub far₁ : far_sum 1 keys₁ own₁ begin₁ order₁ readings₁ (v_row 1 keys₁ own₁) 3 ≡ pos 2
unfolding far_sum cell_readings node_readings added range v_row in_v leaf sourced own_of any ascending filter near every upwards
far₁ = refl

pub additions₁ : additions 1 keys₁ own₁ (u_row 1 keys₁ own₁) (v_row 1 keys₁ own₁) 3 ≡ 3
unfolding additions sum u_row v_row in_u in_v leaf sourced own_of any ascending filter near every upwards
additions₁ = refl

-- the rows of the example, and the same with one V key for another
abbrev us₁ : List ℕ
us₁ = 0 ∷ 0 ∷ 0 ∷ 0 ∷ 2 ∷ 4 ∷ 4 ∷ 4 ∷ 6 ∷ 8 ∷ []

abbrev uk₁ : List ℕ
uk₁ = 3 ∷ 32771 ∷ 3 ∷ 32771 ∷ 196611 ∷ 229379 ∷ 196611 ∷ 229379 ∷ []

abbrev vs₁ : List ℕ
vs₁ = 0 ∷ 0 ∷ 0 ∷ 1 ∷ 1 ∷ 1 ∷ 1 ∷ 2 ∷ 2 ∷ 2 ∷ []

pub lists₁ : map (λ k. lists_are 1 keys₁ own₁ us₁ uk₁ vs₁ (98306 ∷ k ∷ [])) (2 ∷ 1 ∷ []) ≡ true ∷ false ∷ []
unfolding lists_are same starts_from concat_map u_row v_row in_u in_v leaf sourced own_of any ascending filter near every upwards
lists₁ = refl
