-- The theorem at document 01's example, and what it says computed there and at the trees made by the Rust.
use mathlib.Core.Path.{◌≡◌, refl}
use mathlib.Core.Bool.{Bool, true, false}
use mathlib.Core.List.{List, [], ◌∷◌, map}
use Prim.Native.Nat.{ℕ, zero, suc, ◌≤◌, ◌<◌}
use lib.Dec.{lit<, lit≤}
use Rattle.slices.specs.Every.{every}
use Rattle.slices.specs.Lists.{any, count, filter, sum}
use Rattle.slices.specs.Order.{ascending}
use Rattle.morton.specs.Keys.{upwards}
use Rattle.morton.specs.Anchors.{near}
use Rattle.tree.specs.Nodes.{leaf, own_of, sourced}
use Rattle.tree.specs.WellFormed.{Run}
use Rattle.tree.proofs.Examples.{keys₁, own₁, begin₁, keys₂, own₂, begin₂, keys₃, own₃, begin₃, total₁, well-formed}
use Rattle.tree.proofs.Verdict.{formed-of}
use Rattle.rows.specs.Lists.{in_u, in_v, u_row, v_row}
use Rattle.rows.specs.Demand3.{meetings}
use Rattle.rows.proofs.Demand3.{demand-3}

-- the theorem at leaf 3 and source 3 of document 01's example, which lies in the run of leaf 8, and the same computed
pub by-theorem : meetings 1 (u_row 1 keys₁ own₁) (v_row 1 keys₁ own₁) 3 229379 ≡ 1
by-theorem = (demand-3 1 keys₁ own₁ begin₁ (formed-of 1 keys₁ own₁ begin₁ total₁ well-formed.0) refl).1.once 3 8 3 (lit< tt) leaf-3 in-8
  where
    leaf-3 : leaf 1 keys₁ 3 ≡ true
    leaf-3 = unfold leaf any in refl

    in-8 : Run own₁ begin₁ 8 3
    in-8 = record { node = lit< tt; from = lit≤ tt; to = lit< tt }

pub by-computing : map (meetings 1 (u_row 1 keys₁ own₁) (v_row 1 keys₁ own₁) 3) (3 ∷ 32771 ∷ 196611 ∷ 229379 ∷ []) ≡ 1 ∷ 1 ∷ 1 ∷ 1 ∷ []
unfolding count sum u_row v_row in_u in_v leaf sourced own_of any ascending filter near every upwards
by-computing = refl

-- a leaf without sources meets each source once too
pub in-two-axes : map (meetings 2 (u_row 2 keys₂ own₂) (v_row 2 keys₂ own₂) 32770) (32769 ∷ 3 ∷ 98307 ∷ 1966083 ∷ 2064387 ∷ []) ≡ 1 ∷ 1 ∷ 1 ∷ 1 ∷ 1 ∷ []
unfolding count sum u_row v_row in_u in_v leaf sourced own_of any ascending filter near every upwards
in-two-axes = refl

pub in-three-axes : map (meetings 3 (u_row 3 keys₃ own₃) (v_row 3 keys₃ own₃) 1933314) (65537 ∷ 229378 ∷ 1835010 ∷ 1933314 ∷ 2064386 ∷ 3 ∷ 229379 ∷ []) ≡ 1 ∷ 1 ∷ 1 ∷ 1 ∷ 1 ∷ 1 ∷ 1 ∷ []
unfolding count sum u_row v_row in_u in_v leaf sourced own_of any ascending filter near every upwards
in-three-axes = refl
