-- The theorem of order 12, applied to document 01's example.
use mathlib.Core.Path.{◌≡◌, refl}
use mathlib.Core.Bool.{Bool, true}
use lib.Dec.{lit<}
use lib.IntN.{◌+ℤ◌}
use Rattle.slices.specs.Lists.{any, sum, range}
use Rattle.slices.specs.Order.{ascending}
use Rattle.tree.specs.Nodes.{leaf}
use Rattle.tree.specs.Order.{in_order}
use Rattle.tree.specs.WellFormed.{formed}
use Rattle.tree.proofs.Examples.{keys₁, own₁, begin₁}
use Rattle.rows.specs.Lists.{u_row, v_row}
use Rattle.sums.specs.Sums.{near_sum, far_sum, plain_sum}
use Rattle.sums.specs.Right.{same}
use Rattle.sums.specs.Arrangement.{arranges}
use Rattle.sums.proofs.Arranged.{arranges-iff}
use Rattle.sums.proofs.Together.{together}
use Rattle.sums.proofs.Examples.{order₁, readings₁}

pub by-theorem : near_sum 1 keys₁ own₁ begin₁ order₁ readings₁ (u_row 1 keys₁ own₁) 3 +ℤ far_sum 1 keys₁ own₁ begin₁ order₁ readings₁ (v_row 1 keys₁ own₁) 3 ≡ plain_sum readings₁
by-theorem = together 1 keys₁ own₁ begin₁ order₁ readings₁ formed₁ _ _ (λ k m. refl) (λ k m. refl)
    ((arranges-iff order₁ (sum own₁)).0 is) (unfold sum in refl) 3 (3, lit< tt, refl) leaf-3
  where
    is : arranges order₁ (sum own₁) ≡ true
    is = unfold arranges same ascending range sum in refl

    formed₁ : formed 1 keys₁ own₁ begin₁ ≡ true
    formed₁ = unfold formed in_order leaf any sum in refl

    leaf-3 : leaf 1 keys₁ 3 ≡ true
    leaf-3 = unfold leaf any in refl
