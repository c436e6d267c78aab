-- The theorems at the example of eight sources and one more: the rows of the first leaf stay, by theorem and computed; and document 01's example is a build.
use mathlib.Core.Path.{◌≡◌, refl, sym}
use mathlib.Core.Bool.{true, false}
use mathlib.Core.List.{List, [], ◌∷◌}
use Prim.Native.Nat.{ℕ}
use lib.Dec.{ltb, lit<}
use lib.ListN.{length, get_or}
use borrow.Author.Tests.{ltb-true}
use Rattle.slices.specs.Lists.{filter, concat_map, range, sum, count, any}
use Rattle.slices.specs.Every.{every}
use Rattle.slices.specs.Order.{ascending}
use Rattle.slices.proofs.Every.{every-at}
use Rattle.morton.specs.Keys.{upwards}
use Rattle.morton.specs.Anchors.{encode, spread, anchor, near, close}
use Rattle.morton.specs.Depth.{depth_from}
use Rattle.refine.specs.Counts.{count_at}
use Rattle.refine.specs.Refinement.{factor, counts_around}
use Rattle.tree.specs.Nodes.{leaf, own_of, sourced}
use Rattle.tree.proofs.Examples.{keys₁, own₁, begin₁, total₁, well-formed}
use Rattle.rows.specs.Lists.{in_u, in_v, u_row, v_row}
use Rattle.growth.specs.Nodes.{splits, kids, preorder, nodes}
use Rattle.growth.specs.Columns.{own_column}
use Rattle.growth.proofs.Arranged.{Codes}
use Rattle.growth.proofs.Examples.{grown, owned, begun, ordered}
use Rattle.further.specs.Further.{further, beside_parent, holder_from, holder_of}
use Rattle.further.specs.Built.{GrownRight}
use Rattle.further.specs.Points.{SourcesRight}
use Rattle.further.proofs.Examples.{rule, four, eight, keys₈}
use Rattle.further.proofs.Build.{u-unchanged, v-unchanged}
use Rattle.further.proofs.Ordered.{formed-iff}

small : (xs : List ℕ) → every (length xs) (λ i. ltb (get_or xs i 0) 65536) ≡ true → Codes 1 xs
small xs h i l = ltb-true (get_or xs i 0) 65536 (every-at (λ i. ltb (get_or xs i 0) 65536) (length xs) h i l)

grown₈ : nodes rule eight [] ≡ keys₈
unfolding nodes preorder kids splits factor counts_around count_at count sum encode spread anchor range filter every depth_from concat_map
grown₈ = refl

codes₈ : Codes 1 eight
codes₈ = small eight (unfold every in refl)

pub v-stays : v_row 1 (nodes rule eight []) (own_column 1 (nodes rule eight []) eight) 3 ≡ v_row 1 (nodes rule (further eight 63488) []) (own_column 1 (nodes rule (further eight 63488) []) (further eight 63488)) 3
v-stays = v-unchanged rule eight 63488 refl codes₈ (lit< tt) 3 far
  where
    far : beside_parent 1 3 63488 ≡ false
    far = unfold near anchor every in refl

pub u-stays : u_row 1 (nodes rule eight []) (own_column 1 (nodes rule eight []) eight) 3 ≡ u_row 1 (nodes rule (further eight 63488) []) (own_column 1 (nodes rule (further eight 63488) []) (further eight 63488)) 3
u-stays = (u-unchanged rule eight 63488 refl codes₈ (lit< tt) 3 is_leaf far).1
  where
    is_leaf : leaf 1 (nodes rule eight []) 3 ≡ true
    is_leaf = rw grown₈ (unfold leaf any in refl)

    far : close 1 3 (holder_of 1 (nodes rule eight []) 63488) ≡ false
    far = rw grown₈ (unfold holder_from any near anchor every in refl)

-- what these rows are
pub rows-computed : (v_row 1 keys₈ (own_column 1 keys₈ eight) 3 ≡ 65539 ∷ 98307 ∷ []) × (u_row 1 keys₈ (own_column 1 keys₈ eight) 3 ≡ 3 ∷ 32771 ∷ [])
unfolding u_row v_row in_u in_v own_column count_at count leaf sourced own_of any ascending filter near anchor every upwards
rows-computed = (refl, refl)

-- document 01's example passes the tests of a build
pub example-right : SourcesRight 1 four keys₁ own₁ begin₁ (0 ∷ 1 ∷ 2 ∷ 3 ∷ []) × GrownRight rule four keys₁
example-right =
    (formed-iff rule four keys₁ own₁ begin₁ (0 ∷ 1 ∷ 2 ∷ 3 ∷ []) refl (small four (unfold every in refl)) total₁ well-formed.0).1
    (record {
      keys_are = sym grown;
      owns-are = rw grown (sym owned);
      begins-are = sym begun;
      orders-are = rw grown (sym ordered);
    })
