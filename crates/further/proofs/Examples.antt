-- One axis, limit 1, a box from 0 to 8, computed: document 01's sources 0.5, 1.5, 6.5 and 7.5, then 2.5 more; and 0.5, 1.5, .. 7.5, then 7.75 more.
use mathlib.Core.Path.{◌≡◌, refl}
use mathlib.Core.Bool.{true, false}
use mathlib.Core.List.{List, [], ◌∷◌}
use Prim.Native.Nat.{ℕ}
use Rattle.slices.specs.Lists.{filter, concat_map, range, sum, count, any}
use Rattle.slices.specs.Every.{every}
use Rattle.slices.specs.Order.{ascending}
use Rattle.morton.specs.Anchors.{encode, spread, anchor, near, touching, close}
use Rattle.morton.specs.Depth.{depth_from}
use Rattle.refine.specs.Counts.{count_at}
use Rattle.refine.specs.Refinement.{factor, counts_around}
use Rattle.tree.specs.Nodes.{leaf, own_of, sourced}
use Rattle.tree.specs.Leaves.{cell_of}
use Rattle.rows.specs.Lists.{in_v, v_row}
use Rattle.growth.specs.declared.Rule.{Rule}
use Rattle.growth.specs.Nodes.{splits, kids, preorder, nodes}
use Rattle.growth.specs.Columns.{own_column}
use Rattle.tree.proofs.Examples.{keys₁}
use Rattle.further.specs.Further.{further, beside_parent, holder_from, holder_of}
use Rattle.full.specs.Full.{has_children}
use Rattle.further.specs.Built.{root_has, may_have}

abbrev pub rule : Rule
rule = record { axes = 1; limit = 1; order = 1; keep = false }

abbrev pub four : List ℕ
four = 4096 ∷ 12288 ∷ 53248 ∷ 61440 ∷ []

abbrev pub keys₅ : List ℕ
keys₅ = 0 ∷ 1 ∷ 2 ∷ 3 ∷ 32771 ∷ 32770 ∷ 32769 ∷ 98306 ∷ 196611 ∷ 229379 ∷ []

-- 2.5 lies in a cell that was not stored: C is the node above it, which is no leaf
pub holder-inner : holder_of 1 keys₁ 20480 ≡ 1
unfolding holder_from leaf any
holder-inner = refl

-- the new node is a child of C
pub grown₅ : nodes rule (further four 20480) [] ≡ keys₅
unfolding nodes preorder kids splits factor counts_around count_at count sum encode spread anchor range filter every depth_from concat_map
grown₅ = refl

-- the row of cell 3 of level 2 gains the new node. The point's cell at its own level does not touch it: it is the parents that do
pub v-gains :
    (v_row 1 keys₁ (own_column 1 keys₁ four) 98306 ≡ 2 ∷ [])
    × (v_row 1 keys₅ (own_column 1 keys₅ (further four 20480)) 98306 ≡ 2 ∷ 32770 ∷ [])
    × (beside_parent 1 98306 20480 ≡ true)
    × (touching 1 98306 (cell_of 1 2 20480) ≡ false)
unfolding v_row in_v own_column count_at count leaf sourced own_of any ascending filter near anchor every
v-gains = (refl, refl, refl, refl)

abbrev pub eight : List ℕ
eight = 4096 ∷ 12288 ∷ 20480 ∷ 28672 ∷ 36864 ∷ 45056 ∷ 53248 ∷ 61440 ∷ []

abbrev pub keys₈ : List ℕ
keys₈ = 0 ∷ 1 ∷ 2 ∷ 3 ∷ 32771 ∷ 32770 ∷ 65539 ∷ 98307 ∷ 32769 ∷ 65538 ∷ 131075 ∷ 163843 ∷ 98306 ∷ 196611 ∷ 229379 ∷ []

-- 7.75 lies in a leaf
pub holder-leaf : holder_of 1 keys₈ 63488 ≡ 229379
unfolding holder_from leaf any
holder-leaf = refl

-- the leaf splits twice; its neighbour's U row changes, the first leaf's does not
pub grown₉ : nodes rule (further eight 63488) [] ≡ 0 ∷ 1 ∷ 2 ∷ 3 ∷ 32771 ∷ 32770 ∷ 65539 ∷ 98307 ∷ 32769 ∷ 65538 ∷ 131075 ∷ 163843 ∷ 98306 ∷ 196611 ∷ 229379 ∷ 491524 ∷ 983045 ∷ 1015813 ∷ []
unfolding nodes preorder kids splits factor counts_around count_at count sum encode spread anchor range filter every depth_from concat_map
grown₉ = refl

pub u-near : (close 1 196611 229379 ≡ true) × (close 1 3 229379 ≡ false) × (beside_parent 1 3 63488 ≡ false)
unfolding near anchor every
u-near = (refl, refl, refl)

-- a cell with as many sources as the limit has no children; one with more has
pub at-the-limit : (may_have rule four 3 ≡ false) × (has_children 1 keys₁ 3 ≡ false) × (may_have rule four 2 ≡ true) × (has_children 1 keys₁ 2 ≡ true)
unfolding count_at count any
at-the-limit = (refl, refl, refl, refl)

-- without sources and the keep-empty flag the root is alone; with the flag it has children
pub root-alone : (root_has rule [] ≡ false) × (has_children 1 (0 ∷ []) 0 ≡ false) × (root_has (record { axes = 1; limit = 1; order = 1; keep = true }) [] ≡ true)
unfolding any
root-alone = (refl, refl, refl)
