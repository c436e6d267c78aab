-- Document 01's example in Z order, one axis, limit 1: sources 0.5, 1.5, 6.5 and 7.5 of a box from 0 to 8, computed.
use mathlib.Core.Path.{◌≡◌, refl}
use mathlib.Core.Bool.{false}
use mathlib.Core.List.{List, [], ◌∷◌}
use Prim.Native.Nat.{ℕ}
use Rattle.slices.specs.Lists.{filter, concat_map, range, sum, count, any}
use Rattle.slices.specs.Every.{every}
use Rattle.morton.specs.Anchors.{encode, spread, anchor}
use Rattle.morton.specs.Depth.{depth_from}
use Rattle.refine.specs.Counts.{count_at}
use Rattle.refine.specs.Refinement.{factor, counts_around}
use Rattle.tree.specs.Nodes.{leaf, own_of}
use Rattle.growth.specs.declared.Rule.{Rule}
use Rattle.growth.specs.Nodes.{splits, kids}
use Rattle.growth.specs.Columns.{own_column, begin_column, indices_in, order_column}
use Rattle.tree.specs.Totals.{total_in, total_column}
use Rattle.tree.proofs.Examples.{keys₁, own₁, begin₁, total₁}
use Rattle.growth.specs.Nodes.{preorder, nodes}

abbrev rule : Rule
rule = record { axes = 1; limit = 1; order = 1; keep = false }

abbrev sources : List ℕ
sources = 4096 ∷ 12288 ∷ 53248 ∷ 61440 ∷ []

pub grown : nodes rule sources [] ≡ keys₁
unfolding nodes preorder kids splits factor counts_around count_at count sum encode spread anchor range filter every depth_from concat_map
grown = refl

pub owned : own_column 1 keys₁ sources ≡ own₁
unfolding own_column leaf any count_at count
owned = refl

pub begun : begin_column own₁ ≡ begin₁
unfolding begin_column range sum
begun = refl

pub totalled : total_column 1 keys₁ own₁ ≡ total₁
unfolding total_in sum own_of
totalled = refl

-- the order column, leaf by leaf in the new numbering
pub ordered : order_column 1 keys₁ sources ≡ 0 ∷ 1 ∷ 2 ∷ 3 ∷ []
unfolding order_column concat_map filter leaf any indices_in range
ordered = refl
