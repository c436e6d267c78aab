-- The rule is neither empty nor too wide: document 01's example and two more in Z order, and for each clause one that breaks it alone.
use mathlib.Core.Path.{◌≡◌, refl}
use mathlib.Core.Bool.{Bool, true, false, ◌&&◌, ◌||◌, not}
use mathlib.Core.List.{List, [], ◌∷◌, map}
use Prim.Native.Nat.{ℕ, zero, suc}
use lib.ListN.{length}
use Rattle.slices.specs.Lists.{any, count, sum, range}
use Rattle.tree.specs.Nodes.{node_number, leaf, own_of}
use Rattle.tree.specs.Order.{before, in_order, greatest_level, depth_of, end_of}
use Rattle.tree.specs.Totals.{total_in}
use Rattle.tree.specs.WellFormed.{well_formed}
use Rattle.tree.specs.Leaves.{climbed, leaf_of, steps_to}
use Rattle.tree.specs.Arrangement.{old_number}
use Rattle.std.specs.Prelude.{None, Some}

-- document 01's example, and beside each tree the numbers that its nodes had by level
abbrev pub keys₁ : List ℕ
keys₁ = 0 ∷ 1 ∷ 2 ∷ 3 ∷ 32771 ∷ 32769 ∷ 98306 ∷ 196611 ∷ 229379 ∷ []

abbrev pub own₁ : List ℕ
own₁ = 0 ∷ 0 ∷ 0 ∷ 1 ∷ 1 ∷ 0 ∷ 0 ∷ 1 ∷ 1 ∷ []

abbrev pub begin₁ : List ℕ
begin₁ = 0 ∷ 0 ∷ 0 ∷ 0 ∷ 1 ∷ 2 ∷ 2 ∷ 2 ∷ 3 ∷ []

abbrev pub total₁ : List ℕ
total₁ = 4 ∷ 2 ∷ 2 ∷ 1 ∷ 1 ∷ 2 ∷ 2 ∷ 1 ∷ 1 ∷ []

abbrev old₁ : List ℕ
old₁ = 0 ∷ 1 ∷ 3 ∷ 5 ∷ 6 ∷ 2 ∷ 4 ∷ 7 ∷ 8 ∷ []

-- Made by the Rust's build_tree and put in Z order: centre 4 on each axis, radius 4, limit 1, order 1, no targets.
-- Two axes, empty cells kept, sources (0.5,0.5) (1.5,1.5) (6.5,6.5) (7.5,7.5) (5,1)
abbrev pub keys₂ : List ℕ
keys₂ = 0 ∷ 1 ∷ 2 ∷ 3 ∷ 32771 ∷ 65539 ∷ 98307 ∷ 32770 ∷ 65538 ∷ 98306 ∷ 32769 ∷ 65537 ∷ 98305 ∷ 393218 ∷ 425986 ∷ 458754 ∷ 491522 ∷ 1966083 ∷ 1998851 ∷ 2031619 ∷ 2064387 ∷ []

abbrev pub own₂ : List ℕ
own₂ = 0 ∷ 0 ∷ 0 ∷ 1 ∷ 0 ∷ 0 ∷ 1 ∷ 0 ∷ 0 ∷ 0 ∷ 1 ∷ 0 ∷ 0 ∷ 0 ∷ 0 ∷ 0 ∷ 0 ∷ 1 ∷ 0 ∷ 0 ∷ 1 ∷ []

abbrev pub begin₂ : List ℕ
begin₂ = 0 ∷ 0 ∷ 0 ∷ 0 ∷ 1 ∷ 1 ∷ 1 ∷ 2 ∷ 2 ∷ 2 ∷ 2 ∷ 3 ∷ 3 ∷ 3 ∷ 3 ∷ 3 ∷ 3 ∷ 3 ∷ 4 ∷ 4 ∷ 4 ∷ []

abbrev pub total₂ : List ℕ
total₂ = 5 ∷ 2 ∷ 2 ∷ 1 ∷ 0 ∷ 0 ∷ 1 ∷ 0 ∷ 0 ∷ 0 ∷ 1 ∷ 0 ∷ 2 ∷ 0 ∷ 0 ∷ 0 ∷ 2 ∷ 1 ∷ 0 ∷ 0 ∷ 1 ∷ []

abbrev old₂ : List ℕ
old₂ = 0 ∷ 1 ∷ 5 ∷ 13 ∷ 14 ∷ 15 ∷ 16 ∷ 6 ∷ 7 ∷ 8 ∷ 2 ∷ 3 ∷ 4 ∷ 9 ∷ 10 ∷ 11 ∷ 12 ∷ 17 ∷ 18 ∷ 19 ∷ 20 ∷ []

-- Three axes, empty cells not kept, sources (0.5,0.5,0.5) (1.5,1.5,1.5) (7.5,7.5,7.5) (6.5,6.5,5) (1,7,2) (3.5,3.5,3.5) (5,5,5)
abbrev pub keys₃ : List ℕ
keys₃ = 0 ∷ 1 ∷ 2 ∷ 3 ∷ 229379 ∷ 229378 ∷ 65537 ∷ 229377 ∷ 1835010 ∷ 1933314 ∷ 2064386 ∷ []

abbrev pub own₃ : List ℕ
own₃ = 0 ∷ 0 ∷ 0 ∷ 1 ∷ 1 ∷ 1 ∷ 1 ∷ 0 ∷ 1 ∷ 1 ∷ 1 ∷ []

abbrev pub begin₃ : List ℕ
begin₃ = 0 ∷ 0 ∷ 0 ∷ 0 ∷ 1 ∷ 2 ∷ 3 ∷ 4 ∷ 4 ∷ 5 ∷ 6 ∷ []

abbrev pub total₃ : List ℕ
total₃ = 7 ∷ 3 ∷ 2 ∷ 1 ∷ 1 ∷ 1 ∷ 1 ∷ 3 ∷ 1 ∷ 1 ∷ 1 ∷ []

abbrev old₃ : List ℕ
old₃ = 0 ∷ 1 ∷ 4 ∷ 9 ∷ 10 ∷ 5 ∷ 2 ∷ 3 ∷ 6 ∷ 7 ∷ 8 ∷ []

pub well-formed : (well_formed 1 keys₁ own₁ begin₁ total₁ ≡ true) × (well_formed 2 keys₂ own₂ begin₂ total₂ ≡ true) × (well_formed 3 keys₃ own₃ begin₃ total₃ ≡ true)
unfolding well_formed in_order leaf any sum total_in own_of
well-formed = (refl, refl, refl)

-- the depth is no longer the last node's level
pub depths : (depth_of keys₁ ≡ 3) × (depth_of keys₂ ≡ 3) × (depth_of keys₃ ≡ 3) × (depth_of (0 ∷ []) ≡ 1) × (depth_of (0 ∷ 1 ∷ 2 ∷ 3 ∷ 32771 ∷ 32769 ∷ []) ≡ 3)
unfolding greatest_level
depths = (refl, refl, refl, refl, refl)

pub old-numbers : (map (old_number keys₁) (range 0 9) ≡ old₁) × (map (old_number keys₂) (range 0 21) ≡ old₂) × (map (old_number keys₃) (range 0 11) ≡ old₃)
unfolding old_number count range
old-numbers = (refl, refl, refl)

pub ends-are : map (end_of keys₁) (range 0 9) ≡ 9 ∷ 5 ∷ 5 ∷ 4 ∷ 5 ∷ 9 ∷ 9 ∷ 8 ∷ 9 ∷ []
unfolding end_of range
ends-are = refl

-- lookup: a code in a leaf, with its steps, and one in no leaf
pub found : (leaf_of 1 keys₁ 8192 ≡ Some 4) × (steps_to 1 keys₁ 8192 ≡ 0) × (leaf_of 1 keys₁ 20000 ≡ None)
unfolding climbed greatest_level leaf any node_number
found = (refl, refl, refl)

abbrev none : List ℕ
none = []

abbrev zeros : List ℕ
zeros = 0 ∷ 0 ∷ 0 ∷ []

pub not-well-formed :
    -- columns have one length, at least 1
    (well_formed 1 none none none none ≡ false)
    × (well_formed 1 (0 ∷ []) (0 ∷ 0 ∷ []) (0 ∷ []) (0 ∷ []) ≡ false)
    × (well_formed 1 (0 ∷ []) (0 ∷ []) (0 ∷ 0 ∷ []) (0 ∷ []) ≡ false)
    × (well_formed 1 (0 ∷ []) (0 ∷ []) (0 ∷ []) (0 ∷ 0 ∷ []) ≡ false)
    × (well_formed 1 (0 ∷ []) (0 ∷ []) (0 ∷ []) none ≡ false)
    -- keys are valid: a code past its level
    × (well_formed 1 (0 ∷ 65537 ∷ []) (0 ∷ 1 ∷ []) (0 ∷ 0 ∷ []) (1 ∷ 1 ∷ []) ≡ false)
    -- strictly ascending in Z order, the first 0: a key twice, codes down, a cell after its child, by level (which was the rule), no root
    × (well_formed 1 (0 ∷ 0 ∷ []) (0 ∷ 0 ∷ []) (0 ∷ 0 ∷ []) (0 ∷ 0 ∷ []) ≡ false)
    × (well_formed 1 (0 ∷ 32769 ∷ 1 ∷ []) zeros zeros zeros ≡ false)
    × (well_formed 1 (0 ∷ 2 ∷ 1 ∷ []) zeros zeros zeros ≡ false)
    × (well_formed 1 (0 ∷ 1 ∷ 32769 ∷ 2 ∷ []) (0 ∷ 0 ∷ 0 ∷ 0 ∷ []) (0 ∷ 0 ∷ 0 ∷ 0 ∷ []) (0 ∷ 0 ∷ 0 ∷ 0 ∷ []) ≡ false)
    × (well_formed 1 (0 ∷ 1 ∷ 2 ∷ 32769 ∷ []) (0 ∷ 0 ∷ 0 ∷ 0 ∷ []) (0 ∷ 0 ∷ 0 ∷ 0 ∷ []) (0 ∷ 0 ∷ 0 ∷ 0 ∷ []) ≡ true)
    × (well_formed 1 (1 ∷ []) (0 ∷ []) (0 ∷ []) (0 ∷ []) ≡ false)
    -- every other's parent is present
    × (well_formed 1 (0 ∷ 2 ∷ 32769 ∷ []) zeros zeros zeros ≡ false)
    -- the root and nodes with children own none
    × (well_formed 1 (0 ∷ []) (1 ∷ []) (0 ∷ []) (1 ∷ []) ≡ false)
    × (well_formed 1 (0 ∷ 1 ∷ 2 ∷ []) (0 ∷ 1 ∷ 0 ∷ []) (0 ∷ 0 ∷ 1 ∷ []) (1 ∷ 1 ∷ 0 ∷ []) ≡ false)
    -- begins are the running sums; the total is at most 1,048,576
    × (well_formed 1 (0 ∷ 1 ∷ 32769 ∷ []) (0 ∷ 1 ∷ 1 ∷ []) (0 ∷ 0 ∷ 2 ∷ []) (2 ∷ 1 ∷ 1 ∷ []) ≡ false)
    × (well_formed 1 (0 ∷ 1 ∷ 32769 ∷ []) (0 ∷ 1048575 ∷ 1 ∷ []) (0 ∷ 0 ∷ 1048575 ∷ []) (1048576 ∷ 1048575 ∷ 1 ∷ []) ≡ true)
    × (well_formed 1 (0 ∷ 1 ∷ 32769 ∷ []) (0 ∷ 1048575 ∷ 2 ∷ []) (0 ∷ 0 ∷ 1048575 ∷ []) (1048577 ∷ 1048575 ∷ 2 ∷ []) ≡ false)
    -- totals: the root alone, the root's, a leaf's, and children that would wrap to the root's
    × (well_formed 1 (0 ∷ []) (0 ∷ []) (0 ∷ []) (1 ∷ []) ≡ false)
    × (well_formed 1 (0 ∷ 1 ∷ []) (0 ∷ 1 ∷ []) (0 ∷ 0 ∷ []) (0 ∷ 1 ∷ []) ≡ false)
    × (well_formed 1 (0 ∷ 1 ∷ []) (0 ∷ 1 ∷ []) (0 ∷ 0 ∷ []) (1 ∷ 0 ∷ []) ≡ false)
    × (well_formed 1 (0 ∷ 1 ∷ 32769 ∷ []) (0 ∷ 0 ∷ 1 ∷ []) zeros (1 ∷ 18446744073709551615 ∷ 2 ∷ []) ≡ false)
unfolding well_formed in_order leaf any sum total_in own_of
not-well-formed = (refl, refl, refl, refl, refl, refl, refl, refl, refl, refl, refl, refl, refl, refl, refl, refl, refl, refl, refl, refl, refl, refl)
