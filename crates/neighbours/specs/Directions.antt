-- The direction rows of `morton_constants.rs`, in its order, and the neighbours of a cell along them.
use Rattle.std.specs.Prelude.{Bool, false, List, [], ◌∷◌, map, ℕ, zero, suc, ◌^◌, ltb, ℤ, pos, negsuc, ◌+ℤ◌, nat_abs, length, get_or}
use Rattle.slices.specs.Lists.{filter, range}
use Rattle.slices.specs.Every.{every}
use Rattle.morton.specs.Keys.{level_of}
use Rattle.morton.specs.Anchors.{anchors, key_at}

abbrev minus : ℤ
minus = negsuc 0

abbrev pub none : ℤ
none = pos 0

abbrev plus : ℤ
plus = pos 1

-- a row has a step for each of three axes, 0 past the number of axes
abbrev row : ℤ → ℤ → ℤ → List ℤ
row x y z = x ∷ y ∷ z ∷ []

abbrev pub directions : ℕ → List (List ℤ)
directions zero = []
directions (suc zero) = row minus none none ∷ row plus none none ∷ []
directions (suc (suc zero)) =
    row minus minus none ∷ row minus none none ∷ row minus plus none ∷ row none minus none
    ∷ row none plus none ∷ row plus minus none ∷ row plus none none ∷ row plus plus none ∷ []
directions (suc (suc (suc zero))) =
    row minus minus minus ∷ row minus minus none ∷ row minus minus plus ∷ row minus none minus ∷ row minus plus minus
    ∷ row minus none none ∷ row minus none plus ∷ row minus plus none ∷ row minus plus plus
    ∷ row none minus minus ∷ row plus minus minus ∷ row none minus none ∷ row none minus plus ∷ row plus minus none ∷ row plus minus plus
    ∷ row none none minus ∷ row none plus minus ∷ row plus none minus ∷ row plus plus minus
    ∷ row none none plus ∷ row none plus none ∷ row none plus plus ∷ row plus none none ∷ row plus none plus ∷ row plus plus none ∷ row plus plus plus ∷ []
directions (suc (suc (suc (suc d)))) = []

-- the anchor on axis a, one step along a row from the anchors xs: an integer sum
abbrev pub ahead : List ℕ → List ℤ → ℕ → ℤ
ahead xs steps a = pos (get_or xs a 0) +ℤ get_or steps a none

-- an integer is an anchor of the level, 0 to 2 ^ level - 1
abbrev pub is_anchor : ℕ → ℤ → Bool
is_anchor level (pos n) = ltb n (2 ^ level)
is_anchor level (negsuc n) = false

-- on each axis the sum is an anchor of the level
abbrev pub stays : ℕ → ℕ → List ℕ → List ℤ → Bool
stays d level xs steps = every d (λ a. is_anchor level (ahead xs steps a))

-- the sums, as anchors of a row that stays
abbrev pub moved : ℕ → List ℕ → List ℤ → List ℕ
moved d xs steps = map (λ a. nat_abs (ahead xs steps a)) (range 0 d)

abbrev pub direction_row : ℕ → ℕ → List ℤ
direction_row d i = get_or (directions d) i []

-- row i leads to a cell of the box
abbrev pub on_box : ℕ → ℕ → ℕ → Bool
on_box d k i = stays d (level_of k) (anchors d k) (direction_row d i)

-- which is this one
abbrev pub toward : ℕ → ℕ → ℕ → ℕ
toward d k i = key_at d (level_of k) (moved d (anchors d k) (direction_row d i))

-- neighbours come in the order of the direction rows, those off the box left out
abbrev pub neighbours : ℕ → ℕ → List ℕ
neighbours d k = map (toward d k) (filter (on_box d k) (range 0 (length (directions d))))
