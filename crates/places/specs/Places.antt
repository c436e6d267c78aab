-- The place of a cell: its anchors in one number, 20 bits for each of three axes, 0 past the axes. It doubles from a cell to its children.
use Rattle.std.specs.Prelude.{Bool, ◌&&◌, ℕ, zero, suc, ◌+◌, ◌*◌, ◌/◌, ◌%◌, ◌^◌}
use Rattle.morton.specs.Keys.{level_of, code_of}
use Rattle.morton.specs.Anchors.{within1}

-- the bits of a child's index, one an axis, at the axes' first bits
abbrev pub step_of : ℕ → ℕ
step_of c = c % 2 + c / 2 % 2 * 1048576 + c / 4 % 2 * 1099511627776

-- the place of the cell with a code of a level
unfoldable pub place_at : ℕ → ℕ → ℕ → ℕ
place_at d zero code = 0
place_at d (suc level) code = step_of (code % 2 ^ d) + 2 * place_at d level (code / 2 ^ d)

abbrev pub place_of : ℕ → ℕ → ℕ
place_of d k = place_at d (level_of k) (code_of k)

-- two places, the second one so many levels deeper and taken up to the first one's level: on each axis they differ by at most 1
abbrev pub beside : ℕ → ℕ → ℕ → Bool
beside p q up =
    within1 (p % 1048576) (q % 1048576 / 2 ^ up)
    && (within1 (p / 1048576 % 1048576) (q / 1048576 % 1048576 / 2 ^ up) && within1 (p / 1099511627776) (q / 1099511627776 / 2 ^ up))
