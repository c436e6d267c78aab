-- Document 01, "Keys": the number of axes, and the three figures of its own that each number has.
use Rattle.std.specs.Prelude.{Bool, ◌&&◌, cond, ℕ, ◌-◌, ◌^◌, leb}

-- 1 to 3 axes
abbrev pub axes_known : ℕ → Bool
axes_known d = leb 1 d && leb d 3

-- Each number of axes has three figures of its own; 0 where it is not 1 to 3.
-- 2, 4, 8
abbrev pub children_room : ℕ → ℕ
children_room d = cond (axes_known d) (2 ^ d) 0

-- 2, 8, 26
abbrev pub neighbours_room : ℕ → ℕ
neighbours_room d = cond (axes_known d) (3 ^ d - 1) 0

-- 3, 27, 189
abbrev pub far_room : ℕ → ℕ
far_room d = cond (axes_known d) (6 ^ d - 3 ^ d) 0
