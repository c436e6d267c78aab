-- The first row that is outside. The indices of axis a that are inside are those from first_from 0 up to first_from 65536.
use Rattle.std.specs.Prelude.{Bool, cond, ◌||◌, ℕ, zero, suc, ◌*◌, ltb, eqb, None, Option, Some}
use Rattle.space.specs.declared.Frame.{Frame}
use Rattle.grids.specs.declared.Grid.{Grid}
use Rattle.grids.specs.declared.Exit.{Exit}
use Rattle.grids.specs.Grids.{shape_on, stride_on}
use Rattle.grids.specs.Ranges.{first_from}

-- index 0 of axis a is outside
abbrev pub starts_out : Frame → Grid → ℕ → Bool
starts_out f g a = ltb 0 (first_from f g a 0) || eqb (first_from f g a 65536) 0

-- the last indices of axis a are outside
abbrev pub ends_out : Frame → Grid → ℕ → Bool
ends_out f g a = ltb (first_from f g a 65536) (shape_on g a)

abbrev pub or_else : Option ℕ → Option ℕ → Option ℕ
or_else (Some i) y = Some i
or_else None y = y

-- the first number below n that passes a test, and the last
unfoldable pub first_of : (ℕ → Bool) → ℕ → Option ℕ
first_of p zero = None
first_of p (suc n) = or_else (first_of p n) (cond (p n) (Some n) None)

unfoldable pub last_of : (ℕ → Bool) → ℕ → Option ℕ
last_of p zero = None
last_of p (suc n) = cond (p n) (Some n) (last_of p n)

abbrev pub leaves : ℕ → ℕ → Option Exit
leaves r a = Some (record { row = r; axis = a })

-- the first row that is outside, and the first axis on which it is: row 0, or else the row at which the last axis that ends outside first does
abbrev pub exit_by : Frame → Grid → Option ℕ → Option ℕ → Option Exit
exit_by f g (Some a) y = leaves 0 a
exit_by f g None (Some a) = leaves (first_from f g a 65536 * stride_on f.axes g a) a
exit_by f g None None = None

abbrev pub grid_exit : Frame → Grid → Option Exit
grid_exit f g = exit_by f g (first_of (starts_out f g) f.axes) (last_of (ends_out f g) f.axes)
