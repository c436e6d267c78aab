-- Document 01, "The box and a point's cell": which boxes are in the domain, and the refusals of a call that takes one.
use Rattle.std.specs.Prelude.{Bool, false, ◌&&◌, List, ℕ, pos, negsuc, leb, Float, get_or}
use Rattle.std.specs.Float.{nan, fin}
use Rattle.std.specs.Float.Ieee.{le}
use Rattle.refusal.specs.declared.Refusal.TheVariants.{Dims, Box as Outside, Key}
use Rattle.refusal.specs.Chain.{ask, ◌then◌}
use Rattle.slices.specs.Every.{every}
use Rattle.morton.specs.Keys.{axes_known, deepest}
use Rattle.space.specs.declared.Box.{Box}
use Rattle.space.specs.Floats.{size_of}
use Rattle.refusal.specs.Outcome.{Outcome}

-- from 0.25 to 1,048,576
abbrev pub radius_known : Float → Bool
radius_known r = le (fin false 1 (negsuc 1)) r && le r (fin false 1 (pos 20))

-- at most 16,777,216 in size; neither a NaN nor an infinity is
abbrev pub centre_known : Float → Bool
centre_known c = le (size_of c) (fin false 1 (pos 24))

-- on each of the first n axes
unfoldable pub centres_known : ℕ → List Float → Bool
centres_known n cs = every n (λ a. centre_known (get_or cs a nan))

abbrev pub in_domain : Box → Bool
in_domain b = radius_known b.radius && centres_known b.axes b.centre

-- 1 DIMS, then 2 BOX
abbrev pub box_outcome : Box → Outcome
box_outcome b = ask (axes_known b.axes) Dims then ask (in_domain b) Outside

-- and where there is a level, then 9 KEY
abbrev pub level_outcome : Box → ℕ → Outcome
level_outcome b level = box_outcome b then ask (leb level deepest) Key
