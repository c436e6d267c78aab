-- Document 01, "Keys": the two float calls, operation for operation as in the Rust.
use Rattle.std.specs.Prelude.{Bool, true, false, List, [], ◌∷◌, ℕ, pos, negsuc, ltb, Float, Ok}
use Rattle.std.specs.Float.{fin, binary64}
use Rattle.std.specs.Float.Ieee.{round, add, sub, mul, of_int, le}
use Rattle.refusal.specs.declared.Refusal.TheVariants.{Key}
use Rattle.slices.specs.Every.{every}
use Rattle.morton.specs.Keys.{level_of, code_of, valid}
use Rattle.morton.specs.Anchors.{anchor}
use Rattle.space.specs.declared.Box.{Box}
use Rattle.centres.specs.declared.Centred.{Centred}
use Rattle.space.specs.Floats.{nought, size_of}
use Rattle.refusal.specs.Chain.{ask, ◌then◌}
use Rattle.space.specs.Domain.{box_outcome, level_outcome}
use Rattle.space.specs.Cells.{on_axis, displacement, side}
use Rattle.refusal.specs.Outcome.{Answer, Outcome}

-- 1 DIMS, 2 BOX, then 9 KEY
abbrev pub key_outcome : Box → ℕ → Outcome
key_outcome b k = box_outcome b then ask (valid b.axes k) Key

abbrev pub keys_outcome : Box → ℕ → ℕ → Outcome
keys_outcome b j k = key_outcome b j then ask (valid b.axes k) Key

-- 0.5, and the f64 nearest to 0.000001
abbrev pub half : Float
half = fin false 1 (negsuc 0)

unfoldable pub tolerance : Float
tolerance = round binary64 false 1 1000000

-- (anchor + 0.5) * side + displacement
unfoldable pub centre_on : Box → ℕ → ℕ → ℕ → Float
centre_on b level code a =
    on_axis (ltb a b.axes)
    (add binary64 (mul binary64 (add binary64 (of_int binary64 (pos (anchor b.axes a level code))) half) (side b.radius level)) (displacement b a))

-- ---- a level's side
abbrev pub side_length : Box → ℕ → Answer Float
side_length b level = level_outcome b level then Ok (side b.radius level)

-- ---- a cell's centre and side
abbrev pub centred : Box → ℕ → Centred
centred b k = record {
  centre = centre_on b (level_of k) (code_of k) 0 ∷ centre_on b (level_of k) (code_of k) 1 ∷ centre_on b (level_of k) (code_of k) 2 ∷ [];
  length = side b.radius (level_of k);
}

abbrev pub centre_length : Box → ℕ → Answer Centred
centre_length b k = key_outcome b k then Ok (centred b k)

-- ---- adjacent cells
-- 0.5 * (length_a + length_b)
abbrev pub reach : Box → ℕ → ℕ → Float
reach b j k = mul binary64 half (add binary64 (side b.radius (level_of j)) (side b.radius (level_of k)))

-- on axis a the centres differ by at most the tolerance plus the length
unfoldable pub near_at : Box → ℕ → ℕ → ℕ → Bool
near_at b j k a =
    le (size_of (sub binary64 (centre_on b (level_of k) (code_of k) a) (centre_on b (level_of j) (code_of j) a))) (add binary64 tolerance (reach b j k))

-- on each of the first n axes
abbrev pub near_on : ℕ → Box → ℕ → ℕ → Bool
near_on n b j k = every n (near_at b j k)

abbrev pub are_adjacent : Box → ℕ → ℕ → Answer Bool
are_adjacent b j k = keys_outcome b j k then Ok (near_on b.axes b j k)
