-- Document 01, "Keys": bit i of axis a's anchor is bit d * i + a of the code. d is the number of axes.
use Rattle.std.specs.Prelude.{List, map, ℕ, zero, suc, ◌+◌, ◌*◌, ◌/◌, ◌%◌, ◌^◌, get_or}
use Rattle.slices.specs.Lists.{range}

-- axis a's anchor: bit i of it is bit d * i + a of the code, for each i below the level
unfoldable pub anchor : ℕ → ℕ → ℕ → ℕ → ℕ
anchor d a zero code = 0
anchor d a (suc level) code = code / 2 ^ a % 2 + 2 * anchor d a level (code / 2 ^ d)

-- a number's bits, d places apart: bit i goes to bit d * i
unfoldable pub spread : ℕ → ℕ → ℕ → ℕ
spread d zero x = 0
spread d (suc level) x = x % 2 + 2 ^ d * spread d level (x / 2)

-- the first n axes' part of the code of the anchors xs: axis a's bits begin at bit a
unfoldable pub encode : ℕ → ℕ → ℕ → List ℕ → ℕ
unfolding spread
encode zero d level xs = 0
encode (suc n) d level xs = encode n d level xs + 2 ^ n * spread d level (get_or xs n 0)

-- each axis's anchor in a code
abbrev pub anchors_of : ℕ → ℕ → ℕ → List ℕ
anchors_of d level code = map (λ a. anchor d a level code) (range 0 d)
