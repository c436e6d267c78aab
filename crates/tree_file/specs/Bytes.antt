-- Document 02, order 6: numbers in bytes. Little-endian; keys take eight bytes, other numbers four.
use Rattle.std.specs.Prelude.{List, [], ◌∷◌, ℕ, zero, suc, ◌+◌, ◌/◌, ◌%◌}
use Rattle.slices.specs.Lists.{concat_map}
use Rattle.survey.specs.Bytes.{number_at}

-- a number in n bytes, the lowest first
unfoldable pub bytes_of : ℕ → ℕ → List ℕ
bytes_of zero x = []
bytes_of (suc n) x = x % 256 ∷ bytes_of n (x / 256)

abbrev pub u32 : ℕ → List ℕ
u32 x = bytes_of 4 x

-- numbers of w bytes each, one after the other
abbrev pub in_bytes : ℕ → List ℕ → List ℕ
in_bytes w xs = concat_map (bytes_of w) xs

-- n numbers of w bytes each, the first of which begins at a place
unfoldable pub entries_at : List ℕ → ℕ → ℕ → ℕ → List ℕ
entries_at file w at zero = []
entries_at file w at (suc n) = number_at file w at ∷ entries_at file w (at + w) n
