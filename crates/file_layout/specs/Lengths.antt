-- The lengths in a tree file that is written, by the lengths of the columns; for the house.
use Rattle.std.specs.Prelude.{List, [], ◌∷◌, ◌++◌, ℕ, suc, ◌+◌, ◌*◌}
use Rattle.slices.specs.Lists.{sum}
use Rattle.tree_file.specs.Bytes.{u32}

-- columns of so many entries
module _ (keys own begin total order us uk vs vk : ℕ) where
  -- the bytes of each section
  abbrev pub section_lengths : List ℕ
  section_lengths = 8 * keys ∷ 4 * own ∷ 4 * begin ∷ 4 * total ∷ 4 * order ∷ 4 * us ∷ 8 * uk ∷ 4 * vs ∷ 8 * vk ∷ []

  -- and of all
  abbrev pub body_length : ℕ
  body_length = 8 * keys + (4 * own + (4 * begin + (4 * total + (4 * order + (4 * us + (8 * uk + (4 * vs + 8 * vk)))))))

-- an entry of the trailer: code, bytes back, length
abbrev pub entry : ℕ → ℕ → ℕ → List ℕ
entry code back bytes = u32 code ++ u32 back ++ u32 bytes

-- the entries of sections with these lengths
unfoldable pub entries_from : ℕ → List ℕ → List ℕ
unfolding sum
entries_from code [] = []
entries_from code (n ∷ ns) = entry code (sum (n ∷ ns)) n ++ entries_from (suc code) ns
