-- The file that is written: document 02, order 6. Sections, then a trailer.
use Rattle.std.specs.Prelude.{List, [], ◌∷◌, ◌++◌, ℕ, suc, length}
use Rattle.tree_file.specs.Bytes.{u32, in_bytes}
use Rattle.tree_file.specs.Contents.{Contents}

-- the bytes of each section. Codes are 1 keys, 2 own counts, 3 begins, 4 totals, 5 order, 6 and 7 U starts and keys, 8 and 9 V starts and keys
abbrev pub sections : Contents → List (List ℕ)
sections t = in_bytes 8 t.keys ∷ in_bytes 4 t.own ∷ in_bytes 4 t.begin ∷ in_bytes 4 t.total ∷ in_bytes 4 t.order
    ∷ in_bytes 4 t.u_starts ∷ in_bytes 8 t.u_keys ∷ in_bytes 4 t.v_starts ∷ in_bytes 8 t.v_keys ∷ []

-- sections one after the other, without gaps
unfoldable pub body : List (List ℕ) → List ℕ
body [] = []
body (s ∷ ss) = s ++ body ss

-- one entry a section, in file order, with codes that ascend: code, bytes from the trailer's start back to the section, length in bytes.
-- Behind a section there are only the sections after it, and then the trailer
unfoldable pub entries : ℕ → List (List ℕ) → List ℕ
unfolding body
entries code [] = []
entries code (s ∷ ss) = u32 code ++ u32 (length (body (s ∷ ss))) ++ u32 (length s) ++ entries (suc code) ss

-- the entries, u32 axes and, last, u32 number of entries
abbrev pub trailer_of : Contents → List ℕ
trailer_of t = entries 1 (sections t) ++ u32 t.axes ++ u32 (length (sections t))

abbrev pub file_of : Contents → List ℕ
file_of t = body (sections t) ++ trailer_of t
