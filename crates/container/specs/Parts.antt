-- A container: each file stands after its length.
use Rattle.std.specs.Prelude.{Bool, true, false, List, ℕ, ◌+◌, leb, length, Option, Some, None}
use Rattle.survey.specs.Bytes.{u32_at}
use Rattle.container.specs.declared.Part.{Part}

-- a length of 4 bytes, and that many bytes after it, if the container has them
abbrev pub part_if : Bool → List ℕ → ℕ → Option Part
part_if true bytes at = Some (record { start = at + 4; end = at + 4 + u32_at bytes at })
part_if false bytes at = None

-- the file whose length stands at a place
unfoldable pub part_at : List ℕ → ℕ → Option Part
part_at bytes at = part_if (leb (at + 4 + u32_at bytes at) (length bytes)) bytes at
