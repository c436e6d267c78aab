-- Document 01, "The survey file and the listing": the house file.
use Rattle.std.specs.Prelude.{Bool, ◌&&◌, List, [], ◌∷◌, ◌++◌, ℕ, ◌+◌, ◌-◌, ◌*◌, ◌/◌, ◌%◌, leb, ltb, eqb, Float, length, replicate, Err, Ok}
use Rattle.refusal.specs.declared.Refusal.TheVariants.{Dims, File}
use Rattle.refusal.specs.Chain.{ask, ◌then◌}
use Rattle.morton.specs.Keys.{axes_known}
use Rattle.space.specs.Floats.{nought}
use Rattle.space.specs.Cells.{on_axis}
use Rattle.survey.specs.declared.Survey.{Survey}
use Rattle.survey.specs.Bytes.{u32_at, f64_at, f64s_at}
use Rattle.refusal.specs.Outcome.{Answer, Outcome}

-- Source rows, target rows, then a 64-byte trailer.
module _ (file : List ℕ) where
  -- where the trailer starts
  abbrev pub trailer : ℕ
  trailer = length file - 64

  -- u32 axes, flags, limit, order
  abbrev pub axes : ℕ
  axes = u32_at file trailer

  abbrev pub flags : ℕ
  flags = u32_at file (trailer + 4)

  abbrev pub limit : ℕ
  limit = u32_at file (trailer + 8)

  abbrev pub order : ℕ
  order = u32_at file (trailer + 12)

  -- f64 centre ×3, radius; a centre entry past the axes is not read, and is 0
  abbrev pub centre_entry : ℕ → Float
  centre_entry a = on_axis (ltb a axes) (f64_at file (trailer + 16 + 8 * a))

  abbrev pub radius : Float
  radius = f64_at file (trailer + 40)

  -- u32 bytes from the trailer's start back to sources, source count, bytes back to targets, target count
  abbrev pub back_to_sources : ℕ
  back_to_sources = u32_at file (trailer + 48)

  abbrev pub sources : ℕ
  sources = u32_at file (trailer + 52)

  abbrev pub back_to_targets : ℕ
  back_to_targets = u32_at file (trailer + 56)

  abbrev pub targets : ℕ
  targets = u32_at file (trailer + 60)

  -- room for the trailer, and at most 32,768 bytes
  abbrev pub size_known : Bool
  size_known = leb 64 (length file) && leb (length file) 32768

  -- bit 0 keep-empty, others 0
  abbrev pub flags_known : Bool
  flags_known = eqb (flags / 2) 0

  abbrev pub keep_empty : Bool
  keep_empty = eqb (flags % 2) 1

  -- rows of f64, in bytes
  abbrev pub bytes_of : ℕ → ℕ
  bytes_of rows = rows * axes * 8

  -- the rows fill the file exactly: the sources from its start, then the targets up to the trailer
  abbrev pub rows_fill : Bool
  rows_fill = eqb back_to_sources trailer && (eqb back_to_targets (bytes_of targets) && eqb (bytes_of sources + bytes_of targets) trailer)

  -- 15 FILE at once for the size; 1 DIMS; then 15 FILE
  abbrev pub file_outcome : Outcome
  file_outcome = ask size_known File then ask (axes_known axes) Dims then ask (flags_known && rows_fill) File

  -- what a file that is not refused says
  abbrev pub said : Survey
  said = record {
    b = record { centre = centre_entry 0 ∷ centre_entry 1 ∷ centre_entry 2 ∷ []; radius = radius; axes = axes };
    keep = keep_empty;
    limit = limit;
    order = order;
    sources = sources;
    targets = targets;
  }

  -- what the reader answers
  abbrev pub survey : Answer Survey
  survey = file_outcome then Ok said

  -- no rows after a refusal
  abbrev pub rows_or : Outcome → List Float → List Float
  rows_or (Ok tt) xs = xs
  rows_or (Err r) xs = []

  -- the numbers of the source rows and of the target rows
  abbrev pub source_rows : List Float
  source_rows = rows_or file_outcome (f64s_at file (sources * axes) (trailer - back_to_sources))

  abbrev pub target_rows : List Float
  target_rows = rows_or file_outcome (f64s_at file (targets * axes) (trailer - back_to_targets))

-- xs, and 0 in the unused places up to n
abbrev pub filled_with : ℕ → List Float → List Float
filled_with n xs = xs ++ replicate (n - length xs) nought

-- the number at place i of n that begin at a place, and 0 past them; for the house
abbrev pub entry_at : List ℕ → ℕ → ℕ → ℕ → Float
entry_at file at n i = on_axis (ltb i n) (f64_at file (at + 8 * i))
