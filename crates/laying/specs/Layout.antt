-- The work of a build, in which the codes of its points are laid out.
use Rattle.std.specs.Prelude.{◌≡◌, List, ℕ, ◌+◌, ◌*◌, Float}
use Rattle.std.proofs.Math.Seq.{slice}
use Rattle.slices.specs.Order.{ascending}
use Rattle.space.specs.declared.Box.{Box}
use Rattle.space.specs.Rows.{rows_of}
use Rattle.laying.specs.Points.{codes_of}

-- behind n free places n codes of sources, then k codes of targets
pub record Laid (n k : ℕ) (sources targets work : List ℕ) : Type 0 where
  pub sources_at : slice n (2 * n) work ≡ sources
  pub targets_begin : slice (2 * n) (2 * n + k) work ≡ targets

-- each point's code, by index
abbrev pub CodesLaid : Box → List Float → List Float → List ℕ → Type 0
CodesLaid b sources targets work = Laid (rows_of b sources) (rows_of b targets) (codes_of b sources) (codes_of b targets) work

-- the sources' by index, the targets' sorted
abbrev pub PointsLaid : Box → List Float → List Float → List ℕ → Type 0
PointsLaid b sources targets work = Laid (rows_of b sources) (rows_of b targets) (codes_of b sources) (ascending (codes_of b targets)) work
