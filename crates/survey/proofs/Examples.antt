-- The file of document 01's example, byte by byte, and what the definitions read in it.
use mathlib.Core.Path.{◌≡◌, refl}
use mathlib.Core.Bool.{false}
use mathlib.Core.List.{List, [], ◌∷◌, ◌++◌}
use Prim.Native.Nat.{ℕ}
use lib.IntN.{pos, negsuc}
use lib.Ieee.{fin, nan, binary64, of_bits}
use Rattle.refusal.specs.declared.Refusal.TheVariants.{File}
use Rattle.survey.specs.Bytes.{number_at, f64_at, f64s_at}
use Rattle.space.specs.Floats.{nought}
use Rattle.survey.specs.File.{file_outcome, survey, source_rows, target_rows}
use Rattle.std.specs.Prelude.{Err, Ok}

-- sources 0.5, 1.5, 6.5, 7.5
abbrev rows : List ℕ
rows = 0 ∷ 0 ∷ 0 ∷ 0 ∷ 0 ∷ 0 ∷ 224 ∷ 63 ∷ 0 ∷ 0 ∷ 0 ∷ 0 ∷ 0 ∷ 0 ∷ 248 ∷ 63 ∷ 0 ∷ 0 ∷ 0 ∷ 0 ∷ 0 ∷ 0 ∷ 26 ∷ 64 ∷ 0 ∷ 0 ∷ 0 ∷ 0 ∷ 0 ∷ 0 ∷ 30 ∷ 64 ∷ []

-- one axis, flags 0, limit 1, order 1; centre 4, radius 4; 32 bytes back to four sources, 0 back to no targets
abbrev trailer₁ : List ℕ
trailer₁ = 1 ∷ 0 ∷ 0 ∷ 0 ∷ 0 ∷ 0 ∷ 0 ∷ 0 ∷ 1 ∷ 0 ∷ 0 ∷ 0 ∷ 1 ∷ 0 ∷ 0 ∷ 0 ∷ 0 ∷ 0 ∷ 0 ∷ 0 ∷ 0 ∷ 0 ∷ 16 ∷ 64 ∷ 0 ∷ 0 ∷ 0 ∷ 0 ∷ 0 ∷ 0 ∷ 0 ∷ 0 ∷ 0 ∷ 0 ∷ 0 ∷ 0 ∷ 0 ∷ 0 ∷ 0 ∷ 0 ∷ 0 ∷ 0 ∷ 0 ∷ 0 ∷ 0 ∷ 0 ∷ 16 ∷ 64 ∷ 32 ∷ 0 ∷ 0 ∷ 0 ∷ 4 ∷ 0 ∷ 0 ∷ 0 ∷ 0 ∷ 0 ∷ 0 ∷ 0 ∷ 0 ∷ 0 ∷ 0 ∷ 0 ∷ []

pub said₁ : survey (rows ++ trailer₁) ≡ Ok (record { b = record { centre = fin false 1 (pos 2) ∷ nought ∷ nought ∷ []; radius = fin false 1 (pos 2); axes = 1 }; keep = false; limit = 1; order = 1; sources = 4; targets = 0 })
unfolding number_at of_bits
said₁ = refl

pub rows₁ : source_rows (rows ++ trailer₁) ≡ fin false 1 (negsuc 0) ∷ fin false 3 (negsuc 0) ∷ fin false 13 (negsuc 0) ∷ fin false 15 (negsuc 0) ∷ []
unfolding number_at f64s_at of_bits
rows₁ = refl

pub no-targets₁ : target_rows (rows ++ trailer₁) ≡ []
unfolding number_at f64s_at of_bits
no-targets₁ = refl

-- one byte more than the rows and the trailer
pub gap₁ : file_outcome (0 ∷ rows ++ trailer₁) ≡ Err File
unfolding number_at
gap₁ = refl

-- a NaN with its sign and its digits set
pub nan₁ : f64_at (1 ∷ 0 ∷ 0 ∷ 0 ∷ 0 ∷ 0 ∷ 240 ∷ 255 ∷ []) 0 ≡ nan
unfolding number_at of_bits
nan₁ = refl
