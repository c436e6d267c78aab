-- Masks: which children of a cell a node one level below it touches, by places.
use Rattle.std.specs.Prelude.{◌≡◌, Bool, true, ℕ, ◌+◌, ◌*◌, ◌/◌, ◌%◌, ◌^◌, ◌<◌, eqb}
use Rattle.places.specs.Places.{step_of, beside}

-- whether bit s of a mask is 1
abbrev pub bit_of : ℕ → ℕ → Bool
bit_of mask s = eqb (mask / 2 ^ s % 2) 1

-- `spot` is the place of a cell, with room to double on each axis, and `place` one a level below it, the cell above which is or touches that cell
pub record Beneath (place spot : ℕ) : Type 0 where
  pub small : place < 1152921504606846976
  pub first : spot % 1048576 < 524288
  pub second : spot / 1048576 % 1048576 < 524288
  pub third : spot / 1099511627776 < 524288
  pub touch : beside spot place 1 ≡ true

-- bit s of a mask tells whether a place touches that of child s of the cell with the place `spot`
abbrev pub MaskOf : ℕ → ℕ → ℕ → Type 0
MaskOf place spot mask = (s : ℕ) → s < 8 → bit_of mask s ≡ beside place (step_of s + 2 * spot) 0
