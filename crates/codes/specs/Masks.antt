-- The masks of four steps, and what the steps give one after another.
use Rattle.std.specs.Prelude.{◌≡◌, ℕ, ◌-◌, ◌*◌, ◌^◌, ◌≤◌, ◌<◌}
use Rattle.codes.specs.declared.Masks.{Masks}
use Rattle.codes.specs.Codes.{spread, anchor}
use Rattle.codes.specs.Runs.{runs, mask}

-- those between n anchors of 16 bits in a word and their bits d places apart
abbrev pub masks_of : ℕ → ℕ → Masks
masks_of d n = record { gap = d - 1; eights = mask (8 * d) 8 (2 * n); fours = mask (4 * d) 4 (4 * n); twos = mask (2 * d) 2 (8 * n); ones = mask d 1 (16 * n) }

-- of masks m and a word y of so many anchors: r is their bits
abbrev pub Spread : Masks → ℕ → ℕ → Type 0
Spread m y r = (d n x : ℕ) → 2 ≤ d → 16 * d * n ≤ 64 → m ≡ masks_of d n → y ≡ runs (16 * d) 16 n x → r ≡ spread d (16 * n) x

-- of masks m and a code c: r is its first axis's anchor
abbrev pub Gathered : Masks → ℕ → ℕ → Type 0
Gathered m c r = (d n : ℕ) → 2 ≤ d → 1 ≤ n → m ≡ masks_of d n → c < 2 ^ (d * 16) → r ≡ anchor d 0 16 c
