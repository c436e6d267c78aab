-- The steps between an anchor and its bits d places apart: runs of bits are cut in half and moved apart, or joined again.
use Rattle.std.specs.Prelude.{◌≡◌, ℕ, zero, suc, ◌+◌, ◌-◌, ◌*◌, ◌/◌, ◌%◌, ◌^◌, ◌≤◌}

-- the lowest n runs of w bits of x, each g bits above the one below it
unfoldable pub runs : ℕ → ℕ → ℕ → ℕ → ℕ
runs g w zero x = 0
runs g w (suc n) x = runs g w n (x / 2 ^ w) * 2 ^ g + x % 2 ^ w

-- the places of such runs: every bit of them set
unfoldable pub mask : ℕ → ℕ → ℕ → ℕ
mask g w zero = 0
mask g w (suc n) = mask g w n * 2 ^ g + (2 ^ w - 1)

-- of runs y, a shift s and a mask m: r has the same bits, in runs half as wide and half as far apart
abbrev pub Apart : ℕ → ℕ → ℕ → ℕ → Type 0
Apart y s m r = (w g n x : ℕ) → w ≤ s → g ≡ s + w → (g + g) * n ≤ 64 → m ≡ mask g w (n + n) → y ≡ runs (g + g) (w + w) n x → r ≡ runs g w (n + n) x

-- and back
abbrev pub Together : ℕ → ℕ → ℕ → ℕ → Type 0
Together y s m r = (w g n x : ℕ) → w ≤ s → g ≡ s + w → m ≡ mask (g + g) (w + w) n → y ≡ runs g w (n + n) x → r ≡ runs (g + g) (w + w) n x
