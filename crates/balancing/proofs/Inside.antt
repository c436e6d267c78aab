-- The test of one cell against the block of another, axis by axis.
use mathlib.Core.Path.{◌≡◌, refl, sym, ap, ◌∙◌}
use mathlib.Core.Bool.{Bool, true, false, ◌&&◌}
use Prim.Native.Nat.{ℕ, ◌+◌, ◌*◌, ◌-◌, ◌^◌, ◌≤◌, ◌<◌}
use native.Mathlib.Omega.{arith}
use native.Mathlib.Nat.{mul-le-mul}
use lib.Dec.{leb, ltb}
use lib.Pow.{pow_mono}
use borrow.Author.Tests.{lt-ltb, le-ltb, le-leb, lt-leb}
use Rattle.slices.specs.Every.{every}
use Rattle.slices.proofs.Every.{every-fails, every-next, every-none}
use Rattle.morton.specs.Keys.{level_of, code_of}
use Rattle.morton.specs.Anchors.{anchor}
use Rattle.balance.specs.Splitting.{off, inside}

-- the products of the test fit
pub small : (n s : ℕ) → n ≤ 16 → s ≡ 2 ^ n → s ≤ 65536
small n s h e = omega (arith, pow_mono {i = n} {j = 16} h)

pub products : (n r s : ℕ) → n ≤ 16 → r < 65536 → s ≡ 2 ^ n → (r * s ≤ 4294967296) × ((r + 2) * s ≤ 4295098368)
products n r s h l e =
    let b = small n s h e in
    let r1 : r ≤ 65536 = omega arith in
    let r2 : r + 2 ≤ 65538 = omega arith in
    let p : r * s ≤ 65536 * 65536 = mul-le-mul r1 b in
    let q : (r + 2) * s ≤ 65538 * 65536 = mul-le-mul r2 b in
    (p, q)

pub off-low : (n r p s : ℕ) → s ≡ 2 ^ n → p + s ≤ r * s → false ≡ off n r p
off-low n r p s e h = let l : p + 2 ^ n ≤ r * 2 ^ n = rw e at h in rw (le-ltb (r * 2 ^ n) (p + 2 ^ n) l)

pub off-high : (n r p s : ℕ) → s ≡ 2 ^ n → r * s < p + s → ltb (p + 1) ((r + 2) * s) ≡ off n r p
off-high n r p s e h = let l : r * 2 ^ n < p + 2 ^ n = rw e at h in rw (lt-ltb (r * 2 ^ n) (p + 2 ^ n) l, e)

module _ (d r p : ℕ) where
  -- the test on one axis
  abbrev pub test : ℕ → Bool
  test a = off (level_of p - level_of r) (anchor d a (level_of r) (code_of r)) (anchor d a (level_of p) (code_of p))

  pub larger : level_of p < level_of r → false ≡ inside d r p
  unfolding inside
  larger h = rw (lt-leb (level_of r) (level_of p) h)

  pub by-axes : level_of r ≤ level_of p → every d test ≡ inside d r p
  unfolding inside
  by-axes h = rw (le-leb (level_of r) (level_of p) h)

  module _ (n m : ℕ) (e : n ≡ m + 1) (b : Bool) (q : b ≡ test m) (h : every n test ≡ inside d r p) where
    pub axis-fails : b ≡ false → false ≡ inside d r p
    axis-fails f = sym (every-fails test n m e (sym q ∙ f)) ∙ h

    pub axis-passes : b ≡ true → every m test ≡ inside d r p
    axis-passes f = sym (every-next test n m e (sym q ∙ f)) ∙ h

  pub axes-done : (n : ℕ) → n ≤ 0 → every n test ≡ inside d r p → true ≡ inside d r p
  axes-done n l h = sym (every-none test n (omega arith)) ∙ h
