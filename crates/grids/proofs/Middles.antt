-- Where the upper half of a cell begins on an axis: it is searched for between the ends of the cell's range.
use mathlib.Core.Path.{◌≡◌, refl, sym, ap, ◌∙◌, subst}
use Prim.Native.Nat.{ℕ, suc, ◌+◌, ◌-◌, ◌*◌, ◌%◌, ◌^◌, ◌≤◌, ◌<◌}
use native.Mathlib.Nat.{le_trans, le_of_eq, lt_of_le_of_lt, mul-le-mul_right, mod-eq_of_lt}
use native.Mathlib.Omega.{arith}
use lib.Dec.{lit<}
use Rattle.space.specs.declared.Frame.{Frame}
use Rattle.grids.specs.declared.Grid.{Grid}
use Rattle.grids.specs.Grids.{shape_on}
use Rattle.grids.specs.Ranges.{first_from, Searched, Sought}
use Rattle.grids.specs.Spans.{OnAxis}
use Rattle.grids.proofs.Halving.{first-le}
use Rattle.grids.proofs.Ranged.{below_word, end-le, ends-rise}

doubled : (n : ℕ) → 2 ^ suc n ≡ 2 * 2 ^ n
doubled n = omega arith

-- a cell is two halves wide
pub half-wide : (l : ℕ) → l < 16 → (x : ℕ) → x * 2 ^ (16 - l) ≡ 2 * x * 2 ^ (15 - l)
half-wide l h x =
    let e : 16 - l ≡ suc (15 - l) = omega arith in
    ap (λ (n : ℕ). x * 2 ^ n) e ∙ ap (x *◌) (doubled (15 - l)) ∙ twice x (2 ^ (15 - l))
  where
    twice : (x p : ℕ) → x * (2 * p) ≡ 2 * x * p
    twice x p = omega arith

module _ (level x : ℕ) (l : level < 16) (h : x < 2 ^ level) where
  pub anchor-word : x < 65536
  anchor-word = omega (arith, h, below_word level (omega arith))

  middle-le : (2 * x + 1) * 2 ^ (15 - level) ≤ 65536
  middle-le =
      let e : 15 - level ≡ 16 - (level + 1) = omega arith in
      let s : level + 1 ≡ suc level = omega arith in
      let i : 2 ^ (level + 1) ≡ 2 * 2 ^ level = ap (λ (m : ℕ). 2 ^ m) s ∙ doubled level in
      le_trans (le_of_eq (ap (λ (n : ℕ). (2 * x + 1) * 2 ^ n) e)) (end-le (level + 1) (2 * x + 1) (omega arith) (omega (arith, i, h)))

  -- it wraps nowhere
  pub middle-is : (2 * x + 1) * 2 ^ (15 - level) % 18446744073709551616 ≡ (2 * x + 1) * 2 ^ (15 - level)
  middle-is = mod-eq_of_lt (lt_of_le_of_lt middle-le (lit< tt))

  pub middle-sought : (f : Frame) (g : Grid) (a from to : ℕ) → Searched f g a → OnAxis f g a level x from to → Sought f g a from to ((2 * x + 1) * 2 ^ (15 - level) % 18446744073709551616)
  middle-sought f g a from to S o =
      let p = 2 ^ (15 - level) in
      subst (λ (m : ℕ). Sought f g a from to m) (sym middle-is)
      (record {
        axis = S;
        wall = middle-le;
        low = omega (arith, o.starts, ends-rise f g a (x * 2 ^ (16 - level)) ((2 * x + 1) * p) (le_trans (le_of_eq (half-wide level l x)) (mul-le-mul_right p (omega arith))));
        high = omega (arith, o.ends, ends-rise f g a ((2 * x + 1) * p) ((x + 1) * 2 ^ (16 - level)) (le_trans (mul-le-mul_right p (omega arith)) (le_of_eq (sym (half-wide level l (x + 1))))));
        within = omega (arith, o.ends, first-le f g a ((x + 1) * 2 ^ (16 - level)));
      })
