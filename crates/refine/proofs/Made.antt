-- The sums of a column's first entries, and the room that they take.
use mathlib.Core.Path.{◌≡◌, sym, ap, ◌∙◌}
use mathlib.Core.List.{List, ◌++◌}
use mathlib.Core.Logic.{⊎_elim}
use Prim.Native.Nat.{ℕ, ◌+◌, ◌*◌, ◌-◌, ◌/◌, ◌%◌, ◌^◌, ◌≤◌, ◌<◌}
use native.Mathlib.Nat.{mul-add, mul-zero}
use native.Mathlib.Omega.{arith}
use lib.Dec.{leb}
use lib.ListN.{length, get_or, take, drop, length-append, length-drop, get_or-append, get_or-eq_default}
use lib.Pow.{shr_lt}
use lib.Seq.{length-take-le}
use Rattle.slices.proofs.Tests.{lt-or-le}
use Rattle.slices.proofs.Sorted.{count-le}
use Rattle.morton.specs.Depth.{reference_depth}
use Rattle.morton.proofs.Checks.{width-le}
use Rattle.refine.proofs.Depths.{cells_are, reference-least}
use Rattle.refine.specs.Cells.{Shifted, CellSums}
use Rattle.refine.specs.Sums.{cells_above, bits_below, Sums, Summable}

-- a shift by at most 16 levels
pub shift_small : (d n : ℕ) → d ≤ 3 → n ≤ 16 → d * n < 64
shift_small d n h l = omega (arith, width-le d n h l)

module _ (d depth : ℕ) (codes column : List ℕ) (g : Summable d depth codes (length column)) where
  pub above-width : d * (depth - 1) ≤ 48
  above-width = width-le d (depth - 1) g.most (omega (arith, g.shallow))

  pub cells-shifted : 1 * 2 ^ (d * (depth - 1)) % 2 ^ 64 ≡ cells_above d depth
  cells-shifted = cells_are d (depth - 1) g.most (omega (arith, g.shallow))

  -- each code's cell is one of those above the depth
  pub shifted : Shifted (bits_below d depth) codes (cells_above d depth)
  shifted = record {
    below = λ i h.
        let e : (depth - 1) + (16 - (depth - 1)) ≡ 16 = omega (arith, g.shallow) in
        let all : d * (depth - 1) + bits_below d depth ≡ d * 16 = sym (mul-add d (depth - 1) (16 - (depth - 1))) ∙ ap (λ (n : ℕ). d * n) e in
        shr_lt (d * (depth - 1)) (bits_below d depth) (rw all (g.below i h));
  }

  -- the entries that are lent for the sums
  pub lent : (n : ℕ) → 0 < length column → n ≡ cells_above d depth → n ≡ length (take n column)
  lent n h e = sym (length-take-le n column (omega (arith, g.some h)))

  pub lent-shifted : (n : ℕ) → 0 < length column → n ≡ cells_above d depth → (bits_below d depth < 64) × Shifted (bits_below d depth) codes (length (take n column))
  lent-shifted n h e = (shift_small d (16 - (depth - 1)) g.most (omega arith), rw (← lent n h e, e) shifted)

  pub none_made : length column ≡ 0 → Sums d depth codes column
  none_made z = record {
    deep = g.deep;
    shallow = g.shallow;
    few = g.few;
    room = λ h. absurd (omega arith);
    each = λ x h. omega (arith, get_or-eq_default column 0 {n = x} (omega arith), count-le (λ c. leb (c / 2 ^ bits_below d depth) x) codes, g.none z);
  }

  pub made : (first : List ℕ) → 0 < length column → length first ≡ cells_above d depth → CellSums (bits_below d depth) codes first
      → (n : ℕ) → n ≡ cells_above d depth → Sums d depth codes (first ++ drop n column)
  made first h e s n m = record {
    deep = g.deep;
    shallow = g.shallow;
    few = g.few;
    room = λ _. omega (arith, length-append first (drop n column), length-drop n column, g.some h);
    each = λ x b. get_or-append first (drop n column) 0 x (omega arith) ∙ s.each x (omega arith);
  }

-- a column with an entry a source has room for the sums at the reference depth
pub summable : (d depth : ℕ) (codes : List ℕ) (room : ℕ) → d ≤ 3 → depth ≡ reference_depth d (length codes) → length codes ≤ 1048576
    → ((i : ℕ) → i < length codes → get_or codes i 0 < 2 ^ (d * 16)) → length codes ≤ room → Summable d depth codes room
summable d depth codes room most e few below fits =
    let least = reference-least d (length codes) in
    record {
      most = most;
      deep = omega (arith, least.from);
      shallow = omega (arith, least.to);
      few = few;
      below = below;
      some = λ h.
          ⊎_elim
          (λ (l : 1 < depth). omega (arith, least.least (depth - 1) (omega arith) (omega arith)))
          (λ (l : depth ≤ 1).
          let z : depth - 1 ≡ 0 = omega arith in
          let o : cells_above d depth ≡ 1 = ap (λ (n : ℕ). 2 ^ (d * n)) z ∙ ap (λ (n : ℕ). 2 ^ n) (mul-zero d) in
          omega arith)
          (lt-or-le 1 depth);
      none = λ z. omega arith;
    }
