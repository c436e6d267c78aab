-- A cell at or below the reference depth, and its ancestor one level above that depth.
use mathlib.Core.Path.{◌≡◌, sym, ap, ap₂, ◌∙◌}
use mathlib.Core.Logic.{⊎_elim}
use Prim.Native.Nat.{ℕ, ◌+◌, ◌*◌, ◌-◌, ◌/◌, ◌^◌, ◌≤◌, ◌<◌}
use native.Mathlib.Nat.{mul-add}
use native.Mathlib.Omega.{arith}
use lib.Pow.{shr_lt, shr_le}
use borrow.Author.Tests.{le-leb, lt-leb}
use Rattle.slices.proofs.Tests.{lt-or-le}
use Rattle.morton.specs.Keys.{level_of, code_of, key, above, ValidKey}
use Rattle.morton.proofs.Checks.{width-le}
use Rattle.morton.proofs.Cells.{key-level, key-code}
use Rattle.morton.proofs.Arithmetic.{code-48}
use Rattle.refine.specs.Refinement.{lifted}

module _ (d depth k : ℕ) (v : ValidKey d k) (deep : 1 ≤ depth) where
  pub lift-stays : level_of k < depth → k ≡ lifted d depth k
  lift-stays h = rw (lt-leb depth (level_of k) h)

  ancestor : ℕ
  ancestor = key (depth - 1) (above d (level_of k - (depth - 1)) (code_of k))

  lift-moves : depth ≤ level_of k → ancestor ≡ lifted d depth k
  unfolding ancestor
  lift-moves h = rw (le-leb depth (level_of k) h)

  pub lift-width : d * (level_of k - (depth - 1)) ≤ 48
  lift-width = width-le d (level_of k - (depth - 1)) v.most (omega (arith, v.level))

  -- what the code computes of a level and a code
  pub lift-fits : (level code : ℕ) → level ≡ level_of k → code ≡ code_of k → depth ≤ level
      → code / 2 ^ (d * (level - (depth - 1))) * 32768 + (depth - 1) < 2 ^ 64
  lift-fits level code el ec h = omega (arith, shr_le code (d * (level - (depth - 1))), code-48 d k v, v.level)

  pub lift-is : (level code : ℕ) → level ≡ level_of k → code ≡ code_of k → depth ≤ level
      → code / 2 ^ (d * (level - (depth - 1))) * 32768 + (depth - 1) ≡ lifted d depth k
  unfolding ancestor
  lift-is level code el ec h =
      ap₂ (λ (l x : ℕ). x / 2 ^ (d * (l - (depth - 1))) * 32768 + (depth - 1)) el ec ∙ lift-moves (omega arith)

  ancestor-valid : depth ≤ level_of k → ValidKey d ancestor
  unfolding ancestor
  ancestor-valid h =
      let e : (depth - 1) + (level_of k - (depth - 1)) ≡ level_of k = omega arith in
      let bits : d * (depth - 1) + d * (level_of k - (depth - 1)) ≡ d * level_of k = sym (mul-add d (depth - 1) (level_of k - (depth - 1))) ∙ ap (λ (n : ℕ). d * n) e in
      let lt : code_of k < 2 ^ (d * (depth - 1) + d * (level_of k - (depth - 1))) = rw bits v.code in
      let low : depth - 1 < 32768 = omega (arith, v.level) in
      record {
        some = v.some;
        most = v.most;
        level = rw (key-level (depth - 1) (above d (level_of k - (depth - 1)) (code_of k)) low) (omega (arith, v.level));
        code = rw (key-level (depth - 1) (above d (level_of k - (depth - 1)) (code_of k)) low, key-code (depth - 1) (above d (level_of k - (depth - 1)) (code_of k)) low) (shr_lt (d * (depth - 1)) (d * (level_of k - (depth - 1))) lt);
      }

  -- it is a valid key too
  pub lift-valid : ValidKey d (lifted d depth k)
  lift-valid = ⊎_elim (λ h. rw (← lift-stays h) v) (λ h. rw (← lift-moves h) (ancestor-valid h)) (lt-or-le (level_of k) depth)

  -- one level above the depth
  pub lift-level : depth ≤ level_of k → level_of (lifted d depth k) ≡ depth - 1
  unfolding ancestor
  lift-level h = ap level_of (sym (lift-moves h)) ∙ key-level (depth - 1) (above d (level_of k - (depth - 1)) (code_of k)) (omega (arith, v.level))
