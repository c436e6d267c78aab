-- The ends of a cell's ranges on the axes, and products of ranges.
use mathlib.Core.Path.{◌≡◌, refl, sym, ap, ap₂, ◌∙◌, subst}
use mathlib.Core.Bool.{Bool, true, false}
use mathlib.Core.List.{List}
use Prim.Native.Nat.{ℕ, zero, suc, ◌+◌, ◌-◌, ◌*◌, ◌%◌, ◌^◌, ◌≤◌, ◌<◌}
use native.Mathlib.Nat.{zero-add, le_trans, le_of_eq, lt_of_le_of_lt, mul-le-mul, mul-le-mul_right, mod-eq_of_lt, sub-le}
use native.Mathlib.Omega.{arith}
use lib.Dec.{leb, lit<}
use lib.ListN.{get_or}
use lib.Pow.{pow-add, pow_mono}
use borrow.Author.Tests.{leb-true, le-leb}
use Rattle.slices.specs.Lists.{bit, filled}
use Rattle.codes.proofs.Codes.{anchor-lt}
use Rattle.morton.specs.Keys.{level_of, code_of}
use Rattle.morton.specs.Anchors.{anchor, anchors}
use Rattle.anchors.proofs.Placing.{held_at}
use Rattle.space.specs.declared.Frame.{Frame}
use Rattle.grids.specs.declared.Grid.{Grid}
use Rattle.grids.specs.Grids.{shape_on, product}
use Rattle.grids.specs.Ranges.{step_on, tally, first_from, range_in, grid_count, Fitting}
use Rattle.grids.proofs.Products.{earlier, product-more, product-none}
use Rattle.grids.proofs.Halving.{first-le}
use Rattle.grids.proofs.Sized.{shapes}

pub below_word : (level : ℕ) → level ≤ 16 → 2 ^ level ≤ 65536
below_word level h = pow_mono h

-- ---- an end of a range: x * 2 ^ (16 - level) is at most 65536, so it wraps nowhere
module _ (level x : ℕ) (l : level ≤ 16) (h : x ≤ 2 ^ level) where
  pub end-le : x * 2 ^ (16 - level) ≤ 65536
  end-le =
      let e : level + (16 - level) ≡ 16 = omega arith in
      le_trans (mul-le-mul_right (2 ^ (16 - level)) h) (le_of_eq (sym (pow-add 2 level (16 - level)) ∙ ap (λ (n : ℕ). 2 ^ n) e))

  pub end_is : x * 2 ^ (16 - level) % 18446744073709551616 ≡ x * 2 ^ (16 - level)
  end_is = mod-eq_of_lt (lt_of_le_of_lt end-le (lit< tt))

  pub end-in : x * 2 ^ (16 - level) % 18446744073709551616 ≤ 65536
  end-in = le_trans (le_of_eq end_is) end-le

-- ---- the ends are in order
tally-more : (p q : ℕ → Bool) (n : ℕ) → ((i : ℕ) → p i ≡ true → q i ≡ true) → tally p n ≤ tally q n
unfolding tally
tally-more p q zero h = omega arith
tally-more p q (suc n) h = go (p n) refl (q n) refl (tally-more p q n h)
  where
    go : (t : Bool) → p n ≡ t → (u : Bool) → q n ≡ u → tally p n ≤ tally q n → bit t + tally p n ≤ bit u + tally q n
    go false e true i k = omega arith
    go false e false i k = omega arith
    go true e true i k = omega arith
    go true e false i k = let z : ◌≡◌ {A = ℕ} 0 1 = clash (h n e) i in omega arith
      where
        clash : {b : Bool} → b ≡ true → b ≡ false → ◌≡◌ {A = ℕ} 0 1
        clash p q = cc

module _ (f : Frame) (g : Grid) (a : ℕ) where
  pub ends-rise : (x y : ℕ) → x ≤ y → first_from f g a x ≤ first_from f g a y
  unfolding first_from
  ends-rise x y h = tally-more (λ i. leb (step_on f g a i) x) (λ i. leb (step_on f g a i) y) (shape_on g a) (λ i e. le-leb (step_on f g a i) y (omega (arith, leb-true (step_on f g a i) x e)))

  pub range-le : (level x : ℕ) → range_in f g a level x ≤ shape_on g a
  range-le level x = le_trans (sub-le (first_from f g a ((x + 1) * 2 ^ (16 - level))) (first_from f g a (x * 2 ^ (16 - level)))) (first-le f g a ((x + 1) * 2 ^ (16 - level)))

-- ---- products of smaller numbers are smaller
pub products-le : (p q : ℕ → ℕ) (n : ℕ) → ((a : ℕ) → a < n → p a ≤ q a) → product p 0 n ≤ product q 0 n
unfolding product
products-le p q zero h = le_of_eq refl
products-le p q (suc n) h = mul-le-mul (products-le p q n (λ a l. h a (omega arith))) (subst (λ (b : ℕ). p b ≤ q b) (sym (zero-add n)) (h n (omega arith)))
