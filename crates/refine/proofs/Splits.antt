-- When the targets in a cell split it.
use mathlib.Core.Path.{◌≡◌, sym, ap, ap₂}
use mathlib.Core.Bool.{false}
use mathlib.Core.List.{List}
use Prim.Native.Nat.{ℕ, ◌*◌, ◌^◌, ◌≤◌, ◌<◌}
use native.Mathlib.Nat.{mul-le-mul, mul-le-mul_left, mul-one}
use native.Mathlib.Omega.{arith}
use lib.Dec.{ltb}
use lib.ListN.{length}
use borrow.Author.Tests.{le-ltb}
use Rattle.morton.specs.Keys.{level_of, code_of}
use Rattle.refine.specs.Counts.{targets_in}
use Rattle.refine.specs.Refinement.{near_limit, factor, splits_by, splits_at}
use Rattle.refine.proofs.Peers.{count-at-few}
use Rattle.refine.proofs.Factors.{factor-size}

module _ (d depth limit order : ℕ) (sources targets : List ℕ) (k : ℕ) where
  -- a cell with at most near limit targets does not split on their account
  pub few-stay : targets_in d targets k ≤ near_limit d limit order → splits_at d depth limit order sources targets k ≡ false
  few-stay h =
      le-ltb (near_limit d limit order * factor d depth sources k) (targets_in d targets k)
      (omega (arith, mul-le-mul_left (near_limit d limit order) (factor-size d depth sources k).0, mul-one (near_limit d limit order)))

module _ (d depth limit order : ℕ) (sources : List ℕ) (k near held : ℕ) (en : near ≡ near_limit d limit order) where
  pub few-held : held ≤ near → false ≡ splits_by d depth limit order sources held k
  few-held h =
      sym (le-ltb (near_limit d limit order * factor d depth sources k) held
      (omega (arith, mul-le-mul_left (near_limit d limit order) (factor-size d depth sources k).0, mul-one (near_limit d limit order))))

  pub product-fits : (f : ℕ) → near < held → f ≡ factor d depth sources k → held ≤ 1048576 → near * f < 2 ^ 64
  product-fits f h ef few =
      let a : near ≤ 1048576 = omega arith in
      let b : f ≤ 32 = omega (arith, (factor-size d depth sources k).1) in
      omega (arith, mul-le-mul {n₁ = near} {m₁ = f} {n₂ = 1048576} {m₂ = 32} a b)

  pub splits-is : (f : ℕ) → f ≡ factor d depth sources k → ltb (near * f) held ≡ splits_by d depth limit order sources held k
  splits-is f ef = ap (λ (n : ℕ). ltb n held) (ap₂ (λ (x y : ℕ). x * y) en ef)

-- a cell has no more targets than there are
pub held-few : (d : ℕ) (targets : List ℕ) (k held : ℕ) → held ≡ targets_in d targets k → length targets ≤ 1048576 → held ≤ 1048576
held-few d targets k held e few = omega (arith, count-at-few d targets (level_of k) (code_of k))
