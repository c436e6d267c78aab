-- The places passed have one number.
use mathlib.Core.Bool.{Bool, true, false}
use mathlib.Core.Path.{◌≡◌, refl, sym, ap, ◌∙◌}
use Prim.Native.Nat.{ℕ, ◌+◌, ◌<◌}
use native.Mathlib.Omega.{arith}
use lib.Dec.{eqb}
use lib.ListN.{get_or}
use borrow.Author.Tests.{eq-eqb, ne_eqb}
use Rattle.slices.specs.Every.{every}
use Rattle.slices.proofs.Every.{every-next, every-none, every-at}
use Rattle.key_vectors.specs.Sameness.{same_numbers}
use Rattle.key_vectors.proofs.calls.same_numbers.Goals as goal

-- one place of n that fails
parted : (p : ℕ → Bool) (n m : ℕ) → m < n → p m ≡ false → every n p ≡ false
parted p n m l h = go (every n p) refl
  where
    go : (t : Bool) → every n p ≡ t → every n p ≡ false
    go true e = let there = every-at p n e m l in cc
    go false e = e

pub loop-n-init : goal.loop-n-init
loop-n-init c = every-none _ 0 refl

pub returns-then-a-n : goal.returns-then-a-n
returns-then-a-n c = sym (parted (λ k. eqb (get_or c.args.a k 0) (get_or c.args.b k 0)) 26 c.loop-n.n c.loop-n-test.true (ne_eqb _ _ c.if-a-n.true))

pub loop-n-preserved : goal.loop-n-preserved
loop-n-preserved c =
    every-next (λ k. eqb (get_or c.args.a k 0) (get_or c.args.b k 0)) (c.loop-n.n + 1) c.loop-n.n refl (eq-eqb _ _ c.if-a-n.false)
    ∙ c.loop-n.invariant

pub returns : goal.returns
returns c = let e : c.loop-n.n ≡ 26 = omega arith in sym c.loop-n.invariant ∙ ap (λ n. same_numbers n c.args.a c.args.b) e
