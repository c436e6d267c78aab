-- `grow::child_at` meets its contract.
use mathlib.Core.Path.{refl, sym, ap, subst, ◌∙◌}
use native.Mathlib.Omega.{arith}
use Prim.Native.Nat.{ℕ, ◌^◌, ◌≤◌, ◌<◌}
use lib.ListN.{take, drop}
use lib.Pow.{pow_mono}
use Rattle.slices.specs.Lists.{sum}
use Rattle.morton.proofs.Arithmetic.{one_shifted}
use Rattle.grow.proofs.child_at.Goals as goal

pub sum_of-sum-requires : goal.sum_of-sum-requires
sum_of-sum-requires c = let is = one_shifted c.args.axes (omega (arith, c.requires.0.most)) in (omega (arith, is, c.requires.3), subst (λ (n : ℕ). sum (take n (drop c.args.a c.args.counts.now)) < 18446744073709551616) (sym is) c.requires.4)

pub bounds-to-a : goal.bounds-to-a
bounds-to-a c = let two : 2 ^ 1 ≤ 2 ^ c.args.axes = pow_mono c.requires.0.some in omega (arith, c.requires.3)

pub returns : goal.returns
returns c = let is = one_shifted c.args.axes (omega (arith, c.requires.0.most)) in (c.child_of-key.ensures, c.sum_of-sum.ensures ∙ ap (λ (n : ℕ). sum (take n (drop c.args.a c.args.counts.now))) is, refl)
