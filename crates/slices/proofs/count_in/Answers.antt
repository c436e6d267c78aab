-- `slices::count_in` meets its contract: a count between two bounds is a difference of two counts below.
use Rattle.std.proofs.Common.{rules}
use native.Mathlib.Omega.{arith}
use Rattle.slices.proofs.Sorted.{in_is}
use Rattle.slices.proofs.count_in.Goals as goal

pub returns-then-a-b : goal.returns-then-a-b
returns-then-a-b c = record {
  within = omega (arith, c.lower_bound-b.ensures.within);
  counts = λ s. omega (arith, in_is c.args.lo c.args.hi c.args.s.now, c.lower_bound-b.ensures.counts s, c.lower_bound-a.ensures.counts s);
}

pub returns-else-a-b : goal.returns-else-a-b
returns-else-a-b c = record {
  within = search rules;
  counts = λ s. omega (arith, in_is c.args.lo c.args.hi c.args.s.now, c.lower_bound-b.ensures.counts s, c.lower_bound-a.ensures.counts s);
}
