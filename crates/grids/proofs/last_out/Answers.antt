-- `grids::last_out` meets its contract: the axes from a on do not end outside.
use Rattle.std.proofs.Common.{rules}
use Prim.Native.Nat.{◌-◌}
use native.Mathlib.Omega.{arith}
use Rattle.grids.proofs.Sized.{searched}
use Rattle.grids.proofs.Leaving.{seeking-start, seeking-none, stride-fits, row_fits, seeking-found, seeking-more}
use Rattle.grids.proofs.last_out.Goals as goal

pub loop-a-init : goal.loop-a-init
loop-a-init c = seeking-start c.args.f c.args.g c.requires

pub first_from-to-requires : goal.first_from-to-requires
first_from-to-requires c = (searched c.args.f c.args.g c.requires (c.loop-a.a - 1) (omega (arith, c.loop-a.invariant.within, c.loop-a-test.true)), search rules)

pub offset_bounds-g-a : goal.offset_bounds-g-a
offset_bounds-g-a c = omega (arith, c.loop-a.invariant.within, c.requires.most)

pub bounds-g-a : goal.bounds-g-a
bounds-g-a c = omega (arith, c.loop-a.invariant.within, c.requires.most, c.loop-a-test.true)

pub overflow_mul-result : goal.overflow_mul-result
overflow_mul-result c = omega (arith, row_fits c.args.f c.args.g c.requires c.loop-a.a (c.loop-a.a - 1) c.loop-a.stride c.first_from-to.result c.loop-a.invariant (omega (arith, c.loop-a-test.true)) c.first_from-to.ensures c.if-to-s.true)

pub returns-then-to-s : goal.returns-then-to-s
returns-then-to-s c = seeking-found c.args.f c.args.g c.requires c.loop-a.a (c.loop-a.a - 1) c.loop-a.stride c.first_from-to.result c.loop-a.invariant (omega (arith, c.loop-a-test.true)) c.first_from-to.ensures c.if-to-s.true

pub overflow_mul-stride : goal.overflow_mul-stride
overflow_mul-stride c = omega (arith, stride-fits c.args.f c.args.g c.requires c.loop-a.a (c.loop-a.a - 1) c.loop-a.stride c.first_from-to.result c.loop-a.invariant (omega (arith, c.loop-a-test.true)) c.first_from-to.ensures)

pub loop-a-preserved : goal.loop-a-preserved
loop-a-preserved c = seeking-more c.args.f c.args.g c.requires c.loop-a.a (c.loop-a.a - 1) c.loop-a.stride c.first_from-to.result c.loop-a.invariant (omega (arith, c.loop-a-test.true)) c.first_from-to.ensures c.if-to-s.false

pub returns : goal.returns
returns c = seeking-none c.args.f c.args.g c.requires c.loop-a.a c.loop-a.stride c.loop-a.invariant c.loop-a-test.false
