-- `grids::first_out` meets its contract: no axis before a starts outside.
use mathlib.Core.Path.{◌≡◌, refl, sym, ap, ◌∙◌}
use Prim.Native.Nat.{◌+◌}
use native.Mathlib.Omega.{arith}
use Rattle.grids.specs.Exits.{starts_out, first_of}
use Rattle.grids.proofs.Sized.{searched}
use Rattle.grids.proofs.Leaving.{first-start, first_next, first_found}
use Rattle.grids.proofs.first_out.Goals as goal

pub loop-a-init : goal.loop-a-init
loop-a-init c = first-start (starts_out c.args.f c.args.g)

pub starts_out-requires : goal.starts_out-requires
starts_out-requires c = searched c.args.f c.args.g c.requires c.loop-a.a c.loop-a-test.true

pub returns-then-starts_out : goal.returns-then-starts_out
returns-then-starts_out c = first_found (starts_out c.args.f c.args.g) c.loop-a.a c.args.f.axes c.loop-a-test.true c.loop-a.invariant (sym c.starts_out.ensures ∙ c.if-starts_out.true)

pub loop-a-preserved : goal.loop-a-preserved
loop-a-preserved c = first_next (starts_out c.args.f c.args.g) c.loop-a.a (c.loop-a.a + 1) refl c.loop-a.invariant (sym c.starts_out.ensures ∙ c.if-starts_out.false)

pub returns : goal.returns
returns c = let e : c.loop-a.a ≡ c.args.f.axes = omega arith in
    sym c.loop-a.invariant ∙ ap (first_of (starts_out c.args.f c.args.g)) e
