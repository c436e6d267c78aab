-- The columns are long enough for the numbers.
use mathlib.Core.Path.{sym}
use native.Mathlib.Omega.{arith}
use lib.Seq.{length-take-le}
use Rattle.lookup_vectors.proofs.build_rows.Goals as goal

pub slice_bounds-build-end : goal.slice_bounds-build-end
slice_bounds-build-end g c = sym (length-take-le c.args.m c.args.sources.now (omega (arith, c.if-sources-m.false)))

pub slice_bounds-build-end-2 : goal.slice_bounds-build-end-2
slice_bounds-build-end-2 g c = sym (length-take-le c.args.n c.args.targets.now (omega (arith, c.if-targets-n.false)))
