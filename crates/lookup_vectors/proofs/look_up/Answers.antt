-- The node columns are long enough for the nodes.
use mathlib.Core.Path.{sym}
use native.Mathlib.Omega.{arith}
use lib.Seq.{length-take-le}
use Rattle.lookup_vectors.proofs.look_up.Goals as goal

pub slice_bounds-points_to_keys-end : goal.slice_bounds-points_to_keys-end
slice_bounds-points_to_keys-end g c = sym (length-take-le c.args.nodes c.args.key.now (omega (arith, c.if-key-nodes.false)))

pub slice_bounds-points_to_keys-end-2 : goal.slice_bounds-points_to_keys-end-2
slice_bounds-points_to_keys-end-2 g c = sym (length-take-le c.args.nodes c.args.own.now (omega (arith, c.if-own-nodes.false)))

pub slice_bounds-points_to_keys-end-3 : goal.slice_bounds-points_to_keys-end-3
slice_bounds-points_to_keys-end-3 g c = sym (length-take-le c.args.nodes c.args.begin.now (omega (arith, c.if-begin-nodes.false)))

pub slice_bounds-points_to_keys-end-4 : goal.slice_bounds-points_to_keys-end-4
slice_bounds-points_to_keys-end-4 g c = sym (length-take-le c.args.nodes c.args.total.now (omega (arith, c.if-total-nodes.false)))
