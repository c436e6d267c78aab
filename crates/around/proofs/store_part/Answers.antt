-- `around::store_part` meets its contract.
use Rattle.std.proofs.Common.{rules}
use mathlib.Core.Path.{refl}
use Prim.Native.Nat.{◌/◌, ◌%◌, ◌^◌}
use native.Mathlib.Omega.{arith}
use lib.ListN.{get_or}
use Rattle.around.proofs.store_part.Goals as goal

pub offset_bounds-masks-j : goal.offset_bounds-masks-j
offset_bounds-masks-j c = omega (arith, c.requires.masked)

pub bounds-masks-j : goal.bounds-masks-j
bounds-masks-j c = omega (arith, c.requires.masked)

pub overflow_shr-bit : goal.overflow_shr-bit
overflow_shr-bit c = omega (arith, c.requires.index)

pub offset_bounds-nodes-j : goal.offset_bounds-nodes-j
offset_bounds-nodes-j c = omega (arith, c.requires.entry)

pub bounds-nodes-j : goal.bounds-nodes-j
bounds-nodes-j c = omega (arith, c.requires.entry)

pub offset_bounds-key-nodes : goal.offset_bounds-key-nodes
offset_bounds-key-nodes c = omega (arith, c.requires.inside)

pub bounds-key-nodes : goal.bounds-key-nodes
bounds-key-nodes c = omega (arith, c.requires.inside)

pub offset_bounds-far-m : goal.offset_bounds-far-m
offset_bounds-far-m c = omega (arith, c.requires.room)

pub bounds-far-m : goal.bounds-far-m
bounds-far-m c = omega (arith, c.requires.room)

pub offset_bounds-near-t : goal.offset_bounds-near-t
offset_bounds-near-t c = omega (arith, c.requires.more)

pub bounds-near-t : goal.bounds-near-t
bounds-near-t c = omega (arith, c.requires.more)

pub overflow_add-result : goal.overflow_add-result
overflow_add-result c = search rules

pub overflow_add-result-2 : goal.overflow_add-result-2
overflow_add-result-2 c = search rules

pub returns : goal.returns
returns c = record { key = refl; position = refl; touches = get_or c.args.masks.now c.args.j 0 / 2 ^ c.args.s % 2; few = omega arith; tells = refl; counted = refl; found = refl }
