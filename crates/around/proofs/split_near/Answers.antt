-- The first i near entries are split, and after a turn one more.
use mathlib.Core.Path.{◌≡◌, sym, ◌∙◌, subst}
use native.Mathlib.Omega.{arith}
use Rattle.around.proofs.Parting.{SplitsTo, split-start, split-few, split-leaf, split-inner}
use Rattle.around.proofs.split_near.Goals as goal
use Rattle.around.proofs.split_near.Goals.{then-has_children, else-has_children}

pub loop-i-init : goal.loop-i-init
loop-i-init c = split-start _ _ _ c.args.near.now _ _ _ _

pub offset_bounds-near-i : goal.offset_bounds-near-i
offset_bounds-near-i c = omega (arith, c.requires.positions.fits, c.loop-i-test.true)

pub bounds-near-i : goal.bounds-near-i
bounds-near-i c = omega (arith, c.requires.positions.fits, c.loop-i-test.true)

pub offset_bounds-nodes-at : goal.offset_bounds-nodes-at
offset_bounds-nodes-at c = omega (arith, c.requires.positions.at _ c.loop-i-test.true)

pub bounds-nodes-at : goal.bounds-nodes-at
bounds-nodes-at c = omega (arith, c.requires.positions.at _ c.loop-i-test.true)

pub has_children-requires : goal.has_children-requires
has_children-requires c = c.requires.positions.inside _ c.loop-i-test.true

pub offset_bounds-inner-k : goal.offset_bounds-inner-k
offset_bounds-inner-k c = omega (arith, c.loop-i.auto.inner, c.requires.in_bounds.0, c.requires.positions.few, c.loop-i-test.true, split-few _ _ _ c.args.near.now _ _ c.loop-i.i (omega (arith, c.requires.positions.fits, c.loop-i-test.true)) _ _ _ _ _ c.loop-i.invariant)

pub bounds-inner-k : goal.bounds-inner-k
bounds-inner-k c = omega (arith, c.loop-i.auto.inner, c.requires.in_bounds.0, c.requires.positions.few, c.loop-i-test.true, split-few _ _ _ c.args.near.now _ _ c.loop-i.i (omega (arith, c.requires.positions.fits, c.loop-i-test.true)) _ _ _ _ _ c.loop-i.invariant)

pub offset_bounds-places-at : goal.offset_bounds-places-at
offset_bounds-places-at c = omega (arith, c.requires.positions.at _ c.loop-i-test.true, c.requires.positions.room)

pub bounds-places-at : goal.bounds-places-at
bounds-places-at c = omega (arith, c.requires.positions.at _ c.loop-i-test.true, c.requires.positions.room)

pub offset_bounds-spots-k : goal.offset_bounds-spots-k
offset_bounds-spots-k c = omega (arith, c.loop-i.auto.spots, c.requires.in_bounds.1, c.requires.positions.few, c.loop-i-test.true, split-few _ _ _ c.args.near.now _ _ c.loop-i.i (omega (arith, c.requires.positions.fits, c.loop-i-test.true)) _ _ _ _ _ c.loop-i.invariant)

pub bounds-spots-k : goal.bounds-spots-k
bounds-spots-k c = omega (arith, c.loop-i.auto.spots, c.requires.in_bounds.1, c.requires.positions.few, c.loop-i-test.true, split-few _ _ _ c.args.near.now _ _ c.loop-i.i (omega (arith, c.requires.positions.fits, c.loop-i-test.true)) _ _ _ _ _ c.loop-i.invariant)

pub overflow_add-k : goal.overflow_add-k
overflow_add-k c = omega (arith, c.requires.positions.few, c.loop-i-test.true, split-few _ _ _ c.args.near.now _ _ c.loop-i.i (omega (arith, c.requires.positions.fits, c.loop-i-test.true)) _ _ _ _ _ c.loop-i.invariant)

pub offset_bounds-key-node : goal.offset_bounds-key-node
offset_bounds-key-node c = omega (arith, c.requires.positions.inside _ c.loop-i-test.true)

pub bounds-key-node : goal.bounds-key-node
bounds-key-node c = omega (arith, c.requires.positions.inside _ c.loop-i-test.true)

pub loop-i-preserved : goal.loop-i-preserved
loop-i-preserved c =
    elim c.if-has_children.branch [
      | then-has_children w ↦ let few = split-few _ _ _ c.args.near.now _ _ c.loop-i.i (omega (arith, c.requires.positions.fits, c.loop-i-test.true)) _ _ _ _ _ c.loop-i.invariant in
          rw (w.owners-is, w.m-is, w.inner-is, w.spots-is, w.k-is) (split-inner _ _ _ c.args.near.now _ _ c.loop-i.i (omega (arith, c.requires.positions.fits, c.loop-i-test.true)) _ _ _ _ _ c.loop-i.invariant (sym c.has_children.ensures ∙ w.if-has_children.true) (omega (arith, c.loop-i.auto.inner, c.requires.in_bounds.0, c.requires.positions.few, c.loop-i-test.true, few)) (omega (arith, c.loop-i.auto.spots, c.requires.in_bounds.1, c.requires.positions.few, c.loop-i-test.true, few)))
      | else-has_children w ↦ rw (w.owners-is, w.m-is, w.inner-is, w.spots-is, w.k-is) (split-leaf _ _ _ c.args.near.now _ _ c.loop-i.i (omega (arith, c.requires.positions.fits, c.loop-i-test.true)) _ _ _ _ _ c.loop-i.invariant (sym c.has_children.ensures ∙ w.if-has_children.false) _ _ w.put-m.ensures)
    ]

pub returns : goal.returns
returns c = let e : c.loop-i.i ≡ c.args.t = omega (arith, c.loop-i.auto.i-end, c.loop-i-test.false) in subst (λ n. SplitsTo c.args.key.now c.args.nodes.now c.args.places.now c.args.near.now c.args.owners.now c.args.o n c.loop-i.owners c.loop-i.m c.loop-i.inner c.loop-i.spots c.loop-i.k) e c.loop-i.invariant
