-- The entries of the nodes with children before i are cleared, and after a turn that of node i if it has some.
use native.Mathlib.Omega.{arith}
use mathlib.Core.Path.{sym, ◌∙◌}
use Rattle.near_work.proofs.Counts.{clearing-start, clearing-inner, clearing-leaf, clearing-done}
use Rattle.near_work.proofs.clear_inner.Goals as goal
use Rattle.near_work.proofs.clear_inner.Goals.{then-has_children, else-has_children}

pub loop-i-init : goal.loop-i-init
loop-i-init c = clearing-start _ _ c.requires

pub has_children-requires : goal.has_children-requires
has_children-requires c = c.loop-i-test.true

pub offset_bounds-counts-i : goal.offset_bounds-counts-i
offset_bounds-counts-i c = omega (arith, c.loop-i-test.true, c.well_formed.0)

pub bounds-counts-i : goal.bounds-counts-i
bounds-counts-i c = omega (arith, c.loop-i-test.true, c.requires, c.loop-i.invariant.long)

pub loop-i-preserved : goal.loop-i-preserved
loop-i-preserved c = elim c.if-has_children.branch [
  | then-has_children w ↦ rw w.counts-is (clearing-inner _ _ c.requires _ _ c.loop-i.invariant c.loop-i-test.true (sym c.has_children.ensures ∙ w.if-has_children.true))
  | else-has_children w ↦ rw w.counts-is (clearing-leaf _ _ c.requires _ _ c.loop-i.invariant c.loop-i-test.true (sym c.has_children.ensures ∙ w.if-has_children.false))
]

pub returns : goal.returns
returns c = clearing-done _ _ c.requires _ _ c.loop-i.invariant c.loop-i-test.false
