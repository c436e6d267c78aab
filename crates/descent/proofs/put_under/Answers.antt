-- `descent::put_under` meets its contract. The owners under the nodes passed have been put.
use native.Mathlib.Omega.{arith}
use Rattle.descent.proofs.Below.{none_below, more-below, all-below}
use Rattle.descent.proofs.put_under.Goals as goal

pub loop-j-init : goal.loop-j-init
loop-j-init c = none_below _ _ _ _ _ c.requires.0 _ _ _ c.requires.1 _ _

pub offset_bounds-nodes-j : goal.offset_bounds-nodes-j
offset_bounds-nodes-j c = omega (arith, c.loop-j-test.true, c.requires.1.few)

pub bounds-nodes-j : goal.bounds-nodes-j
bounds-nodes-j c = omega (arith, c.loop-j-test.true, c.requires.1.few)

pub cell_step-m-requires : goal.cell_step-m-requires
cell_step-m-requires c = (c.requires.0, c.requires.1.each _ c.loop-j-test.true)

pub loop-j-preserved : goal.loop-j-preserved
loop-j-preserved c = more-below _ _ _ _ _ c.requires.0 _ _ _ c.requires.1 _ c.loop-j-test.true _ _ _ _ _ _ c.loop-j.invariant c.cell_step-m.ensures

pub returns : goal.returns
returns c = all-below _ _ _ _ _ c.requires.0 _ _ _ c.requires.1 _ c.loop-j.auto.j-end c.loop-j-test.false _ _ _ _ c.loop-j.invariant
