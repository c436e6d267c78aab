-- `balancing::split_among` meets its contract: the nodes that are still to come tell what all tell.
use mathlib.Core.Path.{refl, sym, ◌∙◌}
use native.Mathlib.Omega.{arith}
use Rattle.balancing.proofs.Splits.{node-valid}
use Rattle.balancing.proofs.Forced.{among-end, among-hit, among-outside, among-whole}
use Rattle.balancing.proofs.split_among.Goals as goal
use Rattle.balancing.proofs.split_among.Goals.{else-is_split-via-then-is_split+else-lies_inside, else-is_split-via-else-is_split}

pub loop-i-init : goal.loop-i-init
loop-i-init c = (c.requires.3, refl)

pub lies_inside-requires : goal.lies_inside-requires
lies_inside-requires c = (c.requires.1, node-valid _ _ c.requires.0 _ (omega (arith, c.loop-i-test.true, c.requires.4)), c.requires.2)

pub returns-then-lies_inside : goal.returns-then-lies_inside
returns-then-lies_inside c = sym (among-hit c.args.axes c.args.key.now c.args.r c.loop-i.i c.args.end c.loop-i-test.true (sym c.is_split.ensures ∙ c.if-is_split.true) (sym c.lies_inside.ensures ∙ c.if-lies_inside.true)) ∙ c.loop-i.invariant.1

pub loop-i-preserved : goal.loop-i-preserved
loop-i-preserved c =
    elim c.else-is_split.branch [
      | else-is_split-via-then-is_split+else-lies_inside w ↦ (omega (arith, c.loop-i-test.true), among-outside c.args.axes c.args.key.now c.args.r c.loop-i.i c.args.end c.loop-i-test.true (sym w.lies_inside.ensures ∙ w.if-lies_inside.false) ∙ c.loop-i.invariant.1)
      | else-is_split-via-else-is_split w ↦ (omega (arith, c.loop-i-test.true), among-whole c.args.axes c.args.key.now c.args.r c.loop-i.i c.args.end c.loop-i-test.true (sym c.is_split.ensures ∙ w.if-is_split.false) ∙ c.loop-i.invariant.1)
    ]

pub returns : goal.returns
returns c = sym (among-end c.args.axes c.args.key.now c.args.r c.loop-i.i c.args.end c.loop-i-test.false) ∙ c.loop-i.invariant.1
