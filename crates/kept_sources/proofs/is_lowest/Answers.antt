-- `kept_sources::is_lowest` meets its contract.
use mathlib.Core.Path.{refl, sym, ◌∙◌}
use Rattle.morton.proofs.Checks.{valid-facts}
use Rattle.tree.proofs.KeyTests.{three}
use Rattle.kept_sources.proofs.Adding.{low-all, invalid-skip, valid-skip, valid-not}
use Rattle.kept_sources.proofs.is_lowest.Goals as goal
use Rattle.kept_sources.proofs.is_lowest.Goals.{else-is_valid-via-then-is_valid+else-is_below, else-is_valid-via-else-is_valid}

pub loop-x-init : goal.loop-x-init
loop-x-init c = refl

pub is_below-requires : goal.is_below-requires
is_below-requires c = (three _ c.requires, (valid-facts _ _ c.requires (sym c.is_valid.ensures ∙ c.if-is_valid.true)).level)

pub returns-then-is_below : goal.returns-then-is_below
returns-then-is_below c = valid-not c.args.axes c.args.key.now c.args.k c.loop-x.x-index c.loop-x-test.true (sym c.is_valid.ensures ∙ c.if-is_valid.true) (sym c.is_below.ensures ∙ c.if-is_below.true)

pub loop-x-preserved : goal.loop-x-preserved
loop-x-preserved c =
    elim c.else-is_valid.branch [
      | else-is_valid-via-then-is_valid+else-is_below w ↦ valid-skip c.args.axes c.args.key.now c.args.k c.loop-x.x-index c.loop-x-test.true (sym c.is_valid.ensures ∙ w.if-is_valid.true) (sym w.is_below.ensures ∙ w.if-is_below.false) c.loop-x.invariant
      | else-is_valid-via-else-is_valid w ↦ invalid-skip c.args.axes c.args.key.now c.args.k c.loop-x.x-index c.loop-x-test.true (sym c.is_valid.ensures ∙ w.if-is_valid.false) c.loop-x.invariant
    ]

pub returns : goal.returns
returns c = low-all c.args.axes c.args.key.now c.args.k c.loop-x.x-index c.loop-x-test.false c.loop-x.invariant
