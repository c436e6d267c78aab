-- `survey_check::leaf_tally` meets its contract.
use Rattle.survey_check.proofs.Leaves.{known, inner-agrees, inner-additions, near-asked, additions-fit, sums-fit, agrees-here, additions-is, sums-agree}
use borrow.Author.Tests.{not-true, not-false}
use native.Mathlib.Omega.{arith}
use mathlib.Core.Path.{sym, ◌∙◌}
use lib.ListN.{get_or}
use Rattle.survey_check.proofs.leaf_tally.Goals as goal

pub is_leaf-requires : goal.is_leaf-requires
is_leaf-requires c = (known c.args.axes c.args.key.now c.args.own.now c.args.begin.now c.args.total.now c.args.readings.now c.args.indices.now c.args.u_starts.now c.args.u_keys.now c.args.v_starts.now c.args.v_keys.now c.requires.passed, c.requires.before.1.within)

pub returns-then-not-is_leaf : goal.returns-then-not-is_leaf
returns-then-not-is_leaf c = record { leaves = inner-agrees c.args.axes c.args.key.now c.args.own.now c.args.begin.now c.args.total.now c.args.readings.now c.args.indices.now c.args.u_starts.now c.args.u_keys.now c.args.v_starts.now c.args.v_keys.now c.requires.passed (get_or c.args.key.now c.args.node 0) (sym c.is_leaf.ensures ∙ c.if-not-is_leaf.true); additions = inner-additions c.args.axes c.args.key.now c.args.own.now c.args.begin.now c.args.total.now c.args.readings.now c.args.indices.now c.args.u_starts.now c.args.u_keys.now c.args.v_starts.now c.args.v_keys.now c.requires.passed (get_or c.args.key.now c.args.node 0) (sym c.is_leaf.ensures ∙ c.if-not-is_leaf.true); few = omega arith; kept = c.requires.kept_2 }

pub node_part-near-requires : goal.node_part-near-requires
node_part-near-requires c = record { row_asked = near-asked c.args.axes c.args.key.now c.args.own.now c.args.begin.now c.args.total.now c.args.readings.now c.args.indices.now c.args.u_starts.now c.args.u_keys.now c.args.v_starts.now c.args.v_keys.now c.requires.passed c.args.node c.requires.before.1.some c.requires.before.1.within (sym c.is_leaf.ensures ∙ c.if-not-is_leaf.false) c.args.sums.now c.requires.before.0; kept_2 = c.requires.kept_2 }

pub overflow_add-additions : goal.overflow_add-additions
overflow_add-additions c = omega (arith, additions-fit c.args.axes c.args.key.now c.args.own.now c.args.begin.now c.args.total.now c.args.readings.now c.args.indices.now c.args.u_starts.now c.args.u_keys.now c.args.v_starts.now c.args.v_keys.now c.requires.passed c.args.node c.requires.before.1.some c.requires.before.1.within (sym c.is_leaf.ensures ∙ c.if-not-is_leaf.false) c.args.sums.now c.requires.before.0 _ _ c.args.met c.args.listed c.node_part-near.ensures.sum c.node_part-near.ensures.count c.requires.before.1)

pub overflow_add-near : goal.overflow_add-near
overflow_add-near c = omega (arith, sums-fit c.args.axes c.args.key.now c.args.own.now c.args.begin.now c.args.total.now c.args.readings.now c.args.indices.now c.args.u_starts.now c.args.u_keys.now c.args.v_starts.now c.args.v_keys.now c.requires.passed c.args.node c.requires.before.1.some c.requires.before.1.within (sym c.is_leaf.ensures ∙ c.if-not-is_leaf.false) c.args.sums.now c.requires.before.0 _ _ c.args.met c.args.listed c.node_part-near.ensures.sum c.node_part-near.ensures.count c.requires.before.1)

pub offset_bounds-sums-indices : goal.offset_bounds-sums-indices
offset_bounds-sums-indices c = omega (arith, c.requires.before.0.size, c.well_formed.1.1.1.1.1.1.1.0)

pub bounds-sums-indices : goal.bounds-sums-indices
bounds-sums-indices c = c.requires.before.0.size

pub returns-then-near-met : goal.returns-then-near-met
returns-then-near-met c = record { leaves = agrees-here c.args.axes c.args.key.now c.args.own.now c.args.begin.now c.args.total.now c.args.readings.now c.args.indices.now c.args.u_starts.now c.args.u_keys.now c.args.v_starts.now c.args.v_keys.now c.requires.passed c.args.node c.requires.before.1.some c.requires.before.1.within (sym c.is_leaf.ensures ∙ c.if-not-is_leaf.false); additions = additions-is c.args.axes c.args.key.now c.args.own.now c.args.begin.now c.args.total.now c.args.readings.now c.args.indices.now c.args.u_starts.now c.args.u_keys.now c.args.v_starts.now c.args.v_keys.now c.requires.passed c.args.node c.requires.before.1.some c.requires.before.1.within (sym c.is_leaf.ensures ∙ c.if-not-is_leaf.false) c.args.sums.now c.requires.before.0 _ _ c.args.met c.args.listed c.node_part-near.ensures.sum c.node_part-near.ensures.count c.requires.before.1; few = additions-fit c.args.axes c.args.key.now c.args.own.now c.args.begin.now c.args.total.now c.args.readings.now c.args.indices.now c.args.u_starts.now c.args.u_keys.now c.args.v_starts.now c.args.v_keys.now c.requires.passed c.args.node c.requires.before.1.some c.requires.before.1.within (sym c.is_leaf.ensures ∙ c.if-not-is_leaf.false) c.args.sums.now c.requires.before.0 _ _ c.args.met c.args.listed c.node_part-near.ensures.sum c.node_part-near.ensures.count c.requires.before.1; kept = c.node_part-near.ensures.kept }

pub returns : goal.returns
returns c = absurd (c.if-near-met.false (sums-agree c.args.axes c.args.key.now c.args.own.now c.args.begin.now c.args.total.now c.args.readings.now c.args.indices.now c.args.u_starts.now c.args.u_keys.now c.args.v_starts.now c.args.v_keys.now c.requires.passed c.args.node c.requires.before.1.some c.requires.before.1.within (sym c.is_leaf.ensures ∙ c.if-not-is_leaf.false) c.args.sums.now c.requires.before.0 _ _ c.args.met c.args.listed c.node_part-near.ensures.sum c.node_part-near.ensures.count c.requires.before.1))
