-- `balanced::given_outcome` meets its contract.
use mathlib.Core.Path.{sym, ◌∙◌}
use Rattle.refusal.specs.declared.Refusal.TheVariants.{Source}
use Rattle.refusal.proofs.Chain.{passed-on}
use Rattle.laying.proofs.Inside.{wall-mapped, walled-done}
use Rattle.balanced.proofs.Verdict.{shape-refused, box-fine, known, formed, keys_are, not-tree, partial, outside, not-given, all-given}
use Rattle.balanced.proofs.given_outcome.Goals as goal

pub returns-in_err-shape_outcome : goal.returns-in_err-shape_outcome
returns-in_err-shape_outcome c = passed-on _ _ c.from_residual.ensures.1 ∙ shape-refused c.args.b c.args.points.now c.args.key.now c.args.own.now c.args.begin.now c.args.total.now c.args.indices.now c.shape_outcome.result c.shape_outcome.ensures _ c.in_err-shape_outcome.was

pub returns-then-not-is_well_formed : goal.returns-then-not-is_well_formed
returns-then-not-is_well_formed c = not-tree c.args.b c.args.points.now c.args.key.now c.args.own.now c.args.begin.now c.args.total.now c.args.indices.now c.shape_outcome.result c.shape_outcome.ensures c.in_ok-shape_outcome.was c.is_well_formed.result c.is_well_formed.ensures (c.if-not-is_well_formed.true)

pub is_full-requires : goal.is_full-requires
is_full-requires c = keys_are c.args.b c.args.points.now c.args.key.now c.args.own.now c.args.begin.now c.args.total.now c.args.indices.now c.shape_outcome.result c.shape_outcome.ensures c.in_ok-shape_outcome.was c.is_well_formed.result c.is_well_formed.ensures (c.if-not-is_well_formed.false)

pub returns-then-not-is_full : goal.returns-then-not-is_full
returns-then-not-is_full c = partial c.args.b c.args.points.now c.args.key.now c.args.own.now c.args.begin.now c.args.total.now c.args.indices.now c.shape_outcome.result c.shape_outcome.ensures c.in_ok-shape_outcome.was c.is_well_formed.result c.is_well_formed.ensures (c.if-not-is_well_formed.false) c.is_full.result c.is_full.ensures (c.if-not-is_full.true)

pub first_outside-requires : goal.first_outside-requires
first_outside-requires c = (box-fine c.args.b c.args.points.now c.args.key.now c.args.own.now c.args.begin.now c.args.total.now c.args.indices.now c.shape_outcome.result c.shape_outcome.ensures c.in_ok-shape_outcome.was).least

pub returns-in_err-map_err : goal.returns-in_err-map_err
returns-in_err-map_err c = passed-on _ _ c.from_residual-in_err-map_err.ensures.1 ∙ outside c.args.b c.args.points.now c.args.key.now c.args.own.now c.args.begin.now c.args.total.now c.args.indices.now c.shape_outcome.result c.shape_outcome.ensures c.in_ok-shape_outcome.was c.is_well_formed.result c.is_well_formed.ensures (c.if-not-is_well_formed.false) c.is_full.result c.is_full.ensures (c.if-not-is_full.false) _ (sym (wall-mapped Source _ _ _ c.first_outside.ensures c.map_err.ensures.cases) ∙ c.in_err-map_err.was)

pub points_right-requires : goal.points_right-requires
points_right-requires c = (known c.args.b c.args.points.now c.args.key.now c.args.own.now c.args.begin.now c.args.total.now c.args.indices.now c.shape_outcome.result c.shape_outcome.ensures c.in_ok-shape_outcome.was, formed c.args.b c.args.points.now c.args.key.now c.args.own.now c.args.begin.now c.args.total.now c.args.indices.now c.shape_outcome.result c.shape_outcome.ensures c.in_ok-shape_outcome.was c.is_well_formed.result c.is_well_formed.ensures (c.if-not-is_well_formed.false))

pub returns-then-not-points_right : goal.returns-then-not-points_right
returns-then-not-points_right c = not-given c.args.b c.args.points.now c.args.key.now c.args.own.now c.args.begin.now c.args.total.now c.args.indices.now c.shape_outcome.result c.shape_outcome.ensures c.in_ok-shape_outcome.was c.is_well_formed.result c.is_well_formed.ensures (c.if-not-is_well_formed.false) c.is_full.result c.is_full.ensures (c.if-not-is_full.false) (walled-done Source _ (sym (wall-mapped Source _ _ _ c.first_outside.ensures c.map_err.ensures.cases) ∙ c.in_ok-map_err.was)) c.points_right.result c.points_right.ensures (c.if-not-points_right.true)

pub returns : goal.returns
returns c = all-given c.args.b c.args.points.now c.args.key.now c.args.own.now c.args.begin.now c.args.total.now c.args.indices.now c.shape_outcome.result c.shape_outcome.ensures c.in_ok-shape_outcome.was c.is_well_formed.result c.is_well_formed.ensures (c.if-not-is_well_formed.false) c.is_full.result c.is_full.ensures (c.if-not-is_full.false) (walled-done Source _ (sym (wall-mapped Source _ _ _ c.first_outside.ensures c.map_err.ensures.cases) ∙ c.in_ok-map_err.was)) c.points_right.result c.points_right.ensures (c.if-not-points_right.false)
