-- `extents::calculate_tree_center_and_radius` meets its contract: the refusals in their order.
use mathlib.Core.Path.{sym, ap, ap₂, ◌∙◌}
use Prim.Native.Nat.{◌/◌}
use lib.ListN.{length}
use borrow.Author.Tests.{not-true, not-false}
use Rattle.std.specs.Prelude.{Ok}
use Rattle.refusal.specs.Outcome.{Outcome}
use Rattle.refusal.specs.Chain.{◌then◌}
use Rattle.refusal.proofs.Chain.{passed-on}
use Rattle.space.specs.Domain.{box_outcome}
use Rattle.extents.specs.Extents.{box_from}
use Rattle.extents.proofs.Spans.{halves-fit, length-off, finite-off, box-found}
use Rattle.extents.proofs.calculate_tree_center_and_radius.Goals as goal

pub returns-then-not-length_known : goal.returns-then-not-length_known
returns-then-not-length_known c = length-off c.args.extents.now c.length_known.result c.length_known.ensures (c.if-not-length_known.true)

pub returns-then-not-all_finite : goal.returns-then-not-all_finite
returns-then-not-all_finite c = finite-off c.args.extents.now c.length_known.result c.length_known.ensures (c.if-not-length_known.false) c.all_finite.result c.all_finite.ensures (c.if-not-all_finite.true)

pub box_from-b-requires : goal.box_from-b-requires
box_from-b-requires c = halves-fit c.args.extents.now

pub returns : goal.returns
returns c = ap₂ (λ (p : Outcome) b. p then Ok b) (sym c.in_ok-box_outcome.was) c.box_from-b.ensures
    ∙ box-found c.args.extents.now c.length_known.result c.length_known.ensures (c.if-not-length_known.false) c.all_finite.result c.box_outcome.result c.all_finite.ensures (c.if-not-all_finite.false) (c.box_outcome.ensures ∙ ap box_outcome c.box_from-b.ensures)

pub returns-in_err-box_outcome : goal.returns-in_err-box_outcome
returns-in_err-box_outcome c = passed-on _ _ c.from_residual.ensures.1 ∙ ap (λ (p : Outcome). p then Ok (box_from c.args.extents.now (length c.args.extents.now / 2))) (sym c.in_err-box_outcome.was)
    ∙ box-found c.args.extents.now c.length_known.result c.length_known.ensures (c.if-not-length_known.false) c.all_finite.result c.box_outcome.result c.all_finite.ensures (c.if-not-all_finite.false) (c.box_outcome.ensures ∙ ap box_outcome c.box_from-b.ensures)
