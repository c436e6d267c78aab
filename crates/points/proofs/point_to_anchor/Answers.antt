-- `points::point_to_anchor` meets its contract: the refusals in their order, and the cells nest (`proofs/Nesting.antt`).
use Rattle.std.proofs.Common.{rules}
use mathlib.Core.Path.{◌≡◌, sym, ap, ◌∙◌}
use Prim.Native.Nat.{◌≤◌}
use native.Mathlib.Omega.{arith}
use lib.ListN.{length}
use borrow.Author.Tests.{not-true, not-false}
use Rattle.space.specs.Cells.{frame_of, located_of}
use Rattle.space.proofs.Points.{located-in, located-out}
use Rattle.space.proofs.Refusals.{Fine, level-done}
use Rattle.points.proofs.Checked.{point-refused, point-out}
use Rattle.points.proofs.Answers.{refused-anchors, done-anchors}
use Rattle.points.proofs.point_to_anchor.Goals as goal

pub locate-requires : goal.locate-requires
locate-requires c =
    let done : Fine c.args.b × (c.args.level ≤ 16) = level-done c.args.b c.args.level (sym c.level_outcome.ensures ∙ c.in_ok-level_outcome.was) in
    let n : length c.args.point ≡ 3 = search rules in
    omega (arith, done.0.most, ap (λ f. f.axes) c.frame_of.ensures, n)

pub outside-requires : goal.outside-requires
outside-requires c = (level-done c.args.b c.args.level (sym c.level_outcome.ensures ∙ c.in_ok-level_outcome.was)).0.most

pub returns-in_default : goal.returns-in_default
returns-in_default c =
    let out = located-out (frame_of c.args.b) c.args.point (sym c.in_default.is ∙ c.locate.ensures ∙ ap (λ f. located_of f c.args.point) c.frame_of.ensures) in
    record { value = refused-anchors c.args.b c.args.point c.args.level c.outside.result (point-out c.args.b c.args.point c.args.level c.outside.result c.outside.ensures (sym c.level_outcome.ensures ∙ c.in_ok-level_outcome.was) out); nests = tt }

pub overflow_sub-up : goal.overflow_sub-up
overflow_sub-up c = omega (arith, (level-done c.args.b c.args.level (sym c.level_outcome.ensures ∙ c.in_ok-level_outcome.was)).1)

pub returns : goal.returns
returns c =
    let done : Fine c.args.b × (c.args.level ≤ 16) = level-done c.args.b c.args.level (sym c.level_outcome.ensures ∙ c.in_ok-level_outcome.was) in
    let i = located-in (frame_of c.args.b) c.args.point c.in-Some.anchor (sym c.in-Some.is ∙ c.locate.ensures ∙ ap (λ f. located_of f c.args.point) c.frame_of.ensures) in
    let all = done-anchors c.args.b c.args.point c.args.level c.in-Some.anchor done.0 c.well_formed.0.1.1.1.0.1 done.1 (sym c.level_outcome.ensures ∙ c.in_ok-level_outcome.was) i.0 i.1 in
    record { value = all.0; nests = all.1 }
