-- `points::point_to_key` meets its contract: the refusals in their order, and a level's code is the level-16 code divided (`proofs/Nesting.antt`).
use Rattle.std.proofs.Common.{rules}
use mathlib.Core.Path.{◌≡◌, sym, ap, ◌∙◌}
use mathlib.Core.Bool.{true}
use Prim.Native.Nat.{ℕ, ◌-◌, ◌*◌, ◌/◌, ◌^◌, ◌≤◌, ◌<◌}
use native.Mathlib.Nat.{mul-le-mul, lt_of_le_of_lt, le_of_eq}
use native.Mathlib.Omega.{arith}
use lib.ListN.{length}
use lib.Pow.{shr_le}
use borrow.Author.Tests.{not-true, not-false}
use Rattle.codes.specs.Codes.{encode}
use Rattle.space.specs.Cells.{frame_of, inside, anchors16, code16, located_of}
use Rattle.space.proofs.Points.{located-in, located-out, two_bytes, place_in, placed-in, code-small}
use Rattle.space.proofs.Refusals.{Fine, level-done}
use Rattle.points.proofs.Checked.{point-refused, point-out}
use Rattle.points.proofs.Answers.{refused-key, done-key}
use Rattle.points.proofs.point_to_key.Goals as goal

pub locate-requires : goal.locate-requires
locate-requires c =
    let done : Fine c.args.b × (c.args.level ≤ 16) = level-done c.args.b c.args.level (sym c.level_outcome.ensures ∙ c.in_ok-level_outcome.was) in
    let n : length c.args.point ≡ 3 = search rules in
    omega (arith, done.0.most, ap (λ f. f.axes) c.frame_of.ensures, n)

pub outside-refusal-requires : goal.outside-refusal-requires
outside-refusal-requires c =
    let done : Fine c.args.b × (c.args.level ≤ 16) = level-done c.args.b c.args.level (sym c.level_outcome.ensures ∙ c.in_ok-level_outcome.was) in
    done.0.most

pub returns-in_default : goal.returns-in_default
returns-in_default c =
    let out = located-out (frame_of c.args.b) c.args.point (sym c.in_default.is ∙ c.locate.ensures ∙ ap (λ f. located_of f c.args.point) c.frame_of.ensures) in
    refused-key c.args.b c.args.point c.args.level c.outside-refusal.result (point-out c.args.b c.args.point c.args.level c.outside-refusal.result c.outside-refusal.ensures (sym c.level_outcome.ensures ∙ c.in_ok-level_outcome.was) out)

pub encode-code-requires : goal.encode-code-requires
encode-code-requires c =
    let done : Fine c.args.b × (c.args.level ≤ 16) = level-done c.args.b c.args.level (sym c.level_outcome.ensures ∙ c.in_ok-level_outcome.was) in
    let anchors-are : (inside (frame_of c.args.b) c.args.point ≡ true) × (c.in-Some.anchor ≡ anchors16 (frame_of c.args.b) c.args.point) = located-in (frame_of c.args.b) c.args.point c.in-Some.anchor (sym c.in-Some.is ∙ c.locate.ensures ∙ ap (λ f. located_of f c.args.point) c.frame_of.ensures) in
    let f = done.0 in
    (f.least, f.most, two_bytes (frame_of c.args.b) c.args.point _ anchors-are.1)

less : (l : ℕ) → 16 - l ≤ 16
less l = omega arith

pub overflow_sub-above : goal.overflow_sub-above
overflow_sub-above c =
    let done : Fine c.args.b × (c.args.level ≤ 16) = level-done c.args.b c.args.level (sym c.level_outcome.ensures ∙ c.in_ok-level_outcome.was) in
    omega (arith, done.1)

pub overflow_mul-above : goal.overflow_mul-above
overflow_mul-above c =
    let done : Fine c.args.b × (c.args.level ≤ 16) = level-done c.args.b c.args.level (sym c.level_outcome.ensures ∙ c.in_ok-level_outcome.was) in
    let up : c.args.b.axes * (16 - c.args.level) ≤ 48 = mul-le-mul done.0.most (less c.args.level) in
    omega (arith, up)

pub overflow_shr-result : goal.overflow_shr-result
overflow_shr-result c =
    let done : Fine c.args.b × (c.args.level ≤ 16) = level-done c.args.b c.args.level (sym c.level_outcome.ensures ∙ c.in_ok-level_outcome.was) in
    let up : c.args.b.axes * (16 - c.args.level) ≤ 48 = mul-le-mul done.0.most (less c.args.level) in
    omega (arith, up)

pub overflow_mul-result : goal.overflow_mul-result
overflow_mul-result c =
    let done : Fine c.args.b × (c.args.level ≤ 16) = level-done c.args.b c.args.level (sym c.level_outcome.ensures ∙ c.in_ok-level_outcome.was) in
    let anchors-are : (inside (frame_of c.args.b) c.args.point ≡ true) × (c.in-Some.anchor ≡ anchors16 (frame_of c.args.b) c.args.point) = located-in (frame_of c.args.b) c.args.point c.in-Some.anchor (sym c.in-Some.is ∙ c.locate.ensures ∙ ap (λ f. located_of f c.args.point) c.frame_of.ensures) in
    let code_is : (inside (frame_of c.args.b) c.args.point ≡ true) × (c.encode-code.result ≡ code16 (frame_of c.args.b) c.args.point) = let i = anchors-are in
    placed-in (frame_of c.args.b) c.args.point c.encode-code.result (sym (place_in (frame_of c.args.b) c.args.point c.encode-code.result i.0 (c.encode-code.ensures ∙ ap (encode c.args.b.axes c.args.b.axes 16) i.1))) in
    let small : c.encode-code.result / 2 ^ (c.args.b.axes * (16 - c.args.level)) < 281474976710656 = lt_of_le_of_lt (shr_le c.encode-code.result (c.args.b.axes * (16 - c.args.level)))
    (lt_of_le_of_lt (le_of_eq code_is.1) (code-small (frame_of c.args.b) c.args.point done.0.most)) in
    omega (arith, small)

pub overflow_add-result : goal.overflow_add-result
overflow_add-result c =
    let done : Fine c.args.b × (c.args.level ≤ 16) = level-done c.args.b c.args.level (sym c.level_outcome.ensures ∙ c.in_ok-level_outcome.was) in
    let anchors-are : (inside (frame_of c.args.b) c.args.point ≡ true) × (c.in-Some.anchor ≡ anchors16 (frame_of c.args.b) c.args.point) = located-in (frame_of c.args.b) c.args.point c.in-Some.anchor (sym c.in-Some.is ∙ c.locate.ensures ∙ ap (λ f. located_of f c.args.point) c.frame_of.ensures) in
    let code_is : (inside (frame_of c.args.b) c.args.point ≡ true) × (c.encode-code.result ≡ code16 (frame_of c.args.b) c.args.point) = let i = anchors-are in
    placed-in (frame_of c.args.b) c.args.point c.encode-code.result (sym (place_in (frame_of c.args.b) c.args.point c.encode-code.result i.0 (c.encode-code.ensures ∙ ap (encode c.args.b.axes c.args.b.axes 16) i.1))) in
    let small : c.encode-code.result / 2 ^ (c.args.b.axes * (16 - c.args.level)) < 281474976710656 = lt_of_le_of_lt (shr_le c.encode-code.result (c.args.b.axes * (16 - c.args.level)))
    (lt_of_le_of_lt (le_of_eq code_is.1) (code-small (frame_of c.args.b) c.args.point done.0.most)) in
    omega (arith, small, done.1)

pub returns : goal.returns
returns c =
    let done : Fine c.args.b × (c.args.level ≤ 16) = level-done c.args.b c.args.level (sym c.level_outcome.ensures ∙ c.in_ok-level_outcome.was) in
    let anchors-are : (inside (frame_of c.args.b) c.args.point ≡ true) × (c.in-Some.anchor ≡ anchors16 (frame_of c.args.b) c.args.point) = located-in (frame_of c.args.b) c.args.point c.in-Some.anchor (sym c.in-Some.is ∙ c.locate.ensures ∙ ap (λ f. located_of f c.args.point) c.frame_of.ensures) in
    let code_is : (inside (frame_of c.args.b) c.args.point ≡ true) × (c.encode-code.result ≡ code16 (frame_of c.args.b) c.args.point) = let i = anchors-are in
    placed-in (frame_of c.args.b) c.args.point c.encode-code.result (sym (place_in (frame_of c.args.b) c.args.point c.encode-code.result i.0 (c.encode-code.ensures ∙ ap (encode c.args.b.axes c.args.b.axes 16) i.1))) in
    let k = code_is in
    done-key c.args.b c.args.point c.args.level c.encode-code.result done.1 (sym c.level_outcome.ensures ∙ c.in_ok-level_outcome.was) k.0 k.1
