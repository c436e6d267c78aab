-- `centres::centres_near` meets its contract: on the axes seen the centres are near.
use mathlib.Core.Path.{◌≡◌, refl, sym, ap, ◌∙◌}
use native.Mathlib.Omega.{arith}
use lib.Ieee.{binary64, add, mul, of_bits}
use Rattle.space.specs.Cells.{side}
use Rattle.centres.specs.Centres.{tolerance, near_on}
use Rattle.centres.proofs.Centres.{Axis, reach-is, near_next, near-stop, near_none}
use Rattle.centres.proofs.centres_near.Goals as goal

pub side_at-length_a-requires : goal.side_at-length_a-requires
side_at-length_a-requires c = omega (arith, c.level_of.ensures, c.requires.0.level)

pub side_at-length_b-requires : goal.side_at-length_b-requires
side_at-length_b-requires c = omega (arith, c.level_of-2.ensures, c.requires.1.level)

pub anchors_of-anchor_a-requires : goal.anchors_of-anchor_a-requires
anchors_of-anchor_a-requires c = c.requires.0

pub anchors_of-anchor_b-requires : goal.anchors_of-anchor_b-requires
anchors_of-anchor_b-requires c = c.requires.1

pub loop-a-init : goal.loop-a-init
loop-a-init c = near_none c.args.b c.args.first c.args.second

pub centre_on-value_a-requires : goal.centre_on-value_a-requires
centre_on-value_a-requires c = (c.requires.0, c.anchors_of-anchor_a.ensures, omega (arith, c.requires.0.most, c.loop-a-test.true))

pub centre_on-value_b-requires : goal.centre_on-value_b-requires
centre_on-value_b-requires c = (c.requires.1, c.anchors_of-anchor_b.ensures, omega (arith, c.requires.0.most, c.loop-a-test.true))

pub returns-then-not-magnitude-length : goal.returns-then-not-magnitude-length
unfolding of_bits tolerance lib.Ieee.round
returns-then-not-magnitude-length c =
    let axis : Axis c.args.b c.args.first c.args.second c.loop-a.a c.centre_on-value_a.result c.centre_on-value_b.result c.magnitude.result (mul binary64 (of_bits binary64 4602678819172646912) (add binary64 c.side_at-length_a.result c.side_at-length_b.result)) = record {
      first = c.centre_on-value_a.ensures;
      second = c.centre_on-value_b.ensures;
      apart = c.magnitude.ensures;
      length =
          reach-is c.args.b c.args.first c.args.second _ _
          (c.side_at-length_a.ensures ∙ ap (side c.args.b.radius) c.level_of.ensures) (c.side_at-length_b.ensures ∙ ap (side c.args.b.radius) c.level_of-2.ensures);
    } in
    near-stop c.args.b c.args.first c.args.second c.args.b.axes c.loop-a.a _ _ _ _ _ refl c.loop-a-test.true axis c.if-not-magnitude-length.true

pub loop-a-preserved : goal.loop-a-preserved
unfolding of_bits tolerance lib.Ieee.round
loop-a-preserved c =
    let axis : Axis c.args.b c.args.first c.args.second c.loop-a.a c.centre_on-value_a.result c.centre_on-value_b.result c.magnitude.result (mul binary64 (of_bits binary64 4602678819172646912) (add binary64 c.side_at-length_a.result c.side_at-length_b.result)) = record {
      first = c.centre_on-value_a.ensures;
      second = c.centre_on-value_b.ensures;
      apart = c.magnitude.ensures;
      length =
          reach-is c.args.b c.args.first c.args.second _ _
          (c.side_at-length_a.ensures ∙ ap (side c.args.b.radius) c.level_of.ensures) (c.side_at-length_b.ensures ∙ ap (side c.args.b.radius) c.level_of-2.ensures);
    } in
    near_next c.args.b c.args.first c.args.second c.loop-a.a _ _ _ _ _ refl c.loop-a.invariant axis c.if-not-magnitude-length.false

pub returns : goal.returns
returns c = let e : c.loop-a.a ≡ c.args.b.axes = omega arith in sym c.loop-a.invariant ∙ ap (λ n. near_on n c.args.b c.args.first c.args.second) e
