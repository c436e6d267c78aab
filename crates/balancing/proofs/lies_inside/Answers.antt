-- `balancing::lies_inside` meets its contract: the axes are tested from the last to the first.
use mathlib.Core.Path.{ap₂, ◌∙◌}
use Prim.Native.Nat.{◌-◌}
use native.Mathlib.Omega.{arith}
use Rattle.anchors.proofs.Placing.{held_at, anchor-small}
use Rattle.morton.specs.Keys.{level_of}
use Rattle.balance.specs.Splitting.{off}
use Rattle.balancing.proofs.Inside.{larger, by-axes, axis-fails, axis-passes, axes-done}
use Rattle.balancing.proofs.lies_inside.Goals as goal

pub returns-then-deeper-level : goal.returns-then-deeper-level
returns-then-deeper-level c = larger c.args.axes c.args.r c.args.p c.if-deeper-level.true

pub loop-n-init : goal.loop-n-init
loop-n-init c = by-axes c.args.axes c.args.r c.args.p c.if-deeper-level.false

pub is_off-requires : goal.is_off-requires
is_off-requires c = let m = c.loop-n.n - 1 in
    let x = held_at c.args.axes c.args.r _ c.requires.2 m (omega arith) in
    let y = held_at c.args.axes c.args.p _ c.anchors_of-at.ensures m (omega arith) in
    (omega (arith, c.requires.1.level), omega (arith, x, anchor-small c.args.axes c.args.r m c.requires.0), omega (arith, y, anchor-small c.args.axes c.args.p m c.requires.1))

pub returns-then-not-is_off : goal.returns-then-not-is_off
returns-then-not-is_off c = let m = c.loop-n.n - 1 in
    let x = held_at c.args.axes c.args.r _ c.requires.2 m (omega arith) in
    let y = held_at c.args.axes c.args.p _ c.anchors_of-at.ensures m (omega arith) in
    axis-fails c.args.axes c.args.r c.args.p c.loop-n.n m (omega arith) _ (c.is_off.ensures ∙ ap₂ (off (level_of c.args.p - level_of c.args.r)) x y) c.loop-n.invariant (c.if-not-is_off.true)

pub loop-n-preserved : goal.loop-n-preserved
loop-n-preserved c = let m = c.loop-n.n - 1 in
    let x = held_at c.args.axes c.args.r _ c.requires.2 m (omega arith) in
    let y = held_at c.args.axes c.args.p _ c.anchors_of-at.ensures m (omega arith) in
    axis-passes c.args.axes c.args.r c.args.p c.loop-n.n m (omega arith) _ (c.is_off.ensures ∙ ap₂ (off (level_of c.args.p - level_of c.args.r)) x y) c.loop-n.invariant c.if-not-is_off.false

pub returns : goal.returns
returns c = axes-done c.args.axes c.args.r c.args.p c.loop-n.n (omega arith) c.loop-n.invariant
