-- `gathering::put_key` meets its contract.
use mathlib.Core.Path.{refl, ◌∙◌}
use native.Mathlib.Omega.{arith}
use Rattle.gathering.proofs.Down.{down-start, down-below, down-walk, down-found, down-put, down-short, down-done}
use Rattle.gathering.proofs.put_key.Goals as goal
use Rattle.gathering.proofs.put_key.Goals.{then-p-n+else-room-n, else-p-n}

pub loop-l-init : goal.loop-l-init
loop-l-init c = (down-start _ _ _ _ _ _ _ c.requires.0 c.requires.1 c.requires.2, refl, refl, refl)

pub cell_of_level-c-requires : goal.cell_of_level-c-requires
cell_of_level-c-requires c = (c.requires.0, omega (arith, c.loop-l-test.true))

pub step_down-p-requires : goal.step_down-p-requires
step_down-p-requires c = (down-walk _ _ _ _ _ _ _ _ _ _ _ c.loop-l.invariant.0 _ c.loop-l-test.true c.cell_of_level-c.ensures, c.loop-l.invariant.0.fits, c.loop-l.invariant.0.node)

pub returns-then-room-n : goal.returns-then-room-n
returns-then-room-n c = down-short _ _ _ _ _ _ _ _ _ _ _ c.loop-l.invariant.0 _ c.loop-l-test.true c.cell_of_level-c.ensures _ _ _ _ (c.step_down-p.ensures _ c.loop-l.invariant.0.linked (down-below _ _ _ _ _ _ _ _ _ _ _ c.loop-l.invariant.0 _ c.loop-l-test.true c.cell_of_level-c.ensures)) c.if-p-n.true c.if-room-n.true

pub loop-l-preserved : goal.loop-l-preserved
loop-l-preserved c = (
  elim c.if-p-n.branch [
    | then-p-n+else-room-n w ↦ rw w.n-is (down-put _ _ _ _ _ _ _ _ _ _ _ c.loop-l.invariant.0 _ c.loop-l-test.true c.cell_of_level-c.ensures _ _ _ _ (c.step_down-p.ensures _ c.loop-l.invariant.0.linked (down-below _ _ _ _ _ _ _ _ _ _ _ c.loop-l.invariant.0 _ c.loop-l-test.true c.cell_of_level-c.ensures)) c.step_down-p.auto.key c.step_down-p.auto.child c.step_down-p.auto.next w.if-p-n.true w.if-room-n.false)
    | else-p-n w ↦ rw w.n-is (down-found _ _ _ _ _ _ _ _ _ _ _ c.loop-l.invariant.0 _ c.loop-l-test.true c.cell_of_level-c.ensures _ _ _ _ (c.step_down-p.ensures _ c.loop-l.invariant.0.linked (down-below _ _ _ _ _ _ _ _ _ _ _ c.loop-l.invariant.0 _ c.loop-l-test.true c.cell_of_level-c.ensures)) c.step_down-p.auto.key c.step_down-p.auto.child c.step_down-p.auto.next w.if-p-n.false)
  ],
  c.step_down-p.auto.key ∙ c.loop-l.invariant.1,
  c.step_down-p.auto.child ∙ c.loop-l.invariant.2,
  c.step_down-p.auto.next ∙ c.loop-l.invariant.3,
)

pub returns : goal.returns
returns c = down-done _ _ _ _ _ _ _ _ _ _ _ c.loop-l.invariant.0 c.loop-l-test.false
