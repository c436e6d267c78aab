-- `gathering::step_down` meets its contract.
use native.Mathlib.Omega.{arith}
use Rattle.gathering.proofs.Links.{step-found, step-full, step-put}
use Rattle.gathering.proofs.step_down.Goals as goal

pub find_child-c-requires : goal.find_child-c-requires
find_child-c-requires c = c.requires.0

pub returns-then-c-gt0 : goal.returns-then-c-gt0
returns-then-c-gt0 c d s b = step-found d _ _ _ _ _ _ _ s b _ (c.find_child-c.ensures d _ s b) c.if-c-gt0.true

pub returns-then-room-n : goal.returns-then-room-n
returns-then-room-n c d s b = step-full d _ _ _ _ _ _ _ s b _ (c.find_child-c.ensures d _ s b) c.if-c-gt0.false c.if-room-n.true

pub put_node-requires : goal.put_node-requires
put_node-requires c = (c.requires.2, omega (arith, c.requires.1.keys, c.if-room-n.false), omega (arith, c.requires.1.childs, c.if-room-n.false), omega (arith, c.requires.1.nexts, c.if-room-n.false))

pub returns : goal.returns
returns c d s b = step-put d _ _ _ _ _ _ _ s b _ (c.find_child-c.ensures d _ s b) c.if-c-gt0.false c.if-room-n.false (omega (arith, c.requires.1.keys, c.if-room-n.false)) (omega (arith, c.requires.1.childs, c.if-room-n.false)) (omega (arith, c.requires.1.nexts, c.if-room-n.false)) _ _ _ c.put_node.ensures
