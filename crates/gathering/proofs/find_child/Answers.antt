-- `gathering::find_child` meets its contract.
use native.Mathlib.Omega.{arith}
use Rattle.gathering.proofs.Links.{walk_start, walk_more, walk-found, walk_none}
use Rattle.gathering.proofs.find_child.Goals as goal

pub bounds-child-p : goal.bounds-child-p
bounds-child-p c = omega (arith, c.requires.linked.childs, c.requires.below.node)

pub loop-j-init : goal.loop-j-init
loop-j-init c d n s b = walk_start d n _ _ _ _ _ s b

pub offset_bounds-key-j : goal.offset_bounds-key-j
offset_bounds-key-j c = omega (arith, c.requires.linked.keys, (c.loop-j.invariant c.requires.d c.requires.n c.requires.linked c.requires.below).here)

pub bounds-key-j : goal.bounds-key-j
bounds-key-j c = omega (arith, c.requires.linked.keys, (c.loop-j.invariant c.requires.d c.requires.n c.requires.linked c.requires.below).here)

pub returns-then-key-j : goal.returns-then-key-j
returns-then-key-j c d n s b = walk-found d n _ _ _ _ _ s b _ (c.loop-j.invariant d n s b) c.loop-j-test.true c.if-key-j.true

pub offset_bounds-next-j : goal.offset_bounds-next-j
offset_bounds-next-j c = omega (arith, c.requires.linked.nexts, (c.loop-j.invariant c.requires.d c.requires.n c.requires.linked c.requires.below).here)

pub bounds-next-j : goal.bounds-next-j
bounds-next-j c = omega (arith, c.requires.linked.nexts, (c.loop-j.invariant c.requires.d c.requires.n c.requires.linked c.requires.below).here)

pub loop-j-smaller : goal.loop-j-smaller
loop-j-smaller c = omega (arith, c.requires.linked.next_in _ c.loop-j-test.true (c.loop-j.invariant c.requires.d c.requires.n c.requires.linked c.requires.below).here)

pub loop-j-preserved : goal.loop-j-preserved
loop-j-preserved c d n s b = walk_more d n _ _ _ _ _ s b _ (c.loop-j.invariant d n s b) c.loop-j-test.true c.if-key-j.false

pub returns : goal.returns
returns c d n s b = walk_none d n _ _ _ _ _ s b _ (c.loop-j.invariant d n s b) c.loop-j-test.false
