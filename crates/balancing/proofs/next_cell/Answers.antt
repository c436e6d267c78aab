-- `balancing::next_cell` meets its contract.
use lib.Pow.{pow_pos}
use Rattle.balancing.proofs.Walking.{next-shallow, next-first, next-later}
use Rattle.balancing.proofs.next_cell.Goals as goal

pub is_to_split-requires : goal.is_to_split-requires
is_to_split-requires c = c.requires

pub child_of-requires : goal.child_of-requires
child_of-requires c = (c.requires.1, next-shallow c.args.axes c.args.key.now c.args.k c.requires.0 c.requires.1 _ c.is_to_split.ensures 0 c.if-is_to_split.true, pow_pos c.args.axes)

pub returns-then-is_to_split : goal.returns-then-is_to_split
returns-then-is_to_split c = next-first c.args.axes c.args.key.now c.args.k c.requires.0 c.requires.1 _ c.is_to_split.ensures _ c.if-is_to_split.true c.child_of.ensures

pub next_after-requires : goal.next_after-requires
next_after-requires c = c.requires.1

pub returns : goal.returns
returns c = next-later c.args.axes c.args.key.now c.args.k c.requires.0 c.requires.1 _ c.is_to_split.ensures _ c.if-is_to_split.false c.next_after.ensures
