-- `list_rows::takes_far` meets its contract.
use Rattle.list_rows.proofs.Entries.{total-in, other-level, no-source-v, touches, is-far}
use borrow.Author.Tests.{not-true, not-false}
use Rattle.list_rows.proofs.takes_far.Goals as goal

pub returns-then-key-node : goal.returns-then-key-node
returns-then-key-node c = other-level c.args.axes c.args.key.now c.args.own.now c.args.total.now c.args.row c.args.node c.args.place c.requires c.if-key-node.true

pub is_sourced-requires : goal.is_sourced-requires
is_sourced-requires c = total-in c.args.axes c.args.key.now c.args.own.now c.args.total.now c.args.row c.args.node c.args.place c.requires

pub returns-then-not-is_sourced : goal.returns-then-not-is_sourced
returns-then-not-is_sourced c = no-source-v c.args.axes c.args.key.now c.args.own.now c.args.total.now c.args.row c.args.node c.args.place c.requires c.is_sourced.result c.is_sourced.ensures (c.if-not-is_sourced.true)

pub returns-then-is_beside : goal.returns-then-is_beside
returns-then-is_beside c = touches c.args.axes c.args.key.now c.args.own.now c.args.total.now c.args.row c.args.node c.args.place c.requires c.if-key-node.false c.is_sourced.result c.is_sourced.ensures (c.if-not-is_sourced.false) c.is_beside.result c.is_beside.ensures c.if-is_beside.true

pub returns : goal.returns
returns c = is-far c.args.axes c.args.key.now c.args.own.now c.args.total.now c.args.row c.args.node c.args.place c.requires c.if-key-node.false c.is_sourced.result c.is_sourced.ensures (c.if-not-is_sourced.false) c.is_beside.result c.is_beside-2.result c.is_beside.ensures c.if-is_beside.false c.is_beside-2.ensures
