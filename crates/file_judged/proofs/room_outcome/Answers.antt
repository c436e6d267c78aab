-- `file_judged::room_outcome` meets its contract.
use native.Mathlib.Omega.{arith}
use Rattle.tree_file.specs.Trailer.{tree_in}
use Rattle.file_judged.specs.Rooms.{given}
use Rattle.file_judged.proofs.Chain.{room_2, room-3, room-4, room-5, room-6, room-7, room-all}
use Rattle.file_judged.proofs.room_outcome.Goals as goal

pub count_of-requires : goal.count_of-requires
count_of-requires c = (c.requires, omega arith, omega arith)

pub returns-then-order-count_of : goal.returns-then-order-count_of
returns-then-order-count_of c = room_2 (tree_in c.args.file.now) (given c.args.order c.args.nodes c.args.us c.args.uk c.args.vs c.args.vk) _ c.count_of.ensures c.if-order-count_of.true

pub count_of-requires-2 : goal.count_of-requires-2
count_of-requires-2 c = (c.requires, omega arith, omega arith)

pub returns-then-nodes-count_of : goal.returns-then-nodes-count_of
returns-then-nodes-count_of c = room-3 (tree_in c.args.file.now) (given c.args.order c.args.nodes c.args.us c.args.uk c.args.vs c.args.vk) _ c.count_of.ensures c.if-order-count_of.false _ c.count_of-2.ensures c.if-nodes-count_of.true

pub count_of-requires-3 : goal.count_of-requires-3
count_of-requires-3 c = (c.requires, omega arith, omega arith)

pub returns-then-us-count_of : goal.returns-then-us-count_of
returns-then-us-count_of c = room-4 (tree_in c.args.file.now) (given c.args.order c.args.nodes c.args.us c.args.uk c.args.vs c.args.vk) _ c.count_of.ensures c.if-order-count_of.false _ c.count_of-2.ensures c.if-nodes-count_of.false _ c.count_of-3.ensures c.if-us-count_of.true

pub count_of-requires-4 : goal.count_of-requires-4
count_of-requires-4 c = (c.requires, omega arith, omega arith)

pub returns-then-vs-count_of : goal.returns-then-vs-count_of
returns-then-vs-count_of c = room-5 (tree_in c.args.file.now) (given c.args.order c.args.nodes c.args.us c.args.uk c.args.vs c.args.vk) _ c.count_of.ensures c.if-order-count_of.false _ c.count_of-2.ensures c.if-nodes-count_of.false _ c.count_of-3.ensures c.if-us-count_of.false _ c.count_of-4.ensures c.if-vs-count_of.true

pub count_of-requires-5 : goal.count_of-requires-5
count_of-requires-5 c = (c.requires, omega arith, omega arith)

pub returns-then-uk-count_of : goal.returns-then-uk-count_of
returns-then-uk-count_of c = room-6 (tree_in c.args.file.now) (given c.args.order c.args.nodes c.args.us c.args.uk c.args.vs c.args.vk) _ c.count_of.ensures c.if-order-count_of.false _ c.count_of-2.ensures c.if-nodes-count_of.false _ c.count_of-3.ensures c.if-us-count_of.false _ c.count_of-4.ensures c.if-vs-count_of.false _ c.count_of-5.ensures c.if-uk-count_of.true

pub count_of-requires-6 : goal.count_of-requires-6
count_of-requires-6 c = (c.requires, omega arith, omega arith)

pub returns-then-vk-count_of : goal.returns-then-vk-count_of
returns-then-vk-count_of c = room-7 (tree_in c.args.file.now) (given c.args.order c.args.nodes c.args.us c.args.uk c.args.vs c.args.vk) _ c.count_of.ensures c.if-order-count_of.false _ c.count_of-2.ensures c.if-nodes-count_of.false _ c.count_of-3.ensures c.if-us-count_of.false _ c.count_of-4.ensures c.if-vs-count_of.false _ c.count_of-5.ensures c.if-uk-count_of.false _ c.count_of-6.ensures c.if-vk-count_of.true

pub returns : goal.returns
returns c = room-all (tree_in c.args.file.now) (given c.args.order c.args.nodes c.args.us c.args.uk c.args.vs c.args.vk) _ c.count_of.ensures c.if-order-count_of.false _ c.count_of-2.ensures c.if-nodes-count_of.false _ c.count_of-3.ensures c.if-us-count_of.false _ c.count_of-4.ensures c.if-vs-count_of.false _ c.count_of-5.ensures c.if-uk-count_of.false _ c.count_of-6.ensures c.if-vk-count_of.false
