-- `sum_check::is_built` meets its contract.
use Rattle.sum_check.proofs.Checks.{counted, root_in, not-lists, by_order}
use borrow.Author.Tests.{not-true, not-false}
use Rattle.sum_check.proofs.is_built.Goals as goal

pub are_lists-requires : goal.are_lists-requires
are_lists-requires c = counted c.args.axes c.args.key.now c.args.own.now c.args.begin.now c.args.total.now c.requires

pub returns-then-not-are_lists : goal.returns-then-not-are_lists
returns-then-not-are_lists c = not-lists c.args.axes c.args.key.now c.args.own.now c.args.begin.now c.args.total.now c.requires c.args.indices.now c.args.u_starts.now c.args.u_keys.now c.args.v_starts.now c.args.v_keys.now c.are_lists.result c.are_lists.ensures (c.if-not-are_lists.true)

pub bounds-total-0 : goal.bounds-total-0
bounds-total-0 c = root_in c.args.axes c.args.key.now c.args.own.now c.args.begin.now c.args.total.now c.requires

pub returns : goal.returns
returns c = by_order c.args.axes c.args.key.now c.args.own.now c.args.begin.now c.args.total.now c.requires c.args.indices.now c.args.u_starts.now c.args.u_keys.now c.args.v_starts.now c.args.v_keys.now c.are_lists.result c.are_lists.ensures (c.if-not-are_lists.false) c.is_arrangement.result c.is_arrangement.ensures
