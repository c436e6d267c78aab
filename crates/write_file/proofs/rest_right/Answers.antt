-- `write_file::rest_right` meets its contract.
use borrow.Author.Tests.{not-true, not-false}
use Rattle.write_file.proofs.Checks.{root_in, counted, not-arranged, by-lists}
use Rattle.write_file.proofs.rest_right.Goals as goal

pub bounds-total-0 : goal.bounds-total-0
bounds-total-0 c = root_in c.args.axes c.args.key.now c.args.own.now c.args.begin.now c.args.total.now c.requires

pub returns-then-not-is_arrangement : goal.returns-then-not-is_arrangement
returns-then-not-is_arrangement c = not-arranged c.args.axes c.args.key.now c.args.own.now c.args.begin.now c.args.total.now c.requires c.args.indices.now c.args.u_starts.now c.args.u_keys.now c.args.v_starts.now c.args.v_keys.now _ c.is_arrangement.ensures (c.if-not-is_arrangement.true)

pub are_lists-requires : goal.are_lists-requires
are_lists-requires c = counted c.args.axes c.args.key.now c.args.own.now c.args.begin.now c.args.total.now c.requires

pub returns : goal.returns
returns c = by-lists c.args.axes c.args.key.now c.args.own.now c.args.begin.now c.args.total.now c.requires c.args.indices.now c.args.u_starts.now c.args.u_keys.now c.args.v_starts.now c.args.v_keys.now _ c.is_arrangement.ensures (c.if-not-is_arrangement.false) _ c.are_lists.ensures
