-- `list_check::are_lists` meets its contract.
use Rattle.list_check.proofs.Judged.{not-u, not-v, judged}
use Rattle.sums.proofs.Tells.{tell-true, tell-false}
use Rattle.list_check.proofs.are_lists.Goals as goal

pub returns-then-not-starts_right : goal.returns-then-not-starts_right
returns-then-not-starts_right c = not-u c.args.axes c.args.key.now c.args.own.now c.args.total.now c.args.u_starts.now c.args.u_keys.now c.args.v_starts.now c.args.v_keys.now c.requires (tell-false c.starts_right.result c.starts_right.ensures (c.if-not-starts_right.true))

pub returns-then-not-starts_right-2 : goal.returns-then-not-starts_right-2
returns-then-not-starts_right-2 c = not-v c.args.axes c.args.key.now c.args.own.now c.args.total.now c.args.u_starts.now c.args.u_keys.now c.args.v_starts.now c.args.v_keys.now c.requires (tell-false c.starts_right-2.result c.starts_right-2.ensures (c.if-not-starts_right-2.true))

pub rows_right-requires : goal.rows_right-requires
rows_right-requires c = (c.requires, record { near = tell-true c.starts_right.result c.starts_right.ensures (c.if-not-starts_right.false); far = tell-true c.starts_right-2.result c.starts_right-2.ensures (c.if-not-starts_right-2.false) })

pub returns : goal.returns
returns c = judged c.args.axes c.args.key.now c.args.own.now c.args.total.now c.args.u_starts.now c.args.u_keys.now c.args.v_starts.now c.args.v_keys.now c.requires (tell-true c.starts_right.result c.starts_right.ensures (c.if-not-starts_right.false)) (tell-true c.starts_right-2.result c.starts_right-2.ensures (c.if-not-starts_right-2.false)) c.rows_right.result c.rows_right.ensures
