-- `list_rows::is_taken` meets its contract.
use Rattle.list_rows.proofs.Entries.{taken-far, taken-near}
use Rattle.list_rows.proofs.is_taken.Goals as goal

pub returns-then-far : goal.returns-then-far
returns-then-far c = taken-far c.args.axes c.args.key.now c.args.own.now c.args.total.now c.args.row c.args.node c.args.place c.requires c.args.far c.if-far.true c.takes_far.result c.takes_far.ensures

pub returns : goal.returns
returns c = taken-near c.args.axes c.args.key.now c.args.own.now c.args.total.now c.args.row c.args.node c.args.place c.requires c.args.far c.if-far.false c.takes_near.result c.takes_near.ensures
