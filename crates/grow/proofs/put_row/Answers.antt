-- `grow::put_row` meets its contract.
use native.Mathlib.Omega.{arith}
use Rattle.grow.proofs.Putting.{row_put, row-counted, row-full}
use Rattle.grow.proofs.put_row.Goals as goal

pub returns-then-room-m : goal.returns-then-room-m
returns-then-room-m c = λ g p done h e s. row-full g p c.args.room c.args.cell c.args.sum c.args.split c.args.key.now c.args.mark.now c.args.m done h e s c.if-room-m.true

pub returns-then-key-m : goal.returns-then-key-m
returns-then-key-m c = λ g p done h e s. row-counted g p c.args.room c.args.cell c.args.sum c.args.split c.args.key.now c.args.mark.now c.args.m done h e s c.if-room-m.false (omega (arith, c.if-key-m.true))

pub returns-then-mark-m : goal.returns-then-mark-m
returns-then-mark-m c = λ g p done h e s. row-counted g p c.args.room c.args.cell c.args.sum c.args.split c.args.key.now c.args.mark.now c.args.m done h e s c.if-room-m.false (omega (arith, c.if-mark-m.true))

pub returns : goal.returns
returns c = λ g p done h e s. row_put g p c.args.room c.args.cell c.args.sum c.args.split c.args.key.now c.args.mark.now c.args.m done h e s c.mark_of.result c.mark_of.ensures c.if-room-m.false
