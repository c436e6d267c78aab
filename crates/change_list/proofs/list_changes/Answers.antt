-- `change_list::list_changes` meets its contract.
use native.Mathlib.Omega.{arith}
use Rattle.changed_rows.specs.Told.{beside}
use Rattle.change_list.proofs.Listed.{in-turn, listed-all, listed-over, firsts-long}
use Rattle.change_list.proofs.list_changes.Goals as goal

pub put_rows-a-requires : goal.put_rows-a-requires
put_rows-a-requires c = c.requires

pub put_rows-b-requires : goal.put_rows-b-requires
put_rows-b-requires c = c.requires

pub put_added-c-requires : goal.put_added-c-requires
put_added-c-requires c = firsts-long (beside c.args.axes c.args.key.now c.args.own.now c.args.begin.now c.args.nodes.now c.args.counts.now c.args.begins.now) _ c.requires

pub sort_part-requires : goal.sort_part-requires
sort_part-requires c = tt

pub put_rows-d-requires : goal.put_rows-d-requires
put_rows-d-requires c = c.requires

pub put_rows-e-requires : goal.put_rows-e-requires
put_rows-e-requires c = c.requires

pub returns-then-changed-e : goal.returns-then-changed-e
returns-then-changed-e c = listed-over (beside c.args.axes c.args.key.now c.args.own.now c.args.begin.now c.args.nodes.now c.args.counts.now c.args.begins.now) _ c.requires _ _ _ _ _ _ _ _ _ _ _ _ c.put_rows-a.auto.changed c.put_rows-b.auto.changed c.put_added-c.auto.changed c.sort_part.auto.out c.put_rows-d.auto.changed c.put_rows-e.auto.changed c.put_rows-a.ensures c.put_rows-b.ensures c.put_added-c.ensures c.sort_part.ensures.row c.put_rows-d.ensures c.put_rows-e.ensures _ (λ h k. omega (arith, c.if-changed-e.true))

pub returns-then-codes-e : goal.returns-then-codes-e
returns-then-codes-e c = listed-over (beside c.args.axes c.args.key.now c.args.own.now c.args.begin.now c.args.nodes.now c.args.counts.now c.args.begins.now) _ c.requires _ _ _ _ _ _ _ _ _ _ _ _ c.put_rows-a.auto.changed c.put_rows-b.auto.changed c.put_added-c.auto.changed c.sort_part.auto.out c.put_rows-d.auto.changed c.put_rows-e.auto.changed c.put_rows-a.ensures c.put_rows-b.ensures c.put_added-c.ensures c.sort_part.ensures.row c.put_rows-d.ensures c.put_rows-e.ensures _ (λ h k. omega (arith, c.if-codes-e.true))

pub put_codes-requires : goal.put_codes-requires
put_codes-requires c = let t = in-turn (beside c.args.axes c.args.key.now c.args.own.now c.args.begin.now c.args.nodes.now c.args.counts.now c.args.begins.now) _ c.requires _ _ _ _ _ _ _ _ _ _ _ _ c.put_rows-a.auto.changed c.put_rows-b.auto.changed c.put_added-c.auto.changed c.sort_part.auto.out c.put_rows-d.auto.changed c.put_rows-e.auto.changed c.put_rows-a.ensures c.put_rows-b.ensures c.put_added-c.ensures c.sort_part.ensures.row c.put_rows-d.ensures c.put_rows-e.ensures c.if-changed-e.false in (t.0, t.1, t.2, t.3, c.if-codes-e.false)

pub returns : goal.returns
returns c = listed-all (beside c.args.axes c.args.key.now c.args.own.now c.args.begin.now c.args.nodes.now c.args.counts.now c.args.begins.now) _ c.requires _ _ _ _ _ _ _ _ _ _ _ _ c.put_rows-a.auto.changed c.put_rows-b.auto.changed c.put_added-c.auto.changed c.sort_part.auto.out c.put_rows-d.auto.changed c.put_rows-e.auto.changed c.put_rows-a.ensures c.put_rows-b.ensures c.put_added-c.ensures c.sort_part.ensures.row c.put_rows-d.ensures c.put_rows-e.ensures c.if-changed-e.false _ c.put_codes.ensures
