-- `one_more::start` meets its contract.
use mathlib.Core.Path.{refl}
use native.Mathlib.Omega.{arith}
use lib.ListN.{length}
use Rattle.one_more.proofs.Starting.{short-work, short-order, laid_out, all-started}
use Rattle.one_more.proofs.start.Goals as goal

pub returns-then-work-rows : goal.returns-then-work-rows
returns-then-work-rows c = record { outcome_value = short-work c.args.b c.args.limit c.args.keep c.args.sources.now c.args.point.now c.requires.0 (length c.args.work.now) (length c.args.indices.now) c.args.room (omega (arith, c.if-work-rows.true)); tree_started = tt }

pub returns-then-indices-rows : goal.returns-then-indices-rows
returns-then-indices-rows c = record { outcome_value = short-order c.args.b c.args.limit c.args.keep c.args.sources.now c.args.point.now c.requires.0 (length c.args.work.now) (omega (arith, c.if-work-rows.false)) (length c.args.indices.now) c.args.room (omega (arith, c.if-indices-rows.true)); tree_started = tt }

pub code_all-requires : goal.code_all-requires
code_all-requires c = (c.requires.0, omega (arith, c.if-work-rows.false))

pub grow-n-requires : goal.grow-n-requires
grow-n-requires c = let l = (laid_out c.args.b c.args.limit c.args.keep c.args.sources.now c.args.point.now c.requires.0 (length c.args.work.now) (omega (arith, c.if-work-rows.false)) c.code_all.new.work c.args.indices.now c.args.room c.sizes_of-z.result c.code_all.auto.work c.code_all.ensures c.sizes_of-z.ensures (omega (arith, c.if-indices-rows.false))) in (l.coded, omega (arith, l.room_is, c.requires.1), l.spanned)

pub returns : goal.returns
returns c = let l = (laid_out c.args.b c.args.limit c.args.keep c.args.sources.now c.args.point.now c.requires.0 (length c.args.work.now) (omega (arith, c.if-work-rows.false)) c.code_all.new.work c.args.indices.now c.args.room c.sizes_of-z.result c.code_all.auto.work c.code_all.ensures c.sizes_of-z.ensures (omega (arith, c.if-indices-rows.false))) in let all = all-started c.args.b c.args.limit c.args.keep c.args.sources.now c.args.point.now c.requires.0 (length c.args.work.now) (omega (arith, c.if-work-rows.false)) (length c.args.indices.now) c.args.room c.sizes_of-z.result c.args.indices.now c.code_all.new.work c.grow-n.new.work c.grow-n.new.key c.grow-n.new.mark c.grow-n.result c.settle.result refl (omega (arith, c.if-indices-rows.false)) l c.grow-n.ensures c.settle.ensures (omega (arith, c.requires.2, c.grow-n.auto.key)) (omega (arith, c.requires.3, c.grow-n.auto.mark)) in record { outcome_value = all.0; tree_started = all.1 }
