-- `one_more::raise` meets its contract.
use mathlib.Core.Path.{refl}
use native.Mathlib.Omega.{arith}
use Rattle.filling.specs.Slices.{slices}
use Rattle.build.specs.Outcomes.{rooms}
use Rattle.build.proofs.Columns.{Long, rows-started, ended}
use Rattle.was_built.specs.Build.{asks_alone}
use Rattle.one_more.specs.More.{longer_of}
use Rattle.one_more.proofs.raise.Goals as goal

pub start-started-requires : goal.start-started-requires
start-started-requires c = (c.requires, omega (arith, c.node_room-room.ensures), omega (arith, c.node_room-room.ensures), omega (arith, c.node_room-room.ensures))

pub fill_or_clear-requires : goal.fill_or_clear-requires
fill_or_clear-requires c =
    let from = slices c.start-started.new.work c.start-started.new.indices c.start-started.new.key c.args.own.now c.args.begin.now c.start-started.new.mark in
    let long : Long (rooms c.args.work.now c.args.indices.now c.args.key.now c.args.own.now c.args.begin.now c.args.total.now) from = record { work = c.start-started.auto.work; order = c.start-started.auto.indices; keys = c.start-started.auto.key; own = refl; begins = refl; totals = c.start-started.auto.mark } in
    rows-started (asks_alone c.args.b c.args.limit c.args.keep (longer_of c.args.b c.args.sources.now c.args.point.now)) c.node_room-room.result (rooms c.args.work.now c.args.indices.now c.args.key.now c.args.own.now c.args.begin.now c.args.total.now) from long c.node_room-room.ensures c.start-started.result c.start-started.ensures.tree_started

pub returns : goal.returns
returns c =
    let from = slices c.start-started.new.work c.start-started.new.indices c.start-started.new.key c.args.own.now c.args.begin.now c.start-started.new.mark in
    let long : Long (rooms c.args.work.now c.args.indices.now c.args.key.now c.args.own.now c.args.begin.now c.args.total.now) from = record { work = c.start-started.auto.work; order = c.start-started.auto.indices; keys = c.start-started.auto.key; own = refl; begins = refl; totals = c.start-started.auto.mark } in
    let to = slices c.fill_or_clear.new.work c.fill_or_clear.new.indices c.fill_or_clear.new.key c.fill_or_clear.new.own c.fill_or_clear.new.begin c.fill_or_clear.new.total in
    let all = ended (asks_alone c.args.b c.args.limit c.args.keep (longer_of c.args.b c.args.sources.now c.args.point.now)) (rooms c.args.work.now c.args.indices.now c.args.key.now c.args.own.now c.args.begin.now c.args.total.now) from to long c.start-started.result c.node_room-room.result c.node_room-room.ensures c.start-started.ensures.outcome_value c.start-started.ensures.tree_started
    c.fill_or_clear.result c.fill_or_clear.ensures.value c.fill_or_clear.ensures.slices_after in
    record { value = all.0; work_after = all.1.0; indices_after = all.1.1.0; key_after = all.1.1.1.0; own_after = all.1.1.1.1.0; begin_after = all.1.1.1.1.1.0; total_after = all.1.1.1.1.1.1 }
