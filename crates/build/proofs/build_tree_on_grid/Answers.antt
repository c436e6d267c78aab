-- `build::build_tree_on_grid` meets its contract.
use mathlib.Core.Path.{subst}
use mathlib.Core.Bool.{Bool}
use mathlib.Core.List.{[]}
use Rattle.filling.specs.Slices.{slices}
use Rattle.build.specs.Asked.{asks_at}
use Rattle.build.specs.Outcomes.{rooms}
use Rattle.build.proofs.Columns.{Built}
use Rattle.build.proofs.build_tree_on_grid.Goals as goal

pub returns : goal.returns
returns c = let all = subst (λ (u : Bool). Built (asks_at c.args.b c.args.limit c.args.order c.args.keep c.args.sources.now [] u c.args.grid) (rooms c.args.work.now c.args.indices.now c.args.key.now c.args.own.now c.args.begin.now c.args.total.now) c.raise.result (slices c.raise.new.work c.raise.new.indices c.raise.new.key c.raise.new.own c.raise.new.begin c.raise.new.total)) c.both-sited.ensures (c.raise.ensures.value, (c.raise.ensures.work_after, (c.raise.ensures.indices_after, (c.raise.ensures.key_after, (c.raise.ensures.own_after, (c.raise.ensures.begin_after, c.raise.ensures.total_after)))))) in record { value = all.0; work_after = all.1.0; indices_after = all.1.1.0; key_after = all.1.1.1.0; own_after = all.1.1.1.1.0; begin_after = all.1.1.1.1.1.0; total_after = all.1.1.1.1.1.1 }
