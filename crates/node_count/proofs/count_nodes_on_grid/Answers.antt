-- `node_count::count_nodes_on_grid` meets its contract.
use mathlib.Core.Path.{ap, ◌∙◌}
use mathlib.Core.Bool.{Bool}
use mathlib.Core.List.{[]}
use Rattle.build.specs.Asked.{asks_at}
use Rattle.node_count.specs.Counts.{nodes_answer}
use Rattle.node_count.proofs.count_nodes_on_grid.Goals as goal

pub returns : goal.returns
returns c = record { answer = c.count.ensures.value ∙ ap (λ (u : Bool). nodes_answer (asks_at c.args.b c.args.limit c.args.order c.args.keep c.args.sources.now [] u c.args.grid) c.args.work.now c.args.indices.now) c.both-sited.ensures; work = c.count.ensures.work_after; indices = c.count.ensures.indices_after }
