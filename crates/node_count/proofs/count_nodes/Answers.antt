-- `node_count::count_nodes` meets its contract.
use mathlib.Core.Path.{sym, ap, ◌∙◌}
use mathlib.Core.List.{List}
use lib.Ieee.{Float}
use lib.Seq.{length-take-le}
use Rattle.build.specs.Asked.{asks}
use Rattle.build.proofs.Flags.{used-within, used-are}
use Rattle.node_count.specs.Counts.{nodes_answer}
use Rattle.node_count.proofs.count_nodes.Goals as goal

pub slice_bounds-count-end : goal.slice_bounds-count-end
slice_bounds-count-end c = sym (length-take-le c.used_entries-entries.result c.args.targets.now (used-within c.args.keep c.args.refine c.args.targets.now c.used_entries-entries.result c.used_entries-entries.ensures))

pub returns : goal.returns
returns c = record { answer = c.count.ensures.value ∙ ap (λ (x : List Float). nodes_answer (asks c.args.b c.args.limit c.args.order c.args.keep c.args.sources.now x) c.args.work.now c.args.indices.now) (used-are c.args.keep c.args.refine c.args.targets.now c.used_entries-entries.result c.used_entries-entries.ensures); work = c.count.ensures.work_after; indices = c.count.ensures.indices_after }
