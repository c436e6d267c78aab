-- `build::build_tree` meets its contract.
use mathlib.Core.Path.{sym, subst}
use mathlib.Core.List.{List}
use lib.Ieee.{Float}
use lib.Seq.{length-take-le}
use Rattle.filling.specs.Slices.{slices}
use Rattle.build.specs.Asked.{asks}
use Rattle.build.specs.Outcomes.{rooms}
use Rattle.build.proofs.Columns.{Built}
use Rattle.build.proofs.Flags.{used-within, used-are}
use Rattle.build.proofs.build_tree.Goals as goal

pub slice_bounds-raise-end : goal.slice_bounds-raise-end
slice_bounds-raise-end c = sym (length-take-le c.used_entries-entries.result c.args.targets.now (used-within c.args.keep c.args.refine c.args.targets.now c.used_entries-entries.result c.used_entries-entries.ensures))

pub returns : goal.returns
returns c = let all = subst (λ (x : List Float). Built (asks c.args.b c.args.limit c.args.order c.args.keep c.args.sources.now x) (rooms c.args.work.now c.args.indices.now c.args.key.now c.args.own.now c.args.begin.now c.args.total.now) c.raise.result (slices c.raise.new.work c.raise.new.indices c.raise.new.key c.raise.new.own c.raise.new.begin c.raise.new.total)) (used-are c.args.keep c.args.refine c.args.targets.now c.used_entries-entries.result c.used_entries-entries.ensures) (c.raise.ensures.value, (c.raise.ensures.work_after, (c.raise.ensures.indices_after, (c.raise.ensures.key_after, (c.raise.ensures.own_after, (c.raise.ensures.begin_after, c.raise.ensures.total_after)))))) in record { value = all.0; work_after = all.1.0; indices_after = all.1.1.0; key_after = all.1.1.1.0; own_after = all.1.1.1.1.0; begin_after = all.1.1.1.1.1.0; total_after = all.1.1.1.1.1.1 }
