-- `survey_check::node_part` meets its contract.
use Rattle.list_check.proofs.Starts.{start-in, part_up, part_in, part-is}
use Rattle.row_sums.specs.Readings.{sources_in}
use Rattle.cell_sums.specs.Lifted.{row_lifted}
use Rattle.tree.specs.WellFormed.{most_sources}
use native.Mathlib.Omega.{arith}
use Prim.Native.Nat.{◌≤◌}
use mathlib.Core.Path.{sym, ap, subst, ◌∙◌}
use Rattle.survey_check.proofs.node_part.Goals as goal

pub offset_bounds-starts-node : goal.offset_bounds-starts-node
offset_bounds-starts-node c = omega (arith, start-in c.args.key.now c.args.starts.now c.args.flat.now c.requires.row_asked.starts_right c.args.node c.requires.row_asked.within, c.well_formed.1.1.1.1.1.1.1.1.1.1.0)

pub bounds-starts-node : goal.bounds-starts-node
bounds-starts-node c = omega (arith, start-in c.args.key.now c.args.starts.now c.args.flat.now c.requires.row_asked.starts_right c.args.node c.requires.row_asked.within)

pub overflow_add-to : goal.overflow_add-to
overflow_add-to c = omega (arith, start-in c.args.key.now c.args.starts.now c.args.flat.now c.requires.row_asked.starts_right c.args.node c.requires.row_asked.within, c.well_formed.1.1.1.1.1.1.1.1.1.1.0)

pub offset_bounds-starts-node-2 : goal.offset_bounds-starts-node-2
offset_bounds-starts-node-2 c = omega (arith, start-in c.args.key.now c.args.starts.now c.args.flat.now c.requires.row_asked.starts_right c.args.node c.requires.row_asked.within, c.well_formed.1.1.1.1.1.1.1.1.1.1.0)

pub bounds-starts-node-2 : goal.bounds-starts-node-2
bounds-starts-node-2 c = start-in c.args.key.now c.args.starts.now c.args.flat.now c.requires.row_asked.starts_right c.args.node c.requires.row_asked.within

pub offset_bounds-flat-from : goal.offset_bounds-flat-from
offset_bounds-flat-from c = omega (arith, part_up c.args.key.now c.args.starts.now c.args.flat.now c.requires.row_asked.starts_right c.args.node c.requires.row_asked.within, part_in c.args.key.now c.args.starts.now c.args.flat.now c.requires.row_asked.starts_right c.args.node c.requires.row_asked.within, c.well_formed.1.1.1.1.1.1.1.1.1.1.1.0)

pub slice_bounds-row_part-count : goal.slice_bounds-row_part-count
slice_bounds-row_part-count c = part_up c.args.key.now c.args.starts.now c.args.flat.now c.requires.row_asked.starts_right c.args.node c.requires.row_asked.within

pub row_part-requires : goal.row_part-requires
row_part-requires c = record { summed = (c.requires.row_asked.summed, subst (λ r. sources_in c.args.key.now c.args.total.now r ≤ most_sources) (sym (part-is c.args.key.now c.args.starts.now c.args.flat.now c.requires.row_asked.starts_right c.args.node c.requires.row_asked.within)) c.requires.row_asked.few); kept_2 = c.requires.kept_2 }

pub returns : goal.returns
returns c = record { sum = c.row_part.ensures.sum ∙ ap (row_lifted c.args.key.now c.args.total.now c.args.begin.now c.args.indices.now c.args.readings.now) (part-is c.args.key.now c.args.starts.now c.args.flat.now c.requires.row_asked.starts_right c.args.node c.requires.row_asked.within); count = c.row_part.ensures.count ∙ ap (sources_in c.args.key.now c.args.total.now) (part-is c.args.key.now c.args.starts.now c.args.flat.now c.requires.row_asked.starts_right c.args.node c.requires.row_asked.within); kept = c.row_part.ensures.kept }

pub slice_bounds-row_part-end : goal.slice_bounds-row_part-end
slice_bounds-row_part-end c = part_in c.args.key.now c.args.starts.now c.args.flat.now c.requires.row_asked.starts_right c.args.node c.requires.row_asked.within
