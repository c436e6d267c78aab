-- `list_check::near_right` meets its contract.
use Rattle.list_check.proofs.Nodes.{inner-tells, near-lost, near-small, near-tells}
use Rattle.list_check.proofs.Starts.{start-in, part_up, part_in}
use Rattle.list_rows.proofs.Rows.{total-in}
use Rattle.list_rows.proofs.Entries.{tree-keys}
use native.Mathlib.Omega.{arith}
use mathlib.Core.Path.{sym, ◌∙◌}
use Rattle.list_check.proofs.near_right.Goals as goal

pub offset_bounds-starts-node : goal.offset_bounds-starts-node
offset_bounds-starts-node c = omega (arith, start-in c.args.key.now c.args.starts.now c.args.flat.now c.requires.counted.2 c.args.node c.requires.below.0.within, c.well_formed.1.1.1.1.1.1.0)

pub bounds-starts-node : goal.bounds-starts-node
bounds-starts-node c = omega (arith, start-in c.args.key.now c.args.starts.now c.args.flat.now c.requires.counted.2 c.args.node c.requires.below.0.within)

pub overflow_add-to : goal.overflow_add-to
overflow_add-to c = omega (arith, start-in c.args.key.now c.args.starts.now c.args.flat.now c.requires.counted.2 c.args.node c.requires.below.0.within, c.well_formed.1.1.1.1.1.1.0)

pub offset_bounds-starts-node-2 : goal.offset_bounds-starts-node-2
offset_bounds-starts-node-2 c = omega (arith, start-in c.args.key.now c.args.starts.now c.args.flat.now c.requires.counted.2 c.args.node c.requires.below.0.within, c.well_formed.1.1.1.1.1.1.0)

pub bounds-starts-node-2 : goal.bounds-starts-node-2
bounds-starts-node-2 c = start-in c.args.key.now c.args.starts.now c.args.flat.now c.requires.counted.2 c.args.node c.requires.below.0.within

pub is_leaf-requires : goal.is_leaf-requires
is_leaf-requires c = (tree-keys c.args.axes c.args.key.now c.args.own.now c.requires.counted.0.tree, c.requires.below.0.within)

pub returns-then-not-is_leaf : goal.returns-then-not-is_leaf
returns-then-not-is_leaf c = record { tells = inner-tells c.args.axes c.args.key.now c.args.own.now c.args.total.now c.args.starts.now c.args.flat.now c.args.node c.args.met c.requires.counted.2 c.requires.below.0.within (sym c.is_leaf.ensures ∙ c.if-not-is_leaf.true); table = c.requires.counted.1 }

pub offset_bounds-flat-from : goal.offset_bounds-flat-from
offset_bounds-flat-from c = omega (arith, part_up c.args.key.now c.args.starts.now c.args.flat.now c.requires.counted.2 c.args.node c.requires.below.0.within, part_in c.args.key.now c.args.starts.now c.args.flat.now c.requires.counted.2 c.args.node c.requires.below.0.within, c.well_formed.1.1.1.1.1.1.1.0)

pub slice_bounds-row_sources-count : goal.slice_bounds-row_sources-count
slice_bounds-row_sources-count c = part_up c.args.key.now c.args.starts.now c.args.flat.now c.requires.counted.2 c.args.node c.requires.below.0.within

pub row_sources-brought-requires : goal.row_sources-brought-requires
row_sources-brought-requires c = (c.requires.counted.0, c.requires.counted.1, c.requires.below.1)

pub returns-in_default : goal.returns-in_default
returns-in_default c = record { tells = near-lost c.args.axes c.args.key.now c.args.own.now c.args.total.now c.args.starts.now c.args.flat.now c.args.node c.args.met c.requires.counted.2 c.requires.below.0.within (sym c.is_leaf.ensures ∙ c.if-not-is_leaf.false) c.args.row.cell c.requires.below.2 c.row_sources-brought.result c.row_sources-brought.ensures.brings c.in_default.is; table = c.row_sources-brought.ensures.table }

pub overflow_add-result : goal.overflow_add-result
overflow_add-result c = omega (arith, near-small c.args.axes c.args.key.now c.args.own.now c.args.total.now c.args.starts.now c.args.flat.now c.args.node c.args.met c.requires.counted.2 c.requires.below.0.within (sym c.is_leaf.ensures ∙ c.if-not-is_leaf.false) c.args.row.cell c.requires.below.2 c.row_sources-brought.result c.row_sources-brought.ensures.brings _ c.in-Some.is, c.requires.below.3)

pub bounds-total-0 : goal.bounds-total-0
bounds-total-0 c = total-in c.args.axes c.args.key.now c.args.own.now c.args.total.now c.requires.counted.0 0 (omega (arith, c.requires.below.0.within, c.requires.below.0.some))

pub returns : goal.returns
returns c = record { tells = near-tells c.args.axes c.args.key.now c.args.own.now c.args.total.now c.args.starts.now c.args.flat.now c.args.node c.args.met c.requires.counted.2 c.requires.below.0.within (sym c.is_leaf.ensures ∙ c.if-not-is_leaf.false) c.args.row.cell c.requires.below.2 c.row_sources-brought.result c.row_sources-brought.ensures.brings _ c.in-Some.is; table = c.row_sources-brought.ensures.table }

pub slice_bounds-row_sources-end : goal.slice_bounds-row_sources-end
slice_bounds-row_sources-end c = part_in c.args.key.now c.args.starts.now c.args.flat.now c.requires.counted.2 c.args.node c.requires.below.0.within
