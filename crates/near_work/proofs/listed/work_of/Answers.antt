-- `listed::work_of` meets its contract.
use mathlib.Core.Path.{sym, ap, ◌∙◌, subst}
use Prim.Native.Nat.{◌≤◌}
use native.Mathlib.Omega.{arith}
use Rattle.tree.specs.WellFormed.{most_sources}
use Rattle.rows.specs.Lists.{u_row}
use Rattle.sourced.proofs.Sound.{tree-keys}
use Rattle.near_pass.specs.Sums.{row_sources}
use Rattle.near_pass.proofs.Work.{sources-few, weight-of, weight-few, work_none, work-some, product-fits}
use Rattle.near_work.proofs.Owned.{beside}
use Rattle.near_work.proofs.Columns.{read-row}
use Rattle.near_work.proofs.listed.work_of.Goals as goal

pub is_leaf-requires : goal.is_leaf-requires
is_leaf-requires c = (tree-keys c.args.axes c.args.key.now c.args.own.now c.requires.0, c.requires.2)

pub returns-then-not-is_leaf : goal.returns-then-not-is_leaf
returns-then-not-is_leaf c = work_none c.args.axes c.args.key.now c.args.own.now c.args.counts.now _ (sym c.is_leaf.ensures ∙ c.if-not-is_leaf.true)

pub bounds-starts-node : goal.bounds-starts-node
bounds-starts-node c = let r = read-row (u_row c.args.axes c.args.key.now c.args.own.now) c.args.key.now c.args.starts.now c.args.flat.now c.requires.1 c.args.node c.requires.2 in omega (arith, r.there)

pub bounds-starts-node-2 : goal.bounds-starts-node-2
bounds-starts-node-2 c = let r = read-row (u_row c.args.axes c.args.key.now c.args.own.now) c.args.key.now c.args.starts.now c.args.flat.now c.requires.1 c.args.node c.requires.2 in r.there

pub offset_bounds-flat-from : goal.offset_bounds-flat-from
offset_bounds-flat-from c = let r = read-row (u_row c.args.axes c.args.key.now c.args.own.now) c.args.key.now c.args.starts.now c.args.flat.now c.requires.1 c.args.node c.requires.2 in omega (arith, r.up, r.within, c.well_formed.1.1.1.1.1.0)

pub slice_bounds-row_sources-count : goal.slice_bounds-row_sources-count
slice_bounds-row_sources-count c = let r = read-row (u_row c.args.axes c.args.key.now c.args.own.now) c.args.key.now c.args.starts.now c.args.flat.now c.requires.1 c.args.node c.requires.2 in r.up

pub row_sources-sources-requires : goal.row_sources-sources-requires
row_sources-sources-requires c = let r = read-row (u_row c.args.axes c.args.key.now c.args.own.now) c.args.key.now c.args.starts.now c.args.flat.now c.requires.1 c.args.node c.requires.2 in (beside c.args.axes c.args.key.now c.args.own.now c.requires.0, subst (λ row. row_sources c.args.key.now c.args.own.now row ≤ most_sources) (sym r.part) (sources-few c.args.axes c.args.key.now c.args.own.now c.requires.0 _))

pub offset_bounds-counts-node : goal.offset_bounds-counts-node
offset_bounds-counts-node c = omega (arith, c.requires.2, c.requires.3.long, c.well_formed.1.1.1.0)

pub bounds-counts-node : goal.bounds-counts-node
bounds-counts-node c = omega (arith, c.requires.2, c.requires.3.long)

pub overflow_mul-result : goal.overflow_mul-result
overflow_mul-result c = let r = read-row (u_row c.args.axes c.args.key.now c.args.own.now) c.args.key.now c.args.starts.now c.args.flat.now c.requires.1 c.args.node c.requires.2 in omega (arith, product-fits _ _ (weight-few c.args.axes c.args.key.now c.args.own.now c.requires.0 c.args.counts.now c.requires.3 c.args.node c.requires.2 (sym c.is_leaf.ensures ∙ c.if-not-is_leaf.false)) (subst (λ n. n ≤ most_sources) (sym (c.row_sources-sources.ensures ∙ ap (row_sources c.args.key.now c.args.own.now) r.part)) (sources-few c.args.axes c.args.key.now c.args.own.now c.requires.0 _)))

pub returns : goal.returns
returns c = let r = read-row (u_row c.args.axes c.args.key.now c.args.own.now) c.args.key.now c.args.starts.now c.args.flat.now c.requires.1 c.args.node c.requires.2 in work-some c.args.axes c.args.key.now c.args.own.now c.args.counts.now _ _ _ (sym c.is_leaf.ensures ∙ c.if-not-is_leaf.false) (weight-of c.args.axes c.args.key.now c.args.own.now c.requires.0 c.args.counts.now c.requires.3 c.args.node c.requires.2) (c.row_sources-sources.ensures ∙ ap (row_sources c.args.key.now c.args.own.now) r.part)

pub slice_bounds-row_sources-start : goal.slice_bounds-row_sources-start
slice_bounds-row_sources-start c = let r = read-row (u_row c.args.axes c.args.key.now c.args.own.now) c.args.key.now c.args.starts.now c.args.flat.now c.requires.1 c.args.node c.requires.2 in r.up

pub slice_bounds-row_sources-end : goal.slice_bounds-row_sources-end
slice_bounds-row_sources-end c = let r = read-row (u_row c.args.axes c.args.key.now c.args.own.now) c.args.key.now c.args.starts.now c.args.flat.now c.requires.1 c.args.node c.requires.2 in r.within
