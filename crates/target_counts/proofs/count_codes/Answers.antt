-- `target_counts::count_codes` meets its contract.
use mathlib.Core.Path.{◌≡◌, sym, ◌∙◌, subst}
use native.Mathlib.Omega.{arith}
use Rattle.target_counts.proofs.Targets.{adding-start, adding-done, adding-stop, node-room, node-small, adding-more}
use Rattle.lookup.specs.Batch.{leaf_keys}
use Rattle.target_counts.specs.Pieces.{Added}
use Rattle.target_counts.proofs.count_codes.Goals as goal

pub loop-row-init : goal.loop-row-init
loop-row-init c = adding-start c.args.axes c.args.key.now c.args.codes.now c.args.n c.args.counts.now c.requires.tree_keys.1

pub offset_bounds-counts-node : goal.offset_bounds-counts-node
offset_bounds-counts-node c = omega (arith, node-room c.args.axes c.args.key.now c.args.codes.now c.args.n c.args.counts.now c.requires.tree_keys.1 c.loop-row.row c.loop-row.counts c.loop-row.invariant c.requires.tree_keys.0 c.requires.tree_keys.3 c.loop-row-test.true c.leaf_from-leaf.result c.leaf_from-leaf.ensures c.in-Some.node c.in-Some.is, c.loop-row.invariant.added.kept, c.well_formed)

pub bounds-counts-node : goal.bounds-counts-node
bounds-counts-node c = node-room c.args.axes c.args.key.now c.args.codes.now c.args.n c.args.counts.now c.requires.tree_keys.1 c.loop-row.row c.loop-row.counts c.loop-row.invariant c.requires.tree_keys.0 c.requires.tree_keys.3 c.loop-row-test.true c.leaf_from-leaf.result c.leaf_from-leaf.ensures c.in-Some.node c.in-Some.is

pub overflow_add-counts : goal.overflow_add-counts
overflow_add-counts c = omega (arith, node-small c.args.axes c.args.key.now c.args.codes.now c.args.n c.args.counts.now c.requires.tree_keys.1 c.loop-row.row c.loop-row.counts c.loop-row.invariant c.requires.tree_keys.0 c.requires.tree_keys.3 c.loop-row-test.true c.leaf_from-leaf.result c.leaf_from-leaf.ensures c.in-Some.node c.in-Some.is c.requires.by_index)

pub bounds-counts-node-in-Some : goal.bounds-counts-node-in-Some
bounds-counts-node-in-Some c = node-room c.args.axes c.args.key.now c.args.codes.now c.args.n c.args.counts.now c.requires.tree_keys.1 c.loop-row.row c.loop-row.counts c.loop-row.invariant c.requires.tree_keys.0 c.requires.tree_keys.3 c.loop-row-test.true c.leaf_from-leaf.result c.leaf_from-leaf.ensures c.in-Some.node c.in-Some.is

pub returns-in-None : goal.returns-in-None
returns-in-None c = record { value = adding-stop c.args.axes c.args.key.now c.args.codes.now c.args.n c.args.counts.now c.requires.tree_keys.1 c.loop-row.row c.loop-row.counts c.loop-row.invariant c.requires.tree_keys.0 c.requires.tree_keys.3 c.loop-row-test.true c.leaf_from-leaf.result c.leaf_from-leaf.ensures c.in-None.is; added = c.loop-row.invariant.added }

pub loop-row-preserved : goal.loop-row-preserved
loop-row-preserved c = adding-more c.args.axes c.args.key.now c.args.codes.now c.args.n c.args.counts.now c.requires.tree_keys.1 c.loop-row.row c.loop-row.counts c.loop-row.invariant c.requires.tree_keys.0 c.requires.tree_keys.3 c.loop-row-test.true c.leaf_from-leaf.result c.leaf_from-leaf.ensures c.in-Some.node c.in-Some.is

pub returns : goal.returns
returns c =
    let e : c.loop-row.row ≡ c.args.n = omega (arith, c.loop-row.auto.row-end, c.loop-row-test.false) in
    record { value = sym e ∙ adding-done c.args.axes c.args.key.now c.args.codes.now c.args.n c.args.counts.now c.requires.tree_keys.1 c.loop-row.row c.loop-row.counts c.loop-row.invariant c.loop-row-test.false; added = subst (λ k. Added c.args.key.now (leaf_keys c.args.axes c.args.key.now c.args.codes.now) k c.args.counts.now c.loop-row.counts) e c.loop-row.invariant.added }
