-- `gap_search::gap_level` meets its contract.
use mathlib.Core.Bool.{true, false}
use native.Mathlib.Omega.{arith}
use Rattle.gap_search.proofs.Search.{inner-is, way-start, way-stop, way_on, way_end}
use Rattle.gap_search.proofs.gap_level.Goals as goal

pub loop-level-init : goal.loop-level-init
loop-level-init c = way-start c.args.axes c.args.key.now c.requires.0 c.args.code c.requires.1

pub returns-then-not-is_inner : goal.returns-then-not-is_inner
returns-then-not-is_inner c = way-stop c.args.axes c.args.key.now c.requires.0 c.args.code c.requires.1 c.loop-level.level c.cell_at-cell.result c.first_from-node.result c.loop-level.invariant c.cell_at-cell.ensures c.first_from-node.ensures (inner-is c.args.axes c.args.key.now c.first_from-node.result c.cell_at-cell.result c.is_inner.result false (c.if-not-is_inner.true) c.is_inner.ensures)

pub loop-level-preserved : goal.loop-level-preserved
loop-level-preserved c = way_on c.args.axes c.args.key.now c.requires.0 c.args.code c.requires.1 c.loop-level.level c.cell_at-cell.result c.first_from-node.result c.loop-level.invariant c.loop-level-test.true c.cell_at-cell.ensures (inner-is c.args.axes c.args.key.now c.first_from-node.result c.cell_at-cell.result c.is_inner.result true (c.if-not-is_inner.false) c.is_inner.ensures)

pub returns : goal.returns
returns c = way_end c.args.axes c.args.key.now c.requires.0 c.args.code c.requires.1 c.loop-level.level c.loop-level.invariant (omega (arith, c.loop-level-test.false))
