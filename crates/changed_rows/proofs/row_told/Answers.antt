-- `changed_rows::row_told` meets its contract.
use mathlib.Core.Path.{sym, ◌∙◌}
use native.Mathlib.Omega.{arith}
use borrow.Author.Tests.{not-true, not-false}
use Rattle.first_rows.proofs.Filling.{found_at, found_none}
use Rattle.changed_rows.specs.Told.{beside}
use Rattle.changed_rows.proofs.Told.{row-invalid, row-dropped, row-lost, row-node, firsts-in}
use Rattle.changed_rows.proofs.row_told.Goals as goal

pub is_valid-valid-requires : goal.is_valid-valid-requires
is_valid-valid-requires c = c.requires.0.known

pub returns-then-code-eq1 : goal.returns-then-code-eq1
returns-then-code-eq1 c = row-invalid (beside c.args.axes c.args.key.now c.args.own.now c.args.begin.now c.args.nodes.now c.args.counts.now c.args.begins.now) _ _ _ c.is_valid-valid.ensures c.if-code-eq1.true

pub returns-then-not-valid : goal.returns-then-not-valid
returns-then-not-valid c = row-dropped (beside c.args.axes c.args.key.now c.args.own.now c.args.begin.now c.args.nodes.now c.args.counts.now c.args.begins.now) _ _ c.if-code-eq1.false (sym c.is_valid-valid.ensures ∙ c.if-not-valid.true)

pub find_node-found-requires : goal.find_node-found-requires
find_node-found-requires c = c.requires.0.known

pub offset_bounds-firsts-node : goal.offset_bounds-firsts-node
offset_bounds-firsts-node c = omega (arith, firsts-in (beside c.args.axes c.args.key.now c.args.own.now c.args.begin.now c.args.nodes.now c.args.counts.now c.args.begins.now) _ _ _ c.requires.0 c.requires.1 c.if-code-eq1.false (sym c.is_valid-valid.ensures ∙ c.if-not-valid.false) _ (found_at c.args.axes c.args.nodes.now _ c.find_node-found.result c.find_node-found.ensures _ c.in-Some.is).0 (found_at c.args.axes c.args.nodes.now _ c.find_node-found.result c.find_node-found.ensures _ c.in-Some.is).1)

pub bounds-firsts-node : goal.bounds-firsts-node
bounds-firsts-node c = omega (arith, firsts-in (beside c.args.axes c.args.key.now c.args.own.now c.args.begin.now c.args.nodes.now c.args.counts.now c.args.begins.now) _ _ _ c.requires.0 c.requires.1 c.if-code-eq1.false (sym c.is_valid-valid.ensures ∙ c.if-not-valid.false) _ (found_at c.args.axes c.args.nodes.now _ c.find_node-found.result c.find_node-found.ensures _ c.in-Some.is).0 (found_at c.args.axes c.args.nodes.now _ c.find_node-found.result c.find_node-found.ensures _ c.in-Some.is).1)

pub offset_bounds-own-row : goal.offset_bounds-own-row
offset_bounds-own-row c = omega (arith, c.requires.1, c.requires.0.owned)

pub bounds-own-row : goal.bounds-own-row
bounds-own-row c = omega (arith, c.requires.1, c.requires.0.owned)

pub offset_bounds-begin-row : goal.offset_bounds-begin-row
offset_bounds-begin-row c = omega (arith, c.requires.1, c.requires.0.begun)

pub bounds-begin-row : goal.bounds-begin-row
bounds-begin-row c = omega (arith, c.requires.1, c.requires.0.begun)

pub offset_bounds-counts-node : goal.offset_bounds-counts-node
offset_bounds-counts-node c = omega (arith, (found_at c.args.axes c.args.nodes.now _ c.find_node-found.result c.find_node-found.ensures _ c.in-Some.is).0, c.requires.0.counted)

pub bounds-counts-node : goal.bounds-counts-node
bounds-counts-node c = omega (arith, (found_at c.args.axes c.args.nodes.now _ c.find_node-found.result c.find_node-found.ensures _ c.in-Some.is).0, c.requires.0.counted)

pub offset_bounds-begins-node : goal.offset_bounds-begins-node
offset_bounds-begins-node c = omega (arith, (found_at c.args.axes c.args.nodes.now _ c.find_node-found.result c.find_node-found.ensures _ c.in-Some.is).0, c.requires.0.placed)

pub bounds-begins-node : goal.bounds-begins-node
bounds-begins-node c = omega (arith, (found_at c.args.axes c.args.nodes.now _ c.find_node-found.result c.find_node-found.ensures _ c.in-Some.is).0, c.requires.0.placed)

pub returns-in-Some : goal.returns-in-Some
returns-in-Some c = row-node (beside c.args.axes c.args.key.now c.args.own.now c.args.begin.now c.args.nodes.now c.args.counts.now c.args.begins.now) _ _ _ c.requires.0 c.requires.1 c.if-code-eq1.false (sym c.is_valid-valid.ensures ∙ c.if-not-valid.false) _ (found_at c.args.axes c.args.nodes.now _ c.find_node-found.result c.find_node-found.ensures _ c.in-Some.is).0 (found_at c.args.axes c.args.nodes.now _ c.find_node-found.result c.find_node-found.ensures _ c.in-Some.is).1 _ c.node_told.ensures

pub returns-in-None : goal.returns-in-None
returns-in-None c = row-lost (beside c.args.axes c.args.key.now c.args.own.now c.args.begin.now c.args.nodes.now c.args.counts.now c.args.begins.now) _ _ _ c.requires.0 c.requires.1 c.if-code-eq1.false (sym c.is_valid-valid.ensures ∙ c.if-not-valid.false) (found_none c.args.axes c.args.nodes.now _ c.find_node-found.result c.find_node-found.ensures c.in-None.is c.requires.0.ascend)
