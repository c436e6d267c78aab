-- `salvage_list::list` meets its contract.
use mathlib.Core.Path.{ap, ◌∙◌}
use Rattle.growth.specs.Columns.{begin_column}
use Rattle.salvaged.specs.Nodes.{input}
use Rattle.salvage_list.proofs.Order.{copiable, order-left, addable}
use Rattle.salvage_list.proofs.Changes.{numberable, comparable, listed}
use Rattle.salvage_list.proofs.list.Goals as goal

pub copy_runs-requires : goal.copy_runs-requires
copy_runs-requires c = copiable (input c.args.axes c.args.key.now c.args.own.now c.args.begin.now c.args.order.now) c.args.new_order.now c.args.new_key.now c.args.new_own.now c.args.new_begin.now c.args.new_total.now c.requires

pub number_first-requires : goal.number_first-requires
number_first-requires c = numberable (input c.args.axes c.args.key.now c.args.own.now c.args.begin.now c.args.order.now) c.requires.readable _ _ c.requires.keys c.requires.totals

pub fill_begins-requires : goal.fill_begins-requires
fill_begins-requires c = (addable (input c.args.axes c.args.key.now c.args.own.now c.args.begin.now c.args.order.now) c.args.new_order.now c.args.new_key.now c.args.new_own.now c.args.new_begin.now c.args.new_total.now c.requires)

pub list_changes-requires : goal.list_changes-requires
list_changes-requires c = comparable (input c.args.axes c.args.key.now c.args.own.now c.args.begin.now c.args.order.now) c.requires.readable _ _ _ _ c.requires.keys c.requires.owns c.fill_begins.ensures c.number_first.ensures

pub returns : goal.returns
returns c = record { listed = listed (input c.args.axes c.args.key.now c.args.own.now c.args.begin.now c.args.order.now) c.requires.readable _ _ _ _ c.requires.keys c.requires.owns c.fill_begins.ensures c.number_first.ensures _ _ _ c.list_changes.ensures; new_order_after = order-left (input c.args.axes c.args.key.now c.args.own.now c.args.begin.now c.args.order.now) c.args.new_order.now c.args.new_key.now c.args.new_own.now c.args.new_begin.now c.args.new_total.now c.requires _ c.copy_runs.ensures; new_begin_after = c.fill_begins.ensures ∙ ap begin_column c.requires.owns }
