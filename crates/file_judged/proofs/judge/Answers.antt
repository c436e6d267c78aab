-- `file_judged::judge` meets its contract.
use mathlib.Core.Path.{sym, ◌∙◌}
use Rattle.refusal.proofs.Chain.{passed-on}
use Rattle.file_judged.specs.Rooms.{given}
use Rattle.file_judged.proofs.Chain.{not-sectioned, sections, not_right, no-room, all-judged}
use Rattle.file_judged.proofs.judge.Goals as goal

pub returns-in_err-s : goal.returns-in_err-s
returns-in_err-s c = passed-on _ _ c.from_residual.ensures.1 ∙ not-sectioned c.args.file.now (given c.args.order c.args.nodes c.args.us c.args.uk c.args.vs c.args.vk) _ _ c.find_sections.ensures c.in_err-s.was

pub tree_outcome-requires : goal.tree_outcome-requires
tree_outcome-requires c = sections c.args.file.now (given c.args.order c.args.nodes c.args.us c.args.uk c.args.vs c.args.vk) c.in_ok-s.s (sym c.in_ok-s.was ∙ c.find_sections.ensures)

pub returns-in_err-tree_outcome : goal.returns-in_err-tree_outcome
returns-in_err-tree_outcome c = passed-on _ _ c.from_residual-in_err-tree_outcome.ensures.1 ∙ not_right c.args.file.now (given c.args.order c.args.nodes c.args.us c.args.uk c.args.vs c.args.vk) c.in_ok-s.s (sym c.in_ok-s.was ∙ c.find_sections.ensures) _ c.tree_outcome.ensures _ c.in_err-tree_outcome.was

pub room_outcome-requires : goal.room_outcome-requires
room_outcome-requires c = sections c.args.file.now (given c.args.order c.args.nodes c.args.us c.args.uk c.args.vs c.args.vk) c.in_ok-s.s (sym c.in_ok-s.was ∙ c.find_sections.ensures)

pub returns-in_err-room_outcome : goal.returns-in_err-room_outcome
returns-in_err-room_outcome c = passed-on _ _ c.from_residual-in_err-room_outcome.ensures.1 ∙ no-room c.args.file.now (given c.args.order c.args.nodes c.args.us c.args.uk c.args.vs c.args.vk) c.in_ok-s.s (sym c.in_ok-s.was ∙ c.find_sections.ensures) _ c.tree_outcome.ensures c.in_ok-tree_outcome.was _ c.room_outcome.ensures _ c.in_err-room_outcome.was

pub returns : goal.returns
returns c = all-judged c.args.file.now (given c.args.order c.args.nodes c.args.us c.args.uk c.args.vs c.args.vk) c.in_ok-s.s (sym c.in_ok-s.was ∙ c.find_sections.ensures) _ c.tree_outcome.ensures c.in_ok-tree_outcome.was _ c.room_outcome.ensures c.in_ok-room_outcome.was
