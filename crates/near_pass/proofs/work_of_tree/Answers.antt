-- `near_pass::work_of_tree` meets its contract.
use native.Mathlib.Omega.{arith}
use mathlib.Core.Path.{refl}
use Rattle.near_pass.proofs.Path.{sums-root}
use Rattle.near_pass.proofs.work_of_tree.Goals as goal

pub visit_all-requires : goal.visit_all-requires
visit_all-requires c = record { linked_tree = (c.requires.0, c.requires.1); ready = (c.begin.ensures _ (omega arith), sums-root c.args.axes c.args.key.now c.args.own.now _ c.requires.0.tree (omega arith) refl) }
