-- The check decides, and a good key below the root has its parent's children.
use mathlib.Core.Path.{sym, ◌∙◌}
use native.Mathlib.Omega.{arith}
use Rattle.morton.proofs.Checks.{below_root}
use Rattle.morton.proofs.Arithmetic.{parent-valid}
use Rattle.morton.proofs.Cells.{level-parent}
use Rattle.morton.proofs.keys.get_siblings.Goals as goal

pub list_children-requires : goal.list_children-requires
list_children-requires c = let e = sym c.check_below_root.ensures ∙ c.in_ok-check_below_root.was in
    let (v, h) = below_root c.args.axes c.args.key e in
    rw c.parent_of.ensures (parent-valid c.args.axes c.args.key v h, omega (arith, level-parent c.args.axes c.args.key, v.level))
