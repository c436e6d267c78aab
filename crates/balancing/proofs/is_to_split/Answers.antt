-- `balancing::is_to_split` meets its contract.
use Prim.Native.Nat.{◌+◌, ◌≤◌}
use native.Mathlib.Omega.{arith}
use Rattle.morton.specs.Keys.{level_of}
use Rattle.tree.specs.Order.{depth_of}
use Rattle.balancing.proofs.Deepest.{split-deep}
use Rattle.balancing.proofs.is_to_split.Goals as goal

pub returns-then-depth-r : goal.returns-then-depth-r
returns-then-depth-r c = let h : depth_of c.args.key.now ≤ level_of c.args.r + 1 = omega (arith, c.requires.2, c.if-depth-r.true) in
    split-deep c.args.axes c.args.key.now c.requires.0 c.args.r c.requires.1 h _ c.is_split_cell.ensures
