-- `tree::depth_of` meets its contract.
use mathlib.Core.Path.{◌≡◌}
use Prim.Native.Nat.{◌≤◌, max}
use lib.ListN.{drop}
use Rattle.tree.specs.Order.{depth_of}
use Rattle.tree.proofs.depth_of.Given as goal

abbrev pub invariant-loop-k : goal.invariant-loop-k
invariant-loop-k l = (1 ≤ l.depth) × (max l.depth (depth_of (drop l.k-index l.key)) ≡ depth_of l.key)
