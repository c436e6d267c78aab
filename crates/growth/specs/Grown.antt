-- What is answered of a tree that was grown.
use Rattle.std.specs.Prelude.{List, ℕ, length}
use Rattle.tree.specs.Order.{depth_of}
use Rattle.growth.specs.declared.Grown.{Grown}

-- the number of nodes and the depth of a tree with these keys
abbrev pub grown : List ℕ → Grown
grown key = record { nodes = length key; depth = depth_of key }
