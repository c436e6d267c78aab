-- What the C face tells of the balancing beside how it ended: the number of nodes and the depth, 0 and 0 after a refusal.
use Rattle.growth.specs.declared.Grown.{Grown}

-- what is told in place of a tree after a refusal
abbrev pub no_tree : Grown
no_tree = record { nodes = 0; depth = 0 }
