-- What the C face tells in place of a tree's numbers after a refusal.
use Rattle.read_file.specs.declared.ReadTree.{ReadTree}

abbrev pub no_tree : ReadTree
no_tree = record { axes = 0; nodes = 0; sources = 0; u = 0; v = 0 }
