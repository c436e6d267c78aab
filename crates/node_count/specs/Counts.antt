-- How many nodes a build has, with no node column: the build's refusals, with as much room for nodes as counts.
use Rattle.std.specs.Prelude.{List, ℕ, length, Ok}
use Rattle.build.specs.Asked.{Asked, built_keys}
use Rattle.build.specs.Outcomes.{build_outcome}
use Rattle.refusal.specs.Outcome.{Answer}
use Rattle.refusal.specs.Chain.{◌then◌}

-- a tree has at most 1,048,576 nodes
abbrev pub most_nodes : ℕ
most_nodes = 1048576

-- the number of the tree's nodes, refused as its build into columns of 1,048,576 entries; so many entries have the work and the order column
abbrev pub nodes_answer : Asked → (work order : List ℕ) → Answer ℕ
nodes_answer a work order = build_outcome a (length work) (length order) most_nodes then Ok (length (built_keys a))
