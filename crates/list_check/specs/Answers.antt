-- What the call that judges lists answers: 1, 13, then whether they are the tree's.
use Rattle.std.specs.Prelude.{Bool, List, ℕ, Ok}
use Rattle.refusal.specs.Chain.{◌then◌}
use Rattle.tree.specs.Columns.{Columns}
use Rattle.sourced.specs.Answers.{tree_check}
use Rattle.sums.specs.Right.{lists_are}
use Rattle.refusal.specs.Outcome.{Answer}

-- the four columns of the lists are those of the tree's rows, to the last entry
abbrev pub right_answer : ℕ → Columns → (us uk vs vk : List ℕ) → Answer Bool
right_answer d t us uk vs vk = tree_check d t then Ok (lists_are d t.keys t.own us uk vs vk)
