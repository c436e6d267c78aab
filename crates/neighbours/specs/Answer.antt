-- What the call for the neighbours answers: refused 1 or 9, else the list.
use Rattle.std.specs.Prelude.{ℕ, Ok}
use Rattle.refusal.specs.Outcome.{Answer}
use Rattle.refusal.specs.Chain.{◌then◌}
use Rattle.morton.specs.declared.KeyList.{KeyList}
use Rattle.morton.specs.Answers.{key_list, key_check}
use Rattle.neighbours.specs.Directions.{neighbours}

abbrev pub neighbours_answer : ℕ → ℕ → Answer KeyList
neighbours_answer d k = key_check d k then Ok (key_list (neighbours d k))
