-- What the C face tells of an answer: the number and values of its refusal, 0 where there is none. What was answered is told
-- beside it, and 0 or false after a refusal.
use Rattle.std.specs.Prelude.{[], get_or}
use Rattle.refusal.specs.Numbers.{outcome_number, outcome_values}
use Rattle.exports_keys.specs.declared.Ended.{Ended}
use Rattle.refusal.specs.Outcome.{Outcome}
use Rattle.morton.specs.declared.KeyList.{KeyList}
use Rattle.morton.specs.Answers.{key_list}
use Rattle.anchors.specs.declared.Decoded.{Decoded}
use Rattle.anchors.specs.Answers.{decoded}

abbrev pub told : Outcome → Ended
told o = record { number = outcome_number o; axis = get_or (outcome_values o) 1 0; reason = get_or (outcome_values o) 2 0; value = get_or (outcome_values o) 0 0 }

-- what is told in place of a key list and of anchors after a refusal
abbrev pub no_keys : KeyList
no_keys = key_list []

abbrev pub nowhere : Decoded
nowhere = decoded [] 0
