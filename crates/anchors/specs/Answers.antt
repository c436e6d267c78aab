-- What the calls on anchors answer: their refusals, in document 01's order, else their result.
use Rattle.std.specs.Prelude.{Bool, ◌&&◌, List, ℕ, leb, Ok}
use Rattle.refusal.specs.declared.Refusal.TheVariants.{Dims, Key}
use Rattle.refusal.specs.Chain.{ask, ◌then◌}
use Rattle.slices.specs.Lists.{filled}
use Rattle.morton.specs.Keys.{deepest, axes_known, level_of}
use Rattle.morton.specs.Anchors.{anchors, key_at, on_level, touching}
use Rattle.morton.specs.Answers.{key_check}
use Rattle.anchors.specs.declared.Decoded.{Decoded}
use Rattle.refusal.specs.Outcome.{Answer, Outcome}

-- three anchors by value, those past the axes 0, and the level
abbrev pub decoded : List ℕ → ℕ → Decoded
decoded xs level = record { anchor = filled 3 xs; level = level }

-- either of two keys
abbrev pub pair_check : ℕ → ℕ → ℕ → Outcome
pair_check d j k = key_check d j then key_check d k

-- a level not valid, or an anchor off its level
abbrev pub anchor_check : ℕ → ℕ → List ℕ → Outcome
anchor_check d level xs = ask (axes_known d) Dims then ask (leb level deepest && on_level d level xs) Key

abbrev pub decode_answer : ℕ → ℕ → Answer Decoded
decode_answer d k = key_check d k then Ok (decoded (anchors d k) (level_of k))

abbrev pub encode_answer : ℕ → ℕ → List ℕ → Answer ℕ
encode_answer d level xs = anchor_check d level xs then Ok (key_at d level xs)

abbrev pub touching_answer : ℕ → ℕ → ℕ → Answer Bool
touching_answer d j k = pair_check d j k then Ok (touching d j k)
