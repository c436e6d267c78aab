-- What the C face tells of the answers on points: how the call ended, and what was answered, 0 or false after a refusal.
use Rattle.std.specs.Prelude.{◌≡◌, Bool, false, List, [], ◌∷◌, ℕ, Ok}
use Rattle.refusal.specs.declared.Refusal.TheVariants.{Dims}
use Rattle.refusal.specs.Chain.{ask, ◌then◌}
use Rattle.morton.specs.Keys.{axes_known}
use Rattle.morton.specs.Depth.{reference_depth}
use Rattle.anchors.specs.Answers.{touching_answer}
use Rattle.space.specs.declared.Box.{Box}
use Rattle.space.specs.Floats.{nought}
use Rattle.centres.specs.declared.Centred.{Centred}
use Rattle.centres.specs.Agreement.{OneLevel}
use Rattle.exports_keys.specs.declared.Ended.{Ended}
use Rattle.exports_keys.specs.Told.{told}
use Rattle.refusal.specs.Outcome.{Answer, accepted, ending, answer_or}

-- what is told after a refusal in place of anchors, of a centre with its side, and of a box
abbrev pub no_anchor : List ℕ
no_anchor = 0 ∷ 0 ∷ 0 ∷ []

abbrev pub no_centre : Centred
no_centre = record { centre = nought ∷ nought ∷ nought ∷ []; length = nought }

abbrev pub no_box : Box
no_box = record { centre = nought ∷ nought ∷ nought ∷ []; radius = nought; axes = 0 }

-- document 02, "The float test agrees": for a box in the domain and two valid keys of one level neither test is refused, and the call's yes or no is the anchor test's
abbrev pub AgreeTold : Box → ℕ → ℕ → Ended → Bool → Type 0
AgreeTold b j k ended adjacent = OneLevel b j k → (ended ≡ told accepted) × (told (ending (touching_answer b.axes j k)) ≡ told accepted) × (adjacent ≡ answer_or false (touching_answer b.axes j k))

-- ---- the reference depth: 1 DIMS, else the depth
abbrev pub depth_answer : ℕ → ℕ → Answer ℕ
depth_answer d sources = ask (axes_known d) Dims then Ok (reference_depth d sources)
