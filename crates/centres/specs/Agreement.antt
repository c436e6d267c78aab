-- Document 02, "The float test agrees": for every box in the domain and any two valid keys of one level, the float test and the anchor test give the same yes or no.
use Rattle.std.specs.Prelude.{◌≡◌, Bool, true, ℕ, Ok}
use Rattle.morton.specs.Keys.{level_of, valid}
use Rattle.anchors.specs.Answers.{touching_answer}
use Rattle.space.specs.declared.Box.{Box}
use Rattle.space.specs.Domain.{box_outcome}
use Rattle.refusal.specs.Outcome.{Answer, accepted}

-- a box in the domain, and two valid keys of one level
pub record OneLevel (b : Box) (j k : ℕ) : Type 0 where
  pub box : box_outcome b ≡ accepted
  pub first : valid b.axes j ≡ true
  pub second : valid b.axes k ≡ true
  pub level : level_of j ≡ level_of k

-- the float test's answer and the anchor test's are the same yes or no, and neither is a refusal
pub record Same (r : Answer Bool) (t : Answer Bool) : Type 0 where
  pub answer : Bool
  pub float : r ≡ Ok answer
  pub anchor : t ≡ Ok answer

abbrev pub Agree : Box → ℕ → ℕ → Answer Bool → Type 0
Agree b j k r = OneLevel b j k → Same r (touching_answer b.axes j k)
