-- The checks of a build as far as its points decide them, and what they tell when none refuses.
use mathlib.Core.Path.{◌≡◌, sym, ◌∙◌}
use mathlib.Core.List.{List}
use Prim.Native.Nat.{ℕ, ◌≤◌, ◌<◌}
use lib.Dec.{leb}
use lib.Ieee.{Float}
use borrow.Author.Tests.{le-leb, lt-leb, leb-true}
use Rattle.refusal.specs.declared.Refusal.{Refusal}
use Rattle.refusal.specs.declared.Refusal.TheVariants.{Room}
use Rattle.refusal.specs.Chain.{ask, ◌then◌}
use Rattle.refusal.proofs.Chain.{asked, both-done, never}
use Rattle.space.specs.declared.Box.{Box}
use Rattle.laying.specs.Outcomes.{asked_outcome, inside_outcome, work_outcome, work_need}
use Rattle.laying.proofs.Calls.{Called, checked}
use Rattle.refusal.specs.Outcome.{Outcome, accepted}
use Rattle.std.specs.Prelude.{Err}

module _ (b : Box) (s t : List Float) (order work : ℕ) where
  abbrev checks : Outcome
  checks = asked_outcome b s t order then inside_outcome b s t then work_outcome b s t work

  pub call-refused : (r : Refusal) → asked_outcome b s t order ≡ Err r → Err r ≡ checks
  call-refused r e = rw e

  module _ (o : asked_outcome b s t order ≡ accepted) where
    module _ (result : Outcome) (e : result ≡ inside_outcome b s t then Err (Room 1)) where
      pub work-short : work < work_need b s t → result ≡ checks
      unfolding work_outcome
      work-short h = e ∙ rw (o, lt-leb (work_need b s t) work h)

      pub short-refused : result ≡ accepted → ⊥
      short-refused d = never (Room 1) (both-done (inside_outcome b s t) (Err (Room 1)) (sym e ∙ d)).1

    pub point-refused : (r : Refusal) → inside_outcome b s t ≡ Err r → Err r ≡ checks
    point-refused r e = rw (o, e)

    pub all_pass : inside_outcome b s t ≡ accepted → work_need b s t ≤ work → accepted ≡ checks
    unfolding work_outcome
    all_pass e h = rw (o, e, le-leb (work_need b s t) work h)

  pub record Passed : Type 0 where
    pub call : Called b s t order
    pub room : work_need b s t ≤ work

  pub passed : checks ≡ accepted → Passed
  unfolding work_outcome
  passed d =
      let second = both-done (asked_outcome b s t order then inside_outcome b s t) (ask (leb (work_need b s t) work) (Room 1)) d in
      let first = both-done (asked_outcome b s t order) (inside_outcome b s t) second.0 in
      record { call = checked b s t order first.0; room = leb-true (work_need b s t) work (asked (leb (work_need b s t) work) (Room 1) second.1) }
