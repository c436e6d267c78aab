-- The chain of refusals, what is known where it has passed, and the answer.
use mathlib.Core.Path.{◌≡◌, refl, sym, ap, ap₂, ◌∙◌, subst}
use mathlib.Core.Bool.{Bool, true, false}
use mathlib.Core.List.{List}
use Prim.Native.Nat.{ℕ, ◌≤◌, ◌<◌, min}
use native.Mathlib.Omega.{arith}
use lib.Dec.{ltb}
use lib.IntN.{ℤ}
use lib.ListN.{length, get_or}
use borrow.Author.Tests.{ltb-true, le-ltb, lt-ltb}
use Rattle.slices.specs.Lists.{sum, count}
use Rattle.refusal.specs.declared.Refusal.{Refusal}
use Rattle.refusal.specs.declared.Refusal.TheVariants.{NotBuilt, Room}
use Rattle.refusal.specs.Chain.{ask, ◌then◌}
use Rattle.refusal.proofs.Chain.{both-done, asked, answered}
use Rattle.tree.specs.Columns.{columns}
use Rattle.tree.specs.Nodes.{leaf}
use Rattle.tree.specs.WellFormed.{most_sources}
use Rattle.row_sums.specs.Readings.{Read}
use Rattle.sourced.specs.Answers.{tree_check}
use Rattle.sum_check.specs.Checks.{readings_check, is_built}
use Rattle.sum_check.proofs.Checks as C
use Rattle.survey_check.specs.Answers.{most_additions, survey_check, agreeing, all_additions, tally, survey_answer}
use Rattle.survey_check.specs.Pass.{Passed}
use Rattle.survey_check.specs.declared.Tally.{Tally}
use Rattle.survey_check.proofs.Leaves.{reads, entries, most}
use Rattle.survey_check.proofs.Tour.{all-agree}
use Rattle.refusal.specs.Outcome.{Outcome, accepted}
use Rattle.std.specs.Prelude.{Err, Ok}

module _ (d : ℕ) (keys own begin total : List ℕ) (readings : List ℤ) (order us uk vs vk : List ℕ) (room : ℕ) where
  abbrev check : Outcome
  check = readings_check d (columns keys own begin total) readings

  abbrev built : Bool
  built = is_built d (columns keys own begin total) order us uk vs vk

  abbrev whole : Outcome
  whole = survey_check d (columns keys own begin total) order readings us uk vs vk room

  pub not-read : (r : Refusal) → check ≡ Err r → Err r ≡ whole
  not-read r e = sym (ap (λ o. o then ask built NotBuilt then ask (ltb (sum own) room) (Room 1)) e)

  module _ (done : check ≡ accepted) where
    pub tree-done : tree_check d (columns keys own begin total) ≡ accepted
    tree-done = (C.read d keys own begin total readings done).tree

    pub root_in : 0 < length total
    root_in = C.root_in d keys own begin total tree-done

    module _ (b : Bool) (q : b ≡ built) where
      pub not-built : b ≡ false → Err NotBuilt ≡ whole
      not-built h = sym (ap₂ (λ o b. o then ask b NotBuilt then ask (ltb (sum own) room) (Room 1)) done (sym q ∙ h))

      module _ (h : b ≡ true) where
        front : check then ask built NotBuilt ≡ accepted
        front = ap₂ (λ o b. o then ask b NotBuilt) done (sym q ∙ h)

        pub enough : get_or total 0 0 < room → accepted ≡ whole
        enough l = sym (ap₂ (λ o b. o then ask b (Room 1)) front (lt-ltb (sum own) room (omega (arith, C.all-sources d keys own begin total tree-done))))

        pub short : room ≤ get_or total 0 0 → Err (Room 1) ≡ whole
        short l = sym (ap₂ (λ o b. o then ask b (Room 1)) front (le-ltb (sum own) room (omega (arith, C.all-sources d keys own begin total tree-done))))

  -- ---- what has passed
  module _ (e : whole ≡ accepted) where
    parts : (check then ask built NotBuilt ≡ accepted) × (ask (ltb (sum own) room) (Room 1) ≡ accepted)
    parts = both-done (check then ask built NotBuilt) (ask (ltb (sum own) room) (Room 1)) e

    pub passed : Passed d keys own begin total readings order us uk vs vk
    passed = let (a, b) = both-done check (ask built NotBuilt) parts.0 in record { read = a; built = asked built NotBuilt b }

    pub fill-asks : Read order readings × (length order ≤ most_sources) × (length order < room)
    fill-asks = (
      reads d keys own begin total readings order us uk vs vk passed,
      omega (arith, entries d keys own begin total readings order us uk vs vk passed, most d keys own begin total readings order us uk vs vk passed),
      omega (arith, entries d keys own begin total readings order us uk vs vk passed, ltb-true (sum own) room (asked (ltb (sum own) room) (Room 1) parts.1)),
    )

    pub tallied : (all : Tally) → all.leaves ≡ agreeing d (columns keys own begin total) order readings → all.additions ≡ min (all_additions d (columns keys own begin total) order readings) most_additions
        → Ok all ≡ survey_answer d (columns keys own begin total) order readings us uk vs vk room
    tallied all p q = answered whole all (tally d (columns keys own begin total) order readings) e (ap₂ counted p q)
      where
        counted : ℕ → ℕ → Tally
        counted leaves adds = record { leaves = leaves; additions = adds }

    pub every-leaf : (leaves : ℕ) → leaves ≡ agreeing d (columns keys own begin total) order readings → leaves ≡ count (leaf d keys) keys
    every-leaf leaves p = p ∙ all-agree d keys own begin total readings order us uk vs vk passed
