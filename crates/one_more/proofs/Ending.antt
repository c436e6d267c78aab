-- What is left in the slices: after the judge has refused, and after the build of the longer list.
use mathlib.Core.Path.{◌≡◌, sym, ap, ◌∙◌, subst}
use mathlib.Core.List.{List}
use Prim.Native.Nat.{ℕ}
use lib.ListN.{length, replicate}
use Rattle.refusal.specs.declared.Refusal.{Refusal}
use Rattle.refusal.specs.Left.{left}
use Rattle.refusal.proofs.Chain.{after-done, after-refused}
use Rattle.growth.specs.declared.Grown.{Grown}
use Rattle.growth.specs.Grown.{grown}
use Rattle.build.specs.Asked.{built_keys, built_own, built_begins, built_totals, built_order}
use Rattle.build.specs.Outcomes.{Rooms, rooms, build_check, build_answer, order_left, keys_left, own_left, begins_left, totals_left}
use Rattle.one_more.specs.More.{More, longer_build, judged, more_check, more_answer, order_more, keys_more, own_more, begins_more, totals_more}
use Rattle.std.specs.Prelude.{Err, Ok}
use Rattle.refusal.specs.Outcome.{Answer, Outcome, accepted}
use Rattle.refusal.specs.Chain.{◌then◌}

abbrev pub Ended : More → Rooms → Answer Grown → List ℕ → List ℕ → List ℕ → List ℕ → List ℕ → List ℕ → Type 0
Ended q r answer works orders keys owns begins totals =
    (answer ≡ more_answer q r)
    × ((works ≡ replicate r.work 0) × ((orders ≡ order_more q r) × ((keys ≡ keys_more q r) × ((owns ≡ own_more q r) × ((begins ≡ begins_more q r) × (totals ≡ totals_more q r))))))

module _ (q : More) (r : Rooms) (works orders keys owns begins totals : List ℕ) where
  pub refused_all : (e : Refusal) → judged q ≡ Err e → works ≡ replicate r.work 0 → orders ≡ replicate r.order 0 → keys ≡ replicate r.keys 0
      → owns ≡ replicate r.own 0 → begins ≡ replicate r.begins 0 → totals ≡ replicate r.totals 0 → Ended q r (Err e) works orders keys owns begins totals
  refused_all e j w o k n b t =
      let c : more_check q r ≡ Err e = after-refused (judged q) (build_check (longer_build q) r) e j in (
        sym (after-refused (more_check q r) (Ok (grown (built_keys (longer_build q)))) e c),
        (
          w,
          (
            zeros c r.order (built_order (longer_build q)) orders o,
            (
              zeros c r.keys (built_keys (longer_build q)) keys k,
              (zeros c r.own (built_own (longer_build q)) owns n, (zeros c r.begins (built_begins (longer_build q)) begins b, zeros c r.totals (built_totals (longer_build q)) totals t)),
            ),
          ),
        ),
      )
    where
      zeros : more_check q r ≡ Err e → (m : ℕ) (answer slice : List ℕ) → slice ≡ replicate m 0 → slice ≡ left (more_check q r) m answer
      zeros c m answer slice z = z ∙ sym (ap (λ (x : Outcome). left x m answer) c)

  pub built-all : judged q ≡ accepted → (answer : Answer Grown) → answer ≡ build_answer (longer_build q) r → works ≡ replicate r.work 0 → orders ≡ order_left (longer_build q) r → keys ≡ keys_left (longer_build q) r
      → owns ≡ own_left (longer_build q) r → begins ≡ begins_left (longer_build q) r → totals ≡ totals_left (longer_build q) r → Ended q r answer works orders keys owns begins totals
  built-all j answer a w o k n b t =
      let c : build_check (longer_build q) r ≡ more_check q r = sym (after-done (judged q) (build_check (longer_build q) r) j) in (
        a ∙ ap (λ (x : Outcome). x then Ok (grown (built_keys (longer_build q)))) c,
        (
          w,
          (
            like c r.order (built_order (longer_build q)) orders o,
            (
              like c r.keys (built_keys (longer_build q)) keys k,
              (like c r.own (built_own (longer_build q)) owns n, (like c r.begins (built_begins (longer_build q)) begins b, like c r.totals (built_totals (longer_build q)) totals t)),
            ),
          ),
        ),
      )
    where
      like : build_check (longer_build q) r ≡ more_check q r → (m : ℕ) (answer slice : List ℕ) → slice ≡ left (build_check (longer_build q) r) m answer → slice ≡ left (more_check q r) m answer
      like c m answer slice z = z ∙ ap (λ (x : Outcome). left x m answer) c

-- the room in the work counts alone, and not what stands there
pub with-work : (q : More) (work work' order keys own begins totals : List ℕ) → length work' ≡ length work → (answer : Answer Grown) (works orders keyed owns begun summed : List ℕ)
    → Ended q (rooms work' order keys own begins totals) answer works orders keyed owns begun summed → Ended q (rooms work order keys own begins totals) answer works orders keyed owns begun summed
with-work q work work' order keys own begins totals e answer works orders keyed owns begun summed h =
    subst (λ (m : ℕ). Ended q (record { work = m; order = length order; keys = length keys; own = length own; begins = length begins; totals = length totals }) answer works orders keyed owns begun summed) e h
