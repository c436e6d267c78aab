-- The answers of a build, by the checks that have run.
use mathlib.Core.Path.{◌≡◌, refl, sym, ap, subst, ◌∙◌}
use mathlib.Core.Bool.{Bool, true, false}
use mathlib.Core.List.{List}
use Prim.Native.Nat.{ℕ, ◌+◌, ◌≤◌, ◌<◌, min}
use native.Mathlib.Omega.{arith}
use lib.Dec.{leb}
use lib.ListN.{length}
use borrow.Author.Tests.{leb-true, le-leb, lt-leb}
use Rattle.refusal.specs.declared.Refusal.{Refusal}
use Rattle.refusal.specs.declared.Refusal.TheVariants.{Room}
use Rattle.refusal.specs.Chain.{ask, ◌then◌}
use Rattle.refusal.proofs.Chain.{after-done, after-refused}
use Rattle.slices.proofs.Tests.{same_test}
use Rattle.space.specs.Rows.{rows_of}
use Rattle.laying.specs.Outcomes.{asked_outcome, inside_outcome, work_outcome}
use Rattle.build.specs.Asked.{Asked, built_keys}
use Rattle.build.specs.Outcomes.{column_outcome, build_outcome}
use Rattle.build.specs.Steps.{lay_outcome}
use Rattle.refusal.specs.Outcome.{Answer, Outcome, accepted, ending}
use Rattle.std.specs.Prelude.{Err, Ok, IfOk}

-- how checks end that end with an answer
pub ends : {A : Type 0} (o : Outcome) (x : A) → ending (o then Ok x) ≡ o
ends (Ok tt) x = refl
ends (Err r) x = refl

-- what holds of the answer where the check before it has passed
pub if-asked : {A : Type 0} (P : A → Type 0) (t : Bool) (r : Refusal) (x : A) (a : Answer A) → a ≡ ask t r then Ok x → (t ≡ true → P x) → IfOk a P
if-asked P t r x a e f = subst (λ (b : Answer _). IfOk b P) (sym e) (go t refl)
  where
    go : (u : Bool) → t ≡ u → IfOk (ask u r then Ok x) P
    go true h = f h
    go false h = tt

then-all : (o p q : Outcome) → o then (p then q) ≡ (o then p) then q
then-all (Ok tt) p q = refl
then-all (Err r) p q = refl

module _ (a : Asked) (work order nodes : ℕ) where
  abbrev early : Outcome
  early = lay_outcome a work order

  abbrev last : Outcome
  last = ask (leb (length (built_keys a)) nodes) (Room 3)

  parts : build_outcome a work order nodes ≡ early then last
  unfolding column_outcome
  parts = then-all (a.early then asked_outcome a.box a.sources a.targets a.order then inside_outcome a.box a.sources a.targets then work_outcome a.box a.sources a.held work) (ask (leb (rows_of a.box a.sources) order) (Room 2)) last

  pub early-so : (r : Refusal) → Err r ≡ lay_outcome a work order → Err r ≡ build_outcome a work order nodes
  early-so r e = sym (parts ∙ after-refused early last r (sym e))

  -- n rows were counted, up to one more than the room
  pub late-so : accepted ≡ lay_outcome a work order → (n room : ℕ) (keys : List ℕ) → keys ≡ built_keys a → room ≡ nodes → n ≡ min (length keys) (room + 1)
      → ask (leb n room) (Room 3) ≡ build_outcome a work order nodes
  late-so e n room keys k r c = ap (λ b. ask b (Room 3)) same ∙ sym (parts ∙ after-done early last (sym e))
    where
      same : leb n room ≡ leb (length (built_keys a)) nodes
      same =
          same_test (leb n room) (leb (length (built_keys a)) nodes)
          (λ h. let l = leb-true n room h in le-leb (length (built_keys a)) nodes (omega (arith, l, c, r, ap length k)))
          (λ h. let l = leb-true (length (built_keys a)) nodes h in le-leb n room (omega (arith, l, c, r, ap length k)))

-- where the points are laid out, their checks have passed
module _ (a : Asked) (work room : ℕ) where
  abbrev pub checks_of : Outcome
  checks_of =
      a.early
      then asked_outcome a.box a.sources a.targets a.order
      then inside_outcome a.box a.sources a.targets
      then work_outcome a.box a.sources a.held work

  abbrev rows : ℕ
  rows = rows_of a.box a.sources

  pub refused-so : (r : Refusal) (o : Outcome) → o ≡ Err r → checks_of ≡ Err r → o ≡ lay_outcome a work room
  refused-so r o e c = e ∙ sym (after-refused checks_of (ask (leb rows room) (Room 2)) r c)

  pub short-so : (o : Outcome) → o ≡ Err (Room 2) → checks_of ≡ accepted → room < rows_of a.box a.sources → o ≡ lay_outcome a work room
  short-so o e c h = e ∙ sym (after-done checks_of (ask (leb rows room) (Room 2)) c ∙ ap (λ x. ask x (Room 2)) (lt-leb rows room h))

  pub laid_so : checks_of ≡ accepted → rows_of a.box a.sources ≤ room → accepted ≡ lay_outcome a work room
  laid_so c h = sym (after-done checks_of (ask (leb rows room) (Room 2)) c ∙ ap (λ x. ask x (Room 2)) (le-leb rows room h))
