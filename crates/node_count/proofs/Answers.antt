-- The answer from how a build has started.
use mathlib.Core.Path.{◌≡◌, sym, ap, ◌∙◌}
use Prim.Native.Nat.{ℕ}
use Rattle.filling.specs.declared.Started.{Started}
use Rattle.refusal.specs.declared.Refusal.{Refusal}
use Rattle.refusal.specs.Chain.{◌then◌}
use Rattle.refusal.proofs.Chain.{after-refused, answered}
use Rattle.refusal.specs.Outcome.{Answer, Outcome, ending}
use Rattle.std.specs.Prelude.{Err, Ok}

module _ (a : Answer Started) (o : Outcome) (m : ℕ) (e : ending a ≡ o) where
  pub count-refused : (r : Refusal) → a ≡ Err r → Err r ≡ o then Ok m
  count-refused r is = sym (after-refused o (Ok m) r (sym e ∙ ap (λ (b : Answer Started). ending b) is))

  pub count-so : (s : Started) → a ≡ Ok s → s.nodes ≡ m → Ok s.nodes ≡ o then Ok m
  count-so s is h = answered o s.nodes m (sym e ∙ ap (λ (b : Answer Started). ending b) is) h
