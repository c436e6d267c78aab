-- A chain of checks: what its end tells of each, and what each tells of its end.
use mathlib.Core.Path.{◌≡◌, refl, ap, ◌∙◌}
use mathlib.Core.Bool.{Bool, true, false}
use Prim.Native.Nat.{ℕ}
use native.Mathlib.Omega.{arith}
use Rattle.std.specs.Result.{IsErrAnd}
use Rattle.refusal.specs.declared.Refusal.{Refusal}
use Rattle.refusal.specs.Chain.{ask, ◌then◌}
use Rattle.std.specs.Prelude.{Err, Ok}
use Rattle.refusal.specs.Outcome.{Answer, Outcome, accepted}

pub never : (r : Refusal) → Err r ≡ accepted → ⊥
never r e = let z : ◌≡◌ {A = ℕ} 0 1 = cc in omega arith

-- a check that refuses nothing has passed
pub asked : (t : Bool) (r : Refusal) → ask t r ≡ accepted → t ≡ true
asked true r e = refl
asked false r e = absurd (never r e)

-- a chain that refuses nothing has two parts that refuse nothing
pub both-done : (o p : Outcome) → o then p ≡ accepted → (o ≡ accepted) × (p ≡ accepted)
both-done (Ok tt) p e = (refl, e)
both-done (Err r) p e = absurd (never r e)

-- after a first part that refuses nothing the second decides, and else the first
pub after-done : {A : Type 0} (o : Outcome) (a : Answer A) → o ≡ accepted → o then a ≡ a
after-done o a e = ap (λ q. q then a) e

pub after-refused : {A : Type 0} (o : Outcome) (a : Answer A) (r : Refusal) → o ≡ Err r → o then a ≡ Err r
after-refused o a r e = ap (λ q. q then a) e

-- what a `?` passes on
pub passed-on : {A : Type 0} (a : Answer A) (r : Refusal) → IsErrAnd a (λ s. s ≡ r) → a ≡ Err r
passed-on (Ok x) r e = absurd e
passed-on (Err s) r e = ap Err e

-- the answer counts where the checks refused nothing
pub answered : {A : Type 0} (o : Outcome) (x y : A) → o ≡ accepted → x ≡ y → Ok x ≡ o then Ok y
answered o x y e f = rw (e, f)

-- checks that end with an answer have refused nothing, and checks that end with a refusal give that
pub answered-done : {A : Type 0} (o : Outcome) (x y : A) → Ok y ≡ o then Ok x → o ≡ accepted
answered-done (Ok tt) x y e = refl
answered-done (Err r) x y e = let z : ◌≡◌ {A = ℕ} 0 1 = cc in absurd (omega arith)

pub answered-refused : {A : Type 0} (o : Outcome) (x : A) (r : Refusal) → Err r ≡ o then Ok x → o ≡ Err r
answered-refused (Ok tt) x r e = let z : ◌≡◌ {A = ℕ} 0 1 = cc in absurd (omega arith)
answered-refused (Err s) x r e = cc
