-- Its number and its values tell a refusal: two that agree in both are one.
use mathlib.Core.Path.{◌≡◌, refl, sym, ap, ap₂, ◌∙◌}
use mathlib.Core.List.{List, [], ◌∷◌}
use Prim.Native.Nat.{ℕ, ◌-◌}
use lib.ListN.{get_or}
use Rattle.refusal.specs.declared.Wall.{Wall}
use Rattle.refusal.specs.declared.Told.{Told}
use Rattle.refusal.specs.declared.Refusal.{Refusal}
use Rattle.refusal.specs.declared.Refusal.TheVariants.{Dims, Box, Shape, Count, Order, Source, Point, Room, Key, Root, Deep, Unstored, Tree, NotLeaf, File, Grid, Section, NotBuilt, Partial, Reading}
use Rattle.refusal.specs.Numbers.{number_of, values_of, outcome_number, outcome_values, tells}
use Rattle.refusal.specs.Outcome.{Outcome}

-- what is told of a refusal is told of one that equals it, and so of an outcome
pub tells-same : (r s : Refusal) (t : Told) → r ≡ s → t ≡ tells (number_of s) (values_of s) → t ≡ tells (number_of r) (values_of r)
tells-same r s t e h = h ∙ sym (ap (λ (q : Refusal). tells (number_of q) (values_of q)) e)

pub outcome-same : (o p : Outcome) (t : Told) → o ≡ p → t ≡ tells (outcome_number p) (outcome_values p) → t ≡ tells (outcome_number o) (outcome_values o)
outcome-same o p t e h = h ∙ sym (ap (λ (q : Outcome). tells (outcome_number q) (outcome_values q)) e)

-- the refusal of which this is told
refusal_of : Told → Refusal
refusal_of t =
    let v = t.value in
    let w : Wall = record { index = v; axis = t.axis; reason = t.reason } in
    get_or (Dims ∷ Box ∷ Shape ∷ Count ∷ Order ∷ Source w ∷ Point w ∷ Room v ∷ Key ∷ Root ∷ Deep ∷ Unstored v ∷ Tree ∷ NotLeaf v ∷ File ∷ Grid ∷ Section ∷ NotBuilt ∷ Partial ∷ Reading v ∷ []) (t.number - 1) File

back : (r : Refusal) → refusal_of (tells (number_of r) (values_of r)) ≡ r
unfolding refusal_of
back Dims = refl
back Box = refl
back Shape = refl
back Count = refl
back Order = refl
back (Source w) = refl
back (Point w) = refl
back (Room i) = refl
back Key = refl
back Root = refl
back Deep = refl
back (Unstored i) = refl
back Tree = refl
back (NotLeaf i) = refl
back File = refl
back Grid = refl
back Section = refl
back NotBuilt = refl
back Partial = refl
back (Reading i) = refl

pub told : (r s : Refusal) → number_of r ≡ number_of s → values_of r ≡ values_of s → r ≡ s
told r s n vs = sym (back r) ∙ ap₂ (λ (m : ℕ) (us : List ℕ). refusal_of (tells m us)) n vs ∙ back s
