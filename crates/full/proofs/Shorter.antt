-- No list without repeats is longer than one that contains it.
use mathlib.Core.Path.{◌≡◌, refl, subst}
use mathlib.Core.Bool.{Bool, true, false, not}
use mathlib.Core.List.{List, [], ◌∷◌}
use Prim.Native.Nat.{ℕ, suc, ◌+◌, ◌≤◌}
use native.Mathlib.Omega.{arith}
use lib.Dec.{eqb}
use lib.ListN.{length, get_or}
use borrow.Author.Tests.{eq-eqb, ne_eqb}
use Rattle.slices.specs.Lists.{filter, bit, count, Mem, Distinct}
use Rattle.slices.proofs.Counts.{here, there, count-pos, count_add, length-count}
use Rattle.slices.proofs.Lists.{length-filter}
use Rattle.slices.proofs.Members.{filter-mem, distinct-rest, distinct_head}

other-than : ℕ → ℕ → Bool
other-than x y = not (eqb y x)

fewer : (x : ℕ) (ys : List ℕ) → Mem x ys → suc (count (other-than x) ys) ≤ length ys
unfolding other-than
fewer x ys (i, l, e) =
    omega (arith, length-count ys, count_add (λ _. true) (λ y. eqb y x) (other-than x) ys (λ y m. one (eqb y x)), count-pos (λ y. eqb y x) ys i l (eq-eqb (get_or ys i 0) x e))
  where
    one : (b : Bool) → bit true ≡ bit b + bit (not b)
    one true = refl
    one false = refl

pub shorter : (xs ys : List ℕ) → Distinct xs → ((k : ℕ) → Mem k xs → Mem k ys) → length xs ≤ length ys
unfolding other-than
shorter [] ys dist c = omega arith
shorter (x ∷ xs) ys dist c =
    omega (arith, shorter xs (filter (other-than x) ys) (distinct-rest x xs dist) rest, length-filter (other-than x) ys, fewer x ys (c x (here x xs)))
  where
    rest : (k : ℕ) → Mem k xs → Mem k (filter (other-than x) ys)
    rest k m = filter-mem (other-than x) ys k (c k (there x k xs m)) (unfold other-than in rw (ne_eqb k x (λ e. distinct_head x xs dist (subst (λ (y : ℕ). Mem y xs) e m))))
