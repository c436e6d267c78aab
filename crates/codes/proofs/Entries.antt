-- The list of a function's values: what stands in it, and its length.
use mathlib.Core.Path.{◌≡◌, refl, sym, ap, ◌∙◌}
use mathlib.Core.List.{map}
use Prim.Native.Nat.{ℕ, zero, suc, ◌+◌, ◌<◌}
use native.Mathlib.Omega.{arith}
use native.Mathlib.Nat.{add-zero, zero-add, not-suc-le-zero, le_of_suc-le-suc}
use lib.ListN.{length, get_or}
use Rattle.slices.specs.Lists.{range}

values-at : (f : ℕ → ℕ) (a n i : ℕ) → i < n → get_or (map f (range a n)) i 0 ≡ f (a + i)
unfolding range
values-at f a zero i h = absurd (not-suc-le-zero h)
values-at f a (suc n) zero h = ap f (sym (add-zero a))
values-at f a (suc n) (suc i) h = values-at f (suc a) n i (le_of_suc-le-suc h) ∙ ap f (omega arith)

pub tabled : (f : ℕ → ℕ) (n i : ℕ) → i < n → get_or (map f (range 0 n)) i 0 ≡ f i
tabled f n i h = values-at f 0 n i h ∙ ap f (zero-add i)

pub length-tabled : (f : ℕ → ℕ) (a n : ℕ) → length (map f (range a n)) ≡ n
unfolding range
length-tabled f a zero = refl
length-tabled f a (suc n) = ap suc (length-tabled f (suc a) n)
