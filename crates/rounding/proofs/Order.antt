-- The order of two values that are not negative is that of their sizes.
use mathlib.Core.Path.{◌≡◌, refl, sym, subst}
use mathlib.Core.Logic.{inl, inr}
use mathlib.Core.Bool.{Bool, true, false, ◌&&◌, ◌||◌, true≢false}
use Prim.Native.Nat.{ℕ, ◌*◌, ◌≤◌, ◌<◌}
use native.Mathlib.Nat.{mul-le-mul_right, le_of_mul-le-mul_right, mul-pos, eq-zero-or-pos, lt_irrefl}
use native.Mathlib.Omega.{arith}
use lib.Dec.{leb, ltb, eqb}
use lib.Ieee.{Float, nan, inf, fin, up, down, le}
use lib.Ieee.Fits.{down_pos}
use lib.Ieee.Exact.{HasValue}
use lib.Ieee.Bits.{is_true}
use lib.Ieee.Order.{transfer, le_of_values}
use borrow.Author.Tests.{ltb-true, leb-true, le-leb, eqb-true}
use Rattle.slices.proofs.Tests.{and_l, same_test}

pub no_size : (n d : ℕ) → 0 < d → n * d ≡ 0 → n ≡ 0
no_size n d D e = elim (eq-zero-or-pos n) [ inl z ↦ z | inr p ↦ absurd (lt_irrefl 0 (subst (λ (k : ℕ). 0 < k) e (mul-pos p D))) ]

pub at_most : (X Y : ℕ) → (ltb X Y || (eqb X Y && true)) ≡ true → X ≤ Y
at_most X Y h = go (ltb X Y) refl h
  where
    go : (t : Bool) → ltb X Y ≡ t → (t || (eqb X Y && true)) ≡ true → X ≤ Y
    go true e h = let l = ltb-true X Y e in omega arith
    go false e h = let l = eqb-true X Y (and_l (eqb X Y) true h) in omega arith

pub values_of_le : (x y : Float) (a b u : ℕ) → 0 < u → HasValue x false a u → HasValue y false b u → le x y ≡ true → a ≤ b
unfolding le
values_of_le nan y a b u U h k l = absurd h
values_of_le (inf z) y a b u U h k l = absurd h
values_of_le (fin true m e) y a b u U h k l = absurd (true≢false h.0)
values_of_le (fin false m e) nan a b u U h k l = absurd k
values_of_le (fin false m e) (inf w) a b u U h k l = absurd k
values_of_le (fin false m e) (fin true n d) a b u U h k l = absurd (true≢false k.0)
values_of_le (fin false m e) (fin false n d) a b u U h k l =
    le_of_mul-le-mul_right (transfer a b u u (m * up e) (n * up d) (down e) (down d) (down_pos e) (down_pos d) (sym h.1) (sym k.1) (at_most _ _ l)) U

pub le-by-values : (x y : Float) (a b u : ℕ) → 0 < u → HasValue x false a u → HasValue y false b u → le x y ≡ leb a b
le-by-values x y a b u U h k =
    same_test (le x y) (leb a b)
    (λ l. le-leb a b (values_of_le x y a b u U h k l))
    (λ l. is_true (le x y) (le_of_values x y a u b u U U h k (mul-le-mul_right u (leb-true a b l))))
