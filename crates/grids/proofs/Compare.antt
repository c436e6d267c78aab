-- The order of floats is that of signed sizes, and `round` keeps it, over both signs and with overflow to an infinity.
use mathlib.Core.Path.{◌≡◌, refl, sym, ap, ◌∙◌, subst}
use mathlib.Core.Bool.{Bool, true, false, not, ◌&&◌, ◌||◌, cond, true≢false, false≢true}
use Prim.Native.Nat.{ℕ, zero, suc, ◌+◌, ◌-◌, ◌*◌, ◌^◌, ◌≤◌, ◌<◌}
use native.Mathlib.Nat.{zero-mul, mul-le-mul_right}
use native.Mathlib.Omega.{arith}
use lib.IntN.{ℤ}
use lib.Dec.{ltb, eqb}
use lib.Pow.{pow_pos}
use lib.Ieee.{Float, nan, inf, fin, Format, prec, emax, low, up, down, below, level, odd, units, round, neg, le}
use lib.Ieee.Fits.{round_is}
use lib.Ieee.Bits.{is_true}
use lib.Ieee.Exact.{HasValue, odd_sign, round_exact}
use lib.Ieee.Order.{drop, kept, round_mono}
use borrow.Author.Tests.{ltb-true, ltb-false, eqb-true, eq-eqb}
use Rattle.slices.proofs.Tests.{and_l, and_r, both, or_right}
use Rattle.rounding.proofs.Moved.{Moved, moved-turned}
use Rattle.rounding.proofs.Order.{no_size, at_most}

abbrev pub Le : Float → Float → Type 0
Le x y = le x y ≡ true

-- ±a ≤ ±b
abbrev pub compared : Bool → ℕ → Bool → ℕ → Bool
compared s a t b = below s a t b || level s a t b

pub le_is : (s t : Bool) (m n : ℕ) (e d : ℤ) → le (fin s m e) (fin t n d) ≡ compared s (m * up e * down d) t (n * up d * down e)
unfolding le
le_is s t m n e d = refl

-- ---- ±a moved up by z
abbrev pub shift : ℕ → Bool → ℕ → ℕ
shift z false a = z + a
shift z true a = z - a

pub shifted : (z : ℕ) (s : Bool) (a : ℕ) → a ≤ z → Moved z s a (shift z s a)
shifted z false a h = refl
shifted z true a h = omega arith

pub moved-least : (z : ℕ) (s : Bool) (a v : ℕ) → Moved z s a v → z ≤ v + a
moved-least z false a v h = omega arith
moved-least z true a v h = omega arith

pub moved-times : (z : ℕ) (s : Bool) (a v k y : ℕ) → y ≡ z * k → Moved z s a v → Moved y s (a * k) (v * k)
moved-times z false a v k y e h = omega (arith, ap (λ (x : ℕ). x * k) h)
moved-times z true a v k y e h = omega (arith, ap (λ (x : ℕ). x * k) h)

from-most : (a b : ℕ) → a ≤ b → (ltb a b || (eqb a b && true)) ≡ true
from-most a b h = or_right (ltb a b) (eqb a b && true) (λ e. both (eq-eqb a b (omega (arith, ltb-false a b e))) refl)

zeros : (a b : ℕ) → a ≡ 0 → b ≡ 0 → (eqb a b && eqb a 0) ≡ true
zeros a b p q = both (eq-eqb a b (omega arith)) (eq-eqb a 0 p)

pub compared-to : (z : ℕ) (s t : Bool) (a b v w : ℕ) → Moved z s a v → Moved z t b w → compared s a t b ≡ true → v ≤ w
compared-to z false false a b v w p q h = let l = at_most a b h in omega arith
compared-to z false true a b v w p q h = let x = eqb-true a b (and_l (eqb a b) (eqb a 0) h) in let y = eqb-true a 0 (and_r (eqb a b) (eqb a 0) h) in omega arith
compared-to z true false a b v w p q h = omega arith
compared-to z true true a b v w p q h = go (ltb b a) refl h
  where
    go : (t : Bool) → ltb b a ≡ t → (t || (eqb a b && true)) ≡ true → v ≤ w
    go true e h = let l = ltb-true b a e in omega arith
    go false e h = let l = eqb-true a b (and_l (eqb a b) true h) in omega arith

pub compared-from : (z : ℕ) (s t : Bool) (a b v w : ℕ) → Moved z s a v → Moved z t b w → v ≤ w → compared s a t b ≡ true
compared-from z false false a b v w p q h = from-most a b (omega arith)
compared-from z false true a b v w p q h = zeros a b (omega arith) (omega arith)
compared-from z true false a b v w p q h = or_right (ltb 0 (a + b)) (eqb a b && eqb a 0) (λ e. let l = ltb-false 0 (a + b) e in zeros a b (omega arith) (omega arith))
compared-from z true true a b v w p q h =
    let l : b ≤ a = omega arith in
    or_right (ltb b a) (eqb a b && true) (λ e. both (eq-eqb a b (omega (arith, ltb-false b a e))) refl)

-- ---- both sizes times k, and both signs turned
pub compared-times : (s t : Bool) (a b k : ℕ) → compared s a t b ≡ true → compared s (a * k) t (b * k) ≡ true
compared-times s t a b k h =
    let z = a + b in
    let p = shifted z s a (omega arith) in
    let q = shifted z t b (omega arith) in
    compared-from (z * k) s t (a * k) (b * k) (shift z s a * k) (shift z t b * k) (moved-times z s a (shift z s a) k (z * k) refl p) (moved-times z t b (shift z t b) k (z * k) refl q)
    (mul-le-mul_right k (compared-to z s t a b (shift z s a) (shift z t b) p q h))

moved-most : (z : ℕ) (s : Bool) (a v : ℕ) → a ≤ z → Moved z s a v → v ≤ z + z
moved-most z false a v h p = omega arith
moved-most z true a v h p = omega arith

compared-turned : (s t : Bool) (a b : ℕ) → compared s a t b ≡ true → compared (not t) b (not s) a ≡ true
compared-turned s t a b h =
    let z = a + b in
    let v = shift z s a in
    let w = shift z t b in
    let p = shifted z s a (omega arith) in
    let q = shifted z t b (omega arith) in
    let l : v ≤ w = compared-to z s t a b v w p q h in
    let under : (r : Bool) (x y : ℕ) → x ≤ z → Moved z r x y → y ≤ z + z = moved-most z in
    let hv = under s a v (omega arith) p in
    let hw = under t b w (omega arith) q in
    compared-from z (not t) (not s) b a (z + z - w) (z + z - v) (moved-turned z t b w (z + z - w) (omega arith) q) (moved-turned z s a v (z + z - v) (omega arith) p) (omega arith)

pub neg-le : (x y : Float) → Le x y → Le (neg y) (neg x)
unfolding le neg
neg-le nan y h = absurd (false≢true h)
neg-le (inf s) nan h = absurd (false≢true h)
neg-le (inf true) (inf true) h = refl
neg-le (inf true) (inf false) h = refl
neg-le (inf false) (inf true) h = absurd (false≢true h)
neg-le (inf false) (inf false) h = refl
neg-le (inf true) (fin t n d) h = refl
neg-le (inf false) (fin t n d) h = absurd (false≢true h)
neg-le (fin s m e) nan h = absurd (false≢true h)
neg-le (fin s m e) (inf true) h = absurd (false≢true h)
neg-le (fin s m e) (inf false) h = refl
neg-le (fin s m e) (fin t n d) h = compared-turned s t (m * up e * down d) (n * up d * down e) h

-- ---- a value that is no NaN, with the sign s
abbrev pub Signed : Float → Bool → Type 0
Signed nan s = ⊥
Signed (inf t) s = t ≡ s
Signed (fin t m e) s = t ≡ s

value-signed : (x : Float) (s : Bool) (a c : ℕ) → HasValue x s a c → Signed x s
value-signed nan s a c h = absurd h
value-signed (inf t) s a c h = absurd h
value-signed (fin t m e) s a c h = h.0

units-signed : (f : Format) (s : Bool) (q k : ℕ) → Signed (units f s q k) s
unfolding units
units-signed f s q k = go (ltb (q * 2 ^ k) (2 ^ (low f + suc (emax f))))
  where
    go : (b : Bool) → Signed (cond b (odd (suc (prec f)) s q k (low f)) (inf s)) s
    go true = value-signed (odd (suc (prec f)) s q k (low f)) s (q * 2 ^ k) (2 ^ low f) (odd_sign (suc (prec f)) s q k (low f))
    go false = refl

pub round-signed : (f : Format) (s : Bool) (a c : ℕ) → Signed (round f s a c) s
round-signed f s a c = subst (λ (x : Float). Signed x s) (sym (round_is f s a c)) (units-signed f s (kept (prec f) (a * 2 ^ low f) c) (drop (prec f) (a * 2 ^ low f) c))

pub low_end : (y : Float) (t : Bool) → Signed y t → Le (inf true) y
unfolding le
low_end nan t h = absurd h
low_end (inf true) t h = refl
low_end (inf false) t h = refl
low_end (fin s m e) t h = refl

pub high_end : (x : Float) (s : Bool) → Signed x s → Le x (inf false)
unfolding le
high_end nan s h = absurd h
high_end (inf true) s h = refl
high_end (inf false) s h = refl
high_end (fin t m e) s h = refl

pub signs-le : (x y : Float) → Signed x true → Signed y false → Le x y
unfolding le
signs-le nan y h k = absurd h
signs-le (inf true) nan h k = absurd k
signs-le (inf true) (inf t) h k = low_end (inf t) false k
signs-le (inf true) (fin t n d) h k = refl
signs-le (inf false) y h k = absurd (false≢true h)
signs-le (fin true m e) nan h k = absurd k
signs-le (fin true m e) (inf false) h k = refl
signs-le (fin true m e) (inf true) h k = absurd (true≢false k)
signs-le (fin true m e) (fin true n d) h k = absurd (true≢false k)
signs-le (fin true m e) (fin false n d) h k =
    let a = m * up e * down d in
    let b = n * up d * down e in
    compared-from a true false a b 0 (a + b) (omega arith) refl (omega arith)
signs-le (fin false m e) y h k = absurd (false≢true h)

-- ---- `round` and the signs
neg-odd : (d q k l : ℕ) → odd d true q k l ≡ neg (odd d false q k l)
unfolding odd neg
neg-odd d zero k l = refl
neg-odd d (suc q) k l = refl

neg-units : (f : Format) (q k : ℕ) → units f true q k ≡ neg (units f false q k)
unfolding units
neg-units f q k = go (ltb (q * 2 ^ k) (2 ^ (low f + suc (emax f))))
  where
    go : (b : Bool) → cond b (odd (suc (prec f)) true q k (low f)) (inf true) ≡ neg (cond b (odd (suc (prec f)) false q k (low f)) (inf false))
    go true = neg-odd (suc (prec f)) q k (low f)
    go false = unfold neg in refl

neg-round : (f : Format) (a c : ℕ) → round f true a c ≡ neg (round f false a c)
neg-round f a c =
    round_is f true a c ∙ neg-units f (kept (prec f) (a * 2 ^ low f) c) (drop (prec f) (a * 2 ^ low f) c) ∙ ap neg (sym (round_is f false a c))

pub zero-round : (f : Format) (s : Bool) (c : ℕ) → 0 < c → HasValue (round f s 0 c) s 0 c
zero-round f s c C = round_exact f s 0 c 0 0 C (pow_pos (prec f)) (pow_pos (low f + suc (emax f))) (zero-mul (2 ^ low f) ∙ sym (zero-mul c))

zeros-le : (x y : Float) (c d : ℕ) → 0 < c → 0 < d → HasValue x false 0 c → HasValue y true 0 d → Le x y
unfolding le
zeros-le nan y c d C D h k = absurd h
zeros-le (inf s) y c d C D h k = absurd h
zeros-le (fin s m e) nan c d C D h k = absurd k
zeros-le (fin s m e) (inf t) c d C D h k = absurd k
zeros-le (fin true m e) (fin t n g) c d C D h k = absurd (true≢false h.0)
zeros-le (fin false m e) (fin false n g) c d C D h k = absurd (false≢true k.0)
zeros-le (fin false m e) (fin true n g) c d C D h k =
    let p : m * up e ≡ 0 = no_size (m * up e) c C (h.1 ∙ zero-mul (down e)) in
    let q : n * up g ≡ 0 = no_size (n * up g) d D (k.1 ∙ zero-mul (down g)) in
    zeros (m * up e * down g) (n * up g * down e) (ap (λ (x : ℕ). x * down g) p ∙ zero-mul (down g)) (ap (λ (x : ℕ). x * down e) q ∙ zero-mul (down e))

-- the larger of two signed fractions rounds to a value that is no smaller
pub round-le : (f : Format) (s t : Bool) (a c b d : ℕ) → 0 < c → 0 < d → compared s (a * d) t (b * c) ≡ true → Le (round f s a c) (round f t b d)
round-le f false false a c b d C D h = is_true (le (round f false a c) (round f false b d)) (round_mono f a c b d C D (at_most (a * d) (b * c) h))
round-le f false true a c b d C D h =
    let e : a * d ≡ 0 = eqb-true (a * d) 0 (and_r (eqb (a * d) (b * c)) (eqb (a * d) 0) h) in
    let g : a * d ≡ b * c = eqb-true (a * d) (b * c) (and_l (eqb (a * d) (b * c)) (eqb (a * d) 0) h) in
    let p : a ≡ 0 = no_size a d D e in
    let q : b ≡ 0 = no_size b c C (sym g ∙ e) in
    rw (p, q) (zeros-le (round f false 0 c) (round f true 0 d) c d C D (zero-round f false c C) (zero-round f true d D))
round-le f true false a c b d C D h = signs-le (round f true a c) (round f false b d) (round-signed f true a c) (round-signed f false b d)
round-le f true true a c b d C D h =
    let l : b * c ≤ a * d = at_most (b * c) (a * d) (compared-turned true true (a * d) (b * c) h) in
    rw (neg-round f a c, neg-round f b d)
    (neg-le (round f false b d) (round f false a c) (is_true (le (round f false b d) (round f false a c)) (round_mono f b d a c D C l)))
