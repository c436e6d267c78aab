-- The sum of two finite values of either sign, in units of the format's smallest value: at most 2 ^ k units off where it is below 2 ^ (prec + k).
use mathlib.Core.Path.{◌≡◌, refl, sym, ap, ◌∙◌, subst}
use mathlib.Core.Bool.{Bool, true, false, not, ◌&&◌}
use Prim.Native.Nat.{ℕ, suc, ◌+◌, ◌-◌, ◌*◌, ◌^◌, ◌≤◌, ◌<◌}
use native.Mathlib.Nat.{one-mul, mul_comm, mul_assoc, mul_right_comm, mul-lt-mul_of_pos_right, lt_of_mul-lt-mul_right, mul-pos, mul-sub}
use native.Mathlib.Omega.{arith}
use lib.Dec.{ltb}
use lib.Pow.{pow_pos}
use lib.Ieee.{Float, nan, inf, fin, Format, prec, emax, low, up, down, round, sum, add, neg}
use lib.Ieee.Fits.{down_pos}
use lib.Ieee.Exact.{HasValue}
use lib.Ieee.Scale.{round_same}
use borrow.Author.Tests.{ltb-true, lt-ltb}
use Rattle.slices.proofs.Tests.{same_test}
use Rattle.rounding.proofs.Moved.{Moved, moved-turned, size-under, summed}
use Rattle.rounding.proofs.Close.{Rounded, rounded}

-- ---- a sum sees only the values of its fractions
module _ (A B c a b u : ℕ) (C : 0 < c) (U : 0 < u) (p : A * u ≡ a * c) (q : B * u ≡ b * c) where
  less-to : A < B → a < b
  less-to h = lt_of_mul-lt-mul_right c (omega (arith, mul-lt-mul_of_pos_right h U))

  less-from : a < b → A < B
  less-from h = lt_of_mul-lt-mul_right u (omega (arith, mul-lt-mul_of_pos_right h C))

  same-less : ltb A B ≡ ltb a b
  same-less = same_test (ltb A B) (ltb a b) (λ h. lt-ltb a b (less-to (ltb-true A B h))) (λ h. lt-ltb A B (less-from (ltb-true a b h)))

  minus-same : (B - A) * u ≡ (b - a) * c
  minus-same = mul_comm (B - A) u ∙ mul-sub u B A ∙ (omega (arith, mul-sub c b a))

  plus-same : (A + B) * u ≡ (a + b) * c
  plus-same = omega arith

sum_same : (f : Format) (s t : Bool) (A B c a b u : ℕ) → 0 < c → 0 < u → A * u ≡ a * c → B * u ≡ b * c → sum f s A t B c ≡ sum f s a t b u
unfolding sum
sum_same f s t A B c a b u C U p q =
    rw (
      same-less A B c a b u C U p q,
      same-less B A c b a u C U q p,
      round_same f s (A + B) c (a + b) u C U (plus-same A B c a b u C U p q),
      round_same f t (B - A) c (b - a) u C U (minus-same A B c a b u C U p q),
      round_same f (s && ltb b a) (A - B) c (a - b) u C U (minus-same B A c b a u C U q p),
    )

pub add_at : (f : Format) (x y : Float) (s t : Bool) (a b u : ℕ) → 0 < u → HasValue x s a u → HasValue y t b u → add f x y ≡ sum f s a t b u
unfolding add
add_at f nan y s t a b u U h k = absurd h
add_at f (inf z) y s t a b u U h k = absurd h
add_at f (fin z m e) nan s t a b u U h k = absurd k
add_at f (fin z m e) (inf w) s t a b u U h k = absurd k
add_at f (fin z m e) (fin w n d) s t a b u U h k =
    let A = m * up e * down d in
    let B = n * up d * down e in
    let c = down e * down d in
    let p : A * u ≡ a * c = mul_right_comm (m * up e) (down d) u ∙ ap (λ (x : ℕ). x * down d) h.1 ∙ mul_assoc a (down e) (down d) in
    let q : B * u ≡ b * c = mul_right_comm (n * up d) (down e) u ∙ ap (λ (x : ℕ). x * down e) k.1 ∙ mul_right_comm b (down d) (down e) ∙ mul_assoc b (down e) (down d) in
    rw (h.0, k.0) (sum_same f s t A B c a b u (mul-pos (down_pos e) (down_pos d)) U p q)

-- ---- x is v - m units
pub record At (f : Format) (m : ℕ) (x : Float) (v : ℕ) : Type 0 where
  pub sign : Bool
  pub size : ℕ
  pub value : HasValue x sign size (2 ^ low f)
  pub moved : Moved m sign size v

-- and here at most 2 ^ k units from v
pub record AtNear (f : Format) (k m : ℕ) (x : Float) (v : ℕ) : Type 0 where
  pub place : ℕ
  pub is : At f m x place
  pub under : place ≤ v + 2 ^ k
  pub over : v ≤ place + 2 ^ k

module _ (f : Format) (k m : ℕ) (fine : prec f + k < low f + suc (emax f)) (room : 2 ^ (prec f + k) + 2 ^ k ≤ m) where
  round-near : (s : Bool) (a v : ℕ) → a < 2 ^ (prec f + k) → Moved m s a v → AtNear f k m (round f s a (2 ^ low f)) v
  round-near s a v h o = go s o (rounded f k s a 1 fine (pow_pos 0) (omega arith))
    where
      go : (s : Bool) → Moved m s a v → Rounded f k (round f s a (1 * 2 ^ low f)) s a 1 → AtNear f k m (round f s a (2 ^ low f)) v
      go false o r = record {
        place = m + r.size;
        is = record { sign = false; size = r.size; value = rw one-mul at r.value; moved = refl };
        under = omega (arith, r.under);
        over = omega (arith, r.over);
      }
      go true o r = record {
        place = m - r.size;
        is = record { sign = true; size = r.size; value = rw one-mul at r.value; moved = omega (arith, r.under) };
        under = omega (arith, r.under, r.over);
        over = omega (arith, r.under, r.over);
      }

  pub add-near : (x y : Float) (v w o : ℕ) → At f m x v → At f m y w → o + m ≡ v + w → m < o + 2 ^ (prec f + k) → o < m + 2 ^ (prec f + k) → AtNear f k m (add f x y) o
  add-near x y v w o p q e l h =
      let r = summed f p.sign q.sign p.size q.size (2 ^ low f) m v w o p.moved q.moved e in
      subst (λ (z : Float). AtNear f k m z o)
      (sym (add_at f x y p.sign q.sign p.size q.size (2 ^ low f) (pow_pos (low f)) p.value q.value ∙ r.is))
      (round-near r.sign r.size o (size-under m r.sign r.size o (2 ^ (prec f + k)) r.moved h l) r.moved)

-- ---- the other sign
neg_value : (x : Float) (s : Bool) (a u : ℕ) → HasValue x s a u → HasValue (neg x) (not s) a u
unfolding neg
neg_value nan s a u h = absurd h
neg_value (inf z) s a u h = absurd h
neg_value (fin z m e) s a u h = (ap not h.0, h.1)

pub neg-at : (f : Format) (m : ℕ) (x : Float) (v w : ℕ) → v + w ≡ m + m → At f m x v → At f m (neg x) w
neg-at f m x v w e p = record {
  sign = not p.sign;
  size = p.size;
  value = neg_value x p.sign p.size (2 ^ low f) p.value;
  moved = moved-turned m p.sign p.size v w e p.moved;
}

-- ---- of two values that are not negative
pub sum-plus : (f : Format) (a b u : ℕ) → sum f false a false b u ≡ round f false (a + b) u
unfolding sum
sum-plus f a b u = refl

pub plus-near : (f : Format) (k : ℕ) (x y : Float) (a b : ℕ) → prec f + k < low f + suc (emax f) → HasValue x false a (2 ^ low f) → HasValue y false b (2 ^ low f) → a + b < 2 ^ (prec f + k)
    → Rounded f k (add f x y) false (a + b) 1
plus-near f k x y a b fine p q h =
    subst (λ (z : Float). Rounded f k z false (a + b) 1)
    (sym (add_at f x y false false a b (2 ^ low f) (pow_pos (low f)) p q ∙ sum-plus f a b (2 ^ low f) ∙ ap (λ (c : ℕ). round f false (a + b) c) (sym (one-mul (2 ^ low f)))))
    (rounded f k false (a + b) 1 fine (pow_pos 0) (omega arith))
