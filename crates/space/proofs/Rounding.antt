-- The floor of a rounded fraction, and of the same fraction times a power of two: the floors nest. Subnormal and zero results included.
use mathlib.Core.Path.{◌≡◌, refl, sym, ap, ◌∙◌, subst}
use mathlib.Core.Logic.{◌⊎◌, inl, inr}
use mathlib.Core.Bool.{Bool, true, false, not, cond, true≢false}
use Prim.Native.Nat.{ℕ, zero, suc, ◌+◌, ◌-◌, ◌*◌, ◌/◌, ◌^◌, ◌≤◌, ◌<◌}
use native.Mathlib.Nat.{le_trans, le_of_eq, le_of_lt, lt_irrefl, lt_of_lt_of_le, lt_of_le_of_lt, div-lt_iff_lt-mul, div-eq_of_lt, zero-div, zero-mul, mul_right_comm, mul-le-mul_right, mul-le-mul_left, mul-lt-mul_of_pos_right, add_comm, mul-pos, eq-zero-or-pos, mul-one}
use native.Mathlib.Omega.{arith}
use lib.IntN.{ℤ, pos, neg_ℤ}
use lib.Dec.{T, ltb, ltb→lt, nltb→le, lit<}
use lib.Pow.{pow-add, pow_pos, pow_mono, pow-lt, shl-shr, shr-shr}
use lib.Ieee.{Float, nan, inf, fin, Format, binary32, binary64, prec, emax, low, up, down, size, odd, units, round}
use lib.Ieee.Digits.{size-lt}
use lib.Ieee.Fits.{round_is, down_pos, up_pos}
use lib.Ieee.Exact.{HasValue}
use lib.Ieee.Nearest.{div_same}
use lib.Ieee.Order.{drop, kept, round_mono}
use lib.Ieee.Scale.{grid, overflow, grid_scale, normal_of_rounded}
use lib.Ieee.Positive.{above, positive_of_value, above_of_le}
use Rattle.rounding.proofs.Close.{grid-most, round-value}
use Rattle.rounding.proofs.Order.{no_size}
use Rattle.space.specs.Floats.{no_floor, whole, floor}

-- ---- which fractions are in the normal range
by_size : (p z : ℕ) → (p ≤ z) ⊎ (z < p)
by_size p z = go (ltb z p) (ltb→lt z p) (nltb→le z p)
  where
    go : (b : Bool) → (T b → z < p) → (T (not b) → p ≤ z) → (p ≤ z) ⊎ (z < p)
    go true h k = inr (h tt)
    go false h k = inl (k tt)

le-of-not : (x y : ℕ) → (x < y → ⊥) → y ≤ x
le-of-not x y h = omega arith

-- a fraction below the normal range rounds to 2 ^ (prec - 1) units at most
low_small : (f : Format) (a c : ℕ) → size (a * 2 ^ low f / c) < prec f → grid f a c ≤ 2 ^ (prec f - 1)
low_small f a c h = le-of-not (2 ^ (prec f - 1)) (grid f a c) (λ (g : 2 ^ (prec f - 1) < grid f a c). lt_irrefl (prec f) (lt_of_le_of_lt (normal_of_rounded f a c g) h))

-- and 2 ^ t times it to 2 ^ (prec + t) units at most
low-times : (f : Format) (a c t : ℕ) → 0 < c → size (a * 2 ^ low f / c) < prec f → grid f (a * 2 ^ t) c ≤ 2 ^ (prec f + t)
low-times f a c t C h =
    let p = prec f in
    let n = a * 2 ^ low f in
    let n' = a * 2 ^ t * 2 ^ low f in
    let same : n' ≡ n * 2 ^ t = mul_right_comm a (2 ^ t) (2 ^ low f) in
    let small : n < 2 ^ p * c = (div-lt_iff_lt-mul C).0 (lt_of_lt_of_le (size-lt (n / c)) (pow_mono (le_of_lt h))) in
    let small' : n' < 2 ^ (p + t) * c =
    lt_of_le_of_lt (le_of_eq same) (lt_of_lt_of_le (mul-lt-mul_of_pos_right small (pow_pos t)) (le_of_eq (mul_right_comm (2 ^ p) c (2 ^ t) ∙ ap (λ (x : ℕ). x * c) (sym (pow-add 2 p t))))) in
    grid-most f t (a * 2 ^ t) c C small'

gap : (f : Format) → prec f + 16 < low f
gap binary32 = lit< tt
gap binary64 = lit< tt

wide : (f : Format) → low f < low f + suc (emax f)
wide binary32 = lit< tt
wide binary64 = lit< tt

under-gap : (p t l : ℕ) → t ≤ 16 → p + 16 < l → p + t < l
under-gap p t l h g = omega arith

under-prec : (p l : ℕ) → p + 16 < l → p - 1 < l
under-prec p l g = omega arith

-- ---- the whole parts nest
module _ (f : Format) (a c t : ℕ) (C : 0 < c) (small : t ≤ 16) where
  low-grid : size (a * 2 ^ low f / c) < prec f → grid f a c < 2 ^ low f
  low-grid h = lt_of_le_of_lt (low_small f a c h) (pow-lt (under-prec (prec f) (low f) (gap f)))

  low-scaled : size (a * 2 ^ low f / c) < prec f → grid f (a * 2 ^ t) c < 2 ^ low f
  low-scaled h = lt_of_le_of_lt (low-times f a c t C h) (pow-lt (under-gap (prec f) t (low f) small (gap f)))

  nest-whole : grid f (a * 2 ^ t) c / 2 ^ low f / 2 ^ t ≡ grid f a c / 2 ^ low f
  nest-whole =
      let l = low f in
      elim (by_size (prec f) (size (a * 2 ^ low f / c))) [
        | inl n ↦
            ap (λ (g : ℕ). g / 2 ^ l / 2 ^ t) (grid_scale f a c t C n)
            ∙ shr-shr (grid f a c * 2 ^ t) l t
            ∙ ap (λ (k : ℕ). grid f a c * 2 ^ t / 2 ^ k) (add_comm l t)
            ∙ sym (shr-shr (grid f a c * 2 ^ t) t l)
            ∙ ap (λ (g : ℕ). g / 2 ^ l) (shl-shr (grid f a c) t)
        | inr h ↦ ap (λ (g : ℕ). g / 2 ^ t) (div-eq_of_lt (low-scaled h)) ∙ zero-div (2 ^ t) ∙ sym (div-eq_of_lt (low-grid h))
      ]

  nest-under : grid f (a * 2 ^ t) c < overflow f → grid f a c < overflow f
  nest-under u =
      elim (by_size (prec f) (size (a * 2 ^ low f / c))) [
        | inl n ↦ lt_of_le_of_lt (grows (grid f a c) (2 ^ t) (grid f (a * 2 ^ t) c) (pow_pos t) (grid_scale f a c t C n)) u
        | inr h ↦ lt_of_lt_of_le (low-grid h) (pow_mono (le_of_lt (wide f)))
      ]
    where
      grows : (g p h : ℕ) → 0 < p → h ≡ g * p → g ≤ h
      grows g p h P e = le_trans (le_of_eq (sym (mul-one g))) (le_trans (mul-le-mul_left g P) (le_of_eq (sym e)))

never : (z : ℤ) → no_floor ≡ whole z → ⊥
never z e = let k : ◌≡◌ {A = ℕ} 0 1 = cc in omega arith

units_under : (f : Format) (s : Bool) (q k : ℕ) (z : ℤ) → floor (units f s q k) ≡ whole z → q * 2 ^ k < overflow f
unfolding units floor
units_under f s q k z = go (ltb (q * 2 ^ k) (overflow f)) (ltb→lt (q * 2 ^ k) (overflow f))
  where
    go : (b : Bool) → (T b → q * 2 ^ k < overflow f) → floor (cond b (odd (suc (prec f)) s q k (low f)) (inf s)) ≡ whole z → q * 2 ^ k < overflow f
    go true h e = h tt
    go false h e = absurd (never z e)

-- what has a floor did not overflow
pub round_under : (f : Format) (s : Bool) (a c : ℕ) (z : ℤ) → floor (round f s a c) ≡ whole z → grid f a c < overflow f
round_under f s a c z e =
    units_under f s (kept (prec f) (a * 2 ^ low f) c) (drop (prec f) (a * 2 ^ low f) c) z (subst (λ (x : Float). floor x ≡ whole z) (round_is f s a c) e)

-- ---- the floor of a value g / d
pub floor-plus : (x : Float) (g d : ℕ) → 0 < d → HasValue x false g d → floor x ≡ whole (pos (g / d))
unfolding floor
floor-plus nan g d D h = absurd h
floor-plus (inf s) g d D h = absurd h
floor-plus (fin true m e) g d D h = absurd (true≢false h.0)
floor-plus (fin false m e) g d D h = ap (λ (k : ℕ). whole (pos k)) (div_same (m * up e) (down e) g d (down_pos e) D h.1)

pub ceil-zero : (d : ℕ) → 0 < d → (0 + (d - 1)) / d ≡ 0
ceil-zero d D = div-eq_of_lt (go d D)
  where
    go : (d : ℕ) → 0 < d → 0 + (d - 1) < d
    go d D = omega arith

pub floor-minus-zero : (x : Float) (d : ℕ) → 0 < d → HasValue x true 0 d → floor x ≡ whole (pos 0)
unfolding floor
floor-minus-zero nan d D h = absurd h
floor-minus-zero (inf s) d D h = absurd h
floor-minus-zero (fin false m e) d D h = absurd (true≢false (sym h.0))
floor-minus-zero (fin true m e) d D h =
    let z : m * up e ≡ 0 = no_size (m * up e) d D (h.1 ∙ zero-mul (down e)) in
    ap (λ (n : ℕ). whole (neg_ℤ (pos ((n + (down e - 1)) / down e)))) z ∙ ap (λ (k : ℕ). whole (neg_ℤ (pos k))) (ceil-zero (down e) (down_pos e))

-- a negative value whose floor is not negative is -0
opposite : (k a : ℕ) → whole (neg_ℤ (pos k)) ≡ whole (pos a) → (k ≡ 0) × (a ≡ 0)
opposite zero a e = (refl, cc)
opposite (suc k) a e = let k : ◌≡◌ {A = ℕ} 0 1 = cc in absurd (omega arith)

pub ceil-back : (n d : ℕ) → 0 < d → (n + (d - 1)) / d ≡ 0 → n ≡ 0
ceil-back n d D e = go n d ((div-lt_iff_lt-mul D).0 (subst (λ (k : ℕ). k < 1) (sym e) (lit< tt)))
  where
    go : (n d : ℕ) → n + (d - 1) < 1 * d → n ≡ 0
    go n d h = omega arith

minus-floor : (x : Float) (g d a : ℕ) → 0 < d → HasValue x true g d → floor x ≡ whole (pos a) → (g ≡ 0) × (a ≡ 0)
unfolding floor
minus-floor nan g d a D h i = absurd h
minus-floor (inf s) g d a D h i = absurd h
minus-floor (fin false m e) g d a D h i = absurd (true≢false (sym h.0))
minus-floor (fin true m e) g d a D h i =
    let o = opposite ((m * up e + (down e - 1)) / down e) a i in
    let z : m * up e ≡ 0 = ceil-back (m * up e) (down e) (down_pos e) o.0 in
    (no_size g (down e) (down_pos e) (sym h.1 ∙ ap (λ (k : ℕ). k * d) z ∙ zero-mul d), o.1)

-- ---- where 2 ^ t times a fraction rounds to zero, so does the fraction
above_zero : (x : Float) (d : ℕ) → 0 < d → HasValue x false 0 d → T (above x) → ⊥
above_zero nan d D h p = h
above_zero (inf s) d D h p = h
above_zero (fin true m e) d D h p = p
above_zero (fin false m e) d D h p =
    lt_irrefl 0 (lt_of_lt_of_le (mul-pos (ltb→lt 0 m p) (up_pos e)) (le_of_eq (no_size (m * up e) d D (h.1 ∙ zero-mul (down e)))))

module _ (f : Format) (a c t : ℕ) (C : 0 < c) (small : t ≤ 16) where
  shrinks : a * c ≤ a * 2 ^ t * c
  shrinks = mul-le-mul_right c (le_trans (le_of_eq (sym (mul-one a))) (mul-le-mul_left a (pow_pos t)))

  nest-zero : grid f (a * 2 ^ t) c ≡ 0 → grid f a c ≡ 0
  nest-zero e =
      let o : grid f (a * 2 ^ t) c < overflow f = lt_of_le_of_lt (le_of_eq e) (pow_pos (low f + suc (emax f))) in
      let v : HasValue (round f false (a * 2 ^ t) c) false 0 (2 ^ low f) = subst (λ (g : ℕ). HasValue (round f false (a * 2 ^ t) c) false g (2 ^ low f)) e (round-value f false (a * 2 ^ t) c o) in
      elim (eq-zero-or-pos (grid f a c)) [
        | inl z ↦ z
        | inr p ↦
            absurd
            (above_zero (round f false (a * 2 ^ t) c) (2 ^ low f) (pow_pos (low f)) v
            (above_of_le (round f false a c) (round f false (a * 2 ^ t) c)
            (positive_of_value (round f false a c) (grid f a c) (2 ^ low f) (round-value f false a c (nest-under f a c t C small o)) p)
            (round_mono f a c (a * 2 ^ t) c C C shrinks)))
      ]

  -- ---- the floors nest
  nest-sign : (s : Bool) (k : ℕ) → floor (round f s (a * 2 ^ t) c) ≡ whole (pos k) → floor (round f s a c) ≡ whole (pos (k / 2 ^ t))
  nest-sign false k e =
      let o = round_under f false (a * 2 ^ t) c (pos k) e in
      let g = grid f (a * 2 ^ t) c in
      let w : whole (pos (g / 2 ^ low f)) ≡ whole (pos k) = sym (floor-plus (round f false (a * 2 ^ t) c) g (2 ^ low f) (pow_pos (low f)) (round-value f false (a * 2 ^ t) c o)) ∙ e in
      let i : g / 2 ^ low f ≡ k = cc in
      floor-plus (round f false a c) (grid f a c) (2 ^ low f) (pow_pos (low f)) (round-value f false a c (nest-under f a c t C small o))
      ∙ ap (λ (n : ℕ). whole (pos n)) (sym (nest-whole f a c t C small) ∙ ap (λ (n : ℕ). n / 2 ^ t) i)
  nest-sign true k e =
      let o = round_under f true (a * 2 ^ t) c (pos k) e in
      let z = minus-floor (round f true (a * 2 ^ t) c) (grid f (a * 2 ^ t) c) (2 ^ low f) k (pow_pos (low f)) (round-value f true (a * 2 ^ t) c o) e in
      let v : HasValue (round f true a c) true 0 (2 ^ low f) = subst (λ (g : ℕ). HasValue (round f true a c) true g (2 ^ low f)) (nest-zero z.0) (round-value f true a c (nest-under f a c t C small o)) in
      floor-minus-zero (round f true a c) (2 ^ low f) (pow_pos (low f)) v
      ∙ ap (λ (n : ℕ). whole (pos n)) (sym (zero-div (2 ^ t)) ∙ ap (λ (n : ℕ). n / 2 ^ t) (sym z.1))

-- of a fraction a / c and 2 ^ t times it, each rounded: where the floor of the second is k, that of the first is k / 2 ^ t
pub nest-round : (f : Format) (s : Bool) (a c t k : ℕ) → 0 < c → t ≤ 16 → floor (round f s (a * 2 ^ t) c) ≡ whole (pos k) → floor (round f s a c) ≡ whole (pos (k / 2 ^ t))
nest-round f s a c t k C h e = nest-sign f a c t C h s k e
