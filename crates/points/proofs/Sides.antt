-- The side of a box at each level is exact: 2 * radius / 2 ^ level. So the quotients of two levels are one fraction times a power of two, rounded, and the cells of a coordinate nest.
use mathlib.Core.Path.{◌≡◌, refl, sym, ap, ◌∙◌, subst}
use mathlib.Core.Bool.{Bool, true, false, not, ◌&&◌, cond, true≢false}
use Prim.Native.Nat.{ℕ, zero, suc, ◌+◌, ◌-◌, ◌*◌, ◌/◌, ◌%◌, ◌^◌, ◌≤◌, ◌<◌}
use native.Mathlib.Nat.{le_trans, le_of_eq, le_of_lt, lt_irrefl, lt_of_lt_of_le, lt_of_le_of_lt, lt_of_not-le, le_of_mul-le-mul_right, mul-one, mul_comm, mul_assoc, mul_left_comm, mul_right_comm, mul-le-mul_right, mul-le-mul_left, mul-lt-mul_of_pos_right, mul-pos, sub-add_cancel}
use native.Mathlib.Omega.{arith}
use lib.IntN.{ℤ, pos, negsuc}
use lib.Dec.{T, leb, ltb, eqb, ltb→lt, lt→ltb, not_T, eqb→eq, lit≤, lit<}
use lib.Pow.{pow-add, pow_pos, pow_mono, shr_lt}
use lib.Ieee.{Float, nan, inf, fin, Format, binary64, up, down, round, unlike, sub, mul, div, of_int, fits, lt, le}
use lib.Ieee.Fits.{down_pos, up_pos, and_l, and_r}
use lib.Ieee.Bits.{is_true, cond_no}
use lib.Ieee.Exact.{HasValue, round_exact}
use lib.Ieee.Scale.{round_same}
use lib.Ieee.Back.{round_whole}
use lib.Ieee.Positive.{num, den, positive, den_pos, own_value, between, le→cross, positive_of_value, mul_at}
use Rattle.space.specs.Floats.{nought, is_finite, Floor, no_floor, whole, floor}
use Rattle.space.specs.Cells.{side, quotient, pick, wall_by, is_at, cell_in, cell_of}
use Rattle.space.specs.declared.Place.{Place}
use Rattle.space.specs.declared.Place.TheVariants.{At, NotFinite, Below, Above}
use Rattle.slices.proofs.Tests.{and_l as and_left, and_r as and_right}
use Rattle.space.specs.Domain.{radius_known}
use Rattle.space.proofs.Rounding.{nest-round}

-- ---- a radius of the domain, which binary64 holds
pub record Radius (r : Float) : Type 0 where
  pub held : T (fits binary64 r)
  pub least : T (le (fin false 1 (negsuc 1)) r)
  pub most : T (le r (fin false 1 (pos 20)))

sure : {b : Bool} → b ≡ true → T b
sure h = subst T (sym h) tt

pub radius : (r : Float) → fits binary64 r ≡ true → radius_known r ≡ true → Radius r
radius r f h = record {
  held = sure f;
  least = sure (and_left (le (fin false 1 (negsuc 1)) r) (le r (fin false 1 (pos 20))) h);
  most = sure (and_right (le (fin false 1 (negsuc 1)) r) (le r (fin false 1 (pos 20))) h);
}

-- ---- the quotient of two values, by any fractions that they equal
plain : (s : Bool) → unlike s false ≡ s
plain true = refl
plain false = refl

not-zero : (n : ℕ) → 0 < n → n ≡ 0 → ⊥
not-zero n h e = omega arith

div-at : (f : Format) (x y : Float) (s : Bool) (a c b d : ℕ) → 0 < c → 0 < b → 0 < d → HasValue x s a c → HasValue y false b d → div f x y ≡ round f s (a * d) (c * b)
unfolding div
div-at f nan y s a c b d C B D h k = absurd h
div-at f (inf t) y s a c b d C B D h k = absurd h
div-at f (fin t m e) nan s a c b d C B D h k = absurd k
div-at f (fin t m e) (inf u) s a c b d C B D h k = absurd k
div-at f (fin t m e) (fin true n g) s a c b d C B D h k = absurd (true≢false k.0)
div-at f (fin t m e) (fin false n g) s a c b d C B D h k =
    let N : 0 < n = ltb→lt 0 n (positive_of_value (fin false n g) b d k B) in
    let x = m * up e * down g in
    let y = n * up g * down e in
    let cross : x * (c * b) ≡ a * d * y = crossed (m * up e) (down e) (n * up g) (down g) a b c d h.1 k.1 in
    cond_no (eqb n 0) (cond (eqb m 0) nan (inf (unlike t false))) (round f (unlike t false) x y) (not_T (eqb n 0) (λ (z : T (eqb n 0)). not-zero n N (eqb→eq n 0 z)))
    ∙ ap (λ (w : Bool). round f w x y) (plain t ∙ h.0)
    ∙ round_same f s x y (a * d) (c * b) (mul-pos (mul-pos N (up_pos g)) (down_pos e)) (mul-pos C B) cross
  where
    crossed : (x de y dg a b c d : ℕ) → x * c ≡ a * de → y * d ≡ b * dg → x * dg * (c * b) ≡ a * d * (y * de)
    crossed x de y dg a b c d p q =
        let l : x * dg * (c * b) ≡ x * c * (b * dg) = simp (mul_assoc, mul_comm, mul_left_comm) in
        let r : a * d * (y * de) ≡ a * de * (y * d) = simp (mul_assoc, mul_comm, mul_left_comm) in
        l ∙ ap (λ (z : ℕ). z * (b * dg)) p ∙ ap (λ (z : ℕ). a * de * z) (sym q) ∙ sym r

-- ---- a value of the domain, in units of 2 ^ -1000
pow_lt_back : (i p : ℕ) → 2 ^ i < 2 ^ p → i < p
pow_lt_back i p h = lt_of_not-le (λ (g : p ≤ i). lt_irrefl (2 ^ i) (lt_of_lt_of_le h (pow_mono g)))

abbrev Scaled : ℕ → ℤ → Type 0
Scaled m e = (j : ℕ) × (m * up e * 2 ^ 1000 ≡ m * 2 ^ j * down e)

scaled : (m : ℕ) (e : ℤ) → m < 2 ^ 53 → down e ≤ m * up e * 4 → Scaled m e
scaled m (pos k) M h = (k + 1000, mul_assoc m (2 ^ k) (2 ^ 1000) ∙ ap (λ (x : ℕ). m * x) (sym (pow-add 2 k 1000)) ∙ sym (mul-one (m * 2 ^ (k + 1000))))
scaled m (negsuc k) M h =
    let b : 2 ^ suc k < 2 ^ 55 = lt_of_le_of_lt (le_trans h (le_of_eq (ap (λ (x : ℕ). x * 4) (mul-one m)))) (mul-lt-mul_of_pos_right M (lit< tt)) in
    let s : suc k ≤ 1000 = le_of_lt (lt_of_lt_of_le (pow_lt_back (suc k) 55 b) (lit≤ tt)) in (
      1000 - suc k,
      ap (λ (x : ℕ). x * 2 ^ 1000) (mul-one m)
          ∙ ap (λ (x : ℕ). m * x) (ap (λ (x : ℕ). 2 ^ x) (sym (sub-add_cancel s)) ∙ pow-add 2 (1000 - suc k) (suc k))
          ∙ sym (mul_assoc m (2 ^ (1000 - suc k)) (2 ^ suc k)),
    )

-- ---- 2 * n / (d * 2 ^ l) is exact, for n / d = m * 2 ^ (j - 1000)
regroup : (m p q d r : ℕ) → m * (p * q) * (d * r) ≡ m * p * d * (q * r)
regroup m p q d r = simp (mul_assoc, mul_left_comm)

reorder : (n d x : ℕ) → n ≤ 1048576 * d → 2 * n * x ≤ 2097152 * x * d
reorder n d x h =
    let a : 2 * n ≤ 2097152 * d = omega arith in
    le_trans (mul-le-mul_right x a) (le_of_eq (mul_right_comm 2097152 d x))

module _ (m n d j l : ℕ) (M : m < 2 ^ 53) (D : 0 < d) (v : n * 2 ^ 1000 ≡ m * 2 ^ j * d) (top : n ≤ 1048576 * d) (L : l ≤ 16) where
  parts : 2 ^ (75 - l) * 2 ^ l ≡ 2 ^ 75
  parts = sym (pow-add 2 (75 - l) l) ∙ ap (λ (x : ℕ). 2 ^ x) (sub-add_cancel (le_trans L (lit≤ tt)))

  exact : 2 * n * 2 ^ 1074 ≡ m * 2 ^ (j + (75 - l)) * (d * 2 ^ l)
  exact =
      ap (λ (x : ℕ). x * 2 ^ 1074) (mul_comm 2 n)
      ∙ mul_assoc n 2 (2 ^ 1074)
      ∙ sym (mul_assoc n (2 ^ 1000) (2 ^ 75))
      ∙ ap (λ (x : ℕ). x * 2 ^ 75) v
      ∙ ap (λ (x : ℕ). m * 2 ^ j * d * x) (sym parts)
      ∙ sym (regroup m (2 ^ j) (2 ^ (75 - l)) d (2 ^ l))
      ∙ ap (λ (x : ℕ). m * x * (d * 2 ^ l)) (sym (pow-add 2 j (75 - l)))

  within : m * 2 ^ (j + (75 - l)) < 2 ^ 2098
  within =
      let q = m * 2 ^ (j + (75 - l)) in
      lt_of_le_of_lt
      (le_of_mul-le-mul_right
      (le_trans (mul-le-mul_left q (le_trans (le_of_eq (sym (mul-one d))) (mul-le-mul_left d (pow_pos l)))) (le_trans (le_of_eq (sym exact)) (reorder n d (2 ^ 1074) top))) D)
      (lit< tt)

  pub side-exact : HasValue (round binary64 false (2 * n) (d * 2 ^ l)) false (2 * n) (d * 2 ^ l)
  side-exact = round_exact binary64 false (2 * n) (d * 2 ^ l) m (j + (75 - l)) (mul-pos D (pow_pos l)) M within exact

-- ---- the side, from a radius of the domain
in-prec : (m : ℕ) (e : ℤ) → T (fits binary64 (fin false m e)) → m < 2 ^ 53
unfolding fits
in-prec zero e h = lit< tt
in-prec (suc m) e h =
    let a = eqb (suc m % 2) 1 in
    let b = ltb (suc m) (2 ^ 53) in
    let c = leb (down e) (2 ^ 1074) in
    let x = ltb (suc m * up e) (2 ^ 1024 * down e) in
    ltb→lt (suc m) (2 ^ 53) (and_r a b (and_l (a && b) c (and_l (a && b && c) x h)))

pub tidy-least : (d n : ℕ) → 1 * d ≤ n * 4 → d ≤ n * 4
tidy-least d n h = omega arith

pub tidy_most : (d n : ℕ) → n * 1 ≤ 1048576 * d → n ≤ 1048576 * d
tidy_most d n h = omega arith

level-le : (l : ℕ) → l ≤ 16 → 2 ^ l ≤ 2 ^ 53
level-le l h = let k : l ≤ 53 = omega arith in pow_mono k

level-value : (l : ℕ) → l ≤ 16 → HasValue (of_int binary64 (pos (2 ^ l))) false (2 ^ l) 1
unfolding of_int
level-value l h = round_whole binary64 false (2 ^ l) (level-le l h)

module _ (m : ℕ) (e : ℤ) (R : Radius (fin false m e)) (p : T (positive (fin false m e))) where
  abbrev r : Float
  r = fin false m e

  n-d : Scaled m e
  n-d = scaled m e (in-prec m e R.held) (tidy-least (down e) (m * up e) (le→cross (fin false 1 (negsuc 1)) r tt p R.least))

  n-most : m * up e ≤ 1048576 * down e
  n-most = tidy_most (down e) (m * up e) (le→cross r (fin false 1 (pos 20)) p tt R.most)

  rounded : (l : ℕ) → l ≤ 16 → HasValue (round binary64 false (2 * (m * up e)) (down e * 2 ^ l)) false (2 * (m * up e)) (down e * 2 ^ l)
  rounded l L = side-exact m (m * up e) (down e) n-d.0 l (in-prec m e R.held) (down_pos e) n-d.1 n-most L

  -- 2.0 * radius
  twice : HasValue (mul binary64 (fin false 1 (pos 1)) r) false (2 * (m * up e)) (down e * 1)
  twice =
      subst (λ (x : Float). HasValue x false (2 * (m * up e)) (down e * 1))
      (sym (mul_at binary64 (fin false 1 (pos 1)) r 2 1 (m * up e) (down e) tt p (lit< tt) (down_pos e) (refl, refl) (own_value r p) ∙ ap (λ (d : ℕ). round binary64 false (2 * (m * up e)) d) (mul_comm 1 (down e))))
      (rounded 0 (lit≤ tt))

  -- 2.0 * radius / 2 ^ l
  side_is : (l : ℕ) → l ≤ 16 → HasValue (side r l) false (2 * (m * up e)) (down e * 2 ^ l)
  side_is l L =
      let n = 2 * (m * up e) in
      let d = down e in
      subst (λ (x : Float). HasValue x false n (d * 2 ^ l))
      (sym
      (div-at binary64 (mul binary64 (fin false 1 (pos 1)) r) (of_int binary64 (pos (2 ^ l))) false n (d * 1) (2 ^ l) 1 (mul-pos (down_pos e) (lit< tt)) (pow_pos l) (lit< tt) twice (level-value l L)
      ∙ ap (λ (x : ℕ). round binary64 false x (d * 1 * 2 ^ l)) (mul-one n)
      ∙ ap (λ (x : ℕ). round binary64 false n (x * 2 ^ l)) (mul-one d)))
      (rounded l L)

pub radius-positive : (r : Float) → Radius r → T (positive r)
radius-positive r R = between (fin false 1 (negsuc 1)) r (fin false 1 (pos 20)) tt tt R.least R.most

num_pos : (m : ℕ) (e : ℤ) → T (positive (fin false m e)) → 0 < m * up e
num_pos m e p = mul-pos (ltb→lt 0 m p) (up_pos e)

-- the side at each level, as a fraction: 2 * radius over 2 ^ level
pub side-value : (r : Float) (l : ℕ) → Radius r → l ≤ 16 → HasValue (side r l) false (2 * num r) (den r * 2 ^ l)
side-value r l R L = go r R (radius-positive r R)
  where
    go : (r : Float) → Radius r → T (positive r) → HasValue (side r l) false (2 * num r) (den r * 2 ^ l)
    go nan R p = absurd p
    go (inf s) R p = absurd p
    go (fin true m e) R p = absurd p
    go (fin false m e) R p = side_is m e R p l L

twice-pos : (r : Float) → T (positive r) → 0 < 2 * num r
twice-pos nan p = absurd p
twice-pos (inf s) p = absurd p
twice-pos (fin true m e) p = absurd p
twice-pos (fin false m e) p = mul-pos (lit< tt) (num_pos m e p)

-- ---- the quotient at level l is one fraction times 2 ^ l, rounded
quotient_is : (r : Float) (s : Bool) (m : ℕ) (e : ℤ) (l : ℕ) → Radius r → l ≤ 16
    → div binary64 (fin s m e) (side r l) ≡ round binary64 s (m * up e * den r * 2 ^ l) (down e * (2 * num r))
quotient_is r s m e l R L =
    div-at binary64 (fin s m e) (side r l) s (m * up e) (down e) (2 * num r) (den r * 2 ^ l) (down_pos e) (twice-pos r (radius-positive r R)) (mul-pos (den_pos r) (pow_pos l)) (refl, refl) (side-value r l R L)
    ∙ ap (λ (x : ℕ). round binary64 s x (down e * (2 * num r))) (sym (mul_assoc (m * up e) (den r) (2 ^ l)))

never : (z : ℤ) → no_floor ≡ whole z → ⊥
never z e = let k : ◌≡◌ {A = ℕ} 0 1 = cc in omega arith

no_nan : (y : Float) (z : ℤ) → floor (div binary64 nan y) ≡ whole z → ⊥
unfolding div floor
no_nan y z e = never z e

no-inf : (s : Bool) (y : Float) (z : ℤ) → floor (div binary64 (inf s) y) ≡ whole z → ⊥
unfolding div floor
no-inf s nan z e = never z e
no-inf s (inf t) z e = never z e
no-inf s (fin t n d) z e = never z e

rest : (l : ℕ) → l ≤ 16 → l + (16 - l) ≡ 16
rest l h = omega arith

rest_le : (l : ℕ) → 16 - l ≤ 16
rest_le l = omega arith

-- The cells nest: where the floor at level 16 is a, the floor at level l is a / 2 ^ (16 - l).
pub nesting : (r t : Float) (l a : ℕ) → Radius r → l ≤ 16 → floor (div binary64 t (side r 16)) ≡ whole (pos a) → floor (div binary64 t (side r l)) ≡ whole (pos (a / 2 ^ (16 - l)))
nesting r nan l a R L h = absurd (no_nan (side r 16) (pos a) h)
nesting r (inf s) l a R L h = absurd (no-inf s (side r 16) (pos a) h)
nesting r (fin s m e) l a R L h =
    let n = m * up e * den r in
    let c = down e * (2 * num r) in
    let C : 0 < c = mul-pos (down_pos e) (twice-pos r (radius-positive r R)) in
    let same : n * 2 ^ 16 ≡ n * 2 ^ l * 2 ^ (16 - l) = ap (λ (k : ℕ). n * 2 ^ k) (sym (rest l L)) ∙ ap (λ (k : ℕ). n * k) (pow-add 2 l (16 - l)) ∙ sym (mul_assoc n (2 ^ l) (2 ^ (16 - l))) in
    let g : floor (round binary64 s (n * 2 ^ l * 2 ^ (16 - l)) c) ≡ whole (pos a) = ap (λ (k : ℕ). floor (round binary64 s k c)) (sym same) ∙ ap floor (sym (quotient_is r s m e 16 R (lit≤ tt))) ∙ h in
    ap floor (quotient_is r s m e l R L) ∙ nest-round binary64 s (n * 2 ^ l) c (16 - l) a C (rest_le l) g

-- ---- and so the cells of a coordinate
named : (n : ℕ) (y : Floor) (w : Place) (a : ℕ) → is_at w ≡ false → cell_in n y w ≡ At a → (y ≡ whole (pos a)) × (a < n)
named n no_floor w a out h = absurd (true≢false (sym (ap is_at h) ∙ out))
named n (whole (negsuc k)) w a out h = absurd (true≢false (sym (ap is_at h) ∙ out))
named n (whole (pos k)) w a out h = go (ltb k n) (ltb→lt k n) h
  where
    go : (b : Bool) → (T b → k < n) → pick b (At k) w ≡ At a → (whole (pos k) ≡ whole (pos a)) × (a < n)
    go true g e = let i : k ≡ a = cc in (cc, subst (λ (x : ℕ). x < n) i (g tt))
    go false g e = absurd (true≢false (sym (ap is_at e) ∙ out))

names : (n k : ℕ) (w : Place) → k < n → cell_in n (whole (pos k)) w ≡ At k
names n k w h = ap (λ (b : Bool). pick b (At k) w) (is_true (ltb k n) (lt→ltb k n h))

-- a wall is no cell
pub no_cell : (x q : Float) → is_at (wall_by x q) ≡ false
no_cell x q = go (is_finite x) (lt q nought)
  where
    go : (s t : Bool) → is_at (pick s (pick t Below Above) NotFinite) ≡ false
    go true true = refl
    go true false = refl
    go false t = refl

pub cells-nest : (r x d : Float) (l a : ℕ) → Radius r → l ≤ 16 → cell_of 65536 x d (side r 16) ≡ At a → cell_of (2 ^ l) x d (side r l) ≡ At (a / 2 ^ (16 - l))
cells-nest r x d l a R L h =
    let n = named 65536 (floor (quotient x d (side r 16))) (wall_by x (quotient x d (side r 16))) a (no_cell x (quotient x d (side r 16))) h in
    let k = a / 2 ^ (16 - l) in
    let w = wall_by x (quotient x d (side r l)) in
    ap (λ y. cell_in (2 ^ l) y w) (nesting r (sub binary64 x d) l a R L n.0)
    ∙ names (2 ^ l) k w (shr_lt l (16 - l) (subst (λ (w : ℕ). a < 2 ^ w) (sym (rest l L)) n.1))
