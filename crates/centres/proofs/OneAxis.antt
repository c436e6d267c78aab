-- One axis, with every operation at most 2 ^ k units off: centres of cells whose anchors are at most 1 apart differ by no more than the side and the tolerance, and those of cells 2 apart or more by more.
-- In binary64 2 ^ k units, the e below, are 2 ^ -28. Results are below 2 ^ 25, the side is at least 2 ^ -17, the tolerance between 2 ^ -20 and 2 ^ -19, and of the five roundings on the left and the three on the right none is off by more than 2 ^ -28.
use mathlib.Core.Path.{◌≡◌, refl, ◌∙◌}
use mathlib.Core.Logic.{◌⊎◌, inl, inr}
use mathlib.Core.Bool.{true, false}
use Prim.Native.Nat.{ℕ, suc, ◌+◌, ◌-◌, ◌*◌, ◌^◌, ◌≤◌, ◌<◌}
use native.Mathlib.Nat.{mul-le-mul_right, lt_irrefl, lt_of_lt_of_le}
use native.Mathlib.Omega.{arith}
use lib.Dec.{leb, lit<}
use lib.Pow.{pow_pos}
use lib.Ieee.{Float, Format, prec, emax, low, add, sub, mul, neg, le}
use lib.Ieee.Exact.{HasValue}
use lib.Ieee.Positive.{positive_of_value, mul_at}
use borrow.Author.Tests.{leb-true, le-leb}
use Rattle.slices.proofs.Tests.{and_l, and_r, both, lt-or-le, same_test}
use Rattle.morton.specs.Anchors.{within1}
use Rattle.space.specs.Floats.{size_of}
use Rattle.space.proofs.Sizes.{size-value}
use Rattle.rounding.proofs.Moved.{size-most, size-least}
use Rattle.rounding.proofs.Close.{Rounded, rounded}
use Rattle.rounding.proofs.Sums.{At, AtNear, add-near, neg-at, plus-near}
use Rattle.rounding.proofs.Order.{le-by-values}

-- the format's scale: e is 2 ^ k units and so 2 ^ -28, results are below 2 ^ 25, and values are moved up by m, 2 ^ 26
pub record Scale (f : Format) (k e m : ℕ) : Type 0 where
  pub fine : prec f + k < low f + suc (emax f)
  pub error : e ≡ 2 ^ k
  pub top : 2 ^ (prec f + k) ≡ 9007199254740992 * e
  pub middle : m ≡ 18014398509481984 * e
  pub unit : 2 ^ low f ≡ 268435456 * e

-- what an axis and a level have: the side s, at least 2 ^ -17 and at most 2 ^ 21, the tolerance t, and the displacement d - m, in size at most 2 ^ 24 + 2 ^ 20 + e
pub record Line (f : Format) (e m : ℕ) (side tolerance half displacement : Float) (s t d : ℕ) : Type 0 where
  pub side_is : HasValue side false s (2 ^ low f)
  pub tolerance_is : HasValue tolerance false t (2 ^ low f)
  pub half_is : HasValue half false 1 2
  pub displacement_is : At f m displacement d
  pub s_least : 2048 * e ≤ s
  pub s_most : s ≤ 562949953421312 * e
  pub t_least : 256 * e ≤ t
  pub t_most : t ≤ 512 * e
  pub d_least : m ≤ d + 4785074604081153 * e
  pub d_most : d ≤ m + 4785074604081153 * e

-- the centre of a cell, q / 2 from the displacement d: two roundings, and twice the place is at most 4 * e off
pub record Centred (f : Format) (e m d : ℕ) (x : Float) (q : ℕ) : Type 0 where
  pub place : ℕ
  pub is : At f m x place
  pub under : 2 * place ≤ q + 2 * d + 4 * e
  pub over : q + 2 * d ≤ 2 * place + 4 * e

-- the tolerance and the mean of the two sides: twice the size is at most 5 * e off
pub record Limit (f : Format) (e s t : ℕ) (x : Float) : Type 0 where
  pub size : ℕ
  pub value : HasValue x false size (2 ^ low f)
  pub under : 2 * size ≤ 2 * t + 2 * s + 5 * e
  pub over : 2 * t + 2 * s ≤ 2 * size + 5 * e

-- ---- numbers only: v and w for the two centres, p / 2 and q / 2 from the displacement, g for their difference, l for the limit
record Known (e m d s t p q v w g l : ℕ) : Type 0 where
  some : 0 < e
  s_least : 2048 * e ≤ s
  t_least : 256 * e ≤ t
  t_most : t ≤ 512 * e
  v_under : 2 * v ≤ p + 2 * d + 4 * e
  v_over : p + 2 * d ≤ 2 * v + 4 * e
  w_under : 2 * w ≤ q + 2 * d + 4 * e
  w_over : q + 2 * d ≤ 2 * w + 4 * e
  ahead : v ≤ m + w
  g_under : g ≤ m + w - v + e
  g_over : m + w - v ≤ g + e
  l_under : 2 * l ≤ 2 * t + 2 * s + 5 * e
  l_over : 2 * t + 2 * s ≤ 2 * l + 5 * e

module _ (e m d s t p q v w g l : ℕ) (K : Known e m d s t p q v w g l) where
  one_apart : q ≤ p + 2 * s → p ≤ q + 2 * s → (g ≤ m + l) × (m ≤ g + l)
  one_apart h i = omega arith

  two-above : p + 4 * s ≤ q → m + suc l ≤ g
  two-above h = omega arith

  two-below : q + 4 * s ≤ p → g + suc l ≤ m
  two-below h = omega arith

module _ (f : Format) (k e m : ℕ) (S : Scale f k e m) where
  some : 0 < e
  some = omega (arith, S.error, pow_pos k)

  room : 2 ^ (prec f + k) + 2 ^ k ≤ m
  room = omega (arith, S.error, S.top, S.middle, some)

  -- n / 2 times a value
  half-times : (x y : Float) (n w : ℕ) → 0 < n → 0 < w → HasValue x false n 2 → HasValue y false w (2 ^ low f) → n * w < 9007199254740992 * e → Rounded f k (mul f x y) false (n * w) 2
  half-times x y n w N W h g b =
      rw (mul_at f x y n 2 w (2 ^ low f) (positive_of_value x n 2 h N) (positive_of_value y w (2 ^ low f) g W) (lit< tt) (pow_pos (low f)) h g)
      (rounded f k false (n * w) 2 S.fine (lit< tt) (omega (arith, S.top, some)))

  module _ (side tolerance half displacement : Float) (s t d : ℕ) (L : Line f e m side tolerance half displacement s t d) where
    s-pos : 0 < s
    s-pos = omega (arith, some, L.s_least)

    centred : (x : Float) (n : ℕ) → 0 < n → HasValue x false n 2 → n * s ≤ 1125899906842624 * e → Centred f e m d (add f (mul f x side) displacement) (n * s)
    centred x n N h b =
        let r = half-times x side n s N s-pos h L.side_is (omega (arith, some)) in
        let p = r.size in
        let low-p : n * s ≤ p * 2 + e * 2 = omega (arith, r.over, S.error) in
        let high-p : p * 2 ≤ n * s + e * 2 = omega (arith, r.under, S.error) in
        let a : AtNear f k m (add f (mul f x side) displacement) (p + d) =
        add-near f k m S.fine room (mul f x side) displacement (m + p) d (p + d) (record { sign = false; size = p; value = r.value; moved = refl }) L.displacement_is (omega arith)
        (omega (arith, S.top, S.middle, some, L.d_least))
        (omega (arith, S.top, S.middle, some, L.d_most)) in
        record {
          place = a.place;
          is = a.is;
          under = omega (arith, a.under, S.error);
          over = omega (arith, a.over, S.error);
        }

    -- the difference of two centres, p / 2 and q / 2 from the displacement
    module _ (x y : Float) (p q : ℕ) (P : p ≤ 1125899906842624 * e) (Q : q ≤ 1125899906842624 * e) (a : Centred f e m d x p) (b : Centred f e m d y q) where
      under : a.place ≤ m + 9007199254740992 * e
      under = omega (arith, a.under, L.d_most, some)

      close : (b.place ≤ a.place + 562949953421317 * e) × (a.place ≤ b.place + 562949953421317 * e)
      close = (omega (arith, a.over, b.under, some), omega (arith, b.over, a.under, some))

      ahead : a.place ≤ m + b.place
      ahead = omega (arith, close.1, S.middle, some)

      apart : AtNear f k m (sub f y x) (m + b.place - a.place)
      unfolding sub
      apart =
          let v = a.place in
          let w = b.place in
          let v-most : v ≤ m + m = omega (arith, under, S.middle, some) in
          add-near f k m S.fine room y (neg x) w (m + m - v) (m + w - v) b.is (neg-at f m x v (m + m - v) (omega arith) a.is) (omega (arith, ahead))
          (omega (arith, S.top, some, close.1, ahead))
          (omega (arith, S.top, some, close.0, ahead))

    -- the tolerance and the side
    limit : Limit f e s t (add f tolerance (mul f half (add f side side)))
    limit =
        let a = plus-near f k side side s s S.fine L.side_is L.side_is (omega (arith, S.top, some, L.s_most)) in
        let a-least : s + s ≤ a.size + e = omega (arith, a.over, S.error) in
        let a-most : a.size ≤ s + s + e = omega (arith, a.under, S.error) in
        let b = half-times half (add f side side) 1 a.size (lit< tt) (omega (arith, some, L.s_least)) L.half_is a.value (omega (arith, some, L.s_most)) in
        let b-least : a.size ≤ 2 * b.size + 2 * e = omega (arith, b.over, S.error) in
        let b-most : 2 * b.size ≤ a.size + 2 * e = omega (arith, b.under, S.error) in
        let c = plus-near f k tolerance (mul f half (add f side side)) t b.size S.fine L.tolerance_is b.value (omega (arith, S.top, some, L.s_most, L.t_most)) in
        record {
          size = c.size;
          value = c.value;
          under = omega (arith, c.under, S.error);
          over = omega (arith, c.over, S.error);
        }

    module _ (x y : Float) (i j : ℕ) (I : HasValue x false (2 * i + 1) 2) (J : HasValue y false (2 * j + 1) 2) (i-most : (2 * i + 1) * s ≤ 1125899906842624 * e) (j-most : (2 * j + 1) * s ≤ 1125899906842624 * e) where
      abbrev first : Float
      first = add f (mul f x side) displacement

      abbrev second : Float
      second = add f (mul f y side) displacement

      a : Centred f e m d first ((2 * i + 1) * s)
      a = centred x (2 * i + 1) (omega arith) I i-most

      b : Centred f e m d second ((2 * j + 1) * s)
      b = centred y (2 * j + 1) (omega arith) J j-most

      gap : AtNear f k m (sub f second first) (m + b.place - a.place)
      gap = apart first second ((2 * i + 1) * s) ((2 * j + 1) * s) i-most j-most a b

      test-is : le (size_of (sub f second first)) (add f tolerance (mul f half (add f side side))) ≡ leb gap.is.size limit.size
      test-is = le-by-values (size_of (sub f second first)) (add f tolerance (mul f half (add f side side))) gap.is.size limit.size (2 ^ low f) (pow_pos (low f)) (size-value (sub f second first) gap.is.sign gap.is.size (2 ^ low f) gap.is.value) limit.value

      abbrev p : ℕ
      p = (2 * i + 1) * s

      abbrev q : ℕ
      q = (2 * j + 1) * s

      abbrev v : ℕ
      v = a.place

      abbrev w : ℕ
      w = b.place

      abbrev g : ℕ
      g = gap.place

      abbrev l : ℕ
      l = limit.size

      known : Known e m d s t p q v w g l
      known = record {
        some = some;
        s_least = L.s_least;
        t_least = L.t_least;
        t_most = L.t_most;
        v_under = a.under;
        v_over = a.over;
        w_under = b.under;
        w_over = b.over;
        ahead = ahead first second p q i-most j-most a b;
        g_under = omega (arith, gap.under, S.error);
        g_over = omega (arith, gap.over, S.error);
        l_under = limit.under;
        l_over = limit.over;
      }

      near-passes : within1 i j ≡ true → gap.is.size ≤ l
      near-passes h =
          let I = mul-le-mul_right s (leb-true i (j + 1) (and_l (leb i (j + 1)) (leb j (i + 1)) h)) in
          let J = mul-le-mul_right s (leb-true j (i + 1) (and_r (leb i (j + 1)) (leb j (i + 1)) h)) in
          let n = one_apart e m d s t p q v w g l known (omega (arith, J)) (omega (arith, I)) in
          size-most m gap.is.sign gap.is.size g l gap.is.moved n.0 n.1

      far-fails : (i + 2 ≤ j) ⊎ (j + 2 ≤ i) → l < gap.is.size
      far-fails h = size-least m gap.is.sign gap.is.size g (suc l) gap.is.moved (go h)
        where
          go : (i + 2 ≤ j) ⊎ (j + 2 ≤ i) → (m + suc l ≤ g) ⊎ (g + suc l ≤ m)
          go (inl h) = inl (two-above e m d s t p q v w g l known (omega (arith, mul-le-mul_right s h)))
          go (inr h) = inr (two-below e m d s t p q v w g l known (omega (arith, mul-le-mul_right s h)))

      no-further : (i + 2 ≤ j) ⊎ (j + 2 ≤ i) → gap.is.size ≤ limit.size → ⊥
      no-further n h = lt_irrefl _ (lt_of_lt_of_le (far-fails n) h)

      within : gap.is.size ≤ limit.size → within1 i j ≡ true
      within h =
          both (le-leb i (j + 1) (elim (lt-or-le (j + 1) i) [ inl n ↦ absurd (no-further (inr (omega arith)) h) | inr l ↦ l ]))
          (le-leb j (i + 1) (elim (lt-or-le (i + 1) j) [ inl n ↦ absurd (no-further (inl (omega arith)) h) | inr l ↦ l ]))

      pub axis-agrees : le (size_of (sub f second first)) (add f tolerance (mul f half (add f side side))) ≡ within1 i j
      axis-agrees = test-is ∙ same_test (leb gap.is.size limit.size) (within1 i j) (λ h. within (leb-true _ _ h)) (λ h. le-leb _ _ (near-passes h))
