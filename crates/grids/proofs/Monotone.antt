-- Sums, differences, products with and quotients by a positive value, and the step of a quotient, all rise with their argument.
use mathlib.Core.Path.{◌≡◌, refl, sym, ap, ap₂, ◌∙◌}
use mathlib.Core.Bool.{Bool, true, false, not, cond, false≢true}
use Prim.Native.Nat.{ℕ, ◌+◌, ◌-◌, ◌*◌, ◌≤◌, ◌<◌}
use native.Mathlib.Nat.{mul_comm, mul-le-mul_right, mul-le-mul_left, mul-pos, le_trans, le_of_eq, mul-one}
use native.Mathlib.Omega.{arith}
use lib.IntN.{ℤ, pos}
use lib.Dec.{T, ltb, eqb, not_T, eqb→eq, ltb→lt, lit<}
use lib.Ieee.{Float, nan, inf, fin, Format, up, down, unlike, round, sum, add, sub, mul, div, neg, of_int, le}
use lib.Ieee.Fits.{down_pos, up_pos}
use lib.Ieee.Bits.{cond_no}
use lib.Ieee.Scale.{finite}
use lib.Ieee.Positive.{positive}
use borrow.Author.Tests.{ltb-true, ltb-false}
use Rattle.rounding.proofs.Moved.{Moved}
use Rattle.grids.proofs.Compare.{Le, compared, shift, shifted, moved-least, moved-times, compared-to, compared-from, compared-times, Signed, round-signed, low_end, high_end, round-le}

-- ---- an operation that leaves an infinity as it is, is never a NaN and rises on finite values
pub record Rises (op : Float → Float) : Type 0 where
  pub at_inf : (s : Bool) → op (inf s) ≡ inf s
  pub sign : Bool → ℕ → ℤ → Bool
  pub some : (s : Bool) (m : ℕ) (e : ℤ) → Signed (op (fin s m e)) (sign s m e)
  pub at_fin : (s t : Bool) (m n : ℕ) (e d : ℤ) → compared s (m * up e * down d) t (n * up d * down e) ≡ true → Le (op (fin s m e)) (op (fin t n d))

pub rises : (op : Float → Float) → Rises op → (x y : Float) → Le x y → Le (op x) (op y)
unfolding le
rises op r nan y h = absurd (false≢true h)
rises op r (inf s) nan h = absurd (false≢true h)
rises op r (inf s) (inf t) h = rw (r.at_inf s, r.at_inf t) h
rises op r (inf true) (fin t n d) h = rw (r.at_inf true) (low_end (op (fin t n d)) (r.sign t n d) (r.some t n d))
rises op r (inf false) (fin t n d) h = absurd (false≢true h)
rises op r (fin s m e) nan h = absurd (false≢true h)
rises op r (fin s m e) (inf true) h = absurd (false≢true h)
rises op r (fin s m e) (inf false) h = rw (r.at_inf false) (high_end (op (fin s m e)) (r.sign s m e) (r.some s m e))
rises op r (fin s m e) (fin t n d) h = r.at_fin s t m n e d h

-- ---- a positive factor p / q
module _ (f : Format) (op : Float → Float) (p q : ℕ) (Q : 0 < q) (stays : (s : Bool) → op (inf s) ≡ inf s) (is : (s : Bool) (m : ℕ) (e : ℤ) → op (fin s m e) ≡ round f s (m * up e * p) (down e * q)) where
  times-fin : (s t : Bool) (m n : ℕ) (e d : ℤ) → compared s (m * up e * down d) t (n * up d * down e) ≡ true → Le (op (fin s m e)) (op (fin t n d))
  times-fin s t m n e d h =
      let x = m * up e in
      let y = n * up d in
      let l : x * down d * (p * q) ≡ x * p * (down d * q) = omega arith in
      let r : y * down e * (p * q) ≡ y * p * (down e * q) = omega arith in
      rw (is s m e, is t n d)
      (round-le f s t (x * p) (down e * q) (y * p) (down d * q) (mul-pos (down_pos e) Q) (mul-pos (down_pos d) Q)
      (ap₂ (λ (i j : ℕ). compared s i t j) (sym l) (sym r) ∙ compared-times s t (x * down d) (y * down e) (p * q) h))

  times-rises : Rises op
  times-rises = record {
    at_inf = stays;
    sign = λ s m e. s;
    some = λ s m e. rw (is s m e) (round-signed f s (m * up e * p) (down e * q));
    at_fin = times-fin;
  }

plain : (s : Bool) → unlike s false ≡ s
plain true = refl
plain false = refl

plain-right : (s : Bool) → unlike false s ≡ s
plain-right true = refl
plain-right false = refl

not-zero : (n : ℕ) → 0 < n → T (not (eqb n 0))
not-zero n h = not_T (eqb n 0) (λ (z : T (eqb n 0)). go n h (eqb→eq n 0 z))
  where
    go : (n : ℕ) → 0 < n → n ≡ 0 → ⊥
    go n h e = omega arith

module _ (f : Format) (n : ℕ) (d : ℤ) (N : 0 < n) where
  mul-inf : (s : Bool) → mul f (inf s) (fin false n d) ≡ inf s
  unfolding mul
  mul-inf s = cond_no (eqb n 0) nan (inf (unlike s false)) (not-zero n N) ∙ ap inf (plain s)

  mul-fin : (s : Bool) (m : ℕ) (e : ℤ) → mul f (fin s m e) (fin false n d) ≡ round f s (m * up e * (n * up d)) (down e * down d)
  unfolding mul
  mul-fin s m e = ap (λ (t : Bool). round f t (m * up e * (n * up d)) (down e * down d)) (plain s)

  inf-mul : (s : Bool) → mul f (fin false n d) (inf s) ≡ inf s
  unfolding mul
  inf-mul s = cond_no (eqb n 0) nan (inf (unlike false s)) (not-zero n N) ∙ ap inf (plain-right s)

  fin-mul : (s : Bool) (m : ℕ) (e : ℤ) → mul f (fin false n d) (fin s m e) ≡ round f s (m * up e * (n * up d)) (down e * down d)
  unfolding mul
  fin-mul s m e =
      ap (λ (t : Bool). round f t (n * up d * (m * up e)) (down d * down e)) (plain-right s)
      ∙ ap₂ (λ (a c : ℕ). round f s a c) (mul_comm (n * up d) (m * up e)) (mul_comm (down d) (down e))

  div-inf : (s : Bool) → div f (inf s) (fin false n d) ≡ inf s
  unfolding div
  div-inf s = ap inf (plain s)

  div-fin : (s : Bool) (m : ℕ) (e : ℤ) → div f (fin s m e) (fin false n d) ≡ round f s (m * up e * down d) (down e * (n * up d))
  unfolding div
  div-fin s m e =
      cond_no (eqb n 0) (cond (eqb m 0) nan (inf (unlike s false))) (round f (unlike s false) (m * up e * down d) (n * up d * down e)) (not-zero n N)
      ∙ ap₂ (λ (t : Bool) (c : ℕ). round f t (m * up e * down d) c) (plain s) (mul_comm (n * up d) (down e))

pub mul-rises : (f : Format) (y : Float) → T (positive y) → Rises (λ x. mul f x y)
mul-rises f nan p = absurd p
mul-rises f (inf s) p = absurd p
mul-rises f (fin true n d) p = absurd p
mul-rises f (fin false n d) p = let N = ltb→lt 0 n p in times-rises f (λ x. mul f x (fin false n d)) (n * up d) (down d) (down_pos d) (mul-inf f n d N) (mul-fin f n d N)

pub mul-rises-right : (f : Format) (x : Float) → T (positive x) → Rises (λ y. mul f x y)
mul-rises-right f nan p = absurd p
mul-rises-right f (inf s) p = absurd p
mul-rises-right f (fin true n d) p = absurd p
mul-rises-right f (fin false n d) p = let N = ltb→lt 0 n p in times-rises f (λ y. mul f (fin false n d) y) (n * up d) (down d) (down_pos d) (inf-mul f n d N) (fin-mul f n d N)

pub div-rises : (f : Format) (y : Float) → T (positive y) → Rises (λ x. div f x y)
div-rises f nan p = absurd p
div-rises f (inf s) p = absurd p
div-rises f (fin true n d) p = absurd p
div-rises f (fin false n d) p = let N = ltb→lt 0 n p in times-rises f (λ x. div f x (fin false n d)) (down d) (n * up d) (mul-pos N (up_pos d)) (div-inf f n d N) (div-fin f n d N)

-- ---- a sum ±a / c + ±b / c is ±q / c, rounded
pub record Summed (f : Format) (s : Bool) (a : ℕ) (t : Bool) (b c z o : ℕ) : Type 0 where
  pub sign : Bool
  pub size : ℕ
  pub moved : Moved z sign size o
  pub is : sum f s a t b c ≡ round f sign size c

summed : (f : Format) (s t : Bool) (a b c z v w o : ℕ) → Moved z s a v → Moved z t b w → o + z ≡ v + w → Summed f s a t b c z o
unfolding sum
summed f false false a b c z v w o p q e = record { sign = false; size = a + b; moved = omega arith; is = refl }
summed f true true a b c z v w o p q e = record { sign = true; size = a + b; moved = omega arith; is = refl }
summed f false true a b c z v w o p q e = go (ltb a b) refl
  where
    go : (r : Bool) → ltb a b ≡ r → Summed f false a true b c z o
    go true h = let l = ltb-true a b h in record { sign = true; size = b - a; moved = omega arith; is = ap (λ (r : Bool). cond r (round f true (b - a) c) (round f false (a - b) c)) h }
    go false h = let l = ltb-false a b h in record { sign = false; size = a - b; moved = omega arith; is = ap (λ (r : Bool). cond r (round f true (b - a) c) (round f false (a - b) c)) h }
summed f true false a b c z v w o p q e = go (ltb a b) refl (ltb b a) refl
  where
    go : (r : Bool) → ltb a b ≡ r → (k : Bool) → ltb b a ≡ k → Summed f true a false b c z o
    go true h k g = let l = ltb-true a b h in record { sign = false; size = b - a; moved = omega arith; is = ap (λ (r : Bool). cond r (round f false (b - a) c) (round f (ltb b a) (a - b) c)) h }
    go false h true g =
        let l = ltb-true b a g in
        record { sign = true; size = a - b; moved = omega arith; is = ap₂ (λ (r k : Bool). cond r (round f false (b - a) c) (round f k (a - b) c)) h g }
    go false h false g =
        let l = ltb-false a b h in
        let i = ltb-false b a g in
        record { sign = false; size = a - b; moved = omega arith; is = ap₂ (λ (r k : Bool). cond r (round f false (b - a) c) (round f k (a - b) c)) h g }

-- with both moved up by z * c, for a z that is no less than a + b
module _ (f : Format) (s t : Bool) (a b c z : ℕ) (C : 0 < c) (enough : a + b ≤ z) where
  abbrev first : ℕ
  first = shift (z * c) s a

  abbrev second : ℕ
  second = shift (z * c) t b

  abbrev both : ℕ
  both = first + second - z * c

  reach : (n : ℕ) → n ≤ z → n ≤ z * c
  reach n l = le_trans l (le_trans (le_of_eq (sym (mul-one z))) (mul-le-mul_left z C))

  first-moved : Moved (z * c) s a first
  first-moved = shifted (z * c) s a (reach a (omega arith))

  second-moved : Moved (z * c) t b second
  second-moved = shifted (z * c) t b (reach b (omega arith))

  both_is : both + z * c ≡ first + second
  both_is = go (z * c) first second (moved-least (z * c) s a first first-moved) (moved-least (z * c) t b second second-moved) (reach (a + b) enough)
    where
      go : (x v w : ℕ) → x ≤ v + a → x ≤ w + b → a + b ≤ x → v + w - x + x ≡ v + w
      go x v w i j k = omega arith

  result : Summed f s a t b c (z * c) both
  result = summed f s t a b c (z * c) first second both first-moved second-moved both_is

pub sum-signed : (f : Format) (s t : Bool) (a b c : ℕ) → 0 < c → (r : Bool) × Signed (sum f s a t b c) r
sum-signed f s t a b c C = let r = result f s t a b c (a + b) C (le_of_eq refl) in (r.sign, rw r.is (round-signed f r.sign r.size c))

-- so it rises with both: ±a / c ≤ ±a' / c' and ±b / c ≤ ±b' / c'
module _ (f : Format) (s t s' t' : Bool) (a b c a' b' c' : ℕ) (C : 0 < c) (C' : 0 < c') (h : compared s (a * c') s' (a' * c) ≡ true) (k : compared t (b * c') t' (b' * c) ≡ true) where
  abbrev z : ℕ
  z = a + b + (a' + b')

  same : z * c * c' ≡ z * c' * c
  same = omega arith

  pub sum-le : Le (sum f s a t b c) (sum f s' a' t' b' c')
  sum-le =
      let i : a + b ≤ z = omega arith in
      let j : a' + b' ≤ z = omega arith in
      let v = first f s t a b c z C i in
      let w = second f s t a b c z C i in
      let o = both f s t a b c z C i in
      let v' = first f s' t' a' b' c' z C' j in
      let w' = second f s' t' a' b' c' z C' j in
      let o' = both f s' t' a' b' c' z C' j in
      let r = result f s t a b c z C i in
      let r' = result f s' t' a' b' c' z C' j in
      let vs : v * c' ≤ v' * c =
      compared-to (z * c * c') s s' (a * c') (a' * c) (v * c') (v' * c) (moved-times (z * c) s a v c' (z * c * c') refl (first-moved f s t a b c z C i)) (moved-times (z * c') s' a' v' c (z * c * c') same (first-moved f s' t' a' b' c' z C' j)) h in
      let ws : w * c' ≤ w' * c =
      compared-to (z * c * c') t t' (b * c') (b' * c) (w * c') (w' * c) (moved-times (z * c) t b w c' (z * c * c') refl (second-moved f s t a b c z C i)) (moved-times (z * c') t' b' w' c (z * c * c') same (second-moved f s' t' a' b' c' z C' j)) k in
      rw (r.is, r'.is)
      (round-le f r.sign r'.sign r.size c r'.size c' C C'
      (compared-from (z * c * c') r.sign r'.sign (r.size * c') (r'.size * c) (o * c') (o' * c)
      (moved-times (z * c) r.sign r.size o c' (z * c * c') refl r.moved)
      (moved-times (z * c') r'.sign r'.size o' c (z * c * c') same r'.moved)
      (less o o' v v' w w' (z * c) (z * c') same (both_is f s t a b c z C i) (both_is f s' t' a' b' c' z C' j) vs ws)))
    where
      less : (o o' v v' w w' x x' : ℕ) → x * c' ≡ x' * c → o + x ≡ v + w → o' + x' ≡ v' + w' → v * c' ≤ v' * c → w * c' ≤ w' * c → o * c' ≤ o' * c
      less o o' v v' w w' x x' same e e' i j = omega (arith, ap (λ (n : ℕ). n * c') e, ap (λ (n : ℕ). n * c) e')

-- ---- x + y for a finite y, x + y for a finite x, and x - y for a finite y
pub compared_same : (s : Bool) (a : ℕ) → compared s a s a ≡ true
compared_same s a = let p = shifted a s a (le_of_eq refl) in compared-from a s s a a (shift a s a) (shift a s a) p p (le_of_eq refl)

fins : (f : Format) (s t : Bool) (m n : ℕ) (e d : ℤ) → add f (fin s m e) (fin t n d) ≡ sum f s (m * up e * down d) t (n * up d * down e) (down e * down d)
unfolding add
fins f s t m n e d = refl

fins-signed : (f : Format) (s t : Bool) (m n : ℕ) (e d : ℤ) → (r : Bool) × Signed (add f (fin s m e) (fin t n d)) r
fins-signed f s t m n e d = rw (fins f s t m n e d) (sum-signed f s t (m * up e * down d) (n * up d * down e) (down e * down d) (mul-pos (down_pos e) (down_pos d)))

module _ (f : Format) (t : Bool) (n : ℕ) (d : ℤ) where
  add-left-fin : (s s' : Bool) (m m' : ℕ) (e e' : ℤ) → compared s (m * up e * down e') s' (m' * up e' * down e) ≡ true → Le (add f (fin s m e) (fin t n d)) (add f (fin s' m' e') (fin t n d))
  add-left-fin s s' m m' e e' h =
      let x = m * up e in
      let x' = m' * up e' in
      let y = n * up d in
      let l : x * down e' * (down d * down d) ≡ x * down d * (down e' * down d) = omega arith in
      let r : x' * down e * (down d * down d) ≡ x' * down d * (down e * down d) = omega arith in
      let i : y * down e * (down e' * down d) ≡ y * down e' * (down e * down d) = omega arith in
      rw (fins f s t m n e d, fins f s' t m' n e' d)
      (sum-le f s t s' t (x * down d) (y * down e) (down e * down d) (x' * down d) (y * down e') (down e' * down d) (mul-pos (down_pos e) (down_pos d)) (mul-pos (down_pos e') (down_pos d))
      (ap₂ (λ (i j : ℕ). compared s i s' j) (sym l) (sym r) ∙ compared-times s s' (x * down e') (x' * down e) (down d * down d) h)
      (ap (λ (j : ℕ). compared t (y * down e * (down e' * down d)) t j) (sym i) ∙ compared_same t (y * down e * (down e' * down d))))

  add-right-fin : (s s' : Bool) (m m' : ℕ) (e e' : ℤ) → compared s (m * up e * down e') s' (m' * up e' * down e) ≡ true → Le (add f (fin t n d) (fin s m e)) (add f (fin t n d) (fin s' m' e'))
  add-right-fin s s' m m' e e' h =
      let x = m * up e in
      let x' = m' * up e' in
      let y = n * up d in
      let l : x * down e' * (down d * down d) ≡ x * down d * (down d * down e') = omega arith in
      let r : x' * down e * (down d * down d) ≡ x' * down d * (down d * down e) = omega arith in
      let i : y * down e * (down d * down e') ≡ y * down e' * (down d * down e) = omega arith in
      rw (fins f t s n m d e, fins f t s' n m' d e')
      (sum-le f t s t s' (y * down e) (x * down d) (down d * down e) (y * down e') (x' * down d) (down d * down e') (mul-pos (down_pos d) (down_pos e)) (mul-pos (down_pos d) (down_pos e'))
      (ap (λ (j : ℕ). compared t (y * down e * (down d * down e')) t j) (sym i) ∙ compared_same t (y * down e * (down d * down e')))
      (ap₂ (λ (i j : ℕ). compared s i s' j) (sym l) (sym r) ∙ compared-times s s' (x * down e') (x' * down e) (down d * down d) h))

  inf_left : (s : Bool) → add f (inf s) (fin t n d) ≡ inf s
  unfolding add
  inf_left s = refl

  inf_right : (s : Bool) → add f (fin t n d) (inf s) ≡ inf s
  unfolding add
  inf_right s = refl

  left-rises : Rises (λ x. add f x (fin t n d))
  left-rises = record {
    at_inf = inf_left;
    sign = λ s m e. (fins-signed f s t m n e d).0;
    some = λ s m e. (fins-signed f s t m n e d).1;
    at_fin = add-left-fin;
  }

  right-rises : Rises (λ x. add f (fin t n d) x)
  right-rises = record {
    at_inf = inf_right;
    sign = λ s m e. (fins-signed f t s n m d e).0;
    some = λ s m e. (fins-signed f t s n m d e).1;
    at_fin = add-right-fin;
  }

pub add-rises : (f : Format) (x : Float) → T (finite x) → Rises (λ y. add f x y)
add-rises f nan h = absurd h
add-rises f (inf s) h = absurd h
add-rises f (fin t n d) h = right-rises f t n d

pub sub-rises : (f : Format) (y : Float) → T (finite y) → Rises (λ x. sub f x y)
unfolding sub neg
sub-rises f nan h = absurd h
sub-rises f (inf s) h = absurd h
sub-rises f (fin t n d) h = left-rises f (not t) n d

-- ---- a whole number as a float rises too
pub whole_le : (f : Format) (i j : ℕ) → i ≤ j → Le (of_int f (pos i)) (of_int f (pos j))
unfolding of_int
whole_le f i j h = round-le f false false i 1 j 1 (lit< tt) (lit< tt) (compared-from 0 false false (i * 1) (j * 1) (i * 1) (j * 1) (omega arith) (omega arith) (mul-le-mul_right 1 h))
