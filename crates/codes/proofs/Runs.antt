-- One law for a step apart and one for a step together, over the width w of the runs, the shift s and the gap g.
use mathlib.Core.Path.{◌≡◌, refl, sym, ap, ap₂, ◌∙◌}
use Prim.Native.Nat.{ℕ, zero, suc, ◌+◌, ◌*◌, ◌-◌, ◌/◌, ◌%◌, ◌^◌, ◌≤◌, ◌<◌}
use native.Mathlib.Omega.{arith}
use native.Mathlib.Nat.{mul_comm, mul_assoc, add_comm, add_assoc, add-mul, add-zero, zero-add, zero-mul, mul-zero, mul-suc, mod-eq_of_lt, mod-lt, div-eq_of_lt, div-one, lt_of_lt_of_le, mul-mod_left}
use lib.Arith.{digits_lt}
use lib.Bits.{bit_and, bit_or, and_block, or_block, and_mask, and_zero_r, or_zero_r, or_shr, or_mod, or_lt, or_shifted_r}
use lib.Pow.{pow-add, pow_pos, pow_mono, split, shl_lt, shr_lt, shl-shr, shr-shr, ones_lt, field, mod-mod-pow, mod-pow-add, high, low}
use Rattle.codes.specs.Codes.{spread, anchor}
use Rattle.codes.specs.Runs.{runs, mask, Apart, Together}
use Rattle.codes.proofs.Codes.{anchor-more}

-- ---- numbers in two parts

wider : {x j : ℕ} (k : ℕ) → x < 2 ^ j → j ≤ k → x < 2 ^ k
wider k h l = lt_of_lt_of_le h (pow_mono l)

-- the low w bits are among the low k
low_of : (k w x : ℕ) → w ≤ k → x % 2 ^ k % 2 ^ w ≡ x % 2 ^ w
low_of k w x h = let e : k ≡ k - w + w = omega arith in ap (λ (n : ℕ). x % 2 ^ n % 2 ^ w) e ∙ mod-mod-pow x (k - w) w

twice : (a b c g : ℕ) → (a * 2 ^ g + b) * 2 ^ g + c ≡ a * 2 ^ (g + g) + (b * 2 ^ g + c)
twice a b c g =
    ap (λ (n : ℕ). n + c) (add-mul (a * 2 ^ g) b (2 ^ g) ∙ ap (λ (n : ℕ). n + b * 2 ^ g) (mul_assoc a (2 ^ g) (2 ^ g) ∙ ap (λ (n : ℕ). a * n) (sym (pow-add 2 g g))))
    ∙ add_assoc (a * 2 ^ (g + g)) (b * 2 ^ g) c

-- both parts move up by s
moves : (y b k s : ℕ) → (y * 2 ^ k + b) * 2 ^ s ≡ y * 2 ^ s * 2 ^ k + b * 2 ^ s
moves y b k s =
    add-mul (y * 2 ^ k) b (2 ^ s)
    ∙ ap (λ (n : ℕ). n + b * 2 ^ s) (mul_assoc y (2 ^ k) (2 ^ s) ∙ ap (λ (n : ℕ). y * n) (mul_comm (2 ^ k) (2 ^ s)) ∙ sym (mul_assoc y (2 ^ s) (2 ^ k)))

-- a mask's lowest run keeps the w low bits of x, and the rest of the mask meets the rest of x
low_run : (k w x m : ℕ) → w ≤ k → bit_and x (m * 2 ^ k + (2 ^ w - 1)) ≡ bit_and (x / 2 ^ k) m * 2 ^ k + x % 2 ^ w
low_run k w x m h =
    ap (λ (n : ℕ). bit_and n (m * 2 ^ k + (2 ^ w - 1))) (sym (split x k))
    ∙ and_block k (x / 2 ^ k) m (x % 2 ^ k) (2 ^ w - 1) (mod-lt x (pow_pos k)) (wider k (ones_lt w) h)
    ∙ ap (λ (n : ℕ). bit_and (x / 2 ^ k) m * 2 ^ k + n) (and_mask (x % 2 ^ k) w ∙ low_of k w x h)

-- ---- two runs more

module _ (g w n : ℕ) where
  more : suc n + suc n ≡ suc (suc (n + n))
  more = omega arith

  runs-two : (x : ℕ) → runs g w (suc n + suc n) x ≡ runs g w (n + n) (x / 2 ^ (w + w)) * 2 ^ (g + g) + (x / 2 ^ w % 2 ^ w * 2 ^ g + x % 2 ^ w)
  unfolding runs
  runs-two x =
      ap (λ (k : ℕ). runs g w k x) more
      ∙ twice (runs g w (n + n) (x / 2 ^ w / 2 ^ w)) (x / 2 ^ w % 2 ^ w) (x % 2 ^ w) g
      ∙ ap (λ (k : ℕ). runs g w (n + n) k * 2 ^ (g + g) + (x / 2 ^ w % 2 ^ w * 2 ^ g + x % 2 ^ w)) (shr-shr x w w)

  mask-two : mask g w (suc n + suc n) ≡ mask g w (n + n) * 2 ^ (g + g) + ((2 ^ w - 1) * 2 ^ g + (2 ^ w - 1))
  unfolding mask
  mask-two = ap (mask g w) more ∙ twice (mask g w (n + n)) (2 ^ w - 1) (2 ^ w - 1) g

-- ---- a step apart

module _ (w s g : ℕ) (wide : w ≤ s) (gap : g ≡ s + w) where
  -- one run of w + w bits: its low half stays, and its high half moves up by s
  cut : (b : ℕ) → b < 2 ^ (w + w) → bit_and (bit_or b (b * 2 ^ s)) ((2 ^ w - 1) * 2 ^ g + (2 ^ w - 1)) ≡ b / 2 ^ w * 2 ^ g + b % 2 ^ w
  cut b h =
      low_run g w (bit_or b (b * 2 ^ s)) (2 ^ w - 1) (omega arith)
      ∙ ap₂ (λ (p q : ℕ). p * 2 ^ g + q) (and_mask (bit_or b (b * 2 ^ s) / 2 ^ g) w ∙ ap (λ (n : ℕ). n % 2 ^ w) above ∙ mod-eq_of_lt (shr_lt w w h)) below
    where
      moved : b * 2 ^ s / 2 ^ g ≡ b / 2 ^ w
      moved = ap (λ (n : ℕ). b * 2 ^ s / 2 ^ n) gap ∙ sym (shr-shr (b * 2 ^ s) s w) ∙ ap (λ (n : ℕ). n / 2 ^ w) (shl-shr b s)

      above : bit_or b (b * 2 ^ s) / 2 ^ g ≡ b / 2 ^ w
      above = or_shr b (b * 2 ^ s) g ∙ ap₂ bit_or (div-eq_of_lt (wider g h (omega arith))) moved

      none : b * 2 ^ s % 2 ^ w ≡ 0
      none =
          let e : s ≡ s - w + w = omega arith in
          ap (λ (n : ℕ). b * n % 2 ^ w) (ap (λ (n : ℕ). 2 ^ n) e ∙ pow-add 2 (s - w) w)
          ∙ ap (λ (n : ℕ). n % 2 ^ w) (sym (mul_assoc b (2 ^ (s - w)) (2 ^ w)))
          ∙ mul-mod_left (b * 2 ^ (s - w)) (2 ^ w)

      below : bit_or b (b * 2 ^ s) % 2 ^ w ≡ b % 2 ^ w
      below = or_mod b (b * 2 ^ s) w ∙ ap (bit_or (b % 2 ^ w)) none ∙ or_zero_r (b % 2 ^ w)

  -- and the runs y above it, apart from it
  cut-more : (y b m : ℕ) → b < 2 ^ (w + w)
      → bit_and (bit_or (y * 2 ^ (g + g) + b) ((y * 2 ^ (g + g) + b) * 2 ^ s)) (m * 2 ^ (g + g) + ((2 ^ w - 1) * 2 ^ g + (2 ^ w - 1)))
      ≡ bit_and (bit_or y (y * 2 ^ s)) m * 2 ^ (g + g) + (b / 2 ^ w * 2 ^ g + b % 2 ^ w)
  cut-more y b m h =
      let stays-lt : b < 2 ^ (g + g) = wider (g + g) h (omega arith) in
      let moved-lt : b * 2 ^ s < 2 ^ (g + g) = wider (g + g) (shl_lt (w + w) s h) (omega arith) in
      let mask_lt : (2 ^ w - 1) * 2 ^ g + (2 ^ w - 1) < 2 ^ (g + g) = rw (pow-add 2 g g) (digits_lt (wider g (ones_lt w) (omega arith)) (wider g (ones_lt w) (omega arith))) in
      ap (λ (n : ℕ). bit_and (bit_or (y * 2 ^ (g + g) + b) n) (m * 2 ^ (g + g) + ((2 ^ w - 1) * 2 ^ g + (2 ^ w - 1)))) (moves y b (g + g) s)
      ∙ ap (λ (n : ℕ). bit_and n (m * 2 ^ (g + g) + ((2 ^ w - 1) * 2 ^ g + (2 ^ w - 1)))) (or_block (g + g) y (y * 2 ^ s) b (b * 2 ^ s) stays-lt moved-lt)
      ∙ and_block (g + g) (bit_or y (y * 2 ^ s)) m (bit_or b (b * 2 ^ s)) ((2 ^ w - 1) * 2 ^ g + (2 ^ w - 1)) (or_lt (g + g) b (b * 2 ^ s) stays-lt moved-lt) mask_lt
      ∙ ap (λ (n : ℕ). bit_and (bit_or y (y * 2 ^ s)) m * 2 ^ (g + g) + n) (cut b h)

  apart-runs : (n x : ℕ) → bit_and (bit_or (runs (g + g) (w + w) n x) (runs (g + g) (w + w) n x * 2 ^ s)) (mask g w (n + n)) ≡ runs g w (n + n) x
  unfolding runs mask
  apart-runs zero x = and_zero_r (0 * 2 ^ s)
  apart-runs (suc n) x =
      ap (bit_and (bit_or (runs (g + g) (w + w) (suc n) x) (runs (g + g) (w + w) (suc n) x * 2 ^ s))) (mask-two g w n)
      ∙ cut-more (runs (g + g) (w + w) n (x / 2 ^ (w + w))) (x % 2 ^ (w + w)) (mask g w (n + n)) (mod-lt x (pow_pos (w + w)))
      ∙ ap₂ (λ (p q : ℕ). p * 2 ^ (g + g) + q) (apart-runs n (x / 2 ^ (w + w))) (ap₂ (λ (p q : ℕ). p * 2 ^ g + q) (field x w w) (mod-mod-pow x w w))
      ∙ sym (runs-two g w n x)

-- runs moved up by s, where each has room for that below the next
pub moved-lt : (g w s n x : ℕ) → w + s ≤ g → runs g w n x * 2 ^ s < 2 ^ (g * n)
unfolding runs
moved-lt g w s zero x h = rw (mul-zero g, zero-mul (2 ^ s)) (omega arith)
moved-lt g w s (suc n) x h =
    rw (mul-suc g n, pow-add 2 (g * n) g, moves (runs g w n (x / 2 ^ w)) (x % 2 ^ w) g s)
    (digits_lt (moved-lt g w s n (x / 2 ^ w) h) (wider g (shl_lt w s (mod-lt x (pow_pos w))) h))

pub apart-is : (y s m : ℕ) → Apart y s m (bit_and (bit_or y (y * 2 ^ s % 2 ^ 64)) m)
apart-is y s m w g n x wide gap room em ey =
    ap₂ (λ (p q : ℕ). bit_and (bit_or p (p * 2 ^ s % 2 ^ 64)) q) ey em
    ∙ ap (λ (p : ℕ). bit_and (bit_or (runs (g + g) (w + w) n x) p) (mask g w (n + n))) (mod-eq_of_lt (wider 64 (moved-lt (g + g) (w + w) s n x (omega arith)) room))
    ∙ apart-runs w s g wide gap n x

-- ---- a step together

module _ (w s g : ℕ) (wide : w ≤ s) (gap : g ≡ s + w) where
  -- a run l, and q above it: the run at q's foot moves down by s onto l
  join : (q l : ℕ) → l < 2 ^ w → bit_or (q * 2 ^ g + l) ((q * 2 ^ g + l) / 2 ^ s) % 2 ^ (w + w) ≡ q % 2 ^ w * 2 ^ w + l
  join q l h =
      or_mod (q * 2 ^ g + l) ((q * 2 ^ g + l) / 2 ^ s) (w + w)
      ∙ ap₂ bit_or stays (ap (λ (n : ℕ). n % 2 ^ (w + w)) down ∙ comes)
      ∙ or_shifted_r (q % 2 ^ w) w l h
    where
      stays : (q * 2 ^ g + l) % 2 ^ (w + w) ≡ l
      stays =
          sym (low_of g (w + w) (q * 2 ^ g + l) (omega arith))
          ∙ ap (λ (n : ℕ). n % 2 ^ (w + w)) (low q g (wider g h (omega arith)))
          ∙ mod-eq_of_lt (wider (w + w) h (omega arith))

      down : (q * 2 ^ g + l) / 2 ^ s ≡ q * 2 ^ w
      down =
          ap (λ (n : ℕ). (n + l) / 2 ^ s) (ap (λ (n : ℕ). q * n) (ap (λ (n : ℕ). 2 ^ n) gap ∙ pow-add 2 s w ∙ mul_comm (2 ^ s) (2 ^ w)) ∙ sym (mul_assoc q (2 ^ w) (2 ^ s)))
          ∙ high (q * 2 ^ w) s (wider s h wide)

      comes : q * 2 ^ w % 2 ^ (w + w) ≡ q % 2 ^ w * 2 ^ w
      comes =
          mod-pow-add (q * 2 ^ w) w w
          ∙ ap₂ (λ (m n : ℕ). m % 2 ^ w * 2 ^ w + n) (shl-shr q w) (mul-mod_left q (2 ^ w))
          ∙ add-zero (q % 2 ^ w * 2 ^ w)

  -- two runs, and the runs z above them, apart from them
  join_more : (z h l m : ℕ) → h < 2 ^ w → l < 2 ^ w
      → bit_and (bit_or (z * 2 ^ (g + g) + (h * 2 ^ g + l)) ((z * 2 ^ (g + g) + (h * 2 ^ g + l)) / 2 ^ s)) (m * 2 ^ (g + g) + (2 ^ (w + w) - 1))
      ≡ bit_and (bit_or z (z / 2 ^ s)) m * 2 ^ (g + g) + (h * 2 ^ w + l)
  join_more z h l m hh hl =
      low_run (g + g) (w + w) (bit_or (z * 2 ^ (g + g) + (h * 2 ^ g + l)) ((z * 2 ^ (g + g) + (h * 2 ^ g + l)) / 2 ^ s)) m (omega arith)
      ∙ ap₂ (λ (p q : ℕ). bit_and p m * 2 ^ (g + g) + q) (above (g + g) two-lt) below
    where
      two-lt : h * 2 ^ g + l < 2 ^ (g + g)
      two-lt = rw (pow-add 2 g g) (digits_lt (wider g hh (omega arith)) (wider g hl (omega arith)))

      above : (k : ℕ) {t : ℕ} → t < 2 ^ k → bit_or (z * 2 ^ k + t) ((z * 2 ^ k + t) / 2 ^ s) / 2 ^ k ≡ bit_or z (z / 2 ^ s)
      above k {t} lt =
          or_shr (z * 2 ^ k + t) ((z * 2 ^ k + t) / 2 ^ s) k
          ∙ ap₂ bit_or (high z k lt)
          (shr-shr (z * 2 ^ k + t) s k ∙ ap (λ (n : ℕ). (z * 2 ^ k + t) / 2 ^ n) (add_comm s k) ∙ sym (shr-shr (z * 2 ^ k + t) k s) ∙ ap (λ (n : ℕ). n / 2 ^ s) (high z k lt))

      foot : (z * 2 ^ g + h) % 2 ^ w ≡ h
      foot = sym (low_of g w (z * 2 ^ g + h) (omega arith)) ∙ ap (λ (n : ℕ). n % 2 ^ w) (low z g (wider g hh (omega arith))) ∙ mod-eq_of_lt hh

      below : bit_or (z * 2 ^ (g + g) + (h * 2 ^ g + l)) ((z * 2 ^ (g + g) + (h * 2 ^ g + l)) / 2 ^ s) % 2 ^ (w + w) ≡ h * 2 ^ w + l
      below =
          ap (λ (n : ℕ). bit_or n (n / 2 ^ s) % 2 ^ (w + w)) (sym (twice z h l g))
          ∙ join (z * 2 ^ g + h) l hl
          ∙ ap (λ (n : ℕ). n * 2 ^ w + l) foot

  together-runs : (n x : ℕ) → bit_and (bit_or (runs g w (n + n) x) (runs g w (n + n) x / 2 ^ s)) (mask (g + g) (w + w) n) ≡ runs (g + g) (w + w) n x
  unfolding runs mask
  together-runs zero x = and_zero_r (bit_or (runs g w 0 x) (runs g w 0 x / 2 ^ s))
  together-runs (suc n) x =
      ap (λ (t : ℕ). bit_and (bit_or t (t / 2 ^ s)) (mask (g + g) (w + w) (suc n))) (runs-two g w n x)
      ∙ join_more (runs g w (n + n) (x / 2 ^ (w + w))) (x / 2 ^ w % 2 ^ w) (x % 2 ^ w) (mask (g + g) (w + w) n) (mod-lt _ (pow_pos w)) (mod-lt x (pow_pos w))
      ∙ ap₂ (λ (p q : ℕ). p * 2 ^ (g + g) + q) (together-runs n (x / 2 ^ (w + w))) (sym (mod-pow-add x w w))

pub together-is : (y s m : ℕ) → Together y s m (bit_and (bit_or y (y / 2 ^ s)) m)
together-is y s m w g n x wide gap em ey = ap₂ (λ (p q : ℕ). bit_and (bit_or p (p / 2 ^ s)) q) ey em ∙ together-runs w s g wide gap n x

-- ---- where the steps begin and end

-- a number is one run of its bits
pub whole : (g w x : ℕ) → x < 2 ^ w → x ≡ runs g w 1 x
unfolding runs
whole g w x h = sym (mod-eq_of_lt h) ∙ sym (ap (λ (n : ℕ). n + x % 2 ^ w) (zero-mul (2 ^ g)) ∙ zero-add (x % 2 ^ w))

-- runs of one bit are the number spread
pub singles : (d n x : ℕ) → runs d 1 n x ≡ spread d n x
unfolding runs spread
singles d zero x = refl
singles d (suc n) x =
    add_comm (runs d 1 n (x / 2) * 2 ^ d) (x % 2)
    ∙ ap (λ (m : ℕ). x % 2 + m) (mul_comm (runs d 1 n (x / 2)) (2 ^ d) ∙ ap (λ (m : ℕ). 2 ^ d * m) (singles d n (x / 2)))

-- the mask of runs of one bit takes the first axis's bits out of a code
pub first-axis : (d n c : ℕ) → 1 ≤ d → bit_and c (mask d 1 n) ≡ runs d 1 n (anchor d 0 n c)
unfolding runs mask
first-axis d zero c h = and_zero_r c
first-axis d (suc n) c h =
    let bit : anchor d 0 (suc n) c % 2 ≡ c % 2 = omega (arith, anchor-more d 0 n c, div-one c) in
    let rest : anchor d 0 (suc n) c / 2 ≡ anchor d 0 n (c / 2 ^ d) = omega (arith, anchor-more d 0 n c) in
    low_run d 1 c (mask d 1 n) h
    ∙ ap₂ (λ (p q : ℕ). p * 2 ^ d + q) (first-axis d n (c / 2 ^ d) h ∙ ap (runs d 1 n) (sym rest)) (sym bit)

-- the code a bits down has axis a's bits where the first axis's stood
pub axis-down : (d a n c : ℕ) → anchor d 0 n (c / 2 ^ a) ≡ anchor d a n c
unfolding anchor
axis-down d a zero c = refl
axis-down d a (suc n) c =
    ap₂ (λ (p q : ℕ). p % 2 + 2 * q) (div-one (c / 2 ^ a))
    (ap (anchor d 0 n) (shr-shr c a d ∙ ap (λ (m : ℕ). c / 2 ^ m) (add_comm a d) ∙ sym (shr-shr c d a)) ∙ axis-down d a n (c / 2 ^ d))
