-- The direction rows, tied once over d to the touching rule: each step is -1, 0 or 1; each way of stepping so on every axis, but for standing still, is one row, and no row is another.
use mathlib.Core.Path.{◌≡◌, refl, sym, ap, ap₂, ◌∙◌}
use mathlib.Core.Bool.{Bool, true, false, ◌&&◌, ◌||◌, not}
use Prim.Native.Nat.{ℕ, zero, suc, ◌+◌, ◌*◌, ◌/◌, ◌%◌, ◌^◌, ◌≤◌, ◌<◌}
use native.Mathlib.Omega.{arith}
use native.Mathlib.Nat.{not-suc-le-zero, mul-le-mul_right, mul-add-div_right, mul-add-mod_self_right, div-eq_of_lt, mod-eq_of_lt, add-zero, one-le-pow}
use native.Mathlib.Decide.{dec_lt}
use lib.Dec.{eqb}
use lib.IntN.{ℤ, pos, negsuc}
use lib.ListN.{length, get_or}
use borrow.Author.Tests.{eqb-true, eq-eqb, ne_eqb, not-true}
use Rattle.slices.specs.Lists.{any, range}
use Rattle.slices.specs.Every.{every}
use Rattle.slices.proofs.Tests.{and_l, and_r, clash, or-not}
use Rattle.slices.proofs.Counts.{any-elim}
use Rattle.slices.proofs.Every.{every-at}
use Rattle.slices.proofs.Members.{mem-range}
use Rattle.morton.specs.Keys.{axes_known, neighbours_room}
use Rattle.neighbours.specs.Directions.{directions, direction_row, none}
use Rattle.neighbours.specs.Steps.{unit_row, raised}
use Rattle.morton.proofs.Checks.{axes-facts, axes-many}

-- ---- steps on n axes as one number, a digit of base 3 an axis

ways : ℕ → (ℕ → ℕ) → ℕ
ways zero f = 0
ways (suc n) f = f n * 3 ^ n + ways n f

three-pos : (n : ℕ) → 0 < 3 ^ n
three-pos n = one-le-pow n 3 (omega arith)

ways-lt : (n : ℕ) (f : ℕ → ℕ) → ((a : ℕ) → a < n → f a ≤ 2) → ways n f < 3 ^ n
unfolding ways
ways-lt zero f h = omega arith
ways-lt (suc n) f h = omega (arith, ways-lt n f (λ a l. h a (omega arith)), mul-le-mul_right (3 ^ n) (h n (omega arith)))

ways-same : (n : ℕ) (f g : ℕ → ℕ) → ((a : ℕ) → a < n → f a ≡ g a) → ways n f ≡ ways n g
unfolding ways
ways-same zero f g h = refl
ways-same (suc n) f g h = ap₂ (λ (x y : ℕ). x * 3 ^ n + y) (h n (omega arith)) (ways-same n f g (λ a l. h a (omega arith)))

-- each digit is known by the number
top : (n : ℕ) (f : ℕ → ℕ) → ((a : ℕ) → a < n → f a ≤ 2) → ways (suc n) f / 3 ^ n ≡ f n
unfolding ways
top n f h = mul-add-div_right (three-pos n) (f n) (ways n f) ∙ rw (div-eq_of_lt (ways-lt n f h)) (add-zero (f n))

below : (n : ℕ) (f : ℕ → ℕ) → ((a : ℕ) → a < n → f a ≤ 2) → ways (suc n) f % 3 ^ n ≡ ways n f
unfolding ways
below n f h = mul-add-mod_self_right (f n) (3 ^ n) (ways n f) ∙ mod-eq_of_lt (ways-lt n f h)

ways-tell : (n : ℕ) (f g : ℕ → ℕ) → ((a : ℕ) → a < n → f a ≤ 2) → ((a : ℕ) → a < n → g a ≤ 2) → ways n f ≡ ways n g → (a : ℕ) → a < n → f a ≡ g a
ways-tell zero f g hf hg e a l = absurd (not-suc-le-zero l)
ways-tell (suc n) f g hf hg e a l = go (dec_lt a n) (ways-tell n f g lf lg (sym (below n f lf) ∙ ap (λ (x : ℕ). x % 3 ^ n) e ∙ below n g lg) a)
  where
    lf : (a : ℕ) → a < n → f a ≤ 2
    lf a h = hf a (omega arith)

    lg : (a : ℕ) → a < n → g a ≤ 2
    lg a h = hg a (omega arith)

    last : f n ≡ g n
    last = sym (top n f lf) ∙ ap (λ (x : ℕ). x / 3 ^ n) e ∙ top n g lg

    go : Dec (a < n) → (a < n → f a ≡ g a) → f a ≡ g a
    go (yes h) rest = rest h
    go (no h) rest = let s : a ≡ n = omega arith in rw s last

-- ---- the table, by one computed test for each number of axes

-- row i's step on axis a, raised by one
abbrev pub step : ℕ → ℕ → ℕ → ℕ
step d i a = raised (get_or (direction_row d i) a none)

pub step-le : (z : ℤ) → raised z ≤ 2
step-le (pos zero) = omega arith
step-le (pos (suc n)) = omega arith
step-le (negsuc zero) = omega arith
step-le (negsuc (suc n)) = omega arith

-- document 01's figure: 2, 8, 26
pub rows-number : (d : ℕ) → length (directions d) ≡ neighbours_room d
rows-number zero = refl
rows-number (suc zero) = refl
rows-number (suc (suc zero)) = refl
rows-number (suc (suc (suc zero))) = refl
rows-number (suc (suc (suc (suc d)))) = rw (axes-many (suc (suc (suc (suc d)))) (omega arith))

way_of : ℕ → ℕ → ℕ
way_of d i = ways d (step d i)

still : ℕ → ℕ
still d = ways d (λ _. 1)

-- each step is -1, 0 or 1, no two rows are one way, none stands still, and every other way is a row
tied : ℕ → Bool
tied d =
    every (length (directions d)) (λ i. unit_row (direction_row d i))
    && (every (length (directions d)) (λ i. every (length (directions d)) (λ j. eqb i j || not (eqb (way_of d i) (way_of d j))))
    && (every (length (directions d)) (λ i. not (eqb (way_of d i) (still d)))
    && every (3 ^ d) (λ v. eqb v (still d) || any (λ i. eqb (way_of d i) v) (range 0 (length (directions d))))))

tied-known : (d : ℕ) → axes_known d ≡ true → tied d ≡ true
unfolding tied way_of still ways every any range
tied-known zero h = let z : ◌≡◌ {A = ℕ} 0 1 = cc in absurd (omega arith)
tied-known (suc zero) h = refl
tied-known (suc (suc zero)) h = refl
tied-known (suc (suc (suc zero))) h = refl
tied-known (suc (suc (suc (suc d)))) h = absurd (omega (arith, (axes-facts (suc (suc (suc (suc d)))) h).1))

module _ (d : ℕ) (known : axes_known d ≡ true) where
  abbrev rows : ℕ
  rows = length (directions d)

  abbrev alone : ℕ → Bool
  alone i = every rows (λ j. eqb i j || not (eqb (way_of d i) (way_of d j)))

  abbrev goes : ℕ → Bool
  goes i = not (eqb (way_of d i) (still d))

  abbrev found : ℕ → Bool
  found v = eqb v (still d) || any (λ i. eqb (way_of d i) v) (range 0 rows)

  parts : (every rows (λ i. unit_row (direction_row d i)) ≡ true) × (every rows alone ≡ true) × (every rows goes ≡ true) × (every (3 ^ d) found ≡ true)
  unfolding tied
  parts =
      let all = tied-known d known in
      let ways = and_r (every rows (λ i. unit_row (direction_row d i))) _ all in
      let rest = and_r (every rows alone) _ ways in
      (and_l _ _ all, and_l _ _ ways, and_l _ _ rest, and_r (every rows goes) _ rest)

  -- every step of a row is -1, 0 or 1
  pub row-unit : (i : ℕ) → i < rows → unit_row (direction_row d i) ≡ true
  row-unit i h = every-at (λ i. unit_row (direction_row d i)) rows parts.0 i h

  -- rows that step alike on every axis are one
  pub rows_tell : (i j : ℕ) → i < rows → j < rows → ((a : ℕ) → a < d → step d i a ≡ step d j a) → i ≡ j
  unfolding way_of
  rows_tell i j hi hj same = go (eqb i j) refl
    where
      go : (b : Bool) → eqb i j ≡ b → i ≡ j
      go true e = eqb-true i j e
      go false e =
          let t = every-at (λ j. eqb i j || not (eqb (way_of d i) (way_of d j))) rows (every-at alone rows parts.1 i hi) j hj in
          let f = not-true _ (or-not (eqb i j) _ t e) in
          absurd (clash (eq-eqb (way_of d i) (way_of d j) (ways-same d (step d i) (step d j) same)) f)

  -- no row stands still
  pub row-moves : (i : ℕ) → i < rows → ((a : ℕ) → a < d → step d i a ≡ 1) → ⊥
  unfolding way_of still
  row-moves i hi same =
      let f = not-true _ (every-at goes rows parts.2 i hi) in
      clash (eq-eqb (way_of d i) (still d) (ways-same d (step d i) (λ _. 1) same)) f

  -- every way of stepping but standing still is a row
  pub row-for : (f : ℕ → ℕ) → ((a : ℕ) → a < d → f a ≤ 2) → (((a : ℕ) → a < d → f a ≡ 1) → ⊥) → (i : ℕ) × (i < rows) × ((a : ℕ) → a < d → step d i a ≡ f a)
  unfolding way_of still
  row-for f small steps =
      let v = ways d f in
      let t = every-at found (3 ^ d) parts.3 v (ways-lt d f small) in
      let n : eqb v (still d) ≡ false = ne_eqb v (still d) (λ e. steps (ways-tell d f (λ _. 1) small (λ a h. omega arith) e)) in
      let r = any-elim (λ i. eqb (way_of d i) v) (range 0 rows) (or-not (eqb v (still d)) _ t n) in
      (r.0, mem-range rows r.0 r.1, ways-tell d (step d r.0) f (λ a h. step-le (get_or (direction_row d r.0) a none)) small (eqb-true (way_of d r.0) v r.2))
