-- A V row over d axes has at most 6 ^ d - 3 ^ d cells: on each axis a cell whose parent is near b's has one of 6 offsets to b, 3 of them near.
use mathlib.Core.Path.{◌≡◌, refl, sym, ap₂, ◌∙◌, subst}
use mathlib.Core.Bool.{Bool, true, false, ◌&&◌}
use mathlib.Core.List.{List, [], ◌∷◌, map}
use Prim.Native.Nat.{ℕ, zero, suc, ◌+◌, ◌*◌, ◌-◌, ◌/◌, ◌%◌, ◌^◌, ◌≤◌, ◌<◌, zero-le}
use native.Mathlib.Omega.{arith}
use native.Mathlib.Nat.{not-suc-le-zero}
use native.Mathlib.Decide.{dec_lt}
use lib.Dec.{leb, ltb, eqb}
use lib.ListN.{length}
use borrow.Author.Tests.{eqb-true}
use Rattle.slices.specs.Every.{every}
use Rattle.slices.specs.Lists.{sum, range, count, Mem, Distinct}
use Rattle.slices.proofs.Tests.{and_l, and_r, clash}
use Rattle.slices.proofs.Counts.{count-zero, count-few}
use Rattle.slices.proofs.Rows.{count-split}
use Rattle.morton.specs.Keys.{axes_known, far_room, key, level_of, code_of}
use Rattle.morton.specs.Anchors.{anchor, near, within1}
use Rattle.morton.proofs.Cells.{key-parts}
use Rattle.morton.proofs.Nearness.{within-lo, within-hi, within, anchors-tell}
use Rattle.tree.proofs.Rules.{Ascending}
use Rattle.tree.proofs.Stored.{distinct, code_lt}
use Rattle.rows.specs.Lists.{in_v, v_row}
use Rattle.rows.proofs.RowTests.{length-v, v-facts}

-- Cells of level suc level, beside one with code b
module _ (d : ℕ) (keys : List ℕ) (dist : Distinct keys) (level b : ℕ) where
  record Fit (n : ℕ) (q : ℕ → Bool) : Type 0 where
    -- the anchors on the first n axes tell the cells that pass apart
    tells : (x y : ℕ) → Mem x keys → Mem y keys → q x ≡ true → q y ≡ true
        → ((a : ℕ) → a < n → anchor d a (suc level) (code_of x) ≡ anchor d a (suc level) (code_of y)) → x ≡ y
    -- and on those axes their parents are near b's
    window : (x : ℕ) → Mem x keys → q x ≡ true → near n d level (b / 2 ^ d) (code_of x / 2 ^ d) ≡ true

  -- from 2 cells before b's parent on
  off : ℕ → ℕ → ℕ
  off n x = anchor d n (suc level) (code_of x) + 2 - 2 * anchor d n level (b / 2 ^ d)

  off-span : (n : ℕ) (q : ℕ → Bool) → Fit (suc n) q → (x : ℕ) → Mem x keys → q x ≡ true
      → (off n x + 2 * anchor d n level (b / 2 ^ d) ≡ anchor d n (suc level) (code_of x) + 2) × (off n x < 6)
  unfolding off anchor near every
  off-span n q fit x m h =
      let w = and_l (within1 (anchor d n level (b / 2 ^ d)) (anchor d n level (code_of x / 2 ^ d))) _ (fit.window x m h) in
      let lo = within-lo (anchor d n level (b / 2 ^ d)) (anchor d n level (code_of x / 2 ^ d)) w in
      let hi = within-hi (anchor d n level (b / 2 ^ d)) (anchor d n level (code_of x / 2 ^ d)) w in
      omega arith

  -- the cells with one offset on axis n fit on the axes before it
  fit_at : (n : ℕ) (q : ℕ → Bool) → Fit (suc n) q → (v : ℕ) → Fit n (λ x. q x && eqb (off n x) v)
  unfolding near every
  fit_at n q fit v = record {
    tells = λ x y mx my hx hy e. fit.tells x y mx my (and_l _ _ hx) (and_l _ _ hy) (more x y mx my hx hy e);
    window = λ x m h. and_r (within1 (anchor d n level (b / 2 ^ d)) (anchor d n level (code_of x / 2 ^ d))) _ (fit.window x m (and_l _ _ h));
  }
    where
      more : (x y : ℕ) → Mem x keys → Mem y keys → (q x && eqb (off n x) v) ≡ true → (q y && eqb (off n y) v) ≡ true
          → ((a : ℕ) → a < n → anchor d a (suc level) (code_of x) ≡ anchor d a (suc level) (code_of y))
          → (a : ℕ) → a < suc n → anchor d a (suc level) (code_of x) ≡ anchor d a (suc level) (code_of y)
      more x y mx my hx hy e a l = go (dec_lt a n)
        where
          go : Dec (a < n) → anchor d a (suc level) (code_of x) ≡ anchor d a (suc level) (code_of y)
          go (yes k) = e a k
          go (no k) =
              let same : a ≡ n = omega arith in
              let left : off n x + 2 * anchor d n level (b / 2 ^ d) ≡ anchor d n (suc level) (code_of x) + 2 = (off-span n q fit x mx (and_l _ _ hx)).0 in
              let right : off n y + 2 * anchor d n level (b / 2 ^ d) ≡ anchor d n (suc level) (code_of y) + 2 = (off-span n q fit y my (and_l _ _ hy)).0 in
              let one : off n x ≡ v = eqb-true (off n x) v (and_r (q x) _ hx) in
              let other : off n y ≡ v = eqb-true (off n y) v (and_r (q y) _ hy) in
              let there : anchor d n (suc level) (code_of x) ≡ anchor d n (suc level) (code_of y) = omega arith in
              let P : ℕ → Type 0 = λ m. anchor d m (suc level) (code_of x) ≡ anchor d m (suc level) (code_of y) in
              subst P (sym same) there

  by-offset : (n : ℕ) (q : ℕ → Bool) → Fit (suc n) q → count q keys ≡ sum (map (λ v. count (λ x. q x && eqb (off n x) v) keys) (range 0 6))
  by-offset n q fit = count-split q (off n) keys 6 (λ x m h. (off-span n q fit x m h).1)

  most : (n : ℕ) (q : ℕ → Bool) → Fit n q → count q keys ≤ 6 ^ n
  unfolding sum range
  most zero q fit = count-few q keys dist (λ x y mx my hx hy. fit.tells x y mx my hx hy (λ a l. absurd (not-suc-le-zero l)))
  most (suc n) q fit =
      let at : (v : ℕ) → count (λ x. q x && eqb (off n x) v) keys ≤ 6 ^ n = λ v. most n _ (fit_at n q fit v) in
      omega (arith, by-offset n q fit, at 0, at 1, at 2, at 3, at 4, at 5)

  -- a cell that is far from b, and near it on axis n, is far from it on the axes before
  stays : (n : ℕ) (q : ℕ → Bool) → Fit (suc n) q → ((x : ℕ) → Mem x keys → q x ≡ true → near (suc n) d (suc level) b (code_of x) ≡ false)
      → (v : ℕ) → v ≤ b / 2 ^ n % 2 + 3 → b / 2 ^ n % 2 + 1 ≤ v → (x : ℕ) → Mem x keys → (q x && eqb (off n x) v) ≡ true → near n d (suc level) b (code_of x) ≡ false
  unfolding near every anchor
  stays n q fit none v lo hi x m h =
      let s = (off-span n q fit x m (and_l _ _ h)).0 in
      let e = eqb-true (off n x) v (and_r (q x) _ h) in
      rw (within (anchor d n (suc level) b) (anchor d n (suc level) (code_of x)) (omega arith) (omega arith)) at (none x m (and_l _ _ h))

  apart : (n : ℕ) (q : ℕ → Bool) → Fit n q → ((x : ℕ) → Mem x keys → q x ≡ true → near n d (suc level) b (code_of x) ≡ false) → count q keys + 3 ^ n ≤ 6 ^ n
  unfolding sum range near every
  apart zero q fit none = rw (count-zero q keys (λ x m h. clash refl (none x m h))) (omega arith)
  apart (suc n) q fit none = go (dec_lt (b / 2 ^ n % 2) 1) (λ v. most n _ (fit_at n q fit v)) (λ v lo hi. apart n _ (fit_at n q fit v) (stays n q fit none v lo hi))
    where
      go : Dec (b / 2 ^ n % 2 < 1) → ((v : ℕ) → count (λ x. q x && eqb (off n x) v) keys ≤ 6 ^ n)
          → ((v : ℕ) → v ≤ b / 2 ^ n % 2 + 3 → b / 2 ^ n % 2 + 1 ≤ v → count (λ x. q x && eqb (off n x) v) keys + 3 ^ n ≤ 6 ^ n)
          → count q keys + 3 ^ suc n ≤ 6 ^ suc n
      go (yes l) at by = omega (arith, by-offset n q fit, at 0, by 1 (omega arith) (omega arith), by 2 (omega arith) (omega arith), by 3 (omega arith) (omega arith), at 4, at 5)
      go (no l) at by = omega (arith, by-offset n q fit, at 0, at 1, by 2 (omega arith) (omega arith), by 3 (omega arith) (omega arith), by 4 (omega arith) (omega arith), at 5)

module _ (d : ℕ) (keys own : List ℕ) (asc : Ascending d keys) where
  v-bound : (b : ℕ) → length (v_row d keys own b) ≤ 6 ^ d - 3 ^ d
  v-bound b = rw (length-v d keys own b) (go (level_of b) refl)
    where
      go : (l : ℕ) → level_of b ≡ l → count (in_v d keys own b) keys ≤ 6 ^ d - 3 ^ d
      go zero e = rw (count-zero (in_v d keys own b) keys (λ x m h. omega (arith, (v-facts d keys own b x h).deep))) zero-le
      go (suc l) e = omega (arith, apart d keys (distinct d keys asc) l (code_of b) d (in_v d keys own b) fit (λ x m h. rw e at (v-facts d keys own b x h).apart))
        where
          lt : (x : ℕ) → Mem x keys → in_v d keys own b x ≡ true → code_of x < 2 ^ (d * suc l)
          lt x m h = rw ((v-facts d keys own b x h).level ∙ e) at (code_lt d keys asc x m)

          fit : Fit d keys (distinct d keys asc) l (code_of b) d (in_v d keys own b)
          fit = record {
            tells = λ x y mx my hx hy same. sym (key-parts x)
                ∙ ap₂ key ((v-facts d keys own b x hx).level ∙ sym (v-facts d keys own b y hy).level) (anchors-tell d (suc l) (code_of x) (code_of y) (lt x mx hx) (lt y my hy) same) ∙ key-parts y;
            window = λ x m h. let one : suc l - 1 ≡ l = omega arith in rw (e, one) at (v-facts d keys own b x h).window;
          }

  pub v-room : axes_known d ≡ true → (b : ℕ) → length (v_row d keys own b) ≤ far_room d
  v-room known b = rw known (v-bound b)
