-- At most 3 ^ d nodes are near a cell, and at most 6 ^ d around it: on each axis such a node has one of 3 or 6 offsets.
use mathlib.Core.Path.{◌≡◌, refl, sym, ap, ap₂, ◌∙◌}
use mathlib.Core.Bool.{Bool, true, ◌&&◌}
use mathlib.Core.List.{List, map}
use Prim.Native.Nat.{ℕ, zero, suc, ◌+◌, ◌*◌, ◌-◌, ◌/◌, ◌%◌, ◌^◌, ◌≤◌, ◌<◌}
use native.Mathlib.Omega.{arith}
use native.Mathlib.Nat.{not-suc-le-zero, suc-mul, pow-succ'}
use native.Mathlib.Numerals.{unary_clauses}
use native.Mathlib.Decide.{dec_lt}
use lib.Dec.{eqb}
use lib.ListN.{length, get_or}
use borrow.Author.Tests.{eqb-true}
use Rattle.slices.specs.Lists.{sum, range, count, Mem, Distinct}
use Rattle.slices.proofs.Tests.{and_l, and_r}
use Rattle.slices.proofs.Every.{every-at}
use Rattle.slices.proofs.Counts.{count-few}
use Rattle.slices.proofs.Rows.{count-split}
use Rattle.slices.proofs.Lists.{length-filter}
use Rattle.morton.specs.Keys.{key, level_of, code_of}
use Rattle.morton.specs.Anchors.{anchor, near, within1}
use Rattle.morton.proofs.Cells.{key-parts}
use Rattle.morton.proofs.Nearness.{within-lo, within-hi, anchors-tell}
use Rattle.tree.specs.WellFormed.{SoundTree}
use Rattle.tree.proofs.Stored.{code_lt}
use Rattle.around.specs.Around.{around, near_to, around_nodes, near_nodes}
use Rattle.around.proofs.Lists.{keys_filter, length-mapped}
use Rattle.around.proofs.Nodes.{well, alone}

sum-most : (f : ℕ → ℕ) (b a n : ℕ) → ((v : ℕ) → f v ≤ b) → sum (map f (range a n)) ≤ n * b
unfolding sum range
sum-most f b a zero h = omega arith
sum-most f b a (suc n) h = omega (arith, h a, sum-most f b (suc a) n h, suc-mul n b)

-- cells of one level whose anchor on axis a is one of w from 2 before `base a` on
module _ (d : ℕ) (keys : List ℕ) (dist : Distinct keys) (level w : ℕ) (base : ℕ → ℕ) where
  record Fit (n : ℕ) (q : ℕ → Bool) : Type 0 where
    -- the anchors on the first n axes tell the cells that pass apart
    tells : (x y : ℕ) → Mem x keys → Mem y keys → q x ≡ true → q y ≡ true
        → ((a : ℕ) → a < n → anchor d a level (code_of x) ≡ anchor d a level (code_of y)) → x ≡ y
    -- and on those axes they are in the window
    from : (x : ℕ) → q x ≡ true → (a : ℕ) → a < n → base a ≤ anchor d a level (code_of x) + 2
    to : (x : ℕ) → q x ≡ true → (a : ℕ) → a < n → anchor d a level (code_of x) + 2 < base a + w

  off : ℕ → ℕ → ℕ
  off n x = anchor d n level (code_of x) + 2 - base n

  -- the cells with one offset on axis n fit on the axes before it
  fit_at : (n : ℕ) (q : ℕ → Bool) → Fit (suc n) q → (v : ℕ) → Fit n (λ x. q x && eqb (off n x) v)
  unfolding off
  fit_at n q fit v = record {
    tells = λ x y mx my hx hy e. fit.tells x y mx my (and_l _ _ hx) (and_l _ _ hy) (more x y hx hy e);
    from = λ x h a l. fit.from x (and_l _ _ h) a (omega arith);
    to = λ x h a l. fit.to x (and_l _ _ h) a (omega arith);
  }
    where
      more : (x y : ℕ) → (q x && eqb (off n x) v) ≡ true → (q y && eqb (off n y) v) ≡ true
          → ((a : ℕ) → a < n → anchor d a level (code_of x) ≡ anchor d a level (code_of y))
          → (a : ℕ) → a < suc n → anchor d a level (code_of x) ≡ anchor d a level (code_of y)
      more x y hx hy e a l = go (dec_lt a n)
        where
          go : Dec (a < n) → anchor d a level (code_of x) ≡ anchor d a level (code_of y)
          go (yes k) = e a k
          go (no k) =
              let same : a ≡ n = omega arith in
              rw same (omega (arith, fit.from x (and_l _ _ hx) n (omega arith), fit.from y (and_l _ _ hy) n (omega arith), eqb-true (off n x) v (and_r (q x) _ hx), eqb-true (off n y) v (and_r (q y) _ hy)))

  most : (n : ℕ) (q : ℕ → Bool) → Fit n q → count q keys ≤ w ^ n
  unfolding off
  most zero q fit = simp unary_clauses (count-few q keys dist (λ x y mx my hx hy. fit.tells x y mx my hx hy (λ a l. absurd (not-suc-le-zero l))))
  most (suc n) q fit =
      let at : (v : ℕ) → count (λ x. q x && eqb (off n x) v) keys ≤ w ^ n = λ v. most n _ (fit_at n q fit v) in
      let split : count q keys ≡ sum (map (λ v. count (λ x. q x && eqb (off n x) v) keys) (range 0 w)) = count-split q (off n) keys w (λ x m h. omega (arith, fit.to x h n (omega arith), fit.from x h n (omega arith))) in
      let p : w ^ suc n ≡ w * w ^ n = pow-succ' w n in
      omega (arith, split, p, sum-most (λ v. count (λ x. q x && eqb (off n x) v) keys) (w ^ n) 0 w at)

three : (d : ℕ) → d ≤ 3 → 3 ^ d ≤ 27
three zero h = omega arith
three (suc zero) h = omega arith
three (suc (suc zero)) h = omega arith
three (suc (suc (suc zero))) h = omega arith
three (suc (suc (suc (suc d)))) h = absurd (omega arith)

six : (d : ℕ) → d ≤ 3 → 6 ^ d ≤ 216
six zero h = omega arith
six (suc zero) h = omega arith
six (suc (suc zero)) h = omega arith
six (suc (suc (suc zero))) h = omega arith
six (suc (suc (suc (suc d)))) h = absurd (omega arith)

module _ (d : ℕ) (keys own : List ℕ) (t : SoundTree d keys own) (p : ℕ) where
  -- cells of one level are told apart by their anchors
  apart : (level : ℕ) (q : ℕ → Bool) → ((x : ℕ) → q x ≡ true → level_of x ≡ level) → (x y : ℕ) → Mem x keys → Mem y keys → q x ≡ true → q y ≡ true
      → ((a : ℕ) → a < d → anchor d a level (code_of x) ≡ anchor d a level (code_of y)) → x ≡ y
  apart level q at x y mx my hx hy same =
      sym (key-parts x) ∙ ap₂ key (at x hx ∙ sym (at y hy)) (anchors-tell d level (code_of x) (code_of y) (lt x mx hx) (lt y my hy) same) ∙ key-parts y
    where
      lt : (z : ℕ) → Mem z keys → q z ≡ true → code_of z < 2 ^ (d * level)
      lt z m h = rw (at z h) at (code_lt d keys (well d keys own t).ascending z m)

  -- on an axis, two near codes
  beside_at : (l x y : ℕ) → near d d l x y ≡ true → (a : ℕ) → a < d → within1 (anchor d a l x) (anchor d a l y) ≡ true
  unfolding near
  beside_at l x y h a k = every-at (λ a. within1 (anchor d a l x) (anchor d a l y)) d h a k

  pub near-few : count (near_to d keys own p) keys ≤ 27
  near-few = omega (arith, most d keys (alone d keys own t) (level_of p) 3 (λ a. anchor d a (level_of p) (code_of p) + 1) d (near_to d keys own p) fit, three d t.most)
    where
      here : (x : ℕ) → near_to d keys own p x ≡ true → near d d (level_of p) (code_of p) (code_of x) ≡ true
      here x h = and_l (near d d (level_of p) (code_of p) (code_of x)) _ (and_r (eqb (level_of x) (level_of p)) _ h)

      fit : Fit d keys (alone d keys own t) (level_of p) 3 (λ a. anchor d a (level_of p) (code_of p) + 1) d (near_to d keys own p)
      fit = record {
        tells = apart (level_of p) (near_to d keys own p) (λ x h. eqb-true (level_of x) (level_of p) (and_l _ _ h));
        from = λ x h a l. omega (arith, within-lo (anchor d a (level_of p) (code_of p)) (anchor d a (level_of p) (code_of x)) (beside_at (level_of p) (code_of p) (code_of x) (here x h) a l));
        to = λ x h a l. omega (arith, within-hi (anchor d a (level_of p) (code_of p)) (anchor d a (level_of p) (code_of x)) (beside_at (level_of p) (code_of p) (code_of x) (here x h) a l));
      }

  pub around-few : count (around d keys own p) keys ≤ 216
  around-few = omega (arith, most d keys (alone d keys own t) (suc (level_of p)) 6 (λ a. 2 * anchor d a (level_of p) (code_of p)) d (around d keys own p) fit, six d t.most)
    where
      here : (x : ℕ) → around d keys own p x ≡ true → near d d (level_of p) (code_of p) (code_of x / 2 ^ d) ≡ true
      here x h = and_l (near d d (level_of p) (code_of p) (code_of x / 2 ^ d)) _ (and_r (eqb (level_of x) (suc (level_of p))) _ h)

      grown : (a x : ℕ) → anchor d a (suc (level_of p)) x ≡ x / 2 ^ a % 2 + 2 * anchor d a (level_of p) (x / 2 ^ d)
      grown a x = unfold anchor in refl

      fit : Fit d keys (alone d keys own t) (suc (level_of p)) 6 (λ a. 2 * anchor d a (level_of p) (code_of p)) d (around d keys own p)
      fit = record {
        tells = apart (suc (level_of p)) (around d keys own p) (λ x h. eqb-true (level_of x) (suc (level_of p)) (and_l _ _ h));
        from = λ x h a l. omega (arith, grown a (code_of x), within-lo (anchor d a (level_of p) (code_of p)) (anchor d a (level_of p) (code_of x / 2 ^ d)) (beside_at (level_of p) (code_of p) (code_of x / 2 ^ d) (here x h) a l));
        to = λ x h a l. omega (arith, grown a (code_of x), within-hi (anchor d a (level_of p) (code_of p)) (anchor d a (level_of p) (code_of x / 2 ^ d)) (beside_at (level_of p) (code_of p) (code_of x / 2 ^ d) (here x h) a l));
      }

  -- the same of their numbers
  pub near-length : length (near_nodes d keys own p) ≤ 27
  near-length = omega (arith, near-few, sym (length-mapped (λ j. get_or keys j 0) (near_nodes d keys own p)) ∙ ap length (keys_filter (near_to d keys own p) keys) ∙ length-filter (near_to d keys own p) keys)

  pub around-length : length (around_nodes d keys own p) ≤ 216
  around-length = omega (arith, around-few, sym (length-mapped (λ j. get_or keys j 0) (around_nodes d keys own p)) ∙ ap length (keys_filter (around d keys own p) keys) ∙ length-filter (around d keys own p) keys)
