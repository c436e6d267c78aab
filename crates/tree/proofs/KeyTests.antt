-- Z order, the row test and the depth, as the code tests them.
use mathlib.Core.Path.{◌≡◌, refl, sym, ap, ◌∙◌}
use mathlib.Core.Bool.{Bool, true, false, ◌&&◌, ◌||◌}
use mathlib.Core.List.{List}
use Prim.Native.Nat.{ℕ, suc, ◌+◌, ◌*◌, ◌-◌, ◌^◌, ◌≤◌, ◌<◌, max}
use native.Mathlib.Omega.{arith}
use native.Mathlib.Nat.{div-eq_of_lt, mul-le-mul}
use native.Mathlib.Decide.{dec_lt}
use lib.Dec.{leb, ltb, eqb}
use lib.Pow.{pow_mono}
use lib.ListN.{length, get_or, drop, drop_of_length-le}
use lib.Seq.{drop-cons}
use borrow.Author.Tests.{ltb-true, leb-true, eqb-true, lt-ltb, le-ltb, le-leb, lt-leb, eq-eqb, ne_eqb}
use Rattle.slices.proofs.Tests.{and_l, and_r, both, refute}
use Rattle.axes.specs.Axes.{axes_known}
use Rattle.morton.specs.Keys.{level_of, code_of, above, parent, under}
use Rattle.morton.proofs.Cells.{above_zero, above-one, level-parent, code-parent}
use Rattle.tree.specs.Order.{code_at, before, greatest_level, depth_of}
use Rattle.tree.specs.Pass.{follows, may_own}

pub three : (d : ℕ) → axes_known d ≡ true → d ≤ 3
three d h = leb-true d 3 (and_r (leb 1 d) _ h)

pub few-fit : (d n : ℕ) → d ≤ 3 → n < 32768 → d * n ≤ 98304
few-fit d n h l = mul-le-mul {n₁ = d} {m₁ = n} {n₂ = 3} {m₂ = 32768} h (omega arith)

pub far : (d n c : ℕ) → c < 2 ^ 64 → 63 < d * n → 0 ≡ above d n c
far d n c h s = sym (div-eq_of_lt {n = c} {m = 2 ^ (d * n)} (omega (arith, pow_mono {i = 64} {j = d * n} s)))

module _ (d a b : ℕ) where
  flat : (x y : ℕ) → level_of x ≤ level_of y → code_at d (level_of y) x ≡ code_of x
  flat x y h = let z : level_of x - level_of y ≡ 0 = omega arith in rw z (above_zero d (code_of x))

  pub before-coarse : (u : ℕ) → u ≡ above d (level_of b - level_of a) (code_of b) → level_of a < level_of b → leb (code_of a) u ≡ before d a b
  unfolding before
  before-coarse u e h = rw (flat a b (omega arith), ← e, lt-ltb (level_of a) (level_of b) h) (go (dec_lt (code_of a) u) (dec_lt u (code_of a)))
    where
      go : Dec (code_of a < u) → Dec (u < code_of a) → leb (code_of a) u ≡ (ltb (code_of a) u || (eqb (code_of a) u && true))
      go (yes l) _ = rw (le-leb (code_of a) u (omega arith), lt-ltb (code_of a) u l)
      go (no n) (yes l) = rw (lt-leb (code_of a) u l, le-ltb (code_of a) u (omega arith), ne_eqb (code_of a) u (λ q. omega arith))
      go (no n) (no m) = rw (le-leb (code_of a) u (omega arith), le-ltb (code_of a) u (omega arith), eq-eqb (code_of a) u (omega arith))

  pub before-fine : (u : ℕ) → u ≡ above d (level_of a - level_of b) (code_of a) → level_of b ≤ level_of a → ltb u (code_of b) ≡ before d a b
  unfolding before
  before-fine u e h = rw (flat b a h, ← e, le-ltb (level_of a) (level_of b) h) (go (ltb u (code_of b)) (eqb u (code_of b)))
    where
      go : (x y : Bool) → x ≡ (x || (y && false))
      go true y = refl
      go false true = refl
      go false false = refl

-- the row test, test by test
module _ (d p k : ℕ) where
  not-so : (follows d p k ≡ true → ⊥) → false ≡ follows d p k
  not-so f = sym (refute f)

  pub level-low : level_of k < 1 → false ≡ follows d p k
  unfolding follows
  level-low h = not-so (λ f. omega (arith, ltb-true 0 (level_of k) (and_l _ _ f)))

  pub level-high : 16 < level_of k → false ≡ follows d p k
  unfolding follows
  level-high h = not-so (λ f. omega (arith, leb-true (level_of k) 16 (and_l _ _ (and_r (ltb 0 (level_of k)) _ f))))

  held : follows d p k ≡ true → under d (parent d k) p ≡ true
  unfolding follows
  held f = and_l _ _ (and_r (leb (level_of k) 16) _ (and_r (ltb 0 (level_of k)) _ f))

  pub level-jump : level_of p + 1 < level_of k → false ≡ follows d p k
  level-jump h = not-so (λ f. omega (arith, level-parent d k, leb-true (level_of (parent d k)) (level_of p) (and_l _ _ (held f))))

  module _ (x y : ℕ) (some : 1 ≤ level_of k) (most : level_of k ≤ 16) (step : level_of k ≤ level_of p + 1)
      (ex : x ≡ above d (level_of p + 1 - level_of k) (code_of p)) (ey : y ≡ above d 1 (code_of k)) where
    up_is : above d (level_of p - level_of (parent d k)) (code_of p) ≡ x
    up_is = let z : level_of p - level_of (parent d k) ≡ level_of p + 1 - level_of k = omega (arith, level-parent d k) in rw z (sym ex)

    parent_is : code_of (parent d k) ≡ y
    parent_is = code-parent d k ∙ sym (above-one d (code_of k)) ∙ sym ey

    pub other-parent : (x ≡ y → ⊥) → false ≡ follows d p k
    other-parent n = not-so (λ f. n (sym up_is ∙ eqb-true (above d (level_of p - level_of (parent d k)) (code_of p)) (code_of (parent d k)) (and_r (leb (level_of (parent d k)) (level_of p)) _ (held f)) ∙ parent_is))

    pub by_order : x ≡ y → (r : Bool) → r ≡ before d p k → r ≡ follows d p k
    unfolding follows
    by_order e r b =
        let u : under d (parent d k) p ≡ true = both (le-leb (level_of (parent d k)) (level_of p) (omega (arith, level-parent d k))) (eq-eqb (above d (level_of p - level_of (parent d k)) (code_of p)) (code_of (parent d k)) (up_is ∙ e ∙ sym parent_is)) in
        b ∙ rw (lt-ltb 0 (level_of k) some, le-leb (level_of k) 16 most, u)

pub own-deeper : (p k n : ℕ) → level_of p < level_of k → eqb n 0 ≡ may_own p k n
own-deeper p k n h = rw (lt-leb (level_of k) (level_of p) h)

pub own_any : (p k n : ℕ) → level_of k ≤ level_of p → true ≡ may_own p k n
own_any p k n h = rw (le-leb (level_of k) (level_of p) h)

-- the depth, row by row
pub depth-more : (keys : List ℕ) (i a b : ℕ) → i < length keys → b ≡ max a (level_of (get_or keys i 0)) → max a (depth_of (drop i keys)) ≡ depth_of keys → max b (depth_of (drop (i + 1) keys)) ≡ depth_of keys
unfolding greatest_level
depth-more keys i a b l m h =
    let n : i + 1 ≡ suc i = omega arith in
    let e : depth_of (drop i keys) ≡ max (level_of (get_or keys i 0)) (depth_of (drop (suc i) keys)) = rw (drop-cons keys i 0 l) (omega arith) in
    rw n (omega arith)

pub depth-all : (keys : List ℕ) (i a : ℕ) → length keys ≤ i → 1 ≤ a → max a (depth_of (drop i keys)) ≡ depth_of keys → a ≡ depth_of keys
unfolding greatest_level
depth-all keys i a l some h = let e : depth_of (drop i keys) ≡ 1 = ap (λ x. depth_of x) (drop_of_length-le keys {i = i} l) in omega arith
