-- A cell as a range of level-16 codes: `first`, and as many as `size`. Cells lie in each other or apart; Z order is by first code, then level.
use mathlib.Core.Path.{◌≡◌, refl, sym, ap, ap₂, ◌∙◌, subst}
use mathlib.Core.Bool.{Bool, true, false, ◌&&◌, ◌||◌}
use mathlib.Core.Logic.{◌⊎◌, inl, inr}
use Prim.Native.Nat.{ℕ, zero, suc, ◌+◌, ◌*◌, ◌-◌, ◌/◌, ◌%◌, ◌^◌, ◌≤◌, ◌<◌, min}
use native.Mathlib.Omega.{arith}
use native.Mathlib.Nat.{mul-zero, mul-suc, mul-add, mul_assoc, mul_comm, suc-mul, add-mul, one-mul, mul-one, div-one, mul-le-mul_right, le_of_mul-le-mul_right, le-div_iff_mul-le, div-lt_iff_lt-mul, div-eq_of_lt-le}
use native.Mathlib.Decide.{dec_lt}
use lib.Dec.{leb, ltb, eqb}
use lib.Pow.{pow_pos, pow-add}
use borrow.Author.Tests.{ltb-true, ltb-false, leb-true, eqb-true, eqb-false, lt-ltb, le-ltb, le-leb, eq-eqb, ne_eqb}
use Rattle.slices.proofs.Tests.{and_l, and_r, both, clash, refute}
use Rattle.morton.specs.Keys.{key, level_of, code_of, above, parent, under}
use Rattle.morton.proofs.Cells.{key-parts, above_zero}
use Rattle.tree.proofs.Under.{Under, under-facts, facts-under}
use Rattle.tree.specs.Order.{code_at, before}
pub use Rattle.tree.specs.Order.{size, first}

-- whole multiples of w compare as their numbers
steps : (a b w : ℕ) → a < b → a * w + w ≤ b * w
steps a b w h = omega (arith, suc-mul a w, mul-le-mul_right {m = suc a} {n = b} w h)

unstep : (a b w : ℕ) → a * w < b * w → a < b
unstep a b w h = go (dec_lt a b)
  where
    go : Dec (a < b) → a < b
    go (yes l) = l
    go (no n) = absurd (omega (arith, mul-le-mul_right {m = b} {n = a} w (omega arith)))

pub size-pos : (d k : ℕ) → 0 < size d k
unfolding size
size-pos d k = pow_pos (d * (16 - level_of k))

-- a coarser cell has as many finer ones' codes as it has finer ones
size-up : (d j k : ℕ) → level_of k ≤ level_of j → level_of j ≤ 16 → size d k ≡ 2 ^ (d * (level_of j - level_of k)) * size d j
unfolding size
size-up d j k h l =
    let e : 16 - level_of k ≡ (level_of j - level_of k) + (16 - level_of j) = omega arith in
    rw e (ap (λ x. 2 ^ x) (mul-add d (level_of j - level_of k) (16 - level_of j)) ∙ pow-add 2 (d * (level_of j - level_of k)) (d * (16 - level_of j)))

-- the finer cell j beside the coarser k, by the code above j at k's level
module _ (d j k : ℕ) (h : level_of k ≤ level_of j) (l : level_of j ≤ 16) where
  e : ℕ
  e = 2 ^ (d * (level_of j - level_of k))

  e-pos : 0 < e
  unfolding e
  e-pos = pow_pos (d * (level_of j - level_of k))

  ends : (n : ℕ) → n * size d k ≡ n * e * size d j
  unfolding e
  ends n = ap (n *◌) (size-up d j k h l) ∙ sym (mul_assoc n (2 ^ (d * (level_of j - level_of k))) (size d j))

  -- k comes first and does not hold j
  pub above_low : code_at d (level_of k) j < code_of k → first d j + size d j ≤ first d k
  unfolding first e
  above_low u =
      let a : code_of j < code_of k * e = (div-lt_iff_lt-mul {k = e} {x = code_of j} {y = code_of k} e-pos).0 u in
      let b = steps (code_of j) (code_of k * e) (size d j) a in
      omega (arith, ends (code_of k))

  pub above-high : code_of k < code_at d (level_of k) j → first d k + size d k ≤ first d j
  unfolding first e
  above-high u =
      let a : suc (code_of k) * e ≤ code_of j = (le-div_iff_mul-le {k = e} {x = suc (code_of k)} {y = code_of j} e-pos).0 u in
      let b = mul-le-mul_right {m = suc (code_of k) * e} {n = code_of j} (size d j) a in
      omega (arith, ends (suc (code_of k)), suc-mul (code_of k) (size d k))

  pub above_same : code_at d (level_of k) j ≡ code_of k → (first d k ≤ first d j) × (first d j + size d j ≤ first d k + size d k)
  unfolding first e
  above_same u =
      let a : code_of k * e ≤ code_of j = (le-div_iff_mul-le {k = e} {x = code_of k} {y = code_of j} e-pos).0 (omega arith) in
      let b : code_of j < suc (code_of k) * e = (div-lt_iff_lt-mul {k = e} {x = code_of j} {y = suc (code_of k)} e-pos).0 (omega arith) in
      let c = mul-le-mul_right {m = code_of k * e} {n = code_of j} (size d j) a in
      let f = steps (code_of j) (suc (code_of k) * e) (size d j) b in
      (omega (arith, ends (code_of k)), omega (arith, ends (suc (code_of k)), suc-mul (code_of k) (size d k)))

-- one level or a coarser: nothing to bring up
own_code : (d j k : ℕ) → level_of j ≤ level_of k → code_at d (level_of k) j ≡ code_of j
own_code d j k h = let z : level_of j - level_of k ≡ 0 = omega arith in rw z (above_zero d (code_of j))

-- Z order, as facts
abbrev pub Earlier : ℕ → ℕ → ℕ → Type 0
Earlier d j k = (first d j ≤ first d k) × (first d j ≡ first d k → level_of j < level_of k)

-- how two numbers compare
data Compared (a b : ℕ) : Type 0 where
  less : a < b → Compared a b
  same : a ≡ b → Compared a b
  more : b < a → Compared a b

compare : (a b : ℕ) → Compared a b
compare a b = go (dec_lt a b) (dec_lt b a)
  where
    go : Dec (a < b) → Dec (b < a) → Compared a b
    go (yes l) _ = less l
    go (no n) (yes l) = more l
    go (no n) (no m) = same (omega arith)

-- what the test says, in either way that the levels may lie
before-cases : (d j k : ℕ) → before d j k ≡ true → (code_at d (level_of k) j < code_at d (level_of j) k) ⊎ ((code_at d (level_of k) j ≡ code_at d (level_of j) k) × (level_of j < level_of k))
unfolding before
before-cases d j k h = go (ltb (code_at d (level_of k) j) (code_at d (level_of j) k)) refl h
  where
    go : (b : Bool) → ltb (code_at d (level_of k) j) (code_at d (level_of j) k) ≡ b
        → (b || (eqb (code_at d (level_of k) j) (code_at d (level_of j) k) && ltb (level_of j) (level_of k))) ≡ true
        → (code_at d (level_of k) j < code_at d (level_of j) k) ⊎ ((code_at d (level_of k) j ≡ code_at d (level_of j) k) × (level_of j < level_of k))
    go true e r = inl (ltb-true (code_at d (level_of k) j) (code_at d (level_of j) k) e)
    go false e r = inr (
      eqb-true (code_at d (level_of k) j) (code_at d (level_of j) k) (and_l _ _ r),
      ltb-true (level_of j) (level_of k) (and_r (eqb (code_at d (level_of k) j) (code_at d (level_of j) k)) _ r),
    )

before-less : (d j k : ℕ) → code_at d (level_of k) j < code_at d (level_of j) k → before d j k ≡ true
unfolding before
before-less d j k h = rw (lt-ltb (code_at d (level_of k) j) (code_at d (level_of j) k) h)

before-holds : (d j k : ℕ) → code_at d (level_of k) j ≡ code_at d (level_of j) k → level_of j < level_of k → before d j k ≡ true
unfolding before
before-holds d j k h l =
    rw (le-ltb (code_at d (level_of k) j) (code_at d (level_of j) k) (omega arith), eq-eqb (code_at d (level_of k) j) (code_at d (level_of j) k) h, lt-ltb (level_of j) (level_of k) l)

module _ (d j k : ℕ) (lj : level_of j ≤ 16) (lk : level_of k ≤ 16) where
  pub earlier : before d j k ≡ true → Earlier d j k
  earlier h = go (dec_lt (level_of k) (level_of j)) (before-cases d j k h)
    where
      go : Dec (level_of k < level_of j) → (code_at d (level_of k) j < code_at d (level_of j) k) ⊎ ((code_at d (level_of k) j ≡ code_at d (level_of j) k) × (level_of j < level_of k)) → Earlier d j k
      go (yes l) (inl c) =
          let a = above_low d j k (omega arith) lj (rw (own_code d k j (omega arith)) at c) in
          let p = size-pos d j in
          (omega arith, λ e. omega arith)
      go (yes l) (inr c) = absurd (omega (arith, c.1))
      go (no n) (inl c) =
          let a = above-high d k j (omega arith) lk (rw (own_code d j k (omega arith)) at c) in
          let p = size-pos d j in
          (omega arith, λ e. omega arith)
      go (no n) (inr c) = ((above_same d k j (omega arith) lk (sym c.0 ∙ own_code d j k (omega arith))).0, λ e. c.1)

  pub before_of : Earlier d j k → before d j k ≡ true
  before_of h = go (dec_lt (level_of k) (level_of j)) (compare (code_at d (level_of k) j) (code_at d (level_of j) k))
    where
      go : Dec (level_of k < level_of j) → Compared (code_at d (level_of k) j) (code_at d (level_of j) k) → before d j k ≡ true
      go _ (less c) = before-less d j k c
      go (yes l) (same c) =
          let a = above_same d j k (omega arith) lj (c ∙ own_code d k j (omega arith)) in
          absurd (omega (arith, h.1 (omega (arith, h.0, a.0))))
      go (yes l) (more c) =
          let a = above-high d j k (omega arith) lj (rw (own_code d k j (omega arith)) at c) in
          absurd (omega (arith, h.0, size-pos d k))
      go (no n) (same c) = before-holds d j k c (deeper (dec_lt (level_of j) (level_of k)) c)
        where
          deeper : Dec (level_of j < level_of k) → code_at d (level_of k) j ≡ code_at d (level_of j) k → level_of j < level_of k
          deeper (yes l) c = l
          deeper (no m) c =
              let a = above_same d k j (omega arith) lk (sym c ∙ own_code d j k (omega arith)) in
              let b = above_same d j k (omega arith) lj (c ∙ own_code d k j (omega arith)) in
              h.1 (omega (arith, a.0, b.0))
      go (no n) (more c) =
          let a = above_low d k j (omega arith) lk (rw (own_code d j k (omega arith)) at c) in
          absurd (omega (arith, h.0, size-pos d k))

pub earlier-trans : (d a b c : ℕ) → Earlier d a b → Earlier d b c → Earlier d a c
earlier-trans d a b c p q = (omega (arith, p.0, q.0), λ e. omega (arith, p.1 (omega (arith, p.0, q.0)), q.1 (omega (arith, p.0, q.0))))

pub earlier-not : (d a b : ℕ) → Earlier d a b → Earlier d b a → ⊥
earlier-not d a b p q = omega (arith, p.1 (omega (arith, p.0, q.0)), q.1 (omega (arith, p.0, q.0)))

-- a cell and those in it, by their codes
module _ (d k j : ℕ) (lj : level_of j ≤ 16) where
  pub under-span : under d k j ≡ true → (level_of k ≤ level_of j) × (first d k ≤ first d j) × (first d j + size d j ≤ first d k + size d k)
  under-span h = let u = under-facts d k j h in let a = above_same d j k u.level lj u.code in (u.level, a.0, a.1)

  pub span-under : level_of k ≤ level_of j → first d k ≤ first d j → first d j < first d k + size d k → under d k j ≡ true
  span-under l a b = go (compare (code_at d (level_of k) j) (code_of k))
    where
      go : Compared (code_at d (level_of k) j) (code_of k) → under d k j ≡ true
      go (less c) = absurd (omega (arith, above_low d j k l lj c, size-pos d j))
      go (same c) = facts-under d k j (record { level = l; code = c })
      go (more c) = absurd (omega (arith, above-high d j k l lj c))

  -- a cell no coarser than another lies in it, or all before it, or all after it
  pub apart : level_of k ≤ level_of j → under d k j ≡ false → (first d j + size d j ≤ first d k) ⊎ (first d k + size d k ≤ first d j)
  apart l n = go (compare (code_at d (level_of k) j) (code_of k))
    where
      go : Compared (code_at d (level_of k) j) (code_of k) → (first d j + size d j ≤ first d k) ⊎ (first d k + size d k ≤ first d j)
      go (less c) = inl (above_low d j k l lj c)
      go (same c) = absurd (clash (facts-under d k j (record { level = l; code = c })) n)
      go (more c) = inr (above-high d j k l lj c)

-- one level and one first code: one cell
pub same-cell : (d j k : ℕ) → level_of j ≡ level_of k → level_of k ≤ 16 → first d j ≡ first d k → j ≡ k
same-cell d j k e l f = go (compare (code_at d (level_of k) j) (code_of k))
  where
    go : Compared (code_at d (level_of k) j) (code_of k) → j ≡ k
    go (less c) = absurd (omega (arith, above_low d j k (omega arith) (omega arith) c, size-pos d j))
    go (same c) = sym (key-parts j) ∙ ap₂ key e (sym (own_code d j k (omega arith)) ∙ c) ∙ key-parts k
    go (more c) = absurd (omega (arith, above-high d j k (omega arith) (omega arith) c, size-pos d k))

-- each cell at the other's level is each at the coarser of the two
pub at-coarser : (d j k : ℕ)
    → (code_at d (level_of k) j ≡ code_at d (min (level_of j) (level_of k)) j) × (code_at d (level_of j) k ≡ code_at d (min (level_of j) (level_of k)) k)
at-coarser d j k =
    let a : level_of j - level_of k ≡ level_of j - min (level_of j) (level_of k) = omega arith in
    let b : level_of k - level_of j ≡ level_of k - min (level_of j) (level_of k) = omega arith in
    (ap (λ n. above d n (code_of j)) a, ap (λ n. above d n (code_of k)) b)
