-- The factor by what was found around a cell: its three cases, its size, and the sizes of what the test multiplies.
use mathlib.Core.Path.{◌≡◌, sym, ap, ◌∙◌}
use mathlib.Core.Bool.{Bool, true, false, ◌&&◌, cond}
use mathlib.Core.List.{List, [], ◌∷◌, map, map-map}
use mathlib.Core.Logic.{◌≢◌}
use Prim.Native.Nat.{ℕ, suc, ◌+◌, ◌*◌, ◌^◌, ◌≤◌, ◌<◌}
use native.Mathlib.Nat.{mul-le-mul, suc-mul}
use native.Mathlib.Omega.{arith}
use lib.Dec.{leb, eqb}
use lib.ListN.{length, length-map}
use borrow.Author.Tests.{le-leb, lt-leb, eq-eqb, ne_eqb}
use Rattle.slices.specs.Lists.{sum}
use Rattle.morton.specs.Keys.{level_of}
use Rattle.refine.specs.declared.Around.{Around}
use Rattle.refine.specs.Refinement.{peers, squares, alike, around_by, counts_around, factor, Refinable}
use Rattle.refine.proofs.Summing.{square-small}
use Rattle.refine.proofs.Peers.{neighbours-few, seen, few-seen}

-- a sum of at most 27 small numbers
sum-small : (f : ℕ → ℕ) (b : ℕ) → ((p : ℕ) → f p ≤ b) → (xs : List ℕ) → sum (map f xs) ≤ length xs * b
unfolding sum
sum-small f b h [] = omega arith
sum-small f b h (x ∷ xs) =
    let e : suc (length xs) * b ≡ length xs * b + b = suc-mul (length xs) b in
    omega (arith, h x, sum-small f b h xs)

module _ (d depth k : ℕ) (sources : List ℕ) (g : Refinable d k depth sources) where
  abbrev look : ℕ → ℕ
  look = seen d depth sources

  abbrev around : List ℕ
  around = counts_around d depth sources k

  pub peers-few : length (peers d k) ≤ 27
  peers-few = omega (arith, neighbours-few d k)

  length-small : length around ≤ 27
  unfolding counts_around
  length-small = omega (arith, length-map (peers d k) look, peers-few)

  sums-small : sum around ≤ 28311552
  unfolding counts_around
  sums-small = omega (arith, sum-small look 1048576 (few-seen d depth k sources g) (peers d k), peers-few)

  squares-small : sum (squares around) ≤ 29686813949952
  unfolding counts_around
  squares-small =
      omega (
        arith,
        ap sum (map-map (λ (c : ℕ). c * c) look (peers d k)),
        sum-small (λ p. look p * look p) 1099511627776 (λ p. square-small (look p) (few-seen d depth k sources g p)) (peers d k),
        peers-few,
      )

  -- what the test multiplies fits
  pub around-fits : (a : Around) → a ≡ around_by around → (a.peers * a.squares < 2 ^ 64) × (a.sum * a.sum < 2 ^ 62)
  around-fits a e =
      let p : a.peers ≤ 27 = omega (arith, ap (λ (x : Around). x.peers) e, length-small) in
      let s : a.sum ≤ 28311552 = omega (arith, ap (λ (x : Around). x.sum) e, sums-small) in
      let q : a.squares ≤ 29686813949952 = omega (arith, ap (λ (x : Around). x.squares) e, squares-small) in
      (omega (arith, mul-le-mul {n₁ = a.peers} {m₁ = a.squares} {n₂ = 27} {m₂ = 29686813949952} p q), omega (arith, mul-le-mul {n₁ = a.sum} {m₁ = a.sum} {n₂ = 28311552} {m₂ = 28311552} s s))

-- the three cases
module _ (d depth k : ℕ) (sources : List ℕ) (a : Around) (e : a ≡ around_by (counts_around d depth sources k)) where
  abbrev cs : List ℕ
  cs = counts_around d depth sources k

  sum_is : a.sum ≡ sum cs
  sum_is = ap (λ (x : Around). x.sum) e

  left_is : a.peers * a.squares ≡ length cs * sum (squares cs)
  left_is = ap (λ (x : Around). x.peers * x.squares) e

  right_is : 2 * (a.sum * a.sum) ≡ 2 * (sum cs * sum cs)
  right_is = ap (λ (x : Around). 2 * (x.sum * x.sum)) e

  pub factor-none : a.sum ≡ 0 → 32 ≡ factor d depth sources k
  unfolding factor
  factor-none h = rw (eq-eqb (sum cs) 0 (sym sum_is ∙ h))

  some : a.sum ≢ 0 → eqb (sum cs) 0 ≡ false
  some n = ne_eqb (sum cs) 0 (λ h. n (sum_is ∙ h))

  pub factor-deep : a.sum ≢ 0 → depth < level_of k → 1 ≡ factor d depth sources k
  unfolding factor
  factor-deep n h = rw (some n, lt-leb (level_of k) depth h)

  pub factor-alike : a.sum ≢ 0 → level_of k ≤ depth → a.peers * a.squares ≤ 2 * (a.sum * a.sum) → 16 ≡ factor d depth sources k
  unfolding factor
  factor-alike n h l = rw (some n, le-leb (level_of k) depth h, le-leb (length cs * sum (squares cs)) (2 * (sum cs * sum cs)) (omega (arith, left_is, right_is)))

  pub factor-unlike : a.sum ≢ 0 → level_of k ≤ depth → 2 * (a.sum * a.sum) < a.peers * a.squares → 1 ≡ factor d depth sources k
  unfolding factor
  factor-unlike n h l = rw (some n, le-leb (level_of k) depth h, lt-leb (length cs * sum (squares cs)) (2 * (sum cs * sum cs)) (omega (arith, left_is, right_is)))

-- a factor is 1, 16 or 32
by_size : (a b : Bool) → (1 ≤ cond a 32 (cond b 16 1)) × (cond a 32 (cond b 16 1) ≤ 32)
by_size true b = omega arith
by_size false true = omega arith
by_size false false = omega arith

pub factor-size : (d depth : ℕ) (sources : List ℕ) (k : ℕ) → (1 ≤ factor d depth sources k) × (factor d depth sources k ≤ 32)
unfolding factor
factor-size d depth sources k = let cs = counts_around d depth sources k in by_size (eqb (sum cs) 0) (leb (level_of k) depth && alike cs)
