-- Running sums: each source place lies in one run.
use mathlib.Core.Path.{◌≡◌}
use mathlib.Core.List.{List, [], ◌∷◌}
use Prim.Native.Nat.{ℕ, suc, ◌+◌, ◌-◌, ◌≤◌, ◌<◌, suc-le-suc, zero-le}
use native.Mathlib.Omega.{arith}
use native.Mathlib.Nat.{not-suc-le-zero}
use native.Mathlib.Decide.{dec_lt}
use lib.ListN.{length, get_or, take}
use Rattle.slices.specs.Lists.{sum}
use Rattle.slices.proofs.Sums.{sum-take, sum_mono}
use Rattle.tree.specs.WellFormed.{Run}

spot : (own : List ℕ) (p : ℕ) → p < sum own → (j : ℕ) × (j < length own) × (sum (take j own) ≤ p) × (p < sum (take j own) + get_or own j 0)
unfolding sum
spot [] p h = absurd (not-suc-le-zero h)
spot (x ∷ xs) p h = go (dec_lt p x) (spot xs (p - x))
  where
    go : Dec (p < x) → (p - x < sum xs → (j : ℕ) × (j < length xs) × (sum (take j xs) ≤ p - x) × (p - x < sum (take j xs) + get_or xs j 0))
        → (j : ℕ) × (j < length (x ∷ xs)) × (sum (take j (x ∷ xs)) ≤ p) × (p < sum (take j (x ∷ xs)) + get_or (x ∷ xs) j 0)
    go (yes l) ih = (0, omega arith, zero-le, omega arith)
    go (no n) ih = let r = ih (omega arith) in (suc r.0, suc-le-suc r.1, omega (arith, r.2), omega (arith, r.3))

module _ (own begin : List ℕ) (runs : (i : ℕ) → i < length own → get_or begin i 0 ≡ sum (take i own)) where
  pub run_of : (p : ℕ) → p < sum own → (j : ℕ) × Run own begin j p
  run_of p h = let r = spot own p h in let e = runs r.0 r.1 in (r.0, record { node = r.1; from = omega (arith, e, r.2); to = omega (arith, e, r.3) })

  not-before : (p j k : ℕ) → Run own begin j p → Run own begin k p → j < k → ⊥
  not-before p j k a b h = omega (arith, a.to, b.from, b.node, runs j a.node, runs k b.node, sum-take own j, sum_mono own (suc j) k h)

  pub run-unique : (p j k : ℕ) → Run own begin j p → Run own begin k p → j ≡ k
  run-unique p j k r t = go (dec_lt j k) (dec_lt k j)
    where
      go : Dec (j < k) → Dec (k < j) → j ≡ k
      go (yes l) _ = absurd (not-before p j k r t l)
      go (no n) (yes l) = absurd (not-before p k j t r l)
      go (no n) (no m) = omega arith
