-- The reference depth: what each step of the search for it settles, and that it is the least.
use mathlib.Core.Path.{◌≡◌, refl, sym, ap, ◌∙◌}
use mathlib.Core.Logic.{⊎_elim}
use Prim.Native.Nat.{ℕ, zero, suc, ◌+◌, ◌*◌, ◌-◌, ◌%◌, ◌^◌, ◌≤◌, ◌<◌}
use native.Mathlib.Nat.{one-mul}
use native.Mathlib.Omega.{arith}
use lib.Pow.{shl_exact}
use borrow.Author.Tests.{le-leb, lt-leb}
use Rattle.slices.proofs.Tests.{lt-or-le}
use Rattle.morton.specs.Depth.{depth_from, reference_depth}
use Rattle.morton.proofs.Checks.{width-le}

-- 1 << (axes * depth)
pub cells_are : (d k : ℕ) → d ≤ 3 → k ≤ 16 → 1 * 2 ^ (d * k) % 2 ^ 64 ≡ 2 ^ (d * k)
cells_are d k h l = let lt : 1 < 2 ^ 1 = omega arith in shl_exact 1 (d * k) 64 lt (omega (arith, width-le d k h l)) ∙ one-mul (2 ^ (d * k))

module _ (d sources : ℕ) where
  found : (left k : ℕ) → sources ≤ 2 ^ (d * k) → depth_from d sources left k ≡ k
  unfolding depth_from
  found zero k h = refl
  found (suc left) k h = rw (le-leb sources (2 ^ (d * k)) h)

  next : (left k : ℕ) → 2 ^ (d * k) < sources → depth_from d sources (suc left) k ≡ depth_from d sources left (suc k)
  unfolding depth_from
  next left k h = rw (lt-leb sources (2 ^ (d * k)) h)

  last : (k : ℕ) → depth_from d sources 0 k ≡ k
  unfolding depth_from
  last k = refl

  -- the search from this depth on answers the reference depth
  pub record Sought (depth : ℕ) : Type 0 where
    pub low : 1 ≤ depth
    pub high : depth ≤ 16
    pub same : depth_from d sources (16 - depth) depth ≡ reference_depth d sources

  pub seek-start : Sought 1
  seek-start = record { low = omega arith; high = omega arith; same = refl }

  pub seek_found : (k : ℕ) → Sought k → sources ≤ 2 ^ (d * k) → k ≡ reference_depth d sources
  seek_found k s h = sym (found (16 - k) k h) ∙ s.same

  pub seek-more : (k : ℕ) → Sought k → k < 16 → 2 ^ (d * k) < sources → Sought (k + 1)
  seek-more k s l h =
      let e : 16 - k ≡ suc (16 - (k + 1)) = omega arith in
      let f : suc k ≡ k + 1 = omega arith in
      record {
        low = omega arith;
        high = omega arith;
        same = ap (depth_from d sources (16 - (k + 1))) (sym f) ∙ sym (next (16 - (k + 1)) k h) ∙ ap (λ (n : ℕ). depth_from d sources n k) (sym e) ∙ s.same;
      }

  pub seek-end : (k : ℕ) → Sought k → 16 ≤ k → 16 ≡ reference_depth d sources
  seek-end k s h = let e : 16 ≡ k = omega (arith, s.high) in e ∙ sym (last k) ∙ ap (λ (n : ℕ). depth_from d sources n k) (let z : 0 ≡ 16 - k = omega arith in z) ∙ s.same

  -- r is the least depth of k .. k + left at which the cells are enough, or the last of these
  pub record Least (left k r : ℕ) : Type 0 where
    pub from : k ≤ r
    pub to : r ≤ k + left
    pub enough : r < k + left → sources ≤ 2 ^ (d * r)
    pub least : (j : ℕ) → k ≤ j → j < r → 2 ^ (d * j) < sources

  least-from : (left k : ℕ) → Least left k (depth_from d sources left k)
  least-from zero k = rw (last k) (record { from = omega arith; to = omega arith; enough = λ h. absurd (omega arith); least = λ j h l. absurd (omega arith) })
  least-from (suc left) k = ⊎_elim (more (least-from left (suc k))) here (lt-or-le (2 ^ (d * k)) sources)
    where
      here : sources ≤ 2 ^ (d * k) → Least (suc left) k (depth_from d sources (suc left) k)
      here h = rw (found (suc left) k h) (record { from = omega arith; to = omega arith; enough = λ l. h; least = λ j a b. absurd (omega arith) })

      more : Least left (suc k) (depth_from d sources left (suc k)) → 2 ^ (d * k) < sources → Least (suc left) k (depth_from d sources (suc left) k)
      more i h =
          rw (next left k h) (record {
            from = omega (arith, i.from);
            to = omega (arith, i.to);
            enough = λ l. i.enough (omega arith);
            least = λ j a b. ⊎_elim (λ l. i.least j l b) (λ l. let e : j ≡ k = omega arith in rw e h) (lt-or-le k j);
          })

  -- the least k with 2^(d·k) ≥ sources, held to 1..16
  pub reference-least : Least 15 1 (reference_depth d sources)
  reference-least = least-from 15 1
