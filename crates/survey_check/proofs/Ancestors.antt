-- Sums over a cell and its ancestors: step by step, and those of an ancestor are part of them.
use mathlib.Core.Path.{◌≡◌, refl, sym, ap, ◌∙◌, subst}
use mathlib.Core.List.{List, [], ◌∷◌, map}
use mathlib.Core.Logic.{◌⊎◌, inl, inr}
use Prim.Native.Nat.{ℕ, zero, suc, ◌+◌, ◌-◌, ◌≤◌, ◌<◌}
use native.Mathlib.Omega.{arith}
use native.Mathlib.Nat.{not-suc-le-zero}
use Rattle.slices.specs.Lists.{sum, Mem}
use Rattle.slices.proofs.Members.{mem-cases}
use Rattle.morton.specs.Keys.{level_of, parent, upwards, ancestors}
use Rattle.morton.proofs.Cells.{level-parent}

module _ (d : ℕ) (f : ℕ → ℕ) where
  pub up_root : (k : ℕ) → level_of k ≡ 0 → sum (map f (ancestors d k)) ≡ f k
  unfolding upwards sum
  up_root k e = ap (λ n. sum (map f (upwards n d k))) e ∙ omega arith

  pub up_more : (k : ℕ) → 0 < level_of k → sum (map f (ancestors d k)) ≡ f k + sum (map f (ancestors d (parent d k)))
  unfolding upwards sum
  up_more k h =
      let e : level_of k ≡ suc (level_of (parent d k)) = omega (arith, level-parent d k) in
      ap (λ n. sum (map f (upwards n d k))) e

  same : (n b k : ℕ) → level_of b ≡ n → b ≡ k → sum (map f (ancestors d k)) ≡ sum (map f (upwards n d b))
  same n b k e q = ap (λ x. sum (map f (ancestors d x))) (sym q) ∙ ap (λ m. sum (map f (upwards m d b))) e

  part : (n b k : ℕ) → level_of b ≡ n → Mem k (upwards n d b) → sum (map f (ancestors d k)) ≤ sum (map f (upwards n d b))
  unfolding upwards sum
  part zero b k e m = go (mem-cases k b [] m)
    where
      go : (b ≡ k) ⊎ Mem k [] → sum (map f (ancestors d k)) ≤ sum (map f (upwards zero d b))
      go (inl q) = omega (arith, same zero b k e q)
      go (inr r) = absurd (not-suc-le-zero r.1)
  part (suc n) b k e m = go (mem-cases k b (upwards n d (parent d b)) m) (part n (parent d b) k (level-parent d b ∙ omega arith))
    where
      go : (b ≡ k) ⊎ Mem k (upwards n d (parent d b)) → (Mem k (upwards n d (parent d b)) → sum (map f (ancestors d k)) ≤ sum (map f (upwards n d (parent d b)))) → sum (map f (ancestors d k)) ≤ sum (map f (upwards (suc n) d b))
      go (inl q) ih = omega (arith, same (suc n) b k e q)
      go (inr r) ih = omega (arith, ih r)

  pub up-part : (b k : ℕ) → Mem k (ancestors d b) → sum (map f (ancestors d k)) ≤ sum (map f (ancestors d b))
  up-part b k m = part (level_of b) b k refl m
