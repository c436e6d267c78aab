-- A sum and a sum of squares, taken along a list of counts.
use mathlib.Core.Path.{◌≡◌, refl, sym, ap, ◌∙◌}
use mathlib.Core.List.{List, [], ◌∷◌, map}
use Prim.Native.Nat.{ℕ, zero, suc, ◌+◌, ◌*◌, ◌^◌, ◌≤◌, ◌<◌}
use native.Mathlib.Nat.{mul-le-mul, not-suc-le-zero, le_of_suc-le-suc}
use native.Mathlib.Omega.{arith}
use lib.ListN.{length, get_or, drop, drop_of_length-le}
use lib.Seq.{drop-cons}
use Rattle.slices.specs.Lists.{sum}
use Rattle.refine.specs.Refinement.{squares}

pub map_at : (f : ℕ → ℕ) (xs : List ℕ) (i : ℕ) → i < length xs → get_or (map f xs) i 0 ≡ f (get_or xs i 0)
map_at f [] i h = absurd (not-suc-le-zero h)
map_at f (x ∷ xs) zero h = refl
map_at f (x ∷ xs) (suc i) h = map_at f xs i (le_of_suc-le-suc h)

-- the first n counts are taken: with the rest they give the whole, and none is over 2^20
pub record Summed (cs : List ℕ) (n s q : ℕ) : Type 0 where
  pub within : n ≤ length cs
  pub sums : s + sum (drop n cs) ≡ sum cs
  pub squared : q + sum (squares (drop n cs)) ≡ sum (squares cs)
  pub few : s ≤ n * 1048576
  pub fewer : q ≤ n * 1099511627776

pub square-small : (c : ℕ) → c ≤ 1048576 → c * c ≤ 1099511627776
square-small c h = omega (arith, mul-le-mul {n₁ = c} {m₁ = c} {n₂ = 1048576} {m₂ = 1048576} h h)

pub summed-first : (c : ℕ) (cs : List ℕ) → c ≤ 1048576 → Summed (c ∷ cs) 1 c (c * c)
unfolding sum
summed-first c cs h = record { within = omega arith; sums = refl; squared = refl; few = omega arith; fewer = omega (arith, square-small c h) }

module _ (cs : List ℕ) (n s q : ℕ) (g : Summed cs n s q) where
  pub summed-more : (c : ℕ) → n < length cs → c ≡ get_or cs n 0 → c ≤ 1048576 → Summed cs (n + 1) (s + c) (q + c * c)
  unfolding sum
  summed-more c h e b =
      let f : suc n ≡ n + 1 = omega arith in
      let r : drop n cs ≡ c ∷ drop (n + 1) cs = drop-cons cs n 0 h ∙ ap (λ (x : ℕ). x ∷ drop (suc n) cs) (sym e) ∙ ap (λ (m : ℕ). c ∷ drop m cs) f in
      record {
        within = omega arith;
        sums = omega (arith, g.sums, ap sum r);
        squared = omega (arith, g.squared, ap (λ (l : List ℕ). sum (squares l)) r);
        few = omega (arith, g.few);
        fewer = omega (arith, g.fewer, square-small c b);
      }

  pub summed-fits : (c : ℕ) → n ≤ 26 → c ≤ 1048576 → (s + c < 2 ^ 64) × (c * c < 2 ^ 64) × (q + c * c < 2 ^ 64)
  summed-fits c h b = (omega (arith, g.few), omega (arith, square-small c b), omega (arith, g.fewer, square-small c b))

  pub summed-all : length cs ≤ n → (s ≡ sum cs) × (q ≡ sum (squares cs))
  unfolding sum
  summed-all h =
      let r : drop n cs ≡ [] = drop_of_length-le cs h in
      (omega (arith, g.sums, ap sum r), omega (arith, g.squared, ap (λ (l : List ℕ). sum (squares l)) r))
