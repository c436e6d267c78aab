-- The pass over the rows, as it goes along own counts and begins: the first i begins are the running sums.
use mathlib.Core.Path.{◌≡◌, refl, sym, ap, ◌∙◌}
use mathlib.Core.Bool.{Bool, true, false, ◌&&◌}
use mathlib.Core.List.{List}
use Prim.Native.Nat.{ℕ, zero, suc, ◌+◌, ◌-◌, ◌≤◌, ◌<◌, zero-le}
use native.Mathlib.Omega.{arith}
use native.Mathlib.Numerals.{add-one}
use native.Mathlib.Decide.{dec_lt}
use lib.ListN.{length, get_or, take}
use Rattle.slices.specs.Lists.{sum}
use Rattle.tree.specs.WellFormed.{most_sources}
use Rattle.slices.proofs.Sums.{sum-take, sum-all}

pub record Added (own begin : List ℕ) (run i : ℕ) : Type 0 where
  pub most : i ≤ length own
  pub begins : (j : ℕ) → j < i → get_or begin j 0 ≡ sum (take j own)
  pub adds : run ≡ sum (take i own)
  pub small : run ≤ most_sources

module _ (own begin : List ℕ) where
  -- the root owns none
  pub add_start : 0 < length own → get_or begin 0 0 ≡ 0 → get_or own 0 0 ≡ 0 → Added own begin 0 1
  unfolding sum
  add_start l b o = record {
    most = l;
    begins = λ j h. let e : j ≡ 0 = omega arith in rw e b;
    adds = omega (arith, sum-take own 0);
    small = zero-le;
  }

  pub add-more : (run i : ℕ) → Added own begin run i → i < length own → get_or begin i 0 ≡ run → get_or own i 0 ≤ most_sources - run → Added own begin (run + get_or own i 0) (i + 1)
  add-more run i a l b n = record {
    most = omega arith;
    begins = λ j h. here j h (dec_lt j i);
    adds = rw (add-one i) (omega (arith, a.adds, sum-take own i));
    small = omega (arith, a.small);
  }
    where
      here : (j : ℕ) → j < i + 1 → Dec (j < i) → get_or begin j 0 ≡ sum (take j own)
      here j h (yes k) = a.begins j k
      here j h (no k) = let e : j ≡ i = omega arith in rw e (b ∙ a.adds)

  pub add_done : (run i : ℕ) → Added own begin run i → length own ≤ i → ((j : ℕ) → j < length own → get_or begin j 0 ≡ sum (take j own)) × (sum own ≤ most_sources)
  add_done run i a l =
      let e : i ≡ length own = omega (arith, a.most) in
      let whole : run ≡ sum own = a.adds ∙ ap (λ n. sum (take n own)) e ∙ sum-all own in
      (λ j h. a.begins j (omega arith), omega (arith, a.small))
