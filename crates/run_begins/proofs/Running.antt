-- Sums that run along the own counts.
use mathlib.Core.Path.{◌≡◌, refl, sym, ap, ◌∙◌}
use mathlib.Core.List.{List}
use Prim.Native.Nat.{ℕ, suc, ◌+◌, ◌≤◌, ◌<◌}
use native.Mathlib.Omega.{arith}
use native.Mathlib.Numerals.{add-one}
use native.Mathlib.Decide.{dec_lt}
use lib.ListN.{length, get_or, set, take, length-set}
use lib.Seq.{get_or-set_same, get_or-set_other, ext_get_or}
use Rattle.slices.specs.Lists.{sum}
use Rattle.slices.proofs.Sums.{sum-take, sum-whole}
use Rattle.growth.specs.Columns.{begin_column}
use Rattle.salvaged.proofs.Formed.{begins-length, begins-at}

pub record Running (own begin : List ℕ) (run q : ℕ) : Type 0 where
  pub within : q ≤ length own
  pub placed : length begin ≡ length own
  pub adds : run ≡ sum (take q own)
  pub done : (p : ℕ) → p < q → get_or begin p 0 ≡ sum (take p own)

pub running-start : (own begin : List ℕ) → length begin ≡ length own → Running own begin 0 0
unfolding sum
running-start own begin e = record { within = omega arith; placed = e; adds = refl; done = λ p l. absurd (omega arith) }

module _ (own begin : List ℕ) (run q : ℕ) (s : Running own begin run q) where
  pub running-most : q < length own → run + get_or own q 0 ≤ sum own
  running-most l = omega (arith, s.adds, sum-take own q, sum-whole own (suc q))

  pub running_more : q < length own → Running own (set begin q run) (run + get_or own q 0) (q + 1)
  running_more l = record {
    within = omega arith;
    placed = length-set begin q run ∙ s.placed;
    adds = omega (arith, s.adds, sum-take own q, ap (λ n. sum (take n own)) (add-one q));
    done = λ p h. go p h (dec_lt p q);
  }
    where
      go : (p : ℕ) → p < q + 1 → Dec (p < q) → get_or (set begin q run) p 0 ≡ sum (take p own)
      go p h (yes g) = get_or-set_other begin q p run 0 (λ z. omega arith) ∙ s.done p g
      go p h (no g) = let z : p ≡ q = omega arith in ap (λ x. get_or (set begin q run) x 0) z ∙ get_or-set_same begin q run 0 (omega (arith, s.placed)) ∙ s.adds ∙ ap (λ x. sum (take x own)) (sym z)

  pub running-all : length own ≤ q → begin ≡ begin_column own
  running-all h = ext_get_or 0 begin (begin_column own) (s.placed ∙ sym (begins-length own)) (λ p l. s.done p (omega (arith, s.placed)) ∙ sym (begins-at own p (omega (arith, s.placed))))
