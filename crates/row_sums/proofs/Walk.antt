-- The loop along a row, through a reader: after some keys the sum is that of what they have.
use mathlib.Core.Path.{◌≡◌, refl, sym, ap, ◌∙◌}
use mathlib.Core.Bool.{Bool, true, false}
use mathlib.Core.List.{List, [], ◌∷◌, map}
use Prim.Native.Nat.{ℕ, zero, suc, ◌-◌, ◌*◌, ◌≤◌, ◌<◌, zero-le}
use native.Mathlib.Omega.{arith}
use native.Mathlib.Nat.{not-suc-le-zero, le_of_suc-le-suc}
use lib.Dec.{ltb}
use lib.IntN.{ℤ, pos, nat_abs, ◌+ℤ◌, +ℤ_idl, +ℤ_idr, +ℤ_assoc}
use lib.ListN.{length, get_or, take}
use lib.Seq.{take_all}
use borrow.Author.Tests.{ltb-true, ltb-false}
use mir.Syntax.{w64}
use mir.Val.{SFits, to_z, of_z}
use mir.Facts.{to_z-of_z}
use Rattle.slices.specs.Lists.{sum}
use Rattle.slices.proofs.Sums.{sum-term}
use Rattle.tree.specs.Nodes.{own_of}
use Rattle.tree.specs.WellFormed.{most_sources}
use Rattle.std.specs.Prelude.{cond, None, Option, Some}
use Rattle.row_reader.specs.Steps.{step_at}
use Rattle.row_reader.specs.declared.Step.{Step}
use Rattle.sums.specs.Adding.{added, addedℤ}
use Rattle.sums.specs.Sums.{node_readings}
use Rattle.row_sums.specs.Readings.{largest, Read, Columns, sources_in}
use Rattle.row_sums.proofs.Whole.{sum-size, word_holds, read_back}
use Rattle.row_sums.proofs.Found.{node-size}

-- what a step says of the row and the place
pub record Stepped (row : List ℕ) (at k next : ℕ) : Type 0 where
  pub within : at < length row
  pub key : get_or row at 0 ≡ k
  pub after : next ≡ suc at

abbrev met : List ℕ → ℕ → Step
met row at = record { key = get_or row at 0; next = suc at }

pub stepped : (row : List ℕ) (at : ℕ) (s : Option Step) → s ≡ step_at row at → (step : Step) → s ≡ Some step → Stepped row at step.key step.next
stepped row at s is step e = go (ltb at (length row)) refl (sym is ∙ e)
  where
    go : (b : Bool) → ltb at (length row) ≡ b → cond b (Some (met row at)) None ≡ Some step → Stepped row at step.key step.next
    go true l q = let m : met row at ≡ step = cc in record { within = ltb-true at (length row) l; key = ap (λ s. s.key) m; after = ap (λ s. s.next) (sym m) }
    go false l q = let z : ◌≡◌ {A = ℕ} 0 1 = cc in absurd (omega arith)

pub ended : (row : List ℕ) (at : ℕ) (s : Option Step) → s ≡ step_at row at → s ≡ None → length row ≤ at
ended row at s is e = go (ltb at (length row)) refl (sym is ∙ e)
  where
    go : (b : Bool) → ltb at (length row) ≡ b → cond b (Some (met row at)) None ≡ None → length row ≤ at
    go true l q = let z : ◌≡◌ {A = ℕ} 0 1 = cc in absurd (omega arith)
    go false l q = ltb-false at (length row) l

added-take : (f : ℕ → ℤ) (row : List ℕ) (i : ℕ) → i < length row → addedℤ f (take (suc i) row) ≡ addedℤ f (take i row) +ℤ f (get_or row i 0)
unfolding added
added-take f [] i l = absurd (not-suc-le-zero l)
added-take f (x ∷ xs) zero l = +ℤ_idr (f x) ∙ sym (+ℤ_idl (f x))
added-take f (x ∷ xs) (suc i) l = ap (f x +ℤ◌) (added-take f xs i (le_of_suc-le-suc l)) ∙ sym (+ℤ_assoc (f x) (addedℤ f (take i xs)) (f (get_or xs i 0)))

added-size : (f : ℕ → ℤ) (g : ℕ → ℕ) → ((x : ℕ) → nat_abs (f x) ≤ g x * largest) → (xs : List ℕ) → nat_abs (addedℤ f xs) ≤ sum (map g xs) * largest
unfolding added sum
added-size f g h [] = omega arith
added-size f g h (x ∷ xs) = omega (arith, sum-size (f x) (addedℤ f xs), h x, added-size f g h xs)

sum-taken : (g : ℕ → ℕ) (xs : List ℕ) (i : ℕ) → sum (map g (take i xs)) ≤ sum (map g xs)
unfolding sum
sum-taken g [] zero = omega arith
sum-taken g [] (suc i) = omega arith
sum-taken g (x ∷ xs) zero = zero-le
sum-taken g (x ∷ xs) (suc i) = omega (arith, sum-taken g xs i)

module _ (d : ℕ) (keys count begin order : List ℕ) (readings : List ℤ) (row : List ℕ) where
  abbrev f : ℕ → ℤ
  f = node_readings keys count begin order readings

  pub record Walking (s : ℤ) (at : ℕ) : Type 0 where
    pub upto : at ≤ length row
    pub is : s ≡ addedℤ f (take at row)

  pub walk_start : Walking (pos 0) 0
  unfolding added
  walk_start = record { upto = zero-le; is = refl }

  module _ (pre : Columns d keys count begin order × Read order readings × (sources_in keys count row ≤ most_sources)) where
    row-size : (i : ℕ) → nat_abs (addedℤ f (take i row)) ≤ most_sources * largest
    row-size i = omega (arith, added-size f (own_of keys count) (node-size d keys count begin order readings pre.0 pre.1) (take i row), sum-taken (own_of keys count) row i, pre.2)

    pub walk-done : (s : ℤ) (at : ℕ) → Walking s at → length row ≤ at → (s ≡ addedℤ f row) × (nat_abs s ≤ sources_in keys count row * largest)
    walk-done s at w h =
        let q : s ≡ addedℤ f row = w.is ∙ ap (addedℤ f) (take_all at row h) in
        (q, rw q (added-size f (own_of keys count) (node-size d keys count begin order readings pre.0 pre.1) row))

    module _ (s : ℤ) (at k next : ℕ) (w : Walking s at) (t : Stepped row at k next) where
      pub walk-few : own_of keys count k ≤ most_sources
      walk-few = rw (← t.key) (omega (arith, sum-term (own_of keys count) row (get_or row at 0) (at, t.within, refl), pre.2))

      pub walk-less : length row - next < length row - at
      walk-less = omega arith

      module _ (x : ℤ) (e : x ≡ f k) (m : nat_abs x ≤ own_of keys count k * largest) where
        more-is : s +ℤ to_z w64 (of_z w64 x) ≡ addedℤ f (take (suc at) row)
        more-is = ap (s +ℤ◌) (read_back x (own_of keys count k) m walk-few ∙ e ∙ ap f (sym t.key)) ∙ ap (◌+ℤ f (get_or row at 0)) w.is ∙ sym (added-take f row at t.within)

        pub walk-fits : SFits w64 (s +ℤ to_z w64 (of_z w64 x))
        walk-fits = rw more-is (word_holds (addedℤ f (take (suc at) row)) (omega (arith, row-size (suc at))))

        pub walk_more : Walking (to_z w64 (of_z w64 (s +ℤ to_z w64 (of_z w64 x)))) next
        walk_more = record {
          upto = omega arith;
          is = to_z-of_z walk-fits ∙ more-is ∙ ap (λ i. addedℤ f (take i row)) (sym t.after);
        }
