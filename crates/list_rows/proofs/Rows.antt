-- The loop over a row: what was read of it passes, and how many sources that brings.
use mathlib.Core.Path.{◌≡◌, refl, sym, ap, ◌∙◌, subst}
use mathlib.Core.Bool.{Bool, true, false, ◌||◌}
use mathlib.Core.List.{List, map}
use mathlib.Core.Logic.{⊎_elim}
use Prim.Native.Nat.{ℕ, zero, suc, ◌+◌, ◌-◌, ◌≤◌, ◌<◌, zero-le, min}
use native.Mathlib.Omega.{arith}
use native.Mathlib.Numerals.{add-one}
use lib.Dec.{ltb, eqb}
use lib.ListN.{length, get_or, take, length-map}
use lib.Seq.{take_all}
use borrow.Author.Tests.{ltb-true, lt-ltb, ne_eqb}
use Rattle.slices.specs.Lists.{sum, Mem}
use Rattle.slices.proofs.Tests.{or-not, clash, lt-or-le}
use Rattle.slices.proofs.Lists.{get_d_map}
use Rattle.slices.proofs.Sums.{sum-take, sum-whole}
use Rattle.tree.specs.Nodes.{own_of, stored}
use Rattle.tree.specs.WellFormed.{most_sources}
use Rattle.tree.specs.Order.{end_of}
use Rattle.tree.proofs.Rules.{WellFormed, facts, rows_of}
use Rattle.tree.proofs.Ends.{ends}
use Rattle.tree.proofs.Sums.{total-part}
use Rattle.tree.proofs.Stored.{distinct, own_at, mem-stored}
use Rattle.tree.proofs.Verdict.{total-at, total-length}
use Rattle.places.specs.Places.{place_of}
use Rattle.list_rows.specs.Entries.{Counted, Sought, takes, rises_at}
use Rattle.list_rows.specs.Rows.{too_many, RowPasses, row_total}
use Rattle.list_rows.specs.declared.Spot.{Spot}
use Rattle.std.specs.Prelude.{None, Option, Some}
use Rattle.list_rows.proofs.Entries.{first-rises, later-rises}

-- ---- totals
module _ (d : ℕ) (keys own total : List ℕ) (c : Counted d keys own total) where
  w : WellFormed d keys own c.tree.begin
  w = facts d keys own c.tree.begin c.tree.sound

  len : length total ≡ length keys
  len = total-length d keys own c.tree.begin total c.totals

  pub total_of : (i : ℕ) → i < length keys → own_of keys total (get_or keys i 0) ≡ get_or total i 0
  total_of = own_at keys total (distinct d keys w.ascending) len

  pub total-in : (i : ℕ) → i < length keys → i < length total
  total-in i l = omega (arith, len)

  pub total-le : (i : ℕ) → i < length keys → get_or total i 0 ≤ most_sources
  total-le i l = omega (
    arith,
    total-at d keys own c.tree.begin total c.totals i l,
    total-part d keys own (rows_of d keys own c.tree.begin w).tree w.owns i (end_of keys i) l (ends keys i l),
    sum-whole own (end_of keys i),
    w.total,
  )

-- ---- the loop
pub record Passing (d : ℕ) (keys own total : List ℕ) (far : Bool) (b : ℕ) (row : List ℕ) (i count : ℕ) : Type 0 where
  pub upto : i ≤ length row
  pub ascends : (j : ℕ) → suc j < i → get_or row j 0 < get_or row (suc j) 0
  pub nodes : (j : ℕ) → j < i → Mem (get_or row j 0) keys
  pub passes : (j : ℕ) → j < i → takes d keys own far b (get_or row j 0) ≡ true
  pub brought : count ≡ min (sum (take i (map (own_of keys total) row))) too_many

module _ (d : ℕ) (keys own total : List ℕ) (far : Bool) (b : ℕ) (row : List ℕ) where
  pub pass-start : Passing d keys own total far b row 0 0
  unfolding sum
  pass-start = record { upto = zero-le; ascends = λ j h. absurd (omega arith); nodes = λ j h. absurd (omega arith); passes = λ j h. absurd (omega arith); brought = refl }

  -- a place after the first rises from the one before it
  above : (j : ℕ) → rises_at row (suc j) ≡ true → get_or row j 0 < get_or row (suc j) 0
  above j h =
      let e : suc j - 1 ≡ j = omega arith in
      rw e at (ltb-true (get_or row (suc j - 1) 0) (get_or row (suc j) 0) (or-not (eqb (suc j) 0) _ h (ne_eqb (suc j) 0 (λ q. omega arith))))

  pub pass-falls : (i : ℕ) → i < length row → rises_at row i ≡ false → RowPasses d keys own far b row → ⊥
  pass-falls zero l h r = clash (sym (first-rises row 0 (omega arith))) h
  pass-falls (suc j) l h r =
      let e : suc j - 1 ≡ j = omega arith in
      clash (sym (later-rises row (suc j) (omega arith)) ∙ lt-ltb (get_or row (suc j - 1) 0) (get_or row (suc j) 0) (rw e (r.ascends j l))) h

  pub pass-lost : (i : ℕ) → i < length row → (a : Option Spot) → Sought d keys (get_or row i 0) a → a ≡ None → RowPasses d keys own far b row → ⊥
  pass-lost i l a s e r = clash (mem-stored keys (get_or row i 0) (r.nodes i l)) (subst (Sought d keys (get_or row i 0)) e s)

  module _ (i count : ℕ) (l : i < length row) (a : Option Spot) (s : Sought d keys (get_or row i 0) a) (spot : Spot) (e : a ≡ Some spot) where
    found : Sought d keys (get_or row i 0) (Some spot)
    found = subst (Sought d keys (get_or row i 0)) e s

    pub found_within : spot.node < length keys
    found_within = found.0

    pub found-key : get_or keys spot.node 0 ≡ get_or row i 0
    found-key = found.1

    pub found-place : spot.place ≡ place_of d (get_or keys spot.node 0)
    found-place = found.2 ∙ ap (place_of d) (sym found-key)

    module _ (t : Bool) (q : t ≡ takes d keys own far b (get_or keys spot.node 0)) where
      taken : t ≡ takes d keys own far b (get_or row i 0)
      taken = q ∙ ap (takes d keys own far b) found-key

      pub pass-fails : t ≡ false → RowPasses d keys own far b row → ⊥
      pass-fails h r = clash (r.passes i l) (sym taken ∙ h)

      pub pass-more : Counted d keys own total → Passing d keys own total far b row i count → rises_at row i ≡ true → t ≡ true → (n : ℕ) → n ≡ min (count + get_or total spot.node 0) too_many
          → Passing d keys own total far b row (i + 1) n
      pass-more c p up ok n m = record {
        upto = omega arith;
        ascends = λ j g. ⊎_elim (λ (h : suc j < i). p.ascends j h) (λ (h : i ≤ suc j). let z : i ≡ suc j = omega arith in above j (subst (λ x. rises_at row x ≡ true) z up)) (lt-or-le (suc j) i);
        nodes = λ j g. ⊎_elim (λ (h : j < i). p.nodes j h) (λ (h : i ≤ j). let z : i ≡ j = omega arith in subst (λ x. Mem (get_or row x 0) keys) z (spot.node, found_within, found-key)) (lt-or-le j i);
        passes = λ j g. ⊎_elim (λ (h : j < i). p.passes j h) (λ (h : i ≤ j). let z : i ≡ j = omega arith in subst (λ x. takes d keys own far b (get_or row x 0) ≡ true) z (sym taken ∙ ok)) (lt-or-le j i);
        brought = rw (add-one i) (omega (arith, m, p.brought, sum-take (map (own_of keys total) row) i, get_d_map (own_of keys total) row i l ∙ ap (own_of keys total) (sym found-key) ∙ total_of d keys own total c spot.node found_within));
      }

  pub pass-done : (i count : ℕ) → Passing d keys own total far b row i count → length row ≤ i → RowPasses d keys own far b row × (count ≡ min (row_total keys total row) too_many)
  pass-done i count p h = (
    record { ascends = λ j l. p.ascends j (omega (arith, p.upto)); nodes = λ j l. p.nodes j (omega (arith, p.upto)); passes = λ j l. p.passes j (omega (arith, p.upto)) },
    p.brought ∙ ap (λ xs. min (sum xs) too_many) (take_all i (map (own_of keys total) row) (omega (arith, length-map row (own_of keys total)))),
  )
