-- A batch of codes: the leaves' keys take the place of the codes, row by row.
use mathlib.Core.Path.{◌≡◌, refl, sym, ap, ap₂, ◌∙◌}
use mathlib.Core.Bool.{Bool, true, false, cond}
use mathlib.Core.List.{List, ◌++◌, map}
use Prim.Native.Nat.{ℕ, suc, ◌+◌, ◌*◌, ◌-◌, ◌≤◌, ◌<◌}
use native.Mathlib.Omega.{arith}
use native.Mathlib.Nat.{zero-add}
use native.Mathlib.Numerals.{add-one}
use lib.ListN.{length, get_or, take, drop, set, length-set, length-take, drop_of_length-le}
use lib.Seq.{drop-cons, get_or-take, take_all}
use borrow.Author.Tests.{eq-eqb, ne_eqb}
use Rattle.slices.specs.Lists.{sum}
use Rattle.tree.specs.Order.{depth_of}
use Rattle.lookup.specs.declared.Holder.{Holder}
use Rattle.grouping.proofs.Values.{up_more, up_next}
use Rattle.grouping.proofs.Passing.{Passed, pass-start, pass-more, pass-stop, pass-done}
use Rattle.tree.specs.Leaves.{held, leaf_key, steps_to}
use Rattle.lookup.specs.Lookup.{holder_of}
use Rattle.lookup.specs.Single.{leaf_for}
use Rattle.lookup.specs.Batch.{held_before, leaf_keys, steps_sum}
use Rattle.lookup.specs.Work.{all_or, holders_of}
use Rattle.std.specs.Prelude.{Err, Ok, None, Option, Some}

-- ---- one code
module _ (d : ℕ) (keys : List ℕ) (code : ℕ) where
  pub holder-leaf : (h : Holder) → holder_of d keys code ≡ Some h → (held d keys code ≡ true) × (h.key ≡ leaf_key d keys code) × (h.steps ≡ steps_to d keys code)
  holder-leaf h e = go (held d keys code) refl e
    where
      go : (t : Bool) → held d keys code ≡ t → cond t (Some (leaf_for d keys code)) None ≡ Some h → (held d keys code ≡ true) × (h.key ≡ leaf_key d keys code) × (h.steps ≡ steps_to d keys code)
      go true e g =
          let same : h ≡ leaf_for d keys code = cc in
          (e, ap (λ h. h.key) same, ap (λ h. h.steps) same)
      go false e g = let z : ◌≡◌ {A = ℕ} 0 1 = cc in absurd (omega arith)

  pub holder-none : holder_of d keys code ≡ None → held d keys code ≡ false
  holder-none h = go (held d keys code) refl h
    where
      go : (t : Bool) → held d keys code ≡ t → cond t (Some (leaf_for d keys code)) None ≡ None → held d keys code ≡ false
      go true e g = let z : ◌≡◌ {A = ℕ} 0 1 = cc in absurd (omega arith)
      go false e g = e

-- ---- the loop
pub record Looking (d : ℕ) (keys : List ℕ) (n : ℕ) (old : List ℕ) (row steps : ℕ) (new : List ℕ) : Type 0 where
  pub passed : Passed (held d keys) (take n old) row
  pub adds : steps + steps_sum d keys (drop row (take n old)) ≡ steps_sum d keys (take n old)
  pub small : steps ≤ row * 16
  pub kept : length new ≡ length old
  pub is : new ≡ map (leaf_key d keys) (take row (take n old)) ++ drop row old

module _ (d : ℕ) (keys : List ℕ) (n : ℕ) (old : List ℕ) (fits : n ≤ length old) where
  size : length (take n old) ≡ n
  size = length-take n old ∙ omega arith

  pub look-start : Looking d keys n old 0 0 old
  look-start = record { passed = pass-start (held d keys) (take n old); adds = zero-add (steps_sum d keys (take n old)); small = omega arith; kept = refl; is = refl }

  module _ (row steps : ℕ) (new : List ℕ) (s : Looking d keys n old row steps new) (l : row < n) where
    pub look-code : get_or new row 0 ≡ get_or (take n old) row 0
    look-code =
        ap (λ (t : List ℕ). get_or t row 0) s.is
        ∙ up_next (leaf_key d keys) row (take n old) old (omega (arith, size)) (omega (arith, size))
        ∙ sym (get_or-take n old row 0 l)

    module _ (up : ℕ) (few : depth_of keys ≤ 16) where
      pub look-few : up ≡ steps_to d keys (get_or new row 0) → steps + up ≤ (row + 1) * 16
      look-few u = omega (arith, s.small, u)

      pub look-more : (k : ℕ) → held d keys (get_or new row 0) ≡ true → k ≡ leaf_key d keys (get_or new row 0) → up ≡ steps_to d keys (get_or new row 0)
          → Looking d keys n old (row + 1) (steps + up) (set new row k)
      unfolding sum
      look-more k t e u = record {
        passed = pass-more (held d keys) (take n old) row s.passed (omega (arith, size)) (ap (held d keys) (sym look-code) ∙ t);
        adds =
            let here : steps_sum d keys (drop row (take n old)) ≡ steps_to d keys (get_or (take n old) row 0) + steps_sum d keys (drop (suc row) (take n old)) =
            ap (steps_sum d keys) (drop-cons (take n old) row 0 (omega (arith, size))) in
            let next : steps_sum d keys (drop (row + 1) (take n old)) ≡ steps_sum d keys (drop (suc row) (take n old)) = ap (λ (m : ℕ). steps_sum d keys (drop m (take n old))) (add-one row) in
            let same : up ≡ steps_to d keys (get_or (take n old) row 0) = u ∙ ap (steps_to d keys) look-code in
            omega (arith, s.adds, here, next, same);
        small = look-few u;
        kept = length-set new row k ∙ s.kept;
        is =
            ap₂ (λ (t : List ℕ) (v : ℕ). set t row v) s.is (e ∙ ap (leaf_key d keys) look-code)
            ∙ up_more (leaf_key d keys) row (take n old) old (omega (arith, size)) (omega (arith, size))
            ∙ ap (λ (m : ℕ). map (leaf_key d keys) (take m (take n old)) ++ drop m old) (sym (add-one row));
      }

    module _ (f : held d keys (get_or new row 0) ≡ false) where
      stop : row ≡ held_before d keys (take n old)
      stop = pass-stop (held d keys) (take n old) row s.passed (omega (arith, size)) (ap (held d keys) (sym look-code) ∙ f)

      pub look-failed : Err row ≡ holders_of d keys (take n old)
      look-failed =
          ap Err stop
          ∙ sym (ap (λ b. all_or b (steps_sum d keys (take n old)) (held_before d keys (take n old))) (ne_eqb (held_before d keys (take n old)) (length (take n old)) (λ q. omega (arith, stop, size))))

      pub look-short : held_before d keys (take n old) ≡ n → ⊥
      look-short q = omega (arith, stop)

  module _ (row steps : ℕ) (new : List ℕ) (s : Looking d keys n old row steps new) (l : n ≤ row) where
    all : row ≡ n
    all = omega (arith, s.passed.within, size)

    pub look-ended : Ok steps ≡ holders_of d keys (take n old)
    unfolding sum
    look-ended =
        let done : row ≡ held_before d keys (take n old) = pass-done (held d keys) (take n old) row s.passed (omega (arith, size)) in
        let past : length (take n old) ≤ row = omega (arith, size) in
        let none : steps_sum d keys (drop row (take n old)) ≡ 0 = ap (steps_sum d keys) (drop_of_length-le (take n old) past) in
        let sums : steps ≡ steps_sum d keys (take n old) = omega (arith, s.adds, none) in
        ap Ok sums
        ∙ sym (ap (λ b. all_or b (steps_sum d keys (take n old)) (held_before d keys (take n old))) (eq-eqb (held_before d keys (take n old)) (length (take n old)) (omega (arith, done, all, size))))

    pub look-written : new ≡ leaf_keys d keys (take n old) ++ drop n old
    look-written = s.is ∙ ap₂ (λ (t : List ℕ) (m : ℕ). map (leaf_key d keys) t ++ drop m old) (take_all row (take n old) (omega (arith, size))) all
