-- The loops that make the sums: codes counted by their cell, and a column added up.
use mathlib.Core.Path.{◌≡◌, refl, sym, ap, ◌∙◌}
use mathlib.Core.List.{List, ◌∷◌}
use mathlib.Core.Logic.{⊎_elim, ◌≢◌}
use Prim.Native.Nat.{ℕ, suc, ◌+◌, ◌/◌, ◌^◌, ◌≤◌, ◌<◌}
use native.Mathlib.Omega.{arith}
use native.Mathlib.Numerals.{add-one}
use lib.Dec.{eqb}
use lib.ListN.{length, get_or, take, drop, set, replicate, length-set, length-replicate, get_or-replicate, drop_of_length-le}
use lib.Seq.{drop-cons, take_all, get_or-set_same, get_or-set_other}
use borrow.Author.Tests.{eq-eqb, ne_eqb}
use Rattle.slices.specs.Lists.{count, sum}
use Rattle.slices.proofs.Tests.{same_or_not}
use Rattle.slices.proofs.Sorted.{count_yes, count_no, count-le}
use Rattle.slices.proofs.Sums.{sum-take, sum_mono}
use Rattle.refine.specs.Cells.{in_cell, CellCounts, RunningSums}

-- ---- counting

-- the first i codes are counted: with the rest, each cell's count is whole
pub record Tallied (w : ℕ) (codes : List ℕ) (n : ℕ) (counts : List ℕ) (i : ℕ) : Type 0 where
  pub within : i ≤ length codes
  pub wide : length counts ≡ n
  pub whole : (x : ℕ) → x < n → get_or counts x 0 + in_cell w (drop i codes) x ≡ in_cell w codes x

module _ (w : ℕ) (codes : List ℕ) (n : ℕ) where
  pub tallied-none : (counts : List ℕ) → counts ≡ replicate n 0 → Tallied w codes (length counts) counts 0
  tallied-none counts e = record {
    within = omega arith;
    wide = refl;
    whole = λ x h. omega (arith, ap (λ (l : List ℕ). get_or l x 0) e, get_or-replicate {A = ℕ} n x 0 0 (omega (arith, ap length e, length-replicate {A = ℕ} n 0)));
  }

  module _ (counts : List ℕ) (i : ℕ) (g : Tallied w codes n counts i) where
    module _ (l : i < length codes) (cell : ℕ) (is : cell ≡ get_or codes i 0 / 2 ^ w) where
      next : drop i codes ≡ get_or codes i 0 ∷ drop (i + 1) codes
      next = rw (add-one) (drop-cons codes i 0 l)

      in_own : in_cell w (drop i codes) cell ≡ suc (in_cell w (drop (i + 1) codes) cell)
      in_own =
          ap (λ (cs : List ℕ). in_cell w cs cell) next
          ∙ count_yes (λ c. eqb (c / 2 ^ w) cell) (get_or codes i 0) (drop (i + 1) codes) (eq-eqb (get_or codes i 0 / 2 ^ w) cell (sym is))

      in-other : (x : ℕ) → x ≢ cell → in_cell w (drop i codes) x ≡ in_cell w (drop (i + 1) codes) x
      in-other x other =
          ap (λ (cs : List ℕ). in_cell w cs x) next
          ∙ count_no (λ c. eqb (c / 2 ^ w) x) (get_or codes i 0) (drop (i + 1) codes) (ne_eqb (get_or codes i 0 / 2 ^ w) x (λ e. other (sym (is ∙ e))))

      pub tallied-small : cell < n → get_or counts cell 0 < length codes
      tallied-small h = omega (arith, g.whole cell h, in_own, count-le (λ c. eqb (c / 2 ^ w) cell) codes)

      pub tallied-more : cell < n → Tallied w codes n (set counts cell (get_or counts cell 0 + 1)) (i + 1)
      tallied-more h = record {
        within = omega arith;
        wide = length-set counts cell (get_or counts cell 0 + 1) ∙ g.wide;
        whole = λ x b.
            ⊎_elim
            (λ (e : x ≡ cell). rw e (omega (arith, get_or-set_same counts cell (get_or counts cell 0 + 1) 0 (omega (arith, g.wide)), g.whole cell h, in_own)))
            (λ other. omega (arith, get_or-set_other counts cell x (get_or counts cell 0 + 1) 0 other, g.whole x b, in-other x other))
            (same_or_not x cell);
      }

    pub tallied-all : length codes ≤ i → CellCounts w codes counts
    unfolding count
    tallied-all h = record {
      each = λ x b. omega (arith, g.whole x (omega (arith, g.wide)), ap (λ (cs : List ℕ). in_cell w cs x) (drop_of_length-le codes h));
    }

-- ---- adding up

-- the first i entries are added up, the rest is as it was
pub record Added (column sums : List ℕ) (run i : ℕ) : Type 0 where
  pub within : i ≤ length column
  pub wide : length sums ≡ length column
  pub runs : run ≡ sum (take i column)
  pub passed : (x : ℕ) → x < i → get_or sums x 0 ≡ sum (take (suc x) column)
  pub ahead : (x : ℕ) → i ≤ x → get_or sums x 0 ≡ get_or column x 0

module _ (column : List ℕ) where
  pub added_none : Added column column 0 0
  unfolding sum
  added_none = record { within = omega arith; wide = refl; runs = refl; passed = λ x h. absurd (omega arith); ahead = λ x h. refl }

  module _ (sums : List ℕ) (run i : ℕ) (g : Added column sums run i) where
    module _ (l : i < length column) where
      run-next : run + get_or sums i 0 ≡ sum (take (suc i) column)
      run-next = omega (arith, g.runs, g.ahead i (omega arith), sum-take column i)

      pub added-fits : sum column < 2 ^ 64 → run + get_or sums i 0 < 2 ^ 64
      added-fits h = omega (arith, run-next, sum_mono column (suc i) (length column) l, ap sum (take_all (length column) column (omega arith)))

      pub added_more : Added column (set sums i (run + get_or sums i 0)) (run + get_or sums i 0) (i + 1)
      added_more =
          let v = run + get_or sums i 0 in
          record {
            within = omega arith;
            wide = length-set sums i v ∙ g.wide;
            runs = run-next ∙ ap (λ (n : ℕ). sum (take n column)) (sym (add-one i));
            passed = λ x h.
                ⊎_elim
                (λ (e : x ≡ i). rw e (get_or-set_same sums i v 0 (omega (arith, g.wide)) ∙ run-next))
                (λ other. get_or-set_other sums i x v 0 other ∙ g.passed x (omega arith))
                (same_or_not x i);
            ahead = λ x h. get_or-set_other sums i x v 0 (omega arith) ∙ g.ahead x (omega arith);
          }

    pub added-all : length column ≤ i → RunningSums column sums
    added-all h = record { each = λ x b. g.passed x (omega arith) }
