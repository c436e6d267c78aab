-- The marks spread out: each node's own sources, its begin and its total.
use mathlib.Core.Path.{◌≡◌, refl, sym, ap, ◌∙◌}
use mathlib.Core.Bool.{Bool, true, false, cond}
use mathlib.Core.List.{List, [], ◌∷◌, ◌++◌, map}
use Prim.Native.Nat.{ℕ, zero, suc, ◌+◌, ◌*◌, ◌/◌, ◌%◌, ◌≤◌, ◌<◌}
use native.Mathlib.Omega.{arith}
use native.Mathlib.Numerals.{add-one}
use lib.ListN.{length, get_or, set, take, drop, length-set}
use lib.Seq.{take-suc, drop-drop, drop-set-lt, get_or-drop}
use borrow.Author.Tests.{eq-eqb, ne_eqb}
use Rattle.slices.specs.Lists.{sum, range}
use Rattle.growth.specs.Columns.{begin_column}
use Rattle.dealing.proofs.Laws.{map-join}
use Rattle.grow.specs.Rows.{mark_of, sum_marked, own_marked, Spread}
use Rattle.grow.proofs.Putting.{column, begin-more}

-- ---- what a mark tells
pub own-told : (sum : ℕ) (split : Bool) → own_marked (mark_of sum split) ≡ cond split 0 sum
own-told sum true = ap (λ (b : Bool). cond b 0 (2 * sum / 2)) (eq-eqb (2 * sum % 2) 0 (omega arith))
own-told sum false = ap (λ (b : Bool). cond b 0 ((2 * sum + 1) / 2)) (ne_eqb ((2 * sum + 1) % 2) 0 (λ e. omega (arith, e))) ∙ omega arith

pub sum_told : (sum : ℕ) (split : Bool) → sum_marked (mark_of sum split) ≡ sum
sum_told sum true = omega arith
sum_told sum false = omega arith

-- ---- the sum of the first entries
sum_more : (f : ℕ → ℕ) (xs : List ℕ) (i : ℕ) → i < length xs → sum (map f (take (suc i) xs)) ≡ sum (map f (take i xs)) + f (get_or xs i 0)
unfolding sum
sum_more f [] i h = absurd (omega arith)
sum_more f (x ∷ xs) zero h = omega arith
sum_more f (x ∷ xs) (suc i) h = omega (arith, sum_more f xs i (omega arith))

sum_less : (f : ℕ → ℕ) (xs : List ℕ) (i n : ℕ) → i ≤ n → sum (map f (take i xs)) ≤ sum (map f (take n xs))
unfolding sum
sum_less f xs zero n h = omega arith
sum_less f xs (suc i) zero h = absurd (omega arith)
sum_less f [] (suc i) (suc n) h = omega arith
sum_less f (x ∷ xs) (suc i) (suc n) h = omega (arith, sum_less f xs i n (omega arith))

-- ---- the loop
pub record Spreading (n : ℕ) (marks own₀ begin₀ own begin total : List ℕ) (at i : ℕ) : Type 0 where
  pub upto : i ≤ n
  pub own_kept : length own ≡ length own₀
  pub begin_kept : length begin ≡ length begin₀
  pub total_kept : length total ≡ length marks
  pub owns : take i own ≡ map own_marked (take i marks)
  pub begins : take i begin ≡ begin_column (map own_marked (take i marks))
  pub totals : take i total ≡ map sum_marked (take i marks)
  pub rest : drop i total ≡ drop i marks
  pub reached : at ≡ sum (map own_marked (take i marks))

module _ (n : ℕ) (marks own₀ begin₀ : List ℕ) (own-room : n ≤ length own₀) (begin-room : n ≤ length begin₀) (mark-room : n ≤ length marks) (few : sum (map own_marked (take n marks)) ≤ 1048576) where
  pub spreading-start : Spreading n marks own₀ begin₀ own₀ begin₀ marks 0 0
  unfolding begin_column range sum
  spreading-start = record { upto = omega arith; own_kept = refl; begin_kept = refl; total_kept = refl; owns = refl; begins = refl; totals = refl; rest = refl; reached = refl }

  module _ (own begin total : List ℕ) (at i : ℕ) (s : Spreading n marks own₀ begin₀ own begin total at i) (l : i < n) (owned : ℕ) (is : owned ≡ own_marked (get_or total i 0)) where
    here : get_or total i 0 ≡ get_or marks i 0
    here =
        let e : i ≡ i + 0 = omega arith in
        ap (λ (j : ℕ). get_or total j 0) e
        ∙ sym (get_or-drop i total 0 0)
        ∙ ap (λ (xs : List ℕ). get_or xs 0 0) s.rest
        ∙ get_or-drop i marks 0 0
        ∙ ap (λ (j : ℕ). get_or marks j 0) (sym e)

    one_more : (f : ℕ → ℕ) → map f (take (i + 1) marks) ≡ map f (take i marks) ++ f (get_or marks i 0) ∷ []
    one_more f =
        ap (λ (j : ℕ). map f (take j marks)) (add-one i)
        ∙ ap (map f) (take-suc marks i 0 (omega (arith, mark-room)))
        ∙ map-join f (take i marks) (get_or marks i 0 ∷ [])

    owned-is : owned ≡ own_marked (get_or marks i 0)
    owned-is = is ∙ ap own_marked here

    on : at + owned ≡ sum (map own_marked (take (i + 1) marks))
    on = omega (arith, s.reached, owned-is, sum_more own_marked marks i (omega (arith, mark-room)), ap (λ (j : ℕ). sum (map own_marked (take j marks))) (add-one i))

    pub spreading-fits : at + owned ≤ 1048576
    spreading-fits = omega (arith, on, sum_less own_marked marks (i + 1) n (omega arith), few)

    put : (xs col : List ℕ) (x : ℕ) → take i col ≡ xs → n ≤ length col → take (i + 1) (set col i x) ≡ xs ++ x ∷ []
    put xs col x e h = ap (λ (j : ℕ). take j (set col i x)) (add-one i) ∙ column xs col i x e (omega (arith, h))

    pub spreading-more : Spreading n marks own₀ begin₀ (set own i owned) (set begin i at) (set total i (get_or total i 0 / 2)) (at + owned) (i + 1)
    spreading-more = record {
      upto = omega arith;
      own_kept = length-set own i owned ∙ s.own_kept;
      begin_kept = length-set begin i at ∙ s.begin_kept;
      total_kept = length-set total i (get_or total i 0 / 2) ∙ s.total_kept;
      owns = put (map own_marked (take i marks)) own owned s.owns (omega (arith, s.own_kept, own-room)) ∙ ap (λ (x : ℕ). map own_marked (take i marks) ++ x ∷ []) owned-is ∙ sym (one_more own_marked);
      begins =
          put (begin_column (map own_marked (take i marks))) begin at s.begins (omega (arith, s.begin_kept, begin-room))
          ∙ ap (λ (x : ℕ). begin_column (map own_marked (take i marks)) ++ x ∷ []) s.reached
          ∙ sym (begin-more (map own_marked (take i marks)) (own_marked (get_or marks i 0)))
          ∙ ap begin_column (sym (one_more own_marked));
      totals =
          put (map sum_marked (take i marks)) total (get_or total i 0 / 2) s.totals (omega (arith, s.total_kept, mark-room))
          ∙ ap (λ (x : ℕ). map sum_marked (take i marks) ++ sum_marked x ∷ []) here
          ∙ sym (one_more sum_marked);
      rest =
          drop-set-lt (i + 1) total i (get_or total i 0 / 2) (omega arith)
          ∙ sym (drop-drop 1 i total)
          ∙ ap (drop 1) s.rest
          ∙ drop-drop 1 i marks;
      reached = on;
    }

  pub spreading-done : (own begin total : List ℕ) (at i : ℕ) → Spreading n marks own₀ begin₀ own begin total at i → n ≤ i → Spread n marks own begin total
  spreading-done own begin total at i s h =
      let e : i ≡ n = omega (arith, s.upto) in
      record {
        owns = ap (λ (j : ℕ). take j own) (sym e) ∙ s.owns ∙ ap (λ (j : ℕ). map own_marked (take j marks)) e;
        begins = ap (λ (j : ℕ). take j begin) (sym e) ∙ s.begins ∙ ap (λ (j : ℕ). begin_column (map own_marked (take j marks))) e;
        totals = ap (λ (j : ℕ). take j total) (sym e) ∙ s.totals ∙ ap (λ (j : ℕ). map sum_marked (take j marks)) e;
      }
