-- The pass over the totals, from the last row back: the sums that wait for a parent, and the total that takes them up.
use mathlib.Core.Path.{◌≡◌, refl, sym, ap, ap₂, ◌∙◌, subst}
use mathlib.Core.Bool.{Bool, true, false, ◌&&◌, cond}
use mathlib.Core.List.{List, [], ◌∷◌, ◌++◌}
use mathlib.Core.Logic.{◌⊎◌, inl, inr}
use Prim.Native.Nat.{ℕ, zero, suc, ◌+◌, ◌*◌, ◌-◌, ◌≤◌, ◌<◌}
use native.Mathlib.Omega.{arith}
use native.Mathlib.Nat.{not-suc-le-zero}
use native.Mathlib.Decide.{dec_lt}
use lib.Dec.{leb, ltb}
use lib.ListN.{length, get_or, take, drop, set, replicate, length-drop, length-set, length-replicate, get_or-replicate, drop_of_length-le}
use lib.Seq.{drop-cons, get_or-drop, get_or-set_same, get_or-set_other, take-add}
use borrow.Author.Tests.{ltb-true, ltb-false, leb-true, lt-ltb, le-ltb, le-leb, lt-leb}
use Rattle.slices.specs.Lists.{sum}
use Rattle.slices.proofs.Tests.{and_l, and_r, both, clash, refute}
use Rattle.morton.specs.Keys.{level_of}
use Rattle.tree.specs.WellFormed.{most_sources}
use Rattle.slices.proofs.Sums.{sum-take, sum-whole}
use Rattle.tree.specs.Order.{deeper_run, end_of}
use Rattle.tree.specs.Totals.{total_in}
use Rattle.tree.specs.Pass.{waiting, rows_right, Rowed}
use Rattle.tree.specs.WellFormed.{well_formed}
use Rattle.tree.proofs.Rules.{Ascending, Tree, Rows, Formed, all-facts, all_tested}
use Rattle.tree.proofs.Ranges.{level-le}
use Rattle.tree.proofs.Ends.{Ends, ends}
use Rattle.tree.proofs.Laws.{level-step}
use Rattle.tree.proofs.Sums.{total-part}
use Rattle.tree.proofs.Pass.{rows-facts}

-- no row is more than one level deeper than the one before it
Steps : List ℕ → Type 0
Steps ks = (m : ℕ) → suc m < length ks → level_of (get_or ks (suc m) 0) ≤ suc (level_of (get_or ks m 0))

-- what the first rows own, as long as they are at least at level l
held : ℕ → List ℕ → List ℕ → ℕ
held l [] own = 0
held l (k ∷ ks) [] = 0
held l (k ∷ ks) (n ∷ own) = cond (leb l (level_of k)) (n + held l ks own) 0

-- the three cases of a row
module _ (l k n : ℕ) (ks own : List ℕ) where
  held_on : l ≤ level_of k → held l (k ∷ ks) (n ∷ own) ≡ n + held l ks own
  unfolding held
  held_on h = rw (le-leb l (level_of k) h)

  held-off : level_of k < l → held l (k ∷ ks) (n ∷ own) ≡ 0
  unfolding held
  held-off h = rw (lt-leb l (level_of k) h)

  wait-coarser : level_of k < l → waiting l (k ∷ ks) (n ∷ own) ≡ 0
  unfolding waiting
  wait-coarser h = rw (lt-ltb (level_of k) l h)

  wait-here : level_of k ≡ l → waiting l (k ∷ ks) (n ∷ own) ≡ n + waiting (suc l) ks own + waiting l ks own
  unfolding waiting
  wait-here h = rw (le-ltb (level_of k) l (omega arith), le-ltb l (level_of k) (omega arith))

  wait-deeper : l < level_of k → waiting l (k ∷ ks) (n ∷ own) ≡ waiting l ks own
  unfolding waiting
  wait-deeper h = rw (le-ltb (level_of k) l (omega arith), lt-ltb l (level_of k) h) (omega arith)

held-le : (l : ℕ) (ks own : List ℕ) → held l ks own ≤ sum own
unfolding held sum
held-le l [] own = omega arith
held-le l (k ∷ ks) [] = omega arith
held-le l (k ∷ ks) (n ∷ own) = go (leb l (level_of k)) (held-le l ks own)
  where
    go : (b : Bool) → held l ks own ≤ sum own → cond b (n + held l ks own) 0 ≤ n + sum own
    go true i = omega arith
    go false i = omega arith

-- where the first row is coarser than l, nothing of level l is held
held_none : (l : ℕ) (ks own : List ℕ) → (0 < length ks → level_of (get_or ks 0 0) < l) → held l ks own ≡ 0
unfolding held
held_none l [] own h = refl
held_none l (k ∷ ks) [] h = refl
held_none l (k ∷ ks) (n ∷ own) h = held-off l k n ks own (h (omega arith))

-- those that wait at level l come right after those at deeper levels
wait-held : (l : ℕ) (ks own : List ℕ) → Steps ks → held (suc l) ks own + waiting l ks own ≡ held l ks own
unfolding held waiting Steps
wait-held l [] own s = refl
wait-held l (k ∷ ks) [] s = refl
wait-held l (k ∷ ks) (n ∷ own) s = go (dec_lt (level_of k) l) (dec_lt l (level_of k)) (wait-held l ks own rest) (wait-held (suc l) ks own rest)
  where
    rest : (m : ℕ) → suc m < length ks → level_of (get_or ks (suc m) 0) ≤ suc (level_of (get_or ks m 0))
    rest m h = s (suc m) (omega arith)

    go : Dec (level_of k < l) → Dec (l < level_of k) → held (suc l) ks own + waiting l ks own ≡ held l ks own → held (suc (suc l)) ks own + waiting (suc l) ks own ≡ held (suc l) ks own
        → held (suc l) (k ∷ ks) (n ∷ own) + waiting l (k ∷ ks) (n ∷ own) ≡ held l (k ∷ ks) (n ∷ own)
    go (yes h) _ a b = omega (arith, held-off (suc l) k n ks own (omega arith), held-off l k n ks own h, wait-coarser l k n ks own h)
    go (no g) (yes h) a b = omega (arith, held_on (suc l) k n ks own (omega arith), held_on l k n ks own (omega arith), wait-deeper l k n ks own h)
    go (no g) (no h) a b =
        omega (
          arith,
          held-off (suc l) k n ks own (omega arith),
          held_on l k n ks own (omega arith),
          wait-here l k n ks own (omega arith),
          held_none (suc (suc l)) ks own (λ q. omega (arith, s 0 (omega arith))),
        )

-- what waits at a level is at most all
wait-le : (l : ℕ) (ks own : List ℕ) → Steps ks → waiting l ks own ≤ sum own
wait-le l ks own s = omega (arith, wait-held l ks own s, held-le l ks own)

-- where the first row is at that level or coarser, all that is held waits
wait-first : (l : ℕ) (ks own : List ℕ) → Steps ks → (0 < length ks → level_of (get_or ks 0 0) ≤ l) → waiting l ks own ≡ held l ks own
wait-first l ks own s h = omega (arith, wait-held l ks own s, held_none (suc l) ks own (λ q. omega (arith, h q)))

wait-none : (l : ℕ) (ks own : List ℕ) → (0 < length ks → level_of (get_or ks 0 0) < l) → waiting l ks own ≡ 0
unfolding waiting
wait-none l [] own h = refl
wait-none l (k ∷ ks) [] h = refl
wait-none l (k ∷ ks) (n ∷ own) h = wait-coarser l k n ks own (h (omega arith))

-- held by a search for the end
held-run : (l : ℕ) (ks own : List ℕ) → length own ≡ length ks → held (suc l) ks own ≡ sum (take (deeper_run l ks) own)
unfolding held deeper_run sum
held-run l [] own e = refl
held-run l (k ∷ ks) [] e = absurd (omega arith)
held-run l (k ∷ ks) (n ∷ own) e = go (dec_lt l (level_of k)) (held-run l ks own (omega arith))
  where
    go : Dec (l < level_of k) → held (suc l) ks own ≡ sum (take (deeper_run l ks) own)
        → cond (leb (suc l) (level_of k)) (n + held (suc l) ks own) 0 ≡ sum (take (cond (ltb l (level_of k)) (suc (deeper_run l ks)) 0) (n ∷ own))
    go (yes h) i = rw (le-leb (suc l) (level_of k) h) (omega arith)
    go (no h) i = rw (lt-leb (suc l) (level_of k) (omega arith))

sum-append : (xs ys : List ℕ) → sum (xs ++ ys) ≡ sum xs + sum ys
unfolding sum
sum-append [] ys = omega arith
sum-append (x ∷ xs) ys = omega (arith, sum-append xs ys)

sum_drop : (i : ℕ) (own : List ℕ) → sum (drop i own) ≤ sum own
unfolding sum
sum_drop zero own = omega arith
sum_drop (suc i) [] = omega arith
sum_drop (suc i) (x ∷ xs) = omega (arith, sum_drop i xs)

module _ (d : ℕ) (keys own : List ℕ) (t : Tree d keys) (owns : length own ≡ length keys) where
  drop-steps : (i : ℕ) → Steps (drop i keys)
  unfolding Steps
  drop-steps i m h =
      let l : suc (i + m) < length keys = omega (arith, length-drop i keys) in
      let e : i + suc m ≡ suc (i + m) = omega arith in
      rw (get_or-drop i keys (suc m) 0, get_or-drop i keys m 0, e) (level-step d keys t (i + m) l)

  drop-first : (i : ℕ) → i < length keys → 0 < length (drop (suc i) keys) → level_of (get_or (drop (suc i) keys) 0 0) ≤ suc (level_of (get_or keys i 0))
  drop-first i l h =
      let e : suc i + 0 ≡ suc i = omega arith in
      rw (get_or-drop (suc i) keys 0 0, e) (level-step d keys t i (omega (arith, length-drop (suc i) keys)))

  -- the total that the pass makes of a node is its total
  pub total-wait : (i : ℕ) → i < length keys → get_or own i 0 + waiting (suc (level_of (get_or keys i 0))) (drop (suc i) keys) (drop (suc i) own) ≡ total_in d keys own (get_or keys i 0)
  unfolding end_of
  total-wait i l =
      let lo : i < length own = omega arith in
      let a = wait-first (suc (level_of (get_or keys i 0))) (drop (suc i) keys) (drop (suc i) own) (drop-steps (suc i)) (drop-first i l) in
      let b = held-run (level_of (get_or keys i 0)) (drop (suc i) keys) (drop (suc i) own) (omega (arith, length-drop (suc i) keys, length-drop (suc i) own)) in
      let c = total-part d keys own t owns i (end_of keys i) l (ends keys i l) in
      let e = ap sum (take-add (suc i) (deeper_run (level_of (get_or keys i 0)) (drop (suc i) keys)) own) ∙ sum-append (take (suc i) own) (take (deeper_run (level_of (get_or keys i 0)) (drop (suc i) keys)) (drop (suc i) own)) in
      omega (arith, sum-take own i)

-- the waiting sums, after the rows from i on
pub record Waits (keys own w : List ℕ) (i : ℕ) : Type 0 where
  pub most : i ≤ length keys
  pub long : length w ≡ 18
  pub sums : (l : ℕ) → l < 18 → get_or w l 0 ≡ waiting l (drop i keys) (drop i own)

pub record Totalled (d : ℕ) (keys own total w : List ℕ) (i : ℕ) : Type 0 where
  pub waits : Waits keys own w i
  pub right : (j : ℕ) → i ≤ j → j < length keys → get_or total j 0 ≡ total_in d keys own (get_or keys j 0)

module _ (d : ℕ) (keys own begin total : List ℕ) (r : Rowed d keys own begin total) where
  pub rows : Rows d keys own begin
  rows = rows-facts d keys own begin r.owns r.rows

  pub totals-start : (w : List ℕ) → w ≡ replicate 18 0 → Totalled d keys own total w (length keys)
  unfolding waiting
  totals-start w e = record {
    waits = record {
      most = omega arith;
      long = ap length e;
      sums = λ l h. ap (λ x. get_or x l 0) e ∙ get_or-replicate 18 l 0 0 h ∙ sym (ap (λ x. waiting l x (drop (length keys) own)) (drop_of_length-le keys {i = length keys} (omega arith)));
    };
    right = λ j h l. absurd (omega arith);
  }

  pub totals-done : (w : List ℕ) (i : ℕ) → Totalled d keys own total w i → i ≤ 0 → true ≡ well_formed d keys own begin total
  totals-done w i a h = sym (all_tested d keys own begin total (record {
    owns = r.owns;
    begins = r.begins;
    totals = r.totals;
    some = r.some;
    rows = rows;
    totalled = λ j l. a.right j (omega arith) l;
  }))

  -- row i, after the rows from n = i + 1 on
  module _ (w : List ℕ) (n i : ℕ) (a : Totalled d keys own total w n) (e : n ≡ suc i) where
    inside : i < length keys
    inside = omega (arith, a.waits.most)

    pub level_in : level_of (get_or keys i 0) ≤ 16
    level_in = level-le d keys rows.tree.ascending i inside

    pub sum_is : get_or own i 0 + get_or w (level_of (get_or keys i 0) + 1) 0 ≡ total_in d keys own (get_or keys i 0)
    sum_is =
        let q : level_of (get_or keys i 0) + 1 ≡ suc (level_of (get_or keys i 0)) = omega arith in
        rw (q, a.waits.sums (suc (level_of (get_or keys i 0))) (omega (arith, level_in)), e) (total-wait d keys own rows.tree r.owns i inside)

    -- no sum is more than all sources
    pub wait-most : (l : ℕ) → l < 18 → get_or w l 0 ≤ most_sources
    wait-most l h =
        omega (arith, a.waits.sums l h, wait-le l (drop n keys) (drop n own) (drop-steps d keys own rows.tree r.owns n), sum_drop n own, rows.most)

    pub own-most : get_or own i 0 ≤ most_sources
    own-most = omega (arith, rows.most, sum-take own i, sum-whole own (suc i))

    pub sum_fits : get_or own i 0 + get_or w (level_of (get_or keys i 0) + 1) 0 ≤ 2 * most_sources
    sum_fits = omega (arith, own-most, wait-most (level_of (get_or keys i 0) + 1) (omega (arith, level_in)))

    pub more-fits : get_or (set w (level_of (get_or keys i 0) + 1) 0) (level_of (get_or keys i 0)) 0 + (get_or own i 0 + get_or w (level_of (get_or keys i 0) + 1) 0) ≤ 3 * most_sources
    more-fits = omega (arith, sum_fits, wait-most (level_of (get_or keys i 0)) (omega (arith, level_in)), get_or-set_other w (level_of (get_or keys i 0) + 1) (level_of (get_or keys i 0)) 0 0 (λ q. omega arith))

    pub bad-total : (get_or total i 0 ≡ get_or own i 0 + get_or w (level_of (get_or keys i 0) + 1) 0 → ⊥) → false ≡ well_formed d keys own begin total
    bad-total g = sym (refute (λ h. g ((all-facts d keys own begin total h).totalled i inside ∙ sym sum_is)))

    pub totals-more : get_or total i 0 ≡ get_or own i 0 + get_or w (level_of (get_or keys i 0) + 1) 0
        → (w1 : List ℕ) → w1 ≡ set w (level_of (get_or keys i 0) + 1) 0
        → (w2 : List ℕ) → w2 ≡ set w1 (level_of (get_or keys i 0)) (get_or w1 (level_of (get_or keys i 0)) 0 + (get_or own i 0 + get_or w (level_of (get_or keys i 0) + 1) 0))
        → Totalled d keys own total w2 i
    totals-more g w1 e1 w2 e2 = record {
      waits = record { most = omega (arith, inside); long = long2; sums = sums };
      right = λ j h l. here j h l (dec_lt i j);
    }
      where
        long1 : length w1 ≡ 18
        long1 = ap length e1 ∙ length-set w (level_of (get_or keys i 0) + 1) 0 ∙ a.waits.long

        long2 : length w2 ≡ 18
        long2 = ap length e2 ∙ length-set w1 (level_of (get_or keys i 0)) (get_or w1 (level_of (get_or keys i 0)) 0 + (get_or own i 0 + get_or w (level_of (get_or keys i 0) + 1) 0)) ∙ long1

        here : (j : ℕ) → i ≤ j → j < length keys → Dec (i < j) → get_or total j 0 ≡ total_in d keys own (get_or keys j 0)
        here j h l (yes k) = a.right j (omega arith) l
        here j h l (no k) = let q : j ≡ i = omega arith in rw q (g ∙ sum_is)

        keys-at : drop i keys ≡ get_or keys i 0 ∷ drop n keys
        keys-at = rw e (drop-cons keys i 0 inside)

        own_at : drop i own ≡ get_or own i 0 ∷ drop n own
        own_at = rw e (drop-cons own i 0 (omega (arith, inside, r.owns)))

        sums : (l : ℕ) → l < 18 → get_or w2 l 0 ≡ waiting l (drop i keys) (drop i own)
        sums l h = rw (keys-at, own_at) (go (dec_lt l (level_of (get_or keys i 0))) (dec_lt (level_of (get_or keys i 0)) l) (dec_lt (suc (level_of (get_or keys i 0))) l))
          where
            old : get_or w l 0 ≡ waiting l (drop n keys) (drop n own)
            old = a.waits.sums l h

            off : (l ≡ level_of (get_or keys i 0) → ⊥) → get_or w2 l 0 ≡ get_or w1 l 0
            off q = ap (λ x. get_or x l 0) e2 ∙ get_or-set_other w1 (level_of (get_or keys i 0)) l (get_or w1 (level_of (get_or keys i 0)) 0 + (get_or own i 0 + get_or w (level_of (get_or keys i 0) + 1) 0)) 0 q

            off1 : (m : ℕ) → (m ≡ level_of (get_or keys i 0) + 1 → ⊥) → get_or w1 m 0 ≡ get_or w m 0
            off1 m q = ap (λ x. get_or x m 0) e1 ∙ get_or-set_other w (level_of (get_or keys i 0) + 1) m 0 0 q

            go : Dec (l < level_of (get_or keys i 0)) → Dec (level_of (get_or keys i 0) < l) → Dec (suc (level_of (get_or keys i 0)) < l)
                → get_or w2 l 0 ≡ waiting l (get_or keys i 0 ∷ drop n keys) (get_or own i 0 ∷ drop n own)
            go (yes p) _ _ = off (λ q. omega arith) ∙ off1 l (λ q. omega arith) ∙ old ∙ sym (wait-deeper l (get_or keys i 0) (get_or own i 0) (drop n keys) (drop n own) p)
            go (no p) (no q) _ =
                let s : l ≡ level_of (get_or keys i 0) = omega arith in
                let x = ap (λ y. get_or w2 y 0) s ∙ ap (λ y. get_or y (level_of (get_or keys i 0)) 0) e2
                ∙ get_or-set_same w1 (level_of (get_or keys i 0)) (get_or w1 (level_of (get_or keys i 0)) 0 + (get_or own i 0 + get_or w (level_of (get_or keys i 0) + 1) 0)) 0 (omega (arith, long1, level_in)) in
                let y = off1 (level_of (get_or keys i 0)) (λ q. omega arith) in
                let z = wait-here l (get_or keys i 0) (get_or own i 0) (drop n keys) (drop n own) (sym s) in
                let u = a.waits.sums (suc l) (omega (arith, level_in)) in
                let v : get_or w (level_of (get_or keys i 0) + 1) 0 ≡ get_or w (suc l) 0 = ap (λ y. get_or w y 0) (omega arith) in
                let t : get_or w (level_of (get_or keys i 0)) 0 ≡ get_or w l 0 = ap (λ y. get_or w y 0) (omega arith) in
                omega (arith, old)
            go (no p) (yes q) (no s) =
                let z : l ≡ level_of (get_or keys i 0) + 1 = omega arith in
                off (λ q. omega arith) ∙ ap (λ x. get_or w1 x 0) z ∙ ap (λ x. get_or x (level_of (get_or keys i 0) + 1) 0) e1
                ∙ get_or-set_same w (level_of (get_or keys i 0) + 1) 0 0 (omega (arith, a.waits.long, level_in))
                ∙ sym (wait-coarser l (get_or keys i 0) (get_or own i 0) (drop n keys) (drop n own) q)
            go (no p) (yes q) (yes s) =
                off (λ q. omega arith) ∙ off1 l (λ q. omega arith) ∙ old
                ∙ wait-none l (drop n keys) (drop n own) (λ h2. first h2)
                ∙ sym (wait-coarser l (get_or keys i 0) (get_or own i 0) (drop n keys) (drop n own) q)
              where
                first : 0 < length (drop n keys) → level_of (get_or (drop n keys) 0 0) < l
                first h2 = subst (λ m. 0 < length (drop m keys) → level_of (get_or (drop m keys) 0 0) < l) (sym e) (λ h3. omega (arith, drop-first d keys own rows.tree r.owns i inside h3)) h2
