-- Which cells are sourced, from the leaves upwards; and by the total (order 3).
use mathlib.Core.Path.{◌≡◌, refl, sym, ap, ap₂, ◌∙◌, subst}
use mathlib.Core.Bool.{Bool, true, false, ◌&&◌, ◌||◌, not, cond}
use mathlib.Core.List.{List, [], ◌∷◌, map}
use mathlib.Core.Logic.{◌⊎◌, inl, inr}
use Prim.Native.Nat.{ℕ, zero, suc, ◌+◌, ◌*◌, ◌-◌, ◌/◌, ◌%◌, ◌^◌, ◌≤◌, ◌<◌}
use native.Mathlib.Omega.{arith}
use native.Mathlib.Nat.{eq-or-lt_of_le}
use native.Mathlib.Decide.{dec_lt}
use lib.Dec.{leb, ltb, eqb}
use lib.ListN.{length, get_or}
use borrow.Author.Tests.{ltb-true, leb-true, eqb-true, lt-ltb, le-ltb, le-leb, eq-eqb}
use Rattle.slices.specs.Lists.{any, sum, Mem}
use Rattle.slices.proofs.Tests.{and_l, and_r, both, clash, refute, same_test}
use Rattle.slices.proofs.Counts.{any-intro, any-elim}
use Rattle.morton.specs.Keys.{key, level_of, code_of, above, parent, under}
use Rattle.morton.proofs.Cells.{key-parts, level_begins, code_at, parent-at}
use Rattle.tree.specs.Nodes.{cell_at, stored, child_of, leaf, own_of, sourced}
pub use Rattle.tree.proofs.Under.{Under, under-facts, facts-under, under-self, under-trans, child-under, sourced-facts, sourced-up}
use Rattle.tree.specs.Totals.{total_in}
use Rattle.tree.proofs.Rules.{WellFormed}
use Rattle.tree.proofs.Ranges.{same-level}
use Rattle.tree.proofs.Stored.{own_at, distinct, above-mem, leaf-under, sourced-by}

pub child-at : (d k j : ℕ) → under d k j ≡ true → level_of k < level_of j → (child_of d k (cell_at d (suc (level_of k)) j) ≡ true) × (under d (cell_at d (suc (level_of k)) j) j ≡ true)
child-at d k j h l =
    let u = under-facts d k j h in
    let held : cell_at d (level_of k) j ≡ k = ap (key (level_of k)) u.code ∙ key-parts k in (
      both (lt-ltb 0 (level_of (cell_at d (suc (level_of k)) j)) (omega (arith, level_begins d (suc (level_of k)) j l))) (eq-eqb (parent d (cell_at d (suc (level_of k)) j)) k (parent-at d (level_of k) j l ∙ held)),
      facts-under d (cell_at d (suc (level_of k)) j) j (record {
        level = omega (arith, level_begins d (suc (level_of k)) j l);
        code = rw (level_begins d (suc (level_of k)) j l) (sym (code_at d (suc (level_of k)) j l));
      }),
    )

module _ (d : ℕ) (keys own begin : List ℕ) (w : WellFormed d keys own begin) where
  -- a leaf is sourced if it owns sources
  pub sourced-leaf : (k : ℕ) → leaf d keys k ≡ true → Mem k keys → sourced d keys own k ≡ ltb 0 (own_of keys own k)
  sourced-leaf k l m = same_test (sourced d keys own k) (ltb 0 (own_of keys own k))
      (λ h.
      let (j, mj, u, o) = sourced-facts d keys own k h in
      lt-ltb 0 (own_of keys own k) (rw (leaf-under d keys w.ascending w.parents k j l mj u) o))
      (λ h. sourced-by d keys own k k m (ltb-true 0 (own_of keys own k) h) (under-self d k))

  -- any other node is sourced if a child is
  pub sourced-inner : (k : ℕ) → leaf d keys k ≡ false → Mem k keys → sourced d keys own k ≡ any (λ c. child_of d k c && sourced d keys own c) keys
  sourced-inner k l m = same_test (sourced d keys own k) (any (λ c. child_of d k c && sourced d keys own c) keys) down up
    where
      none : own_of keys own k ≡ 0
      none =
          subst (λ x. own_of keys own x ≡ 0) m.2
          (own_at keys own (distinct d keys w.ascending) w.owns m.0 m.1 ∙ w.inner m.0 m.1 (subst (λ x. leaf d keys x ≡ false) (sym m.2) l))

      down : sourced d keys own k ≡ true → any (λ c. child_of d k c && sourced d keys own c) keys ≡ true
      down h = let (j, mj, u, o) = sourced-facts d keys own k h in go j mj u o (eq-or-lt_of_le (under-facts d k j u).level)
        where
          go : (j : ℕ) → Mem j keys → under d k j ≡ true → 0 < own_of keys own j → (level_of k ≡ level_of j) ⊎ (level_of k < level_of j) → any (λ c. child_of d k c && sourced d keys own c) keys ≡ true
          go j mj u o (inl e) = absurd (omega (arith, none, ap (own_of keys own) (same-level d k j u (omega arith))))
          go j mj u o (inr p) =
              let (c, v) = child-at d k j u p in
              any-intro (λ c. child_of d k c && sourced d keys own c) keys (cell_at d (suc (level_of k)) j) (above-mem d keys w.ascending w.parents j (suc (level_of k)) mj p)
              (both c (sourced-by d keys own (cell_at d (suc (level_of k)) j) j mj o v))

      up : any (λ c. child_of d k c && sourced d keys own c) keys ≡ true → sourced d keys own k ≡ true
      up h =
          let (c, mc, e) = any-elim (λ c. child_of d k c && sourced d keys own c) keys h in
          sourced-up d keys own k c (child-under d k c (and_l _ _ e)) (and_r (child_of d k c) _ e)

-- a sum is 0 where each of its terms is
sum-pos : (f : ℕ → ℕ) (xs : List ℕ) → 0 < sum (map f xs) → (x : ℕ) × Mem x xs × (0 < f x)
unfolding sum
sum-pos f [] h = absurd (omega arith)
sum-pos f (x ∷ xs) h = go (dec_lt 0 (f x)) (sum-pos f xs)
  where
    go : Dec (0 < f x) → (0 < sum (map f xs) → (y : ℕ) × Mem y xs × (0 < f y)) → (y : ℕ) × Mem y (x ∷ xs) × (0 < f y)
    go (yes l) ih = (x, Rattle.slices.proofs.Counts.here x xs, l)
    go (no n) ih = let (y, m, p) = ih (omega arith) in (y, Rattle.slices.proofs.Counts.there x y xs m, p)

pos_sum : (f : ℕ → ℕ) (xs : List ℕ) (x : ℕ) → Mem x xs → f x ≤ sum (map f xs)
unfolding sum
pos_sum f [] x (i, l, e) = absurd (omega arith)
pos_sum f (y ∷ ys) x (zero, l, e) = omega (arith, ap f e)
pos_sum f (y ∷ ys) x (suc i, l, e) = omega (arith, pos_sum f ys x (i, native.Mathlib.Nat.le_of_suc-le-suc l, e))

-- order 3: a cell is sourced if its total is not 0
pub sourced-total : (d : ℕ) (keys own : List ℕ) (k : ℕ) → sourced d keys own k ≡ ltb 0 (total_in d keys own k)
unfolding total_in
sourced-total d keys own k = same_test (sourced d keys own k) (ltb 0 (total_in d keys own k)) to from
  where
    to : sourced d keys own k ≡ true → ltb 0 (total_in d keys own k) ≡ true
    to h =
        let (j, m, u, o) = sourced-facts d keys own k h in
        lt-ltb 0 (total_in d keys own k) (omega (arith, pos_sum (λ j. cond (under d k j) (own_of keys own j) 0) keys j m, ap (λ b. cond b (own_of keys own j) 0) u))

    from : ltb 0 (total_in d keys own k) ≡ true → sourced d keys own k ≡ true
    from h =
        let (j, m, p) = sum-pos (λ j. cond (under d k j) (own_of keys own j) 0) keys (ltb-true 0 (total_in d keys own k) h) in
        go j m p (under d k j) refl
      where
        go : (j : ℕ) → Mem j keys → 0 < cond (under d k j) (own_of keys own j) 0 → (b : Bool) → under d k j ≡ b → sourced d keys own k ≡ true
        go j m p true e = sourced-by d keys own k j m (rw e at p) e
        go j m p false e = absurd (let z = rw e at p in omega arith)
