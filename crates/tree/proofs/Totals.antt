-- Order 3: the total is by own counts alone; it is what the cell owns and its children's totals; the root's is all.
use mathlib.Core.Path.{◌≡◌, refl, sym, ap, ap₂, ◌∙◌, subst, fun_ext}
use mathlib.Core.Bool.{Bool, true, false, ◌&&◌, cond}
use mathlib.Core.List.{List, [], ◌∷◌, map}
use Prim.Native.Nat.{ℕ, zero, suc, ◌+◌, ◌-◌, ◌≤◌, ◌<◌}
use native.Mathlib.Omega.{arith}
use native.Mathlib.Nat.{not-suc-le-zero, le_of_suc-le-suc}
use native.Mathlib.Decide.{dec_lt}
use lib.Dec.{leb, ltb, eqb}
use lib.ListN.{length, get_or, take}
use borrow.Author.Tests.{ltb-true, leb-true, eqb-true, lt-ltb, le-ltb, le-leb, lt-leb, eq-eqb, ne_eqb}
use Rattle.slices.specs.Lists.{bit, count, sum, Mem, Distinct}
use Rattle.slices.proofs.Tests.{and_l, and_r, both, clash, refute, same_test}
use Rattle.slices.proofs.Counts.{count-one, count-zero}
use Rattle.slices.proofs.Sums.{sum_same, sum_both, sum-none, sum-swap, sum-times, sum-all}
use Rattle.morton.specs.Keys.{level_of, code_of, parent, under}
use Rattle.morton.proofs.Cells.{level_begins, level-parent}
use Rattle.tree.specs.Nodes.{cell_at, stored, child_of, leaf, own_of}
use Rattle.tree.proofs.Under.{under-self, under-trans, child-under, under-facts}
use Rattle.tree.specs.Order.{end_of}
use Rattle.tree.specs.Totals.{total_in}
use Rattle.tree.proofs.Rules.{Ascending, Tree}
use Rattle.tree.proofs.Ranges.{nested, same-level, level-le, parent-under, parent_is, distinct}
use Rattle.tree.proofs.Ends.{ends}
use Rattle.tree.proofs.Laws.{holder-at}
use Rattle.tree.proofs.Sums.{total-part}
use Rattle.tree.proofs.Sourced.{child-at}
use Rattle.tree.proofs.Stored.{above-mem}

module _ (d : ℕ) (keys own : List ℕ) (t : Tree d keys) (owns : length own ≡ length keys) (some : 0 < length keys) where
  -- the root's total is all sources
  pub root-total : total_in d keys own (get_or keys 0 0) ≡ sum own
  unfolding sum
  root-total =
      let e = ends keys 0 some in
      let z = total-part d keys own t owns 0 (end_of keys 0) some e in
      let n : end_of keys 0 ≡ length own = go e (dec_lt (end_of keys 0) (length keys)) in
      omega (arith, ap (λ m. sum (take m own)) n ∙ sum-all own)
    where
      go : Rattle.tree.proofs.Ends.Ends keys 0 (end_of keys 0) → Dec (end_of keys 0 < length keys) → end_of keys 0 ≡ length own
      go e (no n) = omega (arith, e.within)
      go e (yes l) =
          absurd (omega (arith, e.next l, Rattle.tree.proofs.Ranges.level-pos d keys t.ascending (end_of keys 0) (omega (arith, e.after)) l, ap level_of t.ascending.root))

module _ (d : ℕ) (keys own : List ℕ) (t : Tree d keys) (k : ℕ) (mk : Mem k keys) where
  level-of : (x : ℕ) → Mem x keys → level_of x ≤ 16
  level-of = Rattle.tree.proofs.Stored.level-le d keys t.ascending

  child-level : (c : ℕ) → child_of d k c ≡ true → level_of c ≡ suc (level_of k)
  child-level c h = omega (arith, ltb-true 0 (level_of c) (and_l _ _ h), sym (ap level_of (eqb-true (parent d c) k (and_r (ltb 0 (level_of c)) _ h))) ∙ level-parent d c)

  -- how many children of k hold j: one, if j lies under k and is not k
  holders : (j : ℕ) → Mem j keys → count (λ c. child_of d k c && under d c j) keys ≡ bit (under d k j && ltb (level_of k) (level_of j))
  holders j mj = go (under d k j) refl (dec_lt (level_of k) (level_of j))
    where
      up : (c : ℕ) → (child_of d k c && under d c j) ≡ true → (under d k j ≡ true) × (level_of k < level_of j)
      up c h =
          let a = and_l _ _ h in
          let b = and_r (child_of d k c) _ h in
          (under-trans d k c j (child-under d k c a) b, omega (arith, child-level c a, (under-facts d c j b).level))

      go : (b : Bool) → under d k j ≡ b → Dec (level_of k < level_of j) → count (λ c. child_of d k c && under d c j) keys ≡ bit (b && ltb (level_of k) (level_of j))
      go false e _ = count-zero (λ c. child_of d k c && under d c j) keys (λ c m h. clash (up c h).0 e)
      go true e (no n) = rw (le-ltb (level_of k) (level_of j) (omega arith)) (count-zero (λ c. child_of d k c && under d c j) keys (λ c m h. n (up c h).1))
      go true e (yes l) =
          let (ch, un) = child-at d k j e l in
          rw (lt-ltb (level_of k) (level_of j) l)
          (count-one (λ c. child_of d k c && under d c j) keys (distinct d keys t.ascending) (cell_at d (suc (level_of k)) j)
          (above-mem d keys t.ascending t.parents j (suc (level_of k)) mj l)
          (λ c m h.
          let a = and_l (child_of d k c) (under d c j) h in
          let b = and_r (child_of d k c) (under d c j) h in
          let la = level_begins d (suc (level_of k)) j l in
          sym (same-level d c (cell_at d (suc (level_of k)) j)
          (nested d c (cell_at d (suc (level_of k)) j) j (level-of j mj) (omega (arith, child-level c a)) b un)
          (omega (arith, child-level c a))))
          ∙ ap bit (both ch un))

  -- order 3: a cell's total is what it owns and what its children hold
  pub total-children : total_in d keys own k ≡ own_of keys own k + sum (map (λ c. cond (child_of d k c) (total_in d keys own c) 0) keys)
  unfolding total_in
  total-children = sym (
      omega (
        arith,
        ones,
        sum_same (λ c. cond (child_of d k c) (sum (map (λ j. cond (under d c j) (own_of keys own j) 0) keys)) 0) (λ c. sum (map (λ j. cond (child_of d k c && under d c j) (own_of keys own j) 0) keys)) keys (λ c m. inner c (child_of d k c)),
        sum-swap (λ c j. cond (child_of d k c && under d c j) (own_of keys own j) 0) keys keys,
        sum_same (λ j. sum (map (λ c. cond (child_of d k c && under d c j) (own_of keys own j) 0) keys)) (λ j. cond (under d k j && ltb (level_of k) (level_of j)) (own_of keys own j) 0) keys each,
        sum_both (λ j. cond (eqb j k) (own_of keys own j) 0) (λ j. cond (under d k j && ltb (level_of k) (level_of j)) (own_of keys own j) 0) keys,
        sum_same (λ j. cond (eqb j k) (own_of keys own j) 0 + cond (under d k j && ltb (level_of k) (level_of j)) (own_of keys own j) 0) (λ j. cond (under d k j) (own_of keys own j) 0) keys split,
      ))
    where
      inner : (c : ℕ) (b : Bool) → cond b (sum (map (λ j. cond (under d c j) (own_of keys own j) 0) keys)) 0 ≡ sum (map (λ j. cond (b && under d c j) (own_of keys own j) 0) keys)
      inner c true = refl
      inner c false = sym (sum-none (λ j. 0) keys (λ x m. refl))

      each : (j : ℕ) → Mem j keys → sum (map (λ c. cond (child_of d k c && under d c j) (own_of keys own j) 0) keys) ≡ cond (under d k j && ltb (level_of k) (level_of j)) (own_of keys own j) 0
      each j m =
          let n = holders j m in
          sum-times (λ c. child_of d k c && under d c j) (own_of keys own j) keys (omega (arith, n, small (under d k j && ltb (level_of k) (level_of j)))) ∙ ap (λ x. cond (ltb 0 x) (own_of keys own j) 0) n ∙ fit (under d k j && ltb (level_of k) (level_of j))
        where
          small : (b : Bool) → bit b ≤ 1
          small true = omega arith
          small false = omega arith

          fit : (b : Bool) → cond (ltb 0 (bit b)) (own_of keys own j) 0 ≡ cond b (own_of keys own j) 0
          fit true = refl
          fit false = refl

      one : count (λ j. eqb j k) keys ≡ 1
      one = count-one (λ j. eqb j k) keys (distinct d keys t.ascending) k mk (λ x m h. eqb-true x k h) ∙ ap bit (eq-eqb k k refl)

      ones : sum (map (λ j. cond (eqb j k) (own_of keys own j) 0) keys) ≡ own_of keys own k
      ones =
          sum_same (λ j. cond (eqb j k) (own_of keys own j) 0) (λ j. cond (eqb j k) (own_of keys own k) 0) keys (λ j m. at j (eqb j k) refl)
          ∙ sum-times (λ j. eqb j k) (own_of keys own k) keys (omega (arith, one)) ∙ ap (λ x. cond (ltb 0 x) (own_of keys own k) 0) one
        where
          at : (j : ℕ) (b : Bool) → eqb j k ≡ b → cond b (own_of keys own j) 0 ≡ cond b (own_of keys own k) 0
          at j true e = ap (own_of keys own) (eqb-true j k e)
          at j false e = refl

      split : (j : ℕ) → Mem j keys → cond (eqb j k) (own_of keys own j) 0 + cond (under d k j && ltb (level_of k) (level_of j)) (own_of keys own j) 0 ≡ cond (under d k j) (own_of keys own j) 0
      split j m = go (under d k j) refl (eqb j k) refl (dec_lt (level_of k) (level_of j))
        where
          go : (b : Bool) → under d k j ≡ b → (q : Bool) → eqb j k ≡ q → Dec (level_of k < level_of j) → cond q (own_of keys own j) 0 + cond (b && ltb (level_of k) (level_of j)) (own_of keys own j) 0 ≡ cond b (own_of keys own j) 0
          go false e true f _ = absurd (clash (subst (λ x. under d k x ≡ true) (sym (eqb-true j k f)) (under-self d k)) e)
          go false e false f _ = omega arith
          go true e true f _ = rw (le-ltb (level_of k) (level_of j) (omega (arith, ap level_of (eqb-true j k f)))) (omega arith)
          go true e false f (yes l) = rw (lt-ltb (level_of k) (level_of j) l) (omega arith)
          go true e false f (no n) = absurd (clash (eq-eqb j k (same-level d k j e (omega arith))) f)
