-- Totals by number: what a node's cell and all below it hold is what the nodes of its range own; and its places in the order column (Z4).
use mathlib.Core.Path.{◌≡◌, refl, sym, ap, ap₂, ◌∙◌, subst}
use mathlib.Core.Bool.{Bool, true, false, ◌&&◌, cond}
use mathlib.Core.List.{List, [], ◌∷◌, map}
use mathlib.Core.Logic.{◌⊎◌, inl, inr, ◌↔◌}
use Prim.Native.Nat.{ℕ, zero, suc, ◌+◌, ◌-◌, ◌≤◌, ◌<◌, suc-le-suc, zero-le}
use native.Mathlib.Omega.{arith}
use native.Mathlib.Nat.{eq-or-lt_of_le, not-suc-le-zero}
use native.Mathlib.Decide.{dec_lt}
use lib.Dec.{leb, ltb}
use lib.ListN.{length, get_or, take}
use borrow.Author.Tests.{ltb-true, leb-true, lt-ltb, le-ltb, le-leb, lt-leb}
use Rattle.slices.specs.Lists.{sum, Mem}
use Rattle.slices.proofs.Tests.{and_l, and_r, both, clash, refute}
use Rattle.morton.specs.Keys.{under}
use Rattle.tree.specs.Nodes.{leaf, own_of}
use Rattle.tree.specs.WellFormed.{Run}
use Rattle.tree.proofs.Members.{own_at}
use Rattle.slices.proofs.Sums.{sum-take, sum_mono, sum-whole, sum-all}
use Rattle.tree.proofs.Runs.{run_of}
use Rattle.tree.specs.Order.{end_of}
use Rattle.tree.specs.Totals.{total_in}
use Rattle.tree.proofs.Rules.{Ascending, Tree, Rows, Formed}
use Rattle.tree.proofs.Ranges.{distinct}
use Rattle.tree.proofs.Ends.{Ends, ends}
use Rattle.tree.proofs.Laws.{under-are, under-range}

-- a sum that takes what stands from i up to e, and nothing else
sum-part : (f : ℕ → ℕ) (keys own : List ℕ) (i e : ℕ) → i ≤ e → e ≤ length keys → length own ≡ length keys
    → ((j : ℕ) → j < length keys → i ≤ j → j < e → f (get_or keys j 0) ≡ get_or own j 0)
    → ((j : ℕ) → j < length keys → (j < i) ⊎ (e ≤ j) → f (get_or keys j 0) ≡ 0)
    → sum (take i own) + sum (map f keys) ≡ sum (take e own)
unfolding sum
sum-part f [] own zero zero h l q a b = refl
sum-part f [] own i (suc e) h l q a b = absurd (not-suc-le-zero l)
sum-part f [] own (suc i) zero h l q a b = absurd (not-suc-le-zero h)
sum-part f (k ∷ ks) [] i e h l q a b = absurd (omega arith)
sum-part f (k ∷ ks) (o ∷ os) (suc i) zero h l q a b = absurd (not-suc-le-zero h)
sum-part f (k ∷ ks) (o ∷ os) zero zero h l q a b =
    omega (arith, b 0 (omega arith) (inr (omega arith)), sum-part f ks os 0 0 (omega arith) (omega arith) (omega arith) (λ j s u v. absurd (not-suc-le-zero v)) (λ j s u. b (suc j) (omega arith) (inr (omega arith))))
sum-part f (k ∷ ks) (o ∷ os) zero (suc e) h l q a b =
    omega (
      arith,
      a 0 (omega arith) (omega arith) (omega arith),
      sum-part f ks os 0 e (omega arith) (omega arith) (omega arith) (λ j s u v. a (suc j) (omega arith) (omega arith) (omega arith)) (λ j s u. b (suc j) (omega arith) (later j u)),
    )
  where
    later : (j : ℕ) → (j < 0) ⊎ (e ≤ j) → (suc j < 0) ⊎ (suc e ≤ suc j)
    later j (inl u) = absurd (not-suc-le-zero u)
    later j (inr u) = inr (omega arith)
sum-part f (k ∷ ks) (o ∷ os) (suc i) (suc e) h l q a b =
    omega (
      arith,
      b 0 (omega arith) (inl (omega arith)),
      sum-part f ks os i e (omega arith) (omega arith) (omega arith) (λ j s u v. a (suc j) (omega arith) (omega arith) (omega arith)) (λ j s u. b (suc j) (omega arith) (later j u)),
    )
  where
    later : (j : ℕ) → (j < i) ⊎ (e ≤ j) → (suc j < suc i) ⊎ (suc e ≤ suc j)
    later j (inl u) = inl (omega arith)
    later j (inr u) = inr (omega arith)

module _ (d : ℕ) (keys own : List ℕ) (t : Tree d keys) (owns : length own ≡ length keys) where
  -- total, by numbers: what the nodes from i up to the end own
  pub total-part : (i e : ℕ) → i < length keys → Ends keys i e → sum (take i own) + total_in d keys own (get_or keys i 0) ≡ sum (take e own)
  unfolding total_in
  total-part i e l en = sum-part (λ j. cond (under d (get_or keys i 0) j) (own_of keys own j) 0) keys own i e (omega (arith, en.after)) en.within owns inside outside
    where
      inside : (j : ℕ) → j < length keys → i ≤ j → j < e → cond (under d (get_or keys i 0) (get_or keys j 0)) (own_of keys own (get_or keys j 0)) 0 ≡ get_or own j 0
      inside j s u v = rw (under-are d keys t i e l en j s, le-leb i j u, lt-ltb j e v) (own_at keys own (distinct d keys t.ascending) owns j s)

      outside : (j : ℕ) → j < length keys → (j < i) ⊎ (e ≤ j) → cond (under d (get_or keys i 0) (get_or keys j 0)) (own_of keys own (get_or keys j 0)) 0 ≡ 0
      outside j s (inl u) = rw (under-are d keys t i e l en j s, lt-leb i j u)
      outside j s (inr u) = rw (under-are d keys t i e l en j s ∙ refute (λ h. omega (arith, ltb-true j e (and_r (leb i j) _ h))))

module _ (d : ℕ) (keys own begin total : List ℕ) (w : Formed d keys own begin total) where
  -- a node's begin and total come to what all nodes before its end own
  pub total-to : (i : ℕ) → i < length keys → get_or begin i 0 + get_or total i 0 ≡ sum (take (end_of keys i) own)
  total-to i l = omega (arith, w.rows.runs i l, w.totalled i l, total-part d keys own w.rows.tree w.owns i (end_of keys i) l (ends keys i l))

  -- Z4: a node's total is the next begin after its range less its own begin
  pub total-is : (i : ℕ) → i < length keys → end_of keys i < length keys → get_or total i 0 ≡ get_or begin (end_of keys i) 0 - get_or begin i 0
  total-is i l s = omega (arith, total-to i l, w.rows.runs (end_of keys i) s)

  pub total-last : (i : ℕ) → i < length keys → length keys ≤ end_of keys i → get_or total i 0 ≡ sum own - get_or begin i 0
  total-last i l s =
      let e : end_of keys i ≡ length own = omega (arith, (ends keys i l).within, w.owns) in
      omega (arith, total-to i l, ap (λ n. sum (take n own)) e ∙ sum-all own)

  -- Z4: the places from begin on, as many as the total, are exactly the runs of the nodes at or under node i (which are leaves)
  pub places-are : (i p : ℕ) → i < length keys
      → ((get_or begin i 0 ≤ p) × (p < get_or begin i 0 + get_or total i 0)) ↔ ((j : ℕ) × (under d (get_or keys i 0) (get_or keys j 0) ≡ true) × Run own begin j p)
  places-are i p l = (to, from)
    where
      begins : (j : ℕ) → j < length own → get_or begin j 0 ≡ sum (take j own)
      begins j s = w.rows.runs j (omega (arith, w.owns))

      to : (get_or begin i 0 ≤ p) × (p < get_or begin i 0 + get_or total i 0) → (j : ℕ) × (under d (get_or keys i 0) (get_or keys j 0) ≡ true) × Run own begin j p
      to (a, b) =
          let (j, r) = run_of own begin begins p (omega (arith, total-to i l, sum-whole own (end_of keys i))) in
          let lj : j < length keys = omega (arith, r.node, w.owns) in
          (j, under-range d keys w.rows.tree i j l lj ∙ both (le-leb i j (low j r (dec_lt j i))) (lt-ltb j (end_of keys i) (high j r (dec_lt j (end_of keys i)))), r)
        where
          low : (j : ℕ) → Run own begin j p → Dec (j < i) → i ≤ j
          low j r (no n) = omega arith
          low j r (yes h) = absurd (omega (arith, r.to, begins j r.node, sum-take own j, sum_mono own (suc j) i h, begins i (omega (arith, w.owns))))

          high : (j : ℕ) → Run own begin j p → Dec (j < end_of keys i) → j < end_of keys i
          high j r (yes h) = h
          high j r (no n) = absurd (omega (arith, r.from, begins j r.node, sum_mono own (end_of keys i) j (omega arith), total-to i l))

      from : (j : ℕ) × (under d (get_or keys i 0) (get_or keys j 0) ≡ true) × Run own begin j p → (get_or begin i 0 ≤ p) × (p < get_or begin i 0 + get_or total i 0)
      from (j, u, r) =
          let lj : j < length keys = omega (arith, r.node, w.owns) in
          let h = sym (under-range d keys w.rows.tree i j l lj) ∙ u in
          let a = leb-true i j (and_l _ _ h) in
          let b = ltb-true j (end_of keys i) (and_r (leb i j) _ h) in (
            omega (arith, r.from, begins j r.node, begins i (omega (arith, w.owns)), sum_mono own i j a),
            omega (arith, r.to, begins j r.node, sum-take own j, sum_mono own (suc j) (end_of keys i) b, total-to i l),
          )

  -- a node with a run is a leaf
  pub run-leaf : (j p : ℕ) → Run own begin j p → (j < length keys) × (leaf d keys (get_or keys j 0) ≡ true)
  run-leaf j p r = let lj : j < length keys = omega (arith, r.node, w.owns) in (lj, go lj (leaf d keys (get_or keys j 0)) refl)
    where
      go : j < length keys → (b : Bool) → leaf d keys (get_or keys j 0) ≡ b → leaf d keys (get_or keys j 0) ≡ true
      go l true e = e
      go l false e = absurd (omega (arith, r.from, r.to, w.rows.inner j l e))
