-- The readings of a node, found by its key.
use mathlib.Core.Path.{◌≡◌, refl, sym, ap, ap₂, ◌∙◌, subst}
use mathlib.Core.Bool.{Bool, true, false, ◌||◌, cond}
use mathlib.Core.List.{List, [], ◌∷◌}
use Prim.Native.Nat.{ℕ, ◌*◌, ◌≤◌, ◌<◌}
use native.Mathlib.Omega.{arith}
use lib.Dec.{eqb}
use lib.IntN.{ℤ, pos, nat_abs}
use lib.ListN.{length, get_or}
use borrow.Author.Tests.{eqb-true, eq-eqb}
use mir.Syntax.{w64}
use mir.Val.{to_z, of_z}
use Rattle.slices.specs.Lists.{any, range}
use Rattle.slices.proofs.Tests.{refute, clash}
use Rattle.tree.specs.Nodes.{stored, own_of}
use Rattle.tree.specs.WellFormed.{most_sources}
use Rattle.tree.specs.Finding.{FoundNode}
use Rattle.tree.proofs.Stored.{own_at, stored-mem}
use Rattle.sums.specs.Adding.{added, addedℤ}
use Rattle.sums.specs.Sums.{reading_at, node_readings}
use Rattle.row_sums.specs.Readings.{largest, Read, Readable, Columns}
use Rattle.row_sums.proofs.Whole.{read_back}
use Rattle.row_sums.proofs.Runs.{run-size}
use Rattle.std.specs.Prelude.{None, Some, Option}

-- a key that no node has
pub own-none : (keys own : List ℕ) (x : ℕ) → stored keys x ≡ false → own_of keys own x ≡ 0
unfolding own_of any
own-none [] own x h = refl
own-none (k ∷ ks) [] x h = refl
own-none (k ∷ ks) (n ∷ own) x h = go (eqb x k) refl h (own-none ks own x)
  where
    go : (b : Bool) → eqb x k ≡ b → (b || any (eqb x) ks) ≡ false → (any (eqb x) ks ≡ false → own_of ks own x ≡ 0) → cond (eqb k x) n (own_of ks own x) ≡ 0
    go true e q ih = absurd (clash refl q)
    go false e q ih = rw (refute {a = eqb k x} (λ t. clash (eq-eqb x k (sym (eqb-true k x t))) e)) (ih q)

module _ (d : ℕ) (keys count begin order : List ℕ) (readings : List ℤ) (c : Columns d keys count begin order) (r : Read order readings) where
  abbrev f : ℕ → ℤ
  f = reading_at order readings

  count_of : (x i : ℕ) → i < length keys → get_or keys i 0 ≡ x → own_of keys count x ≡ get_or count i 0
  count_of x i l e = subst (λ y. own_of keys count y ≡ get_or count i 0) e (own_at keys count c.distinct c.counts i l)

  begin-of : (x i : ℕ) → i < length keys → get_or keys i 0 ≡ x → own_of keys begin x ≡ get_or begin i 0
  begin-of x i l e = subst (λ y. own_of keys begin y ≡ get_or begin i 0) e (own_at keys begin c.distinct c.begins i l)

  found-facts : (x : ℕ) (a : Option ℕ) → FoundNode d keys x a → (i : ℕ) → a ≡ Some i → (i < length keys) × (get_or keys i 0 ≡ x)
  found-facts x a h i e = subst (FoundNode d keys x) e h

  -- a node that is found
  module _ (x : ℕ) (a : Option ℕ) (h : FoundNode d keys x a) (i : ℕ) (e : a ≡ Some i) where
    pub in_begin : i < length begin
    in_begin = omega (arith, c.begins, (found-facts x a h i e).0)

    pub in_count : i < length count
    in_count = omega (arith, c.counts, (found-facts x a h i e).0)

    pub node-run : own_of keys count x ≤ most_sources → Readable order readings (get_or begin i 0) (get_or count i 0)
    node-run m =
        let (l, q) = found-facts x a h i e in
        record { read = r; within = c.runs i l; few = omega (arith, count_of x i l q) }

    pub node-is : own_of keys count x ≤ most_sources → (s : ℤ) → s ≡ addedℤ f (range (get_or begin i 0) (get_or count i 0)) → nat_abs s ≤ get_or count i 0 * largest
        → (to_z w64 (of_z w64 s) ≡ node_readings keys count begin order readings x) × (nat_abs (to_z w64 (of_z w64 s)) ≤ own_of keys count x * largest)
    unfolding node_readings
    node-is few s p m =
        let (l, q) = found-facts x a h i e in
        let n = count_of x i l q in
        let back = read_back s (get_or count i 0) m (omega arith) in
        (back ∙ p ∙ ap₂ (λ b n. addedℤ f (range b n)) (sym (begin-of x i l q)) (sym n), subst (λ y. nat_abs y ≤ own_of keys count x * largest) (sym back) (rw n m))

  none-readings : (x : ℕ) → own_of keys count x ≡ 0 → node_readings keys count begin order readings x ≡ pos 0
  unfolding node_readings added range
  none-readings x e = ap (λ n. addedℤ f (range (own_of keys begin x) n)) e

  pub none_is : (x : ℕ) (a : Option ℕ) → FoundNode d keys x a → a ≡ None → (pos 0 ≡ node_readings keys count begin order readings x) × (nat_abs (pos 0) ≤ own_of keys count x * largest)
  none_is x a h e =
      let none : stored keys x ≡ false = subst (FoundNode d keys x) e h c.ordered in
      (sym (none-readings x (own-none keys count x none)), omega arith)

  -- how large a node's readings are together
  pub node-size : (x : ℕ) → nat_abs (node_readings keys count begin order readings x) ≤ own_of keys count x * largest
  node-size x = go (stored keys x) refl
    where
      go : (b : Bool) → stored keys x ≡ b → nat_abs (node_readings keys count begin order readings x) ≤ own_of keys count x * largest
      go false e = rw (none-readings x (own-none keys count x e)) (omega arith)
      go true e =
          let (i, l, q) = stored-mem keys x e in
          unfold node_readings in run-size order readings r (own_of keys begin x) (own_of keys count x) (omega (arith, c.runs i l, count_of x i l q, begin-of x i l q))
