-- The nodes of a tree as members of its key column, whatever their order: stored, what a node owns, sourced, no leaf.
use mathlib.Core.Path.{◌≡◌, refl, sym, ap, ◌∙◌, subst}
use mathlib.Core.Bool.{Bool, true, false, ◌&&◌, ◌||◌, not}
use mathlib.Core.List.{List, [], ◌∷◌}
use mathlib.Core.Logic.{◌⊎◌, inl, inr}
use Prim.Native.Nat.{ℕ, zero, suc, ◌+◌, ◌*◌, ◌-◌, ◌/◌, ◌%◌, ◌^◌, ◌≤◌, ◌<◌, suc-le-suc, zero-le}
use native.Mathlib.Omega.{arith}
use native.Mathlib.Nat.{eq-or-lt_of_le, le_of_suc-le-suc, not-suc-le-zero}
use native.Mathlib.Decide.{dec_lt}
use lib.Dec.{leb, ltb, eqb}
use lib.ListN.{length, get_or, take}
use borrow.Author.Tests.{ltb-true, leb-true, eqb-true, lt-ltb, le-ltb, le-leb, eq-eqb, ne_eqb, not-true}
use Rattle.slices.specs.Lists.{any, sum, Mem, Distinct}
use Rattle.slices.proofs.Tests.{and_l, and_r, both, clash, refute}
use Rattle.slices.proofs.Counts.{any-intro, any-elim}
use Rattle.morton.specs.Keys.{key, level_of, code_of, above, valid, parent, under}
use Rattle.morton.proofs.Cells.{key-parts, level_begins, code_at, at_self, level-parent, parent-at, above-up}
use Rattle.tree.specs.Nodes.{cell_at, stored, child_of, leaf, own_of, sourced}

-- Members and the test of being stored
pub stored-mem : (keys : List ℕ) (k : ℕ) → stored keys k ≡ true → Mem k keys
stored-mem keys k h = let (x, m, e) = any-elim (eqb k) keys h in subst (λ y. Mem y keys) (sym (eqb-true k x e)) m

pub mem-stored : (keys : List ℕ) (k : ℕ) → Mem k keys → stored keys k ≡ true
mem-stored keys k m = any-intro (eqb k) keys k m (eq-eqb k k refl)

-- what a node owns is beside its key
pub own_at : (keys own : List ℕ) → Distinct keys → length own ≡ length keys → (i : ℕ) → i < length keys → own_of keys own (get_or keys i 0) ≡ get_or own i 0
unfolding own_of
own_at [] own dist e i l = absurd (not-suc-le-zero l)
own_at (x ∷ xs) [] dist e i l = absurd (omega arith)
own_at (x ∷ xs) (v ∷ vs) dist e zero l = rw (eq-eqb x x refl)
own_at (x ∷ xs) (v ∷ vs) dist e (suc i) l =
    rw (ne_eqb x (get_or xs i 0) (λ q. omega (arith, dist 0 (suc i) (omega arith) l q)))
    (own_at xs vs (λ j k lj lk q. omega (arith, dist (suc j) (suc k) (suc-le-suc lj) (suc-le-suc lk) q)) (omega arith) i (omega arith))

pub sourced-by : (d : ℕ) (keys own : List ℕ) (k s : ℕ) → Mem s keys → 0 < own_of keys own s → under d k s ≡ true → sourced d keys own k ≡ true
unfolding sourced
sourced-by d keys own k s m o h = any-intro (λ j. under d k j && ltb 0 (own_of keys own j)) keys s m (both h (lt-ltb 0 (own_of keys own s) o))

-- which nodes are no leaf
pub root-no-leaf : (d : ℕ) (keys : List ℕ) (k : ℕ) → k ≡ 0 → leaf d keys k ≡ false
unfolding leaf
root-no-leaf d keys k e = refute (λ h. clash (eq-eqb k 0 e) (not-true _ (and_l _ _ (and_r (stored keys k) _ h))))

pub parent-no-leaf : (d : ℕ) (keys : List ℕ) (k x : ℕ) → Mem x keys → 0 < level_of x → parent d x ≡ k → leaf d keys k ≡ false
unfolding leaf
parent-no-leaf d keys k x m l e = refute (λ h.
    clash (any-intro (child_of d k) keys x m (both (lt-ltb 0 (level_of x) l) (eq-eqb (parent d x) k e))) (not-true _ (and_r (not (eqb k 0)) _ (and_r (stored keys k) _ h))))
