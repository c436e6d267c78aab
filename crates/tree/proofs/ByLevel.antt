-- Keys by level, then ascending code, as facts: each node comes before all later ones.
use mathlib.Core.Path.{◌≡◌, refl, sym, ap, ◌∙◌, subst}
use mathlib.Core.Bool.{Bool, true, false, ◌&&◌, ◌||◌, not}
use mathlib.Core.List.{List, [], ◌∷◌}
use mathlib.Core.Logic.{◌⊎◌, inl, inr}
use Prim.Native.Nat.{ℕ, zero, suc, ◌+◌, ◌*◌, ◌-◌, ◌/◌, ◌%◌, ◌^◌, ◌≤◌, ◌<◌, suc-le-suc, zero-le}
use native.Mathlib.Omega.{arith}
use native.Mathlib.Nat.{eq-or-lt_of_le, le_of_suc-le-suc, not-suc-le-zero}
use native.Mathlib.Decide.{dec_lt}
use lib.Dec.{leb, ltb, eqb}
use lib.ListN.{length, get_or, take}
use borrow.Author.Tests.{ltb-true, leb-true, eqb-true, lt-ltb, le-ltb, le-leb, eq-eqb, ne_eqb, not-true}
use Rattle.slices.specs.Lists.{any, sum, Mem, Distinct}
use Rattle.slices.proofs.Tests.{and_l, and_r, both, clash, refute}
use Rattle.slices.proofs.Counts.{any-intro, any-elim}
use Rattle.morton.specs.Keys.{key, level_of, code_of, above, valid, parent, under}
use Rattle.morton.proofs.Cells.{key-parts, level_begins, code_at, at_self, level-parent, parent-at, above-up}
use Rattle.tree.specs.ByLevel.{before_by_level}

pub record Ascending (d : ℕ) (keys : List ℕ) : Type 0 where
  pub root : get_or keys 0 0 ≡ 0
  pub sound : (i : ℕ) → i < length keys → valid d (get_or keys i 0) ≡ true
  pub ordered : (i : ℕ) → suc i < length keys → before_by_level (get_or keys i 0) (get_or keys (suc i) 0) ≡ true

-- The order of nodes, as facts
abbrev pub Earlier : ℕ → ℕ → Type 0
Earlier k j = (level_of k ≤ level_of j) × (level_of k ≡ level_of j → code_of k < code_of j)

pub earlier : (k j : ℕ) → before_by_level k j ≡ true → Earlier k j
earlier k j h = go (ltb (level_of k) (level_of j)) refl h
  where
    go : (b : Bool) → ltb (level_of k) (level_of j) ≡ b → (b || (eqb (level_of k) (level_of j) && ltb (code_of k) (code_of j))) ≡ true → Earlier k j
    go true e h = let l = ltb-true (level_of k) (level_of j) e in omega arith
    go false e h =
        let same = eqb-true (level_of k) (level_of j) (and_l _ _ h) in
        let less = ltb-true (code_of k) (code_of j) (and_r (eqb (level_of k) (level_of j)) _ h) in
        omega arith

pub before_of : (k j : ℕ) → Earlier k j → before_by_level k j ≡ true
before_of k j h = go (dec_lt (level_of k) (level_of j))
  where
    go : Dec (level_of k < level_of j) → before_by_level k j ≡ true
    go (yes l) = rw (lt-ltb (level_of k) (level_of j) l)
    go (no n) =
        let e : level_of k ≡ level_of j = omega (arith, h.0) in
        rw (le-ltb (level_of k) (level_of j) (omega arith), eq-eqb (level_of k) (level_of j) e) (lt-ltb (code_of k) (code_of j) (h.1 e))

pub earlier-not : (k : ℕ) → Earlier k k → ⊥
earlier-not k h = omega (arith, h.1 refl)

pub earlier-trans : (a b c : ℕ) → Earlier a b → Earlier b c → Earlier a c
earlier-trans a b c p q =
    (omega (arith, p.0, q.0), λ e. omega (arith, p.1 (omega (arith, p.0, q.0)), q.1 (omega (arith, p.0, q.0))))

-- each node comes before all later ones
pub earlier-of : (keys : List ℕ) → ((i : ℕ) → suc i < length keys → before_by_level (get_or keys i 0) (get_or keys (suc i) 0) ≡ true)
    → (i j : ℕ) → i < j → j < length keys → Earlier (get_or keys i 0) (get_or keys j 0)
earlier-of keys ordered i zero h l = absurd (not-suc-le-zero h)
earlier-of keys ordered i (suc j) h l = go (eq-or-lt_of_le (le_of_suc-le-suc h)) (λ n. earlier-of keys ordered i j n (omega arith))
  where
    last : Earlier (get_or keys j 0) (get_or keys (suc j) 0)
    last = earlier (get_or keys j 0) (get_or keys (suc j) 0) (ordered j l)

    go : (i ≡ j) ⊎ (i < j) → (i < j → Earlier (get_or keys i 0) (get_or keys j 0)) → Earlier (get_or keys i 0) (get_or keys (suc j) 0)
    go (inl e) ih = rw e last
    go (inr n) ih = earlier-trans (get_or keys i 0) (get_or keys j 0) (get_or keys (suc j) 0) (ih n) last

module _ (d : ℕ) (keys : List ℕ) (w : Ascending d keys) where
  pub earlier-at : (i j : ℕ) → i < j → j < length keys → Earlier (get_or keys i 0) (get_or keys j 0)
  earlier-at = earlier-of keys w.ordered
