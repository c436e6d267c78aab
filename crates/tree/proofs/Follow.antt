-- Rows that follow each other make a tree, and a tree's rows follow each other.
use mathlib.Core.Path.{◌≡◌, refl, sym, ap, ap₂, ◌∙◌, subst}
use mathlib.Core.Bool.{Bool, true, false, ◌&&◌, ◌||◌, not}
use mathlib.Core.List.{List, [], ◌∷◌}
use mathlib.Core.Logic.{◌⊎◌, inl, inr}
use Prim.Native.Nat.{ℕ, zero, suc, ◌+◌, ◌*◌, ◌-◌, ◌/◌, ◌^◌, ◌≤◌, ◌<◌}
use native.Mathlib.Omega.{arith}
use native.Mathlib.Nat.{one-mul, div-lt_iff_lt-mul}
use native.Mathlib.Decide.{dec_lt}
use lib.Dec.{leb, ltb, eqb}
use lib.ListN.{length, get_or}
use lib.Pow.{pow_pos}
use borrow.Author.Tests.{ltb-true, leb-true, leb-false, eqb-true, lt-ltb, le-leb, lt-leb, eq-eqb, ne_eqb, not-true}
use Rattle.slices.specs.Lists.{any, Mem}
use Rattle.slices.proofs.Tests.{and_l, and_r, both, clash, refute, or-not, or_right, same_or_not}
use Rattle.slices.proofs.Counts.{any-intro, any-elim}
use Rattle.morton.specs.Keys.{deepest, level_of, code_of, valid, parent, under}
use Rattle.morton.proofs.Cells.{level-parent}
use Rattle.tree.specs.Nodes.{stored, child_of, leaf}
use Rattle.tree.proofs.Members.{mem-stored}
use Rattle.tree.proofs.Under.{under-facts, facts-under, under-trans}
use Rattle.tree.specs.Order.{before}
use Rattle.tree.specs.Pass.{follows, may_own}
use Rattle.tree.proofs.Rules.{Ascending, Tree}
use Rattle.tree.proofs.Ranges.{nested, same-level, parent-under, level-le, level-pos}
use Rattle.tree.proofs.Laws.{parent-holds, leaf-is}

-- the row test, as facts
pub record Follows (d p k : ℕ) : Type 0 where
  pub some : 0 < level_of k
  pub most : level_of k ≤ 16
  pub held : under d (parent d k) p ≡ true
  pub after : before d p k ≡ true

pub follow-facts : (d p k : ℕ) → follows d p k ≡ true → Follows d p k
unfolding follows
follow-facts d p k h =
    let r1 = and_r (ltb 0 (level_of k)) _ h in
    let r2 = and_r (leb (level_of k) 16) _ r1 in
    record {
      some = ltb-true 0 (level_of k) (and_l _ _ h);
      most = leb-true (level_of k) 16 (and_l _ _ r1);
      held = and_l _ _ r2;
      after = and_r (under d (parent d k) p) _ r2;
    }

pub facts-follow : (d p k : ℕ) → Follows d p k → follows d p k ≡ true
unfolding follows
facts-follow d p k f = both (lt-ltb 0 (level_of k) f.some) (both (le-leb (level_of k) 16 f.most) (both f.held f.after))

-- a key is valid if it is deep enough and lies in the root
valid-under : (d k : ℕ) → valid d k ≡ true → under d 0 k ≡ true
valid-under d k v =
    let c = ltb-true (code_of k) (2 ^ (d * level_of k)) (and_r (leb (level_of k) 16) _ v) in
    let q = (div-lt_iff_lt-mul {k = 2 ^ (d * level_of k)} {x = code_of k} {y = 1} (pow_pos (d * level_of k))).1 (rw one-mul c) in
    facts-under d 0 k (record { level = omega arith; code = let z : level_of k - level_of 0 ≡ level_of k = omega arith in rw z (omega arith) })

under-valid : (d k : ℕ) → level_of k ≤ 16 → under d 0 k ≡ true → valid d k ≡ true
under-valid d k l u =
    let z : level_of k - level_of 0 ≡ level_of k = omega arith in
    let e = rw z at (under-facts d 0 k u).code in
    let q = (div-lt_iff_lt-mul {k = 2 ^ (d * level_of k)} {x = code_of k} {y = 1} (pow_pos (d * level_of k))).0 (omega arith) in
    both (le-leb (level_of k) 16 l) (lt-ltb (code_of k) (2 ^ (d * level_of k)) (rw one-mul at q))

-- a key that follows a valid one is valid
pub valid-next : (d p k : ℕ) → valid d p ≡ true → Follows d p k → valid d k ≡ true
valid-next d p k v f =
    let lp = leb-true (level_of p) 16 (and_l _ _ v) in
    let u = nested d 0 (parent d k) p lp (omega arith) (valid-under d p v) f.held in
    under-valid d k f.most (under-trans d 0 (parent d k) k u (parent-under d k f.some))

module _ (d : ℕ) (keys : List ℕ) (root : get_or keys 0 0 ≡ 0) (some : 0 < length keys) (steps : (j : ℕ) → suc j < length keys → Follows d (get_or keys j 0) (get_or keys (suc j) 0)) where
  -- every cell that holds a node is one
  holders : (i a : ℕ) → i < length keys → under d a (get_or keys i 0) ≡ true → Mem a keys
  holders zero a l u =
      let e = (under-facts d a (get_or keys 0 0) u).level in
      (0, l, same-level d a (get_or keys 0 0) u (omega (arith, ap level_of root)))
  holders (suc i) a l u = go (dec_lt (level_of a) (level_of (get_or keys (suc i) 0))) (steps i l) (holders i a (omega arith))
    where
      go : Dec (level_of a < level_of (get_or keys (suc i) 0)) → Follows d (get_or keys i 0) (get_or keys (suc i) 0) → (under d a (get_or keys i 0) ≡ true → Mem a keys) → Mem a keys
      go (no n) f ih = (suc i, l, same-level d a (get_or keys (suc i) 0) u (omega arith))
      go (yes h) f ih =
          let v = nested d a (parent d (get_or keys (suc i) 0)) (get_or keys (suc i) 0) f.most (omega (arith, level-parent d (get_or keys (suc i) 0))) u (parent-under d (get_or keys (suc i) 0) f.some) in
          ih (under-trans d a (parent d (get_or keys (suc i) 0)) (get_or keys i 0) v f.held)

  pub rows-tree : ((j : ℕ) → j < length keys → valid d (get_or keys j 0) ≡ true) → Tree d keys
  rows-tree sound = record {
    ascending = record { root = root; sound = sound; ordered = λ j l. (steps j l).after };
    parents = found;
  }
    where
      found : (i : ℕ) → 0 < i → i < length keys → stored keys (parent d (get_or keys i 0)) ≡ true
      found zero p l = absurd (omega arith)
      found (suc i) p l = mem-stored keys (parent d (get_or keys (suc i) 0)) (holders i (parent d (get_or keys (suc i) 0)) (omega arith) (steps i l).held)

module _ (d : ℕ) (keys own : List ℕ) (t : Tree d keys) where
  pub tree-follows : (i : ℕ) → suc i < length keys → follows d (get_or keys i 0) (get_or keys (suc i) 0) ≡ true
  tree-follows i l = facts-follow d (get_or keys i 0) (get_or keys (suc i) 0) (record {
    some = level-pos d keys t.ascending (suc i) (omega arith) l;
    most = level-le d keys t.ascending (suc i) l;
    held = parent-holds d keys t i l;
    after = t.ascending.ordered i l;
  })

  -- the first node is no leaf
  pub root-no-leaf : leaf d keys (get_or keys 0 0) ≡ false
  root-no-leaf = Rattle.tree.proofs.Members.root-no-leaf d keys (get_or keys 0 0) t.ascending.root

  -- a node is no leaf if the next is deeper
  pub inner-next : (i : ℕ) → suc i < length keys → level_of (get_or keys i 0) < level_of (get_or keys (suc i) 0) → leaf d keys (get_or keys i 0) ≡ false
  inner-next i l h = go (dec_lt 0 i)
    where
      go : Dec (0 < i) → leaf d keys (get_or keys i 0) ≡ false
      go (yes p) = leaf-is d keys t i p (omega arith) ∙ rw (lt-leb (length keys) (suc i) l, lt-leb (level_of (get_or keys (suc i) 0)) (level_of (get_or keys i 0)) h)
      go (no n) = let z : i ≡ 0 = omega arith in rw z root-no-leaf

  -- own counts: the test of each pair of rows and the rule are one
  pub inner-may : ((i : ℕ) → i < length keys → leaf d keys (get_or keys i 0) ≡ false → get_or own i 0 ≡ 0)
      → (i : ℕ) → suc i < length keys → may_own (get_or keys i 0) (get_or keys (suc i) 0) (get_or own i 0) ≡ true
  inner-may inner i l = or_right (leb (level_of (get_or keys (suc i) 0)) (level_of (get_or keys i 0))) _ (λ e.
      eq-eqb (get_or own i 0) 0 (inner i (omega arith) (inner-next i l (leb-false (level_of (get_or keys (suc i) 0)) (level_of (get_or keys i 0)) e))))

  pub may-inner : get_or own 0 0 ≡ 0 → ((i : ℕ) → suc i < length keys → may_own (get_or keys i 0) (get_or keys (suc i) 0) (get_or own i 0) ≡ true)
      → (i : ℕ) → i < length keys → leaf d keys (get_or keys i 0) ≡ false → get_or own i 0 ≡ 0
  may-inner none may i l f = go (dec_lt 0 i)
    where
      go : Dec (0 < i) → get_or own i 0 ≡ 0
      go (no n) = let z : i ≡ 0 = omega arith in rw z none
      go (yes p) = by (dec_lt (suc i) (length keys)) (sym (leaf-is d keys t i p l) ∙ f)
        where
          by : Dec (suc i < length keys) → (leb (length keys) (suc i) || leb (level_of (get_or keys (suc i) 0)) (level_of (get_or keys i 0))) ≡ false → get_or own i 0 ≡ 0
          by (no n) e = absurd (clash (rw (le-leb (length keys) (suc i) (omega arith))) e)
          by (yes s) e = eqb-true (get_or own i 0) 0 (or-not (leb (level_of (get_or keys (suc i) 0)) (level_of (get_or keys i 0))) _ (may i s) (rw (lt-leb (length keys) (suc i) s) at e))
