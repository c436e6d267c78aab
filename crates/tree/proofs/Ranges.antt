-- A tree's nodes by number: what lies under a node is a range of numbers, which begins at the node (Z1 to Z3).
use mathlib.Core.Path.{◌≡◌, refl, sym, ap, ap₂, ◌∙◌, subst}
use mathlib.Core.Bool.{Bool, true, false, ◌&&◌, ◌||◌, not}
use mathlib.Core.List.{List, [], ◌∷◌}
use mathlib.Core.Logic.{◌⊎◌, inl, inr}
use Prim.Native.Nat.{ℕ, zero, suc, ◌+◌, ◌*◌, ◌-◌, ◌/◌, ◌%◌, ◌^◌, ◌≤◌, ◌<◌}
use native.Mathlib.Omega.{arith}
use native.Mathlib.Nat.{eq-or-lt_of_le, le_of_suc-le-suc, not-suc-le-zero, mul-zero}
use native.Mathlib.Decide.{dec_lt}
use lib.Dec.{leb, ltb, eqb}
use lib.ListN.{length, get_or}
use borrow.Author.Tests.{ltb-true, leb-true, eqb-true, lt-ltb, le-ltb, le-leb, lt-leb, eq-eqb, ne_eqb, not-true}
use Rattle.slices.specs.Lists.{any, Mem, Distinct}
use Rattle.slices.proofs.Tests.{and_l, and_r, both, clash, refute, same_test}
use Rattle.slices.proofs.Counts.{any-intro, any-elim}
use Rattle.morton.specs.Keys.{key, level_of, code_of, above, valid, parent, under}
use Rattle.morton.proofs.Cells.{key-parts, level_begins, code_at, at_self, level-parent, code-parent, parent-at, above_zero, above-one}
use Rattle.tree.specs.Nodes.{cell_at, stored, child_of, leaf}
use Rattle.tree.proofs.Members.{stored-mem, mem-stored}
use Rattle.tree.proofs.Under.{Under, under-facts, facts-under, under-self, under-trans, child-under}
use Rattle.tree.specs.Order.{before}
use Rattle.tree.proofs.Spans.{first, size, size-pos, Earlier, earlier, earlier-trans, earlier-not, under-span, span-under, apart, same-cell}
use Rattle.tree.proofs.Rules.{Ascending, Tree}

-- of two cells that hold one, the coarser holds the other
pub nested : (d a b x : ℕ) → level_of x ≤ 16 → level_of a ≤ level_of b → under d a x ≡ true → under d b x ≡ true → under d a b ≡ true
nested d a b x lx l ua ub =
    let p = under-span d a x lx ua in
    let q = under-span d b x lx ub in
    go (under d a b) refl p q
  where
    go : (t : Bool) → under d a b ≡ t → (level_of a ≤ level_of x) × (first d a ≤ first d x) × (first d x + size d x ≤ first d a + size d a)
        → (level_of b ≤ level_of x) × (first d b ≤ first d x) × (first d x + size d x ≤ first d b + size d b) → under d a b ≡ true
    go true e p q = e
    go false e p q = out (apart d a b (omega (arith, q.0)) l e)
      where
        out : (first d b + size d b ≤ first d a) ⊎ (first d a + size d a ≤ first d b) → under d a b ≡ true
        out (inl h) = absurd (omega (arith, p.1, q.2, size-pos d x))
        out (inr h) = absurd (omega (arith, p.2, q.1, size-pos d x))

-- a cell of one level with one that holds it is that one
pub same-level : (d a b : ℕ) → under d a b ≡ true → level_of b ≤ level_of a → b ≡ a
same-level d a b u l =
    let f = under-facts d a b u in
    let z : level_of b - level_of a ≡ 0 = omega arith in
    sym (key-parts b) ∙ ap₂ key (omega (arith, f.level)) (sym (above_zero d (code_of b)) ∙ rw z at f.code) ∙ key-parts a

-- a cell lies under its parent
pub parent-under : (d x : ℕ) → 0 < level_of x → under d (parent d x) x ≡ true
parent-under d x h = child-under d (parent d x) x (both (lt-ltb 0 (level_of x) h) (eq-eqb (parent d x) (parent d x) refl))

-- one that holds a cell one level below it is its parent
pub parent_is : (d a x : ℕ) → under d a x ≡ true → level_of x ≡ suc (level_of a) → parent d x ≡ a
parent_is d a x u e =
    let c = (under-facts d a x u).code in
    let o : level_of x - level_of a ≡ 1 = omega arith in
    let z : level_of x - 1 ≡ level_of a = omega arith in
    ap₂ key z (sym (above-one d (code_of x)) ∙ rw o at c) ∙ key-parts a

module _ (d : ℕ) (keys : List ℕ) (asc : Ascending d keys) where
  pub level-le : (i : ℕ) → i < length keys → level_of (get_or keys i 0) ≤ 16
  level-le i l = leb-true (level_of (get_or keys i 0)) 16 (and_l _ _ (asc.sound i l))

  pub code_lt : (i : ℕ) → i < length keys → code_of (get_or keys i 0) < 2 ^ (d * level_of (get_or keys i 0))
  code_lt i l = ltb-true (code_of (get_or keys i 0)) (2 ^ (d * level_of (get_or keys i 0))) (and_r (leb (level_of (get_or keys i 0)) 16) _ (asc.sound i l))

  -- each node comes before all later ones
  pub earlier-at : (i j : ℕ) → i < j → j < length keys → Earlier d (get_or keys i 0) (get_or keys j 0)
  earlier-at i zero h l = absurd (not-suc-le-zero h)
  earlier-at i (suc j) h l = go (eq-or-lt_of_le (le_of_suc-le-suc h)) (λ n. earlier-at i j n (omega arith))
    where
      last : Earlier d (get_or keys j 0) (get_or keys (suc j) 0)
      last = earlier d (get_or keys j 0) (get_or keys (suc j) 0) (level-le j (omega arith)) (level-le (suc j) l) (asc.ordered j l)

      go : (i ≡ j) ⊎ (i < j) → (i < j → Earlier d (get_or keys i 0) (get_or keys j 0)) → Earlier d (get_or keys i 0) (get_or keys (suc j) 0)
      go (inl e) ih = rw e last
      go (inr n) ih = earlier-trans d (get_or keys i 0) (get_or keys j 0) (get_or keys (suc j) 0) (ih n) last

  pub first-mono : (i j : ℕ) → i ≤ j → j < length keys → first d (get_or keys i 0) ≤ first d (get_or keys j 0)
  first-mono i j h l = go (eq-or-lt_of_le h)
    where
      go : (i ≡ j) ⊎ (i < j) → first d (get_or keys i 0) ≤ first d (get_or keys j 0)
      go (inl e) = rw e (omega arith)
      go (inr n) = (earlier-at i j n l).0

  pub distinct : Distinct keys
  distinct i j li lj e = go (dec_lt i j) (dec_lt j i)
    where
      go : Dec (i < j) → Dec (j < i) → i ≡ j
      go (yes l) _ = absurd (omega (arith, (earlier-at i j l lj).1 (ap (first d) e), ap level_of e))
      go (no n) (yes l) = absurd (omega (arith, (earlier-at j i l li).1 (ap (first d) (sym e)), ap level_of e))
      go (no n) (no m) = omega arith

  -- what lies under a node has no lower number
  pub under-later : (i j : ℕ) → i < length keys → j < length keys → under d (get_or keys i 0) (get_or keys j 0) ≡ true → i ≤ j
  under-later i j li lj u = go (dec_lt j i)
    where
      go : Dec (j < i) → i ≤ j
      go (yes l) =
          let p = under-span d (get_or keys i 0) (get_or keys j 0) (level-le j lj) u in
          let q = earlier-at j i l li in
          absurd (omega (arith, p.0, q.1 (omega (arith, p.1, q.0))))
      go (no n) = omega arith

  -- what begins before a node's last code, and not before the node, lies under it
  pub within-under : (i m : ℕ) → i ≤ m → m < length keys → first d (get_or keys m 0) < first d (get_or keys i 0) + size d (get_or keys i 0) → under d (get_or keys i 0) (get_or keys m 0) ≡ true
  within-under i m h l below = go (eq-or-lt_of_le h)
    where
      go : (i ≡ m) ⊎ (i < m) → under d (get_or keys i 0) (get_or keys m 0) ≡ true
      go (inl e) = rw e (under-self d (get_or keys m 0))
      go (inr n) = fits (dec_lt (level_of (get_or keys m 0)) (level_of (get_or keys i 0))) (earlier-at i m n l)
        where
          fits : Dec (level_of (get_or keys m 0) < level_of (get_or keys i 0)) → Earlier d (get_or keys i 0) (get_or keys m 0) → under d (get_or keys i 0) (get_or keys m 0) ≡ true
          fits (no s) e = span-under d (get_or keys i 0) (get_or keys m 0) (level-le m l) (omega arith) e.0 below
          -- a coarser one would hold node i, and so come before it
          fits (yes s) e = coarse (under d (get_or keys m 0) (get_or keys i 0)) refl
            where
              coarse : (t : Bool) → under d (get_or keys m 0) (get_or keys i 0) ≡ t → under d (get_or keys i 0) (get_or keys m 0) ≡ true
              coarse true v = absurd (omega (arith, under-later m i l (omega arith) v))
              coarse false v = out (apart d (get_or keys m 0) (get_or keys i 0) (level-le i (omega arith)) (omega arith) v)
                where
                  out : (first d (get_or keys i 0) + size d (get_or keys i 0) ≤ first d (get_or keys m 0)) ⊎ (first d (get_or keys m 0) + size d (get_or keys m 0) ≤ first d (get_or keys i 0)) → under d (get_or keys i 0) (get_or keys m 0) ≡ true
                  out (inl a) = absurd (omega arith)
                  out (inr a) = absurd (omega (arith, e.0, size-pos d (get_or keys m 0)))

  -- the range is without gaps
  pub under-between : (i m j : ℕ) → i ≤ m → m ≤ j → j < length keys → under d (get_or keys i 0) (get_or keys j 0) ≡ true → under d (get_or keys i 0) (get_or keys m 0) ≡ true
  under-between i m j h g l u =
      let p = under-span d (get_or keys i 0) (get_or keys j 0) (level-le j l) u in
      within-under i m h (omega arith) (omega (arith, first-mono m j g l, p.2, size-pos d (get_or keys j 0)))

  -- the same cell twice: one number
  pub same_number : (i j : ℕ) → i < length keys → j < length keys → under d (get_or keys i 0) (get_or keys j 0) ≡ true → level_of (get_or keys j 0) ≤ level_of (get_or keys i 0) → j ≡ i
  same_number i j li lj u l = distinct j i lj li (same-level d (get_or keys i 0) (get_or keys j 0) u l)

  -- nodes other than the first have a level of at least 1
  pub level-pos : (i : ℕ) → 0 < i → i < length keys → 0 < level_of (get_or keys i 0)
  level-pos i p l = go (dec_lt 0 (level_of (get_or keys i 0)))
    where
      go : Dec (0 < level_of (get_or keys i 0)) → 0 < level_of (get_or keys i 0)
      go (yes h) = h
      go (no h) =
          let z : level_of (get_or keys i 0) ≡ 0 = omega arith in
          let c = rw (z, mul-zero) at (code_lt i l) in
          absurd (omega (arith, distinct i 0 l (omega arith) (omega (arith, asc.root))))
