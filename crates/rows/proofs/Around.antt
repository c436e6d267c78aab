-- The tests of U and V by a list of a cell's neighbours, in document 01's words: at or under itself and its neighbours; children of its parent's neighbours.
use mathlib.Core.Path.{◌≡◌, refl, sym, ap, ap₂, ◌∙◌, subst}
use mathlib.Core.Bool.{Bool, true, false, ◌&&◌, ◌||◌, not}
use mathlib.Core.List.{List, [], ◌∷◌}
use Prim.Native.Nat.{ℕ, zero, suc, ◌+◌, ◌*◌, ◌-◌, ◌/◌, ◌%◌, ◌^◌, ◌≤◌, ◌<◌}
use native.Mathlib.Omega.{arith}
use native.Mathlib.Nat.{mul-add}
use lib.Dec.{leb, ltb, eqb}
use lib.ListN.{length, get_or}
use lib.Pow.{shr_lt}
use borrow.Author.Tests.{ltb-true, leb-true, eqb-true, eqb-false, lt-ltb, le-leb, eq-eqb, ne_eqb, not-true}
use Rattle.slices.specs.Every.{every}
use Rattle.slices.specs.Lists.{any, Mem}
use Rattle.slices.proofs.Tests.{and_l, and_r, both}
use Rattle.slices.proofs.Counts.{here, there, any-intro, any-elim}
use Rattle.morton.specs.Keys.{key, level_of, code_of, above, valid, ValidKey, parent, under}
use Rattle.morton.specs.Anchors.{near, anchor, touching, within1}
use Rattle.neighbours.specs.Directions.{neighbours}
use Rattle.morton.proofs.Checks.{valid-facts, facts-valid}
use Rattle.neighbours.proofs.Laws.{neighbours-are}
use Rattle.morton.proofs.Cells.{above-one, key-parts, level_begins, code_at, level-parent, code-parent}
use Rattle.morton.proofs.Nearness.{within, within-lo, within-hi}
use Rattle.tree.specs.Nodes.{cell_at, child_of}
use Rattle.slices.proofs.Tests.{same_test}
use Rattle.tree.proofs.Sourced.{Under, under-facts, facts-under}
use Rattle.rows.specs.Lists.{neighbour, at_or_under}

-- a list of a cell's neighbours: those of its cells that are valid
pub record Around (d k : ℕ) (cells : List ℕ) : Type 0 where
  pub are : (c : ℕ) → Mem c cells → neighbour d k c ≡ true
  pub all : (c : ℕ) → valid d c ≡ true → neighbour d k c ≡ true → Mem c cells

near-self : (n d level x : ℕ) → near n d level x x ≡ true
unfolding near every
near-self zero d level x = refl
near-self (suc n) d level x = both (within (anchor d n level x) (anchor d n level x) (omega arith) (omega arith)) (near-self n d level x)

near-sym : (n d level x y : ℕ) → near n d level x y ≡ true → near n d level y x ≡ true
unfolding near every
near-sym zero d level x y h = refl
near-sym (suc n) d level x y h =
    let w : within1 (anchor d n level x) (anchor d n level y) ≡ true = and_l _ _ h in
    both (within (anchor d n level y) (anchor d n level x) (within-hi (anchor d n level x) (anchor d n level y) w) (within-lo (anchor d n level x) (anchor d n level y) w))
    (near-sym n d level x y (and_r (within1 (anchor d n level x) (anchor d n level y)) _ h))

pub touching-sym : (d j k : ℕ) → touching d j k ≡ true → touching d k j ≡ true
touching-sym d j k t =
    let e = eqb-true (level_of j) (level_of k) (and_l _ _ t) in
    both (eq-eqb (level_of k) (level_of j) (sym e))
    (subst (λ l. near d d l (code_of k) (code_of j) ≡ true) e (near-sym d d (level_of j) (code_of j) (code_of k) (and_r (eqb (level_of j) (level_of k)) _ t)))

pub touching-self : (d k : ℕ) → touching d k k ≡ true
touching-self d k = both (eq-eqb (level_of k) (level_of k) refl) (near-self d d (level_of k) (code_of k))

-- the neighbours of a valid cell, which the key algebra lists
pub around : (d k : ℕ) → ValidKey d k → Around d k (neighbours d k)
around d k v = record {
  are = λ c m. let (w, t, n) = (neighbours-are d k v c).0 m in both (touching-sym d c k t) (rw (ne_eqb k c (λ e. n (sym e))));
  all = λ c w h. (neighbours-are d k v c).1
      (valid-facts d c (facts-valid d k v).0 w, touching-sym d k c (and_l _ _ h), λ e. eqb-false k c (not-true _ (and_r (touching d k c) _ h)) (sym e));
}

-- what holds a valid cell is valid
pub valid-at : (d l k : ℕ) → l ≤ level_of k → valid d k ≡ true → valid d (cell_at d l k) ≡ true
valid-at d l k h v =
    let deep = leb-true (level_of k) 16 (and_l _ _ v) in
    let small = ltb-true (code_of k) (2 ^ (d * level_of k)) (and_r (leb (level_of k) 16) _ v) in
    let e : level_of k ≡ l + (level_of k - l) = omega arith in
    let less : code_of k < 2 ^ (d * l + d * (level_of k - l)) = subst (λ n. code_of k < 2 ^ n) (ap (d *◌) e ∙ mul-add d l (level_of k - l)) small in
    both (le-leb (level_of (cell_at d l k)) 16 (omega (arith, level_begins d l k h)))
    (lt-ltb (code_of (cell_at d l k)) (2 ^ (d * level_of (cell_at d l k))) (rw (level_begins d l k h, code_at d l k h) (shr_lt (d * l) (d * (level_of k - l)) less)))

pub valid-parent : (d k : ℕ) → 0 < level_of k → valid d k ≡ true → valid d (parent d k) ≡ true
valid-parent d k h v =
    let one : level_of k - (level_of k - 1) ≡ 1 = omega arith in
    let e : cell_at d (level_of k - 1) k ≡ parent d k = ap (key (level_of k - 1)) (rw one (above-one d (code_of k))) in
    subst (λ c. valid d c ≡ true) e (valid-at d (level_of k - 1) k (omega arith) v)

-- at or under itself and its neighbours
pub by-neighbours : (d b s : ℕ) (cells : List ℕ) → Around d b cells → valid d s ≡ true → at_or_under d b s ≡ any (λ c. under d c s) (b ∷ cells)
by-neighbours d b s cells around v = same_test (at_or_under d b s) (any (λ c. under d c s) (b ∷ cells)) there-is holds
  where
    held : (c : ℕ) → touching d b c ≡ true → under d c s ≡ true → at_or_under d b s ≡ true
    held c t h =
        let u = under-facts d c s h in
        let l = eqb-true (level_of b) (level_of c) (and_l _ _ t) in
        let e : cell_at d (level_of b) s ≡ c = ap (λ n. cell_at d n s) l ∙ ap (key (level_of c)) u.code ∙ key-parts c in
        both (le-leb (level_of b) (level_of s) (omega (arith, u.level))) (subst (λ x. touching d b x ≡ true) (sym e) t)

    touches : (c : ℕ) → Mem c (b ∷ cells) → touching d b c ≡ true
    touches c (zero, l, e) = subst (λ x. touching d b x ≡ true) e (touching-self d b)
    touches c (suc i, l, e) = and_l _ _ (around.are c (i, omega arith, e))

    holds : any (λ c. under d c s) (b ∷ cells) ≡ true → at_or_under d b s ≡ true
    holds h = let (c, m, u) = any-elim (λ c. under d c s) (b ∷ cells) h in held c (touches c m) u

    there-is : at_or_under d b s ≡ true → any (λ c. under d c s) (b ∷ cells) ≡ true
    there-is h =
        let l = leb-true (level_of b) (level_of s) (and_l _ _ h) in
        let t = and_r (leb (level_of b) (level_of s)) _ h in
        any-intro (λ c. under d c s) (b ∷ cells) (cell_at d (level_of b) s) (go (eqb b (cell_at d (level_of b) s)) refl l t)
        (facts-under d (cell_at d (level_of b) s) s (record {
          level = omega (arith, level_begins d (level_of b) s l);
          code = rw (level_begins d (level_of b) s l) (sym (code_at d (level_of b) s l));
        }))
      where
        go : (t : Bool) → eqb b (cell_at d (level_of b) s) ≡ t → level_of b ≤ level_of s → touching d b (cell_at d (level_of b) s) ≡ true → Mem (cell_at d (level_of b) s) (b ∷ cells)
        go true e l t = subst (λ x. Mem x (b ∷ cells)) (eqb-true b (cell_at d (level_of b) s) e) (here b cells)
        go false e l t = there b (cell_at d (level_of b) s) cells (around.all (cell_at d (level_of b) s) (valid-at d (level_of b) s l v) (both t (rw e refl)))

-- children of its parent's neighbours
pub by-cousins : (d b c : ℕ) (cells : List ℕ) → Around d (parent d b) cells → valid d c ≡ true
    → (ltb 0 (level_of c) && neighbour d (parent d b) (parent d c)) ≡ any (λ p. child_of d p c) cells
by-cousins d b c cells around v = same_test (ltb 0 (level_of c) && neighbour d (parent d b) (parent d c)) (any (λ p. child_of d p c) cells) there-is holds
  where
    there-is : (ltb 0 (level_of c) && neighbour d (parent d b) (parent d c)) ≡ true → any (λ p. child_of d p c) cells ≡ true
    there-is h =
        let p = and_l (ltb 0 (level_of c)) _ h in
        any-intro (λ p. child_of d p c) cells (parent d c)
        (around.all (parent d c) (valid-parent d c (ltb-true 0 (level_of c) p) v) (and_r (ltb 0 (level_of c)) _ h)) (both p (eq-eqb (parent d c) (parent d c) refl))

    holds : any (λ p. child_of d p c) cells ≡ true → (ltb 0 (level_of c) && neighbour d (parent d b) (parent d c)) ≡ true
    holds h =
        let (p, m, e) = any-elim (λ p. child_of d p c) cells h in
        both (and_l (ltb 0 (level_of c)) _ e) (subst (λ x. neighbour d (parent d b) x ≡ true) (sym (eqb-true (parent d c) p (and_r (ltb 0 (level_of c)) _ e))) (around.are p m))
