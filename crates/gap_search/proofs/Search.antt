-- The way down, level by level.
use mathlib.Core.Path.{◌≡◌, refl, sym, ap, ◌∙◌, subst}
use mathlib.Core.Bool.{Bool, true, false, ◌&&◌, not}
use mathlib.Core.List.{List}
use mathlib.Core.Logic.{◌⊎◌, inl, inr}
use Prim.Native.Nat.{ℕ, suc, ◌+◌, ◌*◌, ◌-◌, ◌/◌, ◌^◌, ◌≤◌, ◌<◌}
use native.Mathlib.Omega.{arith}
use native.Mathlib.Nat.{div-eq_of_lt}
use lib.Dec.{ltb, eqb}
use lib.ListN.{length, get_or}
use borrow.Author.Tests.{ltb-true, lt-ltb, le-ltb, eqb-true, ne_eqb}
use Rattle.slices.specs.Lists.{any, Mem}
use Rattle.slices.proofs.Tests.{and_l, and_r, both, clash, refute, lt-or-le}
use Rattle.slices.proofs.Counts.{any-elim}
use Rattle.morton.specs.Keys.{deepest, level_of, above, parent}
use Rattle.morton.proofs.Cells.{key-level, level-parent}
use Rattle.tree.specs.Nodes.{stored, child_of, leaf}
use Rattle.tree.specs.Leaves.{cell_of}
use Rattle.tree.specs.Order.{before}
use Rattle.tree.specs.Finding.{TreeKeys, FirstFrom}
use Rattle.tree.proofs.Rules.{ascend-facts}
use Rattle.tree.proofs.Ranges.{level-le, earlier-at}
use Rattle.tree.proofs.Stored.{mem-stored}
use Rattle.tree.proofs.Spans.{earlier, earlier-not, before_of}
use Rattle.gap_search.specs.Search.{Inner, GapLevel}

-- the cells above this level are nodes with children
pub record Way (d : ℕ) (keys : List ℕ) (code l : ℕ) : Type 0 where
  pub least : 1 ≤ l
  pub most : l ≤ 16
  pub parted : Mem (cell_of d (l - 1) code) keys
  pub parted_inner : leaf d keys (cell_of d (l - 1) code) ≡ false

pub inner-is : (d : ℕ) (keys : List ℕ) (i cell : ℕ) (r b : Bool) → r ≡ b → Inner d keys i cell r → Inner d keys i cell b
inner-is d keys i cell r b e n = subst (Inner d keys i cell) e n

-- what a test of a node tells
pub no_node : (d : ℕ) (keys : List ℕ) (i cell : ℕ) → length keys ≤ i → Inner d keys i cell false
no_node d keys i cell h = λ l e. absurd (omega (arith, h, l))

pub other-node : (d : ℕ) (keys : List ℕ) (i cell : ℕ) → (get_or keys i 0 ≡ cell → ⊥) → Inner d keys i cell false
other-node d keys i cell h = λ l e. absurd (h e)

pub by-leaf : (d : ℕ) (keys : List ℕ) (i cell : ℕ) (r : Bool) → i < length keys → get_or keys i 0 ≡ cell → r ≡ leaf d keys (get_or keys i 0) → Inner d keys i cell (not r)
by-leaf d keys i cell true h e q = λ _ _. ap (leaf d keys) (sym e) ∙ sym q
by-leaf d keys i cell false h e q = (h, e, ap (leaf d keys) (sym e) ∙ sym q)

module _ (d : ℕ) (keys : List ℕ) (t : TreeKeys d keys) (code : ℕ) (small : code < 2 ^ (d * 16)) where
  root-cell : cell_of d 0 code ≡ 0
  root-cell = ap (λ (c : ℕ). c * 32768 + 0) (div-eq_of_lt small)

  root-inner : leaf d keys 0 ≡ false
  unfolding leaf
  root-inner = refute (λ h. clash (and_r (stored keys 0) false h) refl)

  pub way-start : Way d keys code 1
  way-start = record {
    least = omega arith;
    most = omega arith;
    parted = (0, t.some, (ascend-facts d keys t.ascend).root ∙ sym root-cell);
    parted_inner = ap (leaf d keys) root-cell ∙ root-inner;
  }

  -- a node that is the cell is the first that does not come before it
  at_first : (cell i : ℕ) → level_of cell ≤ 16 → FirstFrom d keys cell i → Mem cell keys → (i < length keys) × (get_or keys i 0 ≡ cell)
  at_first cell i v f (j, l, e) = go (lt-or-le j i) (lt-or-le i j)
    where
      self : before d cell cell ≡ true → ⊥
      self b = let r = earlier d cell cell v v b in earlier-not d cell cell r r

      go : (j < i) ⊎ (i ≤ j) → (i < j) ⊎ (j ≤ i) → (i < length keys) × (get_or keys i 0 ≡ cell)
      go (inl h) _ = absurd (self (subst (λ (x : ℕ). before d x cell ≡ true) e (f.splits t.ascend v j l ∙ lt-ltb j i h)))
      go (inr h) (inl q) =
          let a = ascend-facts d keys t.ascend in
          let b = subst (λ (x : ℕ). before d (get_or keys i 0) x ≡ true) e (before_of d (get_or keys i 0) (get_or keys j 0) (level-le d keys a i (omega arith)) (level-le d keys a j l) (earlier-at d keys a i j q l)) in
          absurd (clash b (f.splits t.ascend v i (omega arith) ∙ le-ltb i i (omega arith)))
      go (inr h) (inr q) = let s : j ≡ i = omega arith in (omega arith, ap (λ (x : ℕ). get_or keys x 0) (sym s) ∙ e)

  cell-level : (l : ℕ) → l ≤ 16 → level_of (cell_of d l code) ≤ 16
  cell-level l h = omega (arith, key-level l (above d (deepest - l) code) (omega arith), h)

  pub way-stop : (l cell i : ℕ) → Way d keys code l → cell ≡ cell_of d l code → FirstFrom d keys cell i → Inner d keys i cell false → GapLevel d keys code l
  way-stop l cell i w e f n = record {
    least = w.least;
    most = w.most;
    parted = w.parted;
    parted_inner = w.parted_inner;
    lowest = λ m. subst (λ (x : ℕ). Mem x keys → leaf d keys x ≡ true) e
        (λ m'. let (a, b) = at_first cell i (subst (λ (x : ℕ). level_of x ≤ 16) (sym e) (cell-level l w.most)) f m' in n a b) m;
  }

  pub way_on : (l cell i : ℕ) → Way d keys code l → l < 16 → cell ≡ cell_of d l code → Inner d keys i cell true → Way d keys code (l + 1)
  way_on l cell i w h e n =
      let s : l + 1 - 1 ≡ l = omega arith in
      record {
        least = omega arith;
        most = omega arith;
        parted = subst (λ (x : ℕ). Mem (cell_of d x code) keys) (sym s) (i, n.0, n.1 ∙ e);
        parted_inner = subst (λ (x : ℕ). leaf d keys (cell_of d x code) ≡ false) (sym s) (ap (leaf d keys) (sym e) ∙ n.2);
      }

  l₁₆ : level_of (cell_of d 16 code) ≡ 16
  l₁₆ = key-level 16 (above d (deepest - 16) code) (omega arith)

  none-deeper : any (child_of d (cell_of d 16 code)) keys ≡ false
  none-deeper = refute (λ q.
      let (x, (j, lj, ej), c) = any-elim (child_of d (cell_of d 16 code)) keys q in
      let v = subst (λ (y : ℕ). level_of y ≤ 16) ej (level-le d keys (ascend-facts d keys t.ascend) j lj) in
      let p = eqb-true (parent d x) (cell_of d 16 code) (and_r (ltb 0 (level_of x)) _ c) in
      omega (arith, l₁₆, v, level-parent d x, ap level_of p, ltb-true 0 (level_of x) (and_l _ _ c)))

  deepest-leaf : Mem (cell_of d 16 code) keys → leaf d keys (cell_of d 16 code) ≡ true
  unfolding leaf
  deepest-leaf m = both (mem-stored keys (cell_of d 16 code) m) (both (ap not (ne_eqb (cell_of d 16 code) 0 (λ e. omega (arith, l₁₆, ap level_of e)))) (ap not none-deeper))

  -- a node of level 16 is a leaf: no key is deeper
  pub way_end : (l : ℕ) → Way d keys code l → 16 ≤ l → GapLevel d keys code 16
  way_end l w h =
      let s : l ≡ 16 = omega (arith, w.most) in
      record {
        least = omega arith;
        most = omega arith;
        parted = subst (λ (x : ℕ). Mem (cell_of d (x - 1) code) keys) s w.parted;
        parted_inner = subst (λ (x : ℕ). leaf d keys (cell_of d (x - 1) code) ≡ false) s w.parted_inner;
        lowest = deepest-leaf;
      }
