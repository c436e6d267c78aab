-- In a tree that stores all children or none of each cell, and whose root is split, each code is held by exactly one leaf: every point moves to one new leaf.
use mathlib.Core.Path.{◌≡◌, refl, sym, ap, ap₂, ◌∙◌}
use mathlib.Core.Bool.{Bool, true, false, ◌&&◌}
use mathlib.Core.List.{List}
use mathlib.Core.Logic.{◌⊎◌, inl, inr, ⊎_elim}
use Prim.Native.Nat.{ℕ, zero, suc, ◌+◌, ◌*◌, ◌-◌, ◌/◌, ◌^◌, ◌≤◌, ◌<◌}
use native.Mathlib.Omega.{arith}
use native.Mathlib.Nat.{div-eq_of_lt, mul-add, eq-or-lt_of_le}
use lib.Pow.{shr-shr}
use Rattle.slices.specs.Lists.{count, bit, Mem, Distinct}
use Rattle.slices.proofs.Tests.{and_l, and_r, both, clash, refute, lt-or-le}
use Rattle.slices.proofs.Counts.{count-one}
use Rattle.morton.specs.Keys.{key, level_of, code_of, above, parent, holds}
use Rattle.morton.proofs.Cells.{key-level, key-code, above-up}
use Rattle.tree.specs.Nodes.{cell_at, leaf}
use Rattle.tree.specs.Leaves.{cell_of}
use Rattle.growth.proofs.Leaves.{cell_holds, holds-cell}
use Rattle.balance.specs.Balance.{Tree, AllOrNone}
use Rattle.balance.specs.Splitting.{split}
use Rattle.balance.proofs.Stored.{Leaf, leaf-facts, facts-leaf, split-mem, all-children, split-over}

module _ (d c : ℕ) where
  cell-level : (l : ℕ) → l ≤ 16 → level_of (cell_of d l c) ≡ l
  cell-level l h = key-level l (above d (16 - l) c) (omega arith)

  cell-code : (l : ℕ) → l ≤ 16 → code_of (cell_of d l c) ≡ above d (16 - l) c
  cell-code l h = key-code l (above d (16 - l) c) (omega arith)

  cell-parent : (l : ℕ) → l < 16 → parent d (cell_of d (suc l) c) ≡ cell_of d l c
  cell-parent l h = ap₂ key (omega (arith, cell-level (suc l) h)) (ap (λ (n : ℕ). n / 2 ^ d) (cell-code (suc l) h) ∙ above-up d l 16 c h)

  -- of two cells that hold the code the larger holds the smaller
  cell-within : (l m : ℕ) → l ≤ m → m ≤ 16 → cell_at d l (cell_of d m c) ≡ cell_of d l c
  cell-within l m h g =
      let e : d * (16 - m) + d * (m - l) ≡ d * (16 - l) = sym (mul-add d (16 - m) (m - l)) ∙ ap (λ (n : ℕ). d * n) (sums l m h g) in
      ap (key l) (ap₂ (λ (n x : ℕ). above d (n - l) x) (cell-level m g) (cell-code m g) ∙ shr-shr c (d * (16 - m)) (d * (m - l)) ∙ ap (λ (n : ℕ). c / 2 ^ n) e)
    where
      sums : (l m : ℕ) → l ≤ m → m ≤ 16 → 16 - m + (m - l) ≡ 16 - l
      sums l m h g = omega arith

module _ (d : ℕ) (keys : List ℕ) (t : Tree d keys) where
  -- no code is held by two leaves
  ordered : (j k c : ℕ) → level_of j ≤ level_of k → leaf d keys j ≡ true → leaf d keys k ≡ true → holds d j c ≡ true → holds d k c ≡ true → j ≡ k
  ordered j k c l lj lk hj hk = go (eq-or-lt_of_le l)
    where
      fk : Leaf d keys k
      fk = leaf-facts d keys k lk

      held : cell_at d (level_of j) k ≡ j
      held = ap (cell_at d (level_of j)) (sym (holds-cell d k c hk)) ∙ cell-within d c (level_of j) (level_of k) l (t.sound k fk.mem).level ∙ holds-cell d j c hj

      go : (level_of j ≡ level_of k) ⊎ (level_of j < level_of k) → j ≡ k
      go (inl e) = sym (holds-cell d j c hj) ∙ ap (λ (n : ℕ). cell_of d n c) e ∙ holds-cell d k c hk
      go (inr n) = absurd (clash (split-over d keys t j k held fk.mem n) (leaf-facts d keys j lj).whole)

  pub one-leaf : (j k c : ℕ) → leaf d keys j ≡ true → leaf d keys k ≡ true → holds d j c ≡ true → holds d k c ≡ true → j ≡ k
  one-leaf j k c lj lk hj hk =
      ⊎_elim (λ (l : level_of j < level_of k). ordered j k c (omega arith) lj lk hj hk) (λ (l : level_of k ≤ level_of j). sym (ordered k j c l lk lj hk hj)) (lt-or-le (level_of j) (level_of k))

  module _ (full : AllOrNone d keys) (top : split d keys 0 ≡ true) (c : ℕ) (small : c < 2 ^ (d * 16)) where
    root-cell : cell_of d 0 c ≡ 0
    root-cell = ap (key 0) (div-eq_of_lt small)

    next : (l : ℕ) → l < 16 → split d keys (cell_of d l c) ≡ true → Mem (cell_of d (suc l) c) keys
    next l h s = let e = cell-level d c (suc l) h in
        all-children d keys t full (cell_of d l c) (cell_of d (suc l) c) s (omega arith) (omega arith) (cell-parent d c l h)

    here : (l : ℕ) → 0 < l → l ≤ 16 → Mem (cell_of d l c) keys → split d keys (cell_of d l c) ≡ false → leaf d keys (cell_of d l c) ≡ true
    here l p h m s = facts-leaf d keys (cell_of d l c) (record { mem = m; below = λ z. omega (arith, ap level_of z, cell-level d c l h); whole = s })

    find : (n l : ℕ) → l + n ≡ 16 → 0 < l → Mem (cell_of d l c) keys → (m : ℕ) × (m ≤ 16) × (leaf d keys (cell_of d m c) ≡ true)
    find zero l e p m = (l, omega arith, here l p (omega arith) m (refute (λ s. omega (arith, (split-mem d keys t (cell_of d l c) s).1, cell-level d c l (omega arith)))))
    find (suc n) l e p m = go (split d keys (cell_of d l c)) refl (find n (suc l) (omega arith) (omega arith))
      where
        go : (s : Bool) → split d keys (cell_of d l c) ≡ s → (Mem (cell_of d (suc l) c) keys → (m : ℕ) × (m ≤ 16) × (leaf d keys (cell_of d m c) ≡ true))
            → (m : ℕ) × (m ≤ 16) × (leaf d keys (cell_of d m c) ≡ true)
        go true s rest = rest (next l (omega arith) s)
        go false s rest = (l, omega arith, here l p (omega arith) m s)

    pub some-leaf : (m : ℕ) × (m ≤ 16) × (leaf d keys (cell_of d m c) ≡ true)
    some-leaf = find 15 1 (omega arith) (omega arith) (next 0 (omega arith) (rw root-cell top))

    pub held-once : Distinct keys → count (λ k. leaf d keys k && holds d k c) keys ≡ 1
    held-once dist =
        let (m, h, l) = some-leaf in
        let k = cell_of d m c in
        let hk = cell_holds d m c h in
        count-one (λ x. leaf d keys x && holds d x c) keys dist k (leaf-facts d keys k l).mem (λ x mx hx. one-leaf x k c (and_l _ _ hx) l (and_r (leaf d keys x) _ hx) hk)
        ∙ ap bit (both l hk)
