-- The nodes of both trees in Z order: those before the cell, those in it, those after it.
use mathlib.Core.Path.{◌≡◌, refl, sym, ap, ◌∙◌, subst}
use mathlib.Core.Bool.{Bool, true, false}
use mathlib.Core.List.{List, [], ◌∷◌, ◌++◌}
use mathlib.Core.Logic.{◌⊎◌, inl, inr, ◌↔◌}
use Prim.Native.Nat.{ℕ, suc, ◌+◌, ◌-◌, ◌≤◌, ◌<◌}
use native.Mathlib.Omega.{arith}
use native.Mathlib.Nat.{not-suc-le-zero}
use lib.Dec.{ltb}
use lib.ListN.{length, get_or, take, drop, length-drop, take-append-drop}
use lib.Seq.{get_or-take, get_or-drop, length-take-le}
use borrow.Author.Tests.{ltb-true, lt-ltb, le-ltb}
use Rattle.slices.specs.Lists.{Mem}
use Rattle.slices.proofs.Tests.{clash, lt-or-le, refute}
use Rattle.slices.proofs.Counts.{here}
use Rattle.slices.proofs.Members.{mem-cases}
use Rattle.morton.specs.Keys.{level_of, axes_known, under}
use Rattle.tree.specs.Order.{before}
use Rattle.tree.proofs.Sourced.{under-self}
use Rattle.tree.proofs.Ranges.{same-level}
use Rattle.tree.proofs.Spans.{first, size, size-pos, Earlier, earlier, before_of, apart, under-span}
use Rattle.growth.specs.declared.Rule.{Rule}
use Rattle.growth.specs.Nodes.{splits, nodes}
use Rattle.growth.proofs.Joined.{append_left, append_right, mem-append}
use Rattle.growth.proofs.Chains.{Chain, chain-append, chain-at}
use Rattle.growth.proofs.Sorted.{node-good, nodes-chain}
use Rattle.further.specs.Further.{further}
use Rattle.further.proofs.Alone.{above-splits}
use Rattle.further.proofs.More.{node_stays}
use Rattle.further.proofs.Ordered.{same-order}
use Rattle.spliced.specs.Gap.{Gap, Cut}
use Rattle.spliced.proofs.Around.{cell-after, was-node}

-- a part of a chain is one
module _ (R : ℕ → ℕ → Type 0) where
  chain_left : (xs ys : List ℕ) → Chain R (xs ++ ys) → Chain R xs
  unfolding Chain
  chain_left [] ys c = tt
  chain_left (x ∷ xs) ys c = (λ y m. c.0 y (append_left xs ys y m), chain_left xs ys c.1)

  chain-right : (xs ys : List ℕ) → Chain R (xs ++ ys) → Chain R ys
  unfolding Chain
  chain-right [] ys c = c
  chain-right (x ∷ xs) ys c = chain-right xs ys c.1

  pub chain-one : (x : ℕ) → Chain R (x ∷ [])
  unfolding Chain
  chain-one x = (λ y m. absurd (not-suc-le-zero m.1), tt)

-- an entry of a part, by its place
pub mem-take : (n : ℕ) (xs : List ℕ) → n ≤ length xs → (x : ℕ) → Mem x (take n xs) → (j : ℕ) × (j < n) × (get_or xs j 0 ≡ x)
mem-take n xs h x (j, l, e) =
    let i : j < n = omega (arith, l, length-take-le n xs h) in
    (j, i, sym (get_or-take n xs j 0 i) ∙ e)

pub mem-drop : (n : ℕ) (xs : List ℕ) (x : ℕ) → Mem x (drop n xs) → (j : ℕ) × (n ≤ j) × (j < length xs) × (get_or xs j 0 ≡ x)
mem-drop n xs x (j, l, e) = (n + j, omega arith, omega (arith, l, length-drop n xs), sym (get_or-drop n xs j 0) ∙ e)

take-mem : (n : ℕ) (xs : List ℕ) → n ≤ length xs → (j : ℕ) → j < n → Mem (get_or xs j 0) (take n xs)
take-mem n xs h j l = (j, omega (arith, l, length-take-le n xs h), get_or-take n xs j 0 l)

drop-mem : (n : ℕ) (xs : List ℕ) (j : ℕ) → n ≤ j → j < length xs → Mem (get_or xs j 0) (drop n xs)
drop-mem n xs j h l =
    let e : n + (j - n) ≡ j = omega arith in
    (j - n, omega (arith, l, h, length-drop n xs), get_or-drop n xs (j - n) 0 ∙ ap (λ (i : ℕ). get_or xs i 0) e)

module _ (g : Rule) (s : List ℕ) (code cell : ℕ) (known : axes_known g.axes ≡ true) (gap : Gap g s code cell) (from to : ℕ) (cut : Cut g.axes (nodes g s []) cell from to) where
  abbrev keys : List ℕ
  keys = nodes g s []

  level : (k : ℕ) → Mem k (nodes g s []) → level_of k ≤ 16
  level k m = (node-good g s [] known k m).level

  -- a node before the cell
  pub early : (k : ℕ) → Mem k (take from (nodes g s [])) → Mem k (nodes g s []) × Earlier g.axes k cell
  early k m =
      let (j, l, e) = mem-take from keys (omega (arith, cut.rises, cut.within)) k m in
      let h : j < length keys = omega (arith, l, cut.rises, cut.within) in
      let mk : Mem k keys = (j, h, e) in
      (mk, earlier g.axes k cell (level k mk) gap.good.level (subst (λ (x : ℕ). before g.axes x cell ≡ true) e (cut.order j h ∙ lt-ltb j from l)))

  -- a node after it: neither before it nor in it
  pub late : (k : ℕ) → Mem k (drop to (nodes g s [])) → Mem k (nodes g s []) × (k ≡ cell → ⊥) × (before g.axes k cell ≡ false)
  late k m =
      let (j, h, l, e) = mem-drop to keys k m in
      ((j, l, e), (λ q. cut.behind j l h (e ∙ q)), subst (λ (x : ℕ). before g.axes x cell ≡ false) e (cut.order j l ∙ le-ltb j from (omega (arith, h, cut.rises))))

  pub early-other : (k : ℕ) → Mem k (take from (nodes g s [])) → k ≡ cell → ⊥
  early-other k m e =
      let q = subst (λ (x : ℕ). Earlier g.axes x cell) e (early k m).1 in
      omega (arith, q.1 refl)

  -- all of it stands after all of the cell
  pub behind-all : (k : ℕ) → Mem k (drop to (nodes g s [])) → first g.axes cell + size g.axes cell ≤ first g.axes k
  behind-all k m = go (lt-or-le (level_of k) (level_of cell))
    where
      l : level_of k ≤ 16
      l = level k (late k m).0

      not_earlier : Earlier g.axes k cell → ⊥
      not_earlier e = clash (before_of g.axes k cell l gap.good.level e) (late k m).2

      outside : under g.axes cell k ≡ false
      outside = refute (λ u. (late k m).1 (gap.lowest k (late k m).0 u))

      before-it : first g.axes k + size g.axes k ≤ first g.axes cell → Earlier g.axes k cell
      before-it h = let z = size-pos g.axes k in (omega (arith, h, z), λ e. absurd (omega (arith, h, z, e)))

      not-over : level_of k < level_of cell → under g.axes k cell ≡ false
      not-over h = refute (λ u. not_earlier ((under-span g.axes k cell gap.good.level u).1, λ _. h))

      finer : (first g.axes k + size g.axes k ≤ first g.axes cell) ⊎ (first g.axes cell + size g.axes cell ≤ first g.axes k) → first g.axes cell + size g.axes cell ≤ first g.axes k
      finer (inl h) = absurd (not_earlier (before-it h))
      finer (inr h) = h

      coarser : (first g.axes cell + size g.axes cell ≤ first g.axes k) ⊎ (first g.axes k + size g.axes k ≤ first g.axes cell) → first g.axes cell + size g.axes cell ≤ first g.axes k
      coarser (inl h) = h
      coarser (inr h) = absurd (not_earlier (before-it h))

      go : (level_of k < level_of cell) ⊎ (level_of cell ≤ level_of k) → first g.axes cell + size g.axes cell ≤ first g.axes k
      go (inl h) = coarser (apart g.axes k cell gap.good.level (omega arith) (not-over h))
      go (inr h) = finer (apart g.axes cell k l h outside)

  -- the nodes in the cell after: in order, and all there are
  pub record Block (block : List ℕ) : Type 0 where
    pub chain : Chain (Earlier g.axes) block
    pub all : (k : ℕ) → Mem k (nodes g (further s code) []) → under g.axes cell k ≡ true → Mem k block
    pub only : (k : ℕ) → Mem k block → Mem k (nodes g (further s code) []) × (under g.axes cell k ≡ true)

  module _ (block : List ℕ) (B : Block block) where
    level' : (k : ℕ) → Mem k block → level_of k ≤ 16
    level' k m = (node-good g (further s code) [] known k (B.only k m).0).level

    early-block : (x y : ℕ) → Mem x (take from (nodes g s [])) → Mem y block → Earlier g.axes x y
    early-block x y mx my =
        let e = (early x mx).1 in
        let u = under-span g.axes cell y (level' y my) (B.only y my).1 in
        (omega (arith, e.0, u.1), λ q. omega (arith, e.1 (omega (arith, q, e.0, u.1)), u.0))

    block-late : (x y : ℕ) → Mem x block → Mem y (drop to (nodes g s [])) → Earlier g.axes x y
    block-late x y mx my =
        let u = under-span g.axes cell x (level' x mx) (B.only x mx).1 in
        let b = behind-all y my in
        let z = size-pos g.axes x in
        (omega (arith, u.2, b), λ q. absurd (omega (arith, u.2, b, z, q)))

    early-late : (x y : ℕ) → Mem x (take from (nodes g s [])) → Mem y (drop to (nodes g s [])) → Earlier g.axes x y
    early-late x y mx my =
        let (i, l, e) = mem-take from keys (omega (arith, cut.rises, cut.within)) x mx in
        let (j, h, m, f) = mem-drop to keys y my in
        subst (λ (a : ℕ). Earlier g.axes a y) e (subst (λ (b : ℕ). Earlier g.axes (get_or keys i 0) b) f
        (chain-at (Earlier g.axes) keys (nodes-chain g s [] known) i j (omega (arith, l, h, cut.rises)) m))

    parts : List ℕ
    parts = (take from (nodes g s []) ++ block) ++ drop to (nodes g s [])

    chained : Chain (Earlier g.axes) parts
    unfolding parts
    chained = chain-append (Earlier g.axes) (take from keys ++ block) (drop to keys)
        (chain-append (Earlier g.axes) (take from keys) block (chain_left (Earlier g.axes) (take from keys) (drop from keys) (whole from)) B.chain early-block)
        (chain-right (Earlier g.axes) (take to keys) (drop to keys) (whole to))
        (λ x y mx my. side x y my (mem-append (take from keys) block x mx))
      where
        whole : (n : ℕ) → Chain (Earlier g.axes) (take n (nodes g s []) ++ drop n (nodes g s []))
        whole n = subst (Chain (Earlier g.axes)) (sym (take-append-drop n (nodes g s []))) (nodes-chain g s [] known)

        side : (x y : ℕ) → Mem y (drop to (nodes g s [])) → Mem x (take from (nodes g s [])) ⊎ Mem x block → Earlier g.axes x y
        side x y my (inl m) = early-late x y m my
        side x y my (inr m) = block-late x y m my

    -- each node of after is in a part
    there-after : (k : ℕ) → Mem k (nodes g (further s code) []) → Mem k parts
    unfolding parts
    there-after k m = go (under g.axes cell k) refl
      where
        place : Mem k (nodes g s []) → under g.axes cell k ≡ false → Mem k ((take from (nodes g s []) ++ block) ++ drop to (nodes g s []))
        place (j, l, e) off = side (lt-or-le j from) (lt-or-le j to)
          where
            side : (j < from) ⊎ (from ≤ j) → (j < to) ⊎ (to ≤ j) → Mem k ((take from (nodes g s []) ++ block) ++ drop to (nodes g s []))
            side (inl h) _ = append_left (take from keys ++ block) (drop to keys) k (append_left (take from keys) block k
                (subst (λ (x : ℕ). Mem x (take from (nodes g s []))) e (take-mem from keys (omega (arith, cut.rises, cut.within)) j h)))
            side (inr h) (inl q) = absurd (clash (subst (λ (x : ℕ). under g.axes cell x ≡ true) (sym (cut.at j l h q) ∙ e) (under-self g.axes cell)) off)
            side (inr h) (inr q) = append_right (take from keys ++ block) (drop to keys) k (subst (λ (x : ℕ). Mem x (drop to (nodes g s []))) e (drop-mem to keys j q l))

        go : (b : Bool) → under g.axes cell k ≡ b → Mem k ((take from (nodes g s []) ++ block) ++ drop to (nodes g s []))
        go true u = append_left (take from keys ++ block) (drop to keys) k (append_right (take from keys) block k (B.all k m u))
        go false u = place (was-node g s code cell known gap k m u) u

    -- and there is no other in one
    here-after : (k : ℕ) → Mem k parts → Mem k (nodes g (further s code) [])
    unfolding parts
    here-after k m = outer (mem-append (take from keys ++ block) (drop to keys) k m)
      where
        inner : Mem k (take from (nodes g s [])) ⊎ Mem k block → Mem k (nodes g (further s code) [])
        inner (inl n) = node_stays g s code known k (early k n).0
        inner (inr n) = (B.only k n).0

        outer : Mem k (take from (nodes g s []) ++ block) ⊎ Mem k (drop to (nodes g s [])) → Mem k (nodes g (further s code) [])
        outer (inl n) = inner (mem-append (take from keys) block k n)
        outer (inr n) = node_stays g s code known k (late k n).0

    -- the nodes after: those of before around the cell, and between them those in it
    pub nodes-around : nodes g (further s code) [] ≡ (take from (nodes g s []) ++ block) ++ drop to (nodes g s [])
    unfolding parts
    nodes-around = same-order g.axes (nodes g (further s code) []) parts
        (chain-at (Earlier g.axes) (nodes g (further s code) []) (nodes-chain g (further s code) [] known)) (chain-at (Earlier g.axes) parts chained) there-after here-after

  -- a cell that is not split has one node
  pub block_one : splits g (further s code) [] cell ≡ false → Block (cell ∷ [])
  block_one f = record {
    chain = chain-one (Earlier g.axes) cell;
    all = λ k m u. subst (λ (x : ℕ). Mem x (cell ∷ [])) (same k m u (lt-or-le (level_of cell) (level_of k))) (here cell []);
    only = λ k m. only k (mem-cases k cell [] m);
  }
    where
      same : (k : ℕ) → Mem k (nodes g (further s code) []) → under g.axes cell k ≡ true → (level_of cell < level_of k) ⊎ (level_of k ≤ level_of cell) → cell ≡ k
      same k m u (inl l) = absurd (clash (above-splits g (further s code) known cell k m u l) f)
      same k m u (inr l) = sym (same-level g.axes cell k u l)

      only : (k : ℕ) → (cell ≡ k) ⊎ Mem k [] → Mem k (nodes g (further s code) []) × (under g.axes cell k ≡ true)
      only k (inl e) = (subst (λ (x : ℕ). Mem x (nodes g (further s code) [])) e (cell-after g s code cell known gap), subst (λ (x : ℕ). under g.axes cell x ≡ true) e (under-self g.axes cell))
      only k (inr m) = absurd (not-suc-le-zero m.1)
