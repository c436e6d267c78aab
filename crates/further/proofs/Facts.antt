-- What rows ask of a tree, by its sources alone: whether a cell is a leaf and whether it is sourced; and rows as sets.
use mathlib.Core.Path.{◌≡◌, refl, sym, ap, ap₂, ◌∙◌, subst}
use mathlib.Core.Bool.{Bool, true, false, ◌&&◌, not, cond}
use mathlib.Core.List.{List, [], map}
use mathlib.Core.Logic.{◌⊎◌, inl, inr, ◌↔◌}
use Prim.Native.Nat.{ℕ, ◌*◌, ◌-◌, ◌^◌, ◌≤◌, ◌<◌}
use native.Mathlib.Omega.{arith}
use native.Mathlib.Nat.{not-suc-le-zero}
use lib.Dec.{ltb, eqb}
use borrow.Author.Tests.{ltb-true, lt-ltb, eqb-true, eq-eqb}
use Rattle.slices.specs.Lists.{filter, any, bit, Mem, Distinct}
use Rattle.slices.specs.Order.{ascending}
use Rattle.slices.proofs.Tests.{clash, lt-or-le, same_test}
use Rattle.slices.proofs.Counts.{any-intro, any-elim, count-one, count-zero}
use Rattle.slices.proofs.Members.{mem-filter, filter-mem, filter-distinct}
use Rattle.slices.proofs.Same.{times, ascending-same}
use Rattle.morton.specs.Keys.{deepest, level_of, above, axes_known, holds}
use Rattle.morton.proofs.Cells.{key-level}
use Rattle.refine.specs.Counts.{sources_in}
use Rattle.tree.specs.Nodes.{stored, child_of, leaf, own_of, sourced}
use Rattle.tree.proofs.Stored.{stored-mem, mem-stored, sourced-by}
use Rattle.tree.proofs.Sourced.{sourced-facts}
use Rattle.tree.specs.Leaves.{cell_of}
use Rattle.growth.specs.declared.Rule.{Rule}
use Rattle.growth.specs.Nodes.{splits, nodes}
use Rattle.growth.specs.Columns.{own_column}
use Rattle.growth.proofs.Leaves.{cell_holds, has-source, some-source, leaf-unsplit, source-leaf}
use Rattle.growth.proofs.Held.{leaf-mem, held-under}
use Rattle.growth.proofs.Arranged.{Codes}
use Rattle.growth.proofs.Sorted.{node-good}
use Rattle.growth.proofs.Columns as columns
use Rattle.further.specs.Further.{TreeOf}
use Rattle.further.proofs.Cells.{count-up}
use Rattle.further.proofs.Alone.{above-splits}

-- ---- lists as sets

pub any_same : (p : ℕ → Bool) (xs ys : List ℕ) → ((x : ℕ) → Mem x xs ↔ Mem x ys) → any p xs ≡ any p ys
any_same p xs ys h = same_test (any p xs) (any p ys)
    (λ t. let (x, m, e) = any-elim p xs t in any-intro p ys x ((h x).0 m) e)
    (λ t. let (x, m, e) = any-elim p ys t in any-intro p xs x ((h x).1 m) e)

pub leaf-same : (d : ℕ) (xs ys : List ℕ) → ((x : ℕ) → Mem x xs ↔ Mem x ys) → (k : ℕ) → leaf d xs k ≡ leaf d ys k
unfolding leaf
leaf-same d xs ys h k = ap₂ (λ (a b : Bool). a && (not (eqb k 0) && not b)) (any_same (eqb k) xs ys h) (any_same (child_of d k) xs ys h)

-- lists with the same members, each once, are sorted to the same list
pub same_row : (xs ys : List ℕ) → Distinct xs → Distinct ys → ((x : ℕ) → Mem x xs → Mem x ys) → ((x : ℕ) → Mem x ys → Mem x xs) → ascending xs ≡ ascending ys
same_row xs ys dx dy f h = ascending-same xs ys (λ x. go x (stored xs x) refl)
  where
    one : (x : ℕ) (zs : List ℕ) → Distinct zs → Mem x zs → times x zs ≡ 1
    one x zs dz m = count-one (λ c. eqb c x) zs dz x m (λ i _ e. eqb-true i x e) ∙ ap bit (eq-eqb x x refl)

    none : (x : ℕ) (zs : List ℕ) → (Mem x zs → ⊥) → times x zs ≡ 0
    none x zs n = count-zero (λ c. eqb c x) zs (λ i m e. n (subst (λ (y : ℕ). Mem y zs) (eqb-true i x e) m))

    go : (x : ℕ) (b : Bool) → stored xs x ≡ b → times x xs ≡ times x ys
    go x true e = let m = stored-mem xs x e in one x xs dx m ∙ sym (one x ys dy (f x m))
    go x false e = none x xs (λ m. clash (mem-stored xs x m) e) ∙ sym (none x ys (λ m. clash (mem-stored xs x (h x m)) e))

-- two tests of two lists that leave the same members
pub same-filter : (p q : ℕ → Bool) (xs ys : List ℕ) → Distinct xs → Distinct ys
    → ((x : ℕ) → Mem x xs → p x ≡ true → Mem x ys × (q x ≡ true)) → ((x : ℕ) → Mem x ys → q x ≡ true → Mem x xs × (p x ≡ true))
    → ascending (filter p xs) ≡ ascending (filter q ys)
same-filter p q xs ys dx dy f h =
    same_row (filter p xs) (filter q ys) (filter-distinct p xs dx) (filter-distinct q ys dy)
    (λ x m. let r = mem-filter p xs x m in let t = f x r.0 r.1 in filter-mem q ys x t.0 t.1)
    (λ x m. let r = mem-filter q ys x m in let t = h x r.0 r.1 in filter-mem p xs x t.0 t.1)

pub own-map : (f : ℕ → ℕ) (keys : List ℕ) (j : ℕ) → Mem j keys → own_of keys (map f keys) j ≡ f j
own-map f keys j m = columns.own-map f keys j ∙ ap (λ (b : Bool). cond b (f j) 0) (mem-stored keys j m)

-- ---- a tree of sources

module _ (g : Rule) (s keys own : List ℕ) (known : axes_known g.axes ≡ true) (codes : Codes g.axes s) (t : TreeOf g s keys own) where
  -- a leaf is a cell that does not split
  pub leaf-is : (k : ℕ) → Mem k keys → leaf g.axes keys k ≡ not (splits g s [] k)
  leaf-is k m = leaf-same g.axes keys (nodes g s []) t.cells k ∙ leaf-unsplit g s [] known k ((t.cells k).0 m)

  own_is : (k : ℕ) → Mem k keys → own_of keys own k ≡ cond (leaf g.axes keys k) (sources_in g.axes s k) 0
  unfolding own_column
  own_is k m = ap (λ (o : List ℕ). own_of keys o k) t.owns ∙ own-map (λ k. cond (leaf g.axes keys k) (sources_in g.axes s k) 0) keys k m

  -- a cell is sourced if sources lie in it
  pub sourced-is : (k : ℕ) → Mem k keys → sourced g.axes keys own k ≡ ltb 0 (sources_in g.axes s k)
  sourced-is k m = same_test (sourced g.axes keys own k) (ltb 0 (sources_in g.axes s k)) some back
    where
      owned : (b : Bool) (n : ℕ) → 0 < cond b n 0 → 0 < n
      owned true n h = h
      owned false n h = absurd (not-suc-le-zero h)

      some : sourced g.axes keys own k ≡ true → ltb 0 (sources_in g.axes s k) ≡ true
      some h =
          let (j, mj, u, o) = sourced-facts g.axes keys own k h in
          let n = owned (leaf g.axes keys j) (sources_in g.axes s j) (subst (λ (i : ℕ). 0 < i) (own_is j mj) o) in
          lt-ltb 0 (sources_in g.axes s k) (omega (arith, n, count-up g.axes s k j u (node-good g s [] known j ((t.cells j).0 mj)).level))

      back : ltb 0 (sources_in g.axes s k) ≡ true → sourced g.axes keys own k ≡ true
      back h =
          let (c, mc, hc) = some-source g.axes s k (ltb-true 0 (sources_in g.axes s k) h) in
          let (l, l₁, l₁₆, lf) = source-leaf g s [] known c mc (subst (λ (x : ℕ). x < 2 ^ (g.axes * 16)) mc.2 (codes mc.0 mc.1)) in
          let x = cell_of g.axes l c in
          let lx = key-level l (above g.axes (deepest - l) c) (omega (arith, l₁₆)) in
          let hx = cell_holds g.axes l c l₁₆ in
          let mk = (t.cells k).0 m in
          let vk = (node-good g s [] known k mk).level in
          let mx = leaf-mem g.axes (nodes g s []) x lf in
          let lfk : leaf g.axes keys x ≡ true = leaf-same g.axes keys (nodes g s []) t.cells x ∙ lf in
          go x c mc hc hx lf mx lfk vk (omega (arith, lx, l₁₆)) (lt-or-le (level_of x) (level_of k))
        where
          go : (x c : ℕ) → Mem c s → holds g.axes k c ≡ true → holds g.axes x c ≡ true → leaf g.axes (nodes g s []) x ≡ true → Mem x (nodes g s [])
              → leaf g.axes keys x ≡ true → level_of k ≤ 16 → level_of x ≤ 16 → (level_of x < level_of k) ⊎ (level_of k ≤ level_of x) → sourced g.axes keys own k ≡ true
          go x c mc hc hx lf mx lfk vk vx (inl l) =
              absurd (clash lf (leaf-unsplit g s [] known x mx ∙ ap not (above-splits g s known x k ((t.cells k).0 m) (held-under g.axes x k c (omega arith) vk hx hc) l)))
          go x c mc hc hx lf mx lfk vk vx (inr l) =
              let mem = (t.cells x).1 mx in
              sourced-by g.axes keys own k x mem
              (subst (λ (i : ℕ). 0 < i) (sym (own_is x mem ∙ ap (λ (b : Bool). cond b (sources_in g.axes s x) 0) lfk)) (has-source g.axes s x c mc hx))
              (held-under g.axes k x c l vx hc hx)
