-- Where the new nodes lie: all in C, and where C was split before, all in the one child of C that holds the new source.
use mathlib.Core.Path.{◌≡◌, refl, sym, ap, ◌∙◌, subst}
use mathlib.Core.Bool.{Bool, true, false}
use mathlib.Core.List.{List, []}
use mathlib.Core.Logic.{◌⊎◌, inl, inr}
use Prim.Native.Nat.{ℕ, zero, suc, ◌-◌, ◌≤◌, ◌<◌}
use native.Mathlib.Omega.{arith}
use native.Mathlib.Nat.{eq-or-lt_of_le}
use Rattle.slices.specs.Lists.{Mem}
use Rattle.slices.proofs.Tests.{clash, lt-or-le}
use Rattle.morton.specs.Keys.{deepest, level_of, above, axes_known, ValidKey, parent, under, holds}
use Rattle.morton.proofs.Cells.{key-level, level-parent}
use Rattle.tree.proofs.Sourced.{under-trans}
use Rattle.tree.specs.Leaves.{cell_of}
use Rattle.tree.proofs.Ranges.{parent-under}
use Rattle.growth.specs.declared.Rule.{Rule}
use Rattle.growth.specs.Nodes.{splits, nodes}
use Rattle.growth.proofs.Leaves.{cell_holds, holds-cell}
use Rattle.growth.proofs.Sorted.{node-good}
use Rattle.growth.proofs.Members.{node-up}
use Rattle.growth.proofs.Held.{held-under}
use Rattle.further.specs.Further.{further, DeepestHolder}
use Rattle.further.proofs.Cells.{holds-up}
use Rattle.further.proofs.Alone.{node-if, above-splits}
use Rattle.further.proofs.Built.{above-mem, nodes-tree}
use Rattle.further.proofs.More.{kept_same, node-new}

module _ (g : Rule) (s : List ℕ) (code : ℕ) (known : axes_known g.axes ≡ true) (C : ℕ) (holder : DeepestHolder g.axes (nodes g s []) code C)
    (k : ℕ) (m : Mem k (nodes g (further s code) [])) (new : Mem k (nodes g s []) → ⊥) where
  deep : 0 < level_of k
  deep = (node-new g s code known k m new).deep

  vk : ValidKey g.axes k
  vk = node-good g (further s code) [] known k m

  v_c : level_of C ≤ 16
  v_c = (node-good g s [] known C holder.mem).level

  parent-level : suc (level_of (parent g.axes k)) ≡ level_of k
  parent-level = omega (arith, level-parent g.axes k, deep)

  parent-holds : holds g.axes (parent g.axes k) code ≡ true
  parent-holds =
      subst (λ (x : ℕ). holds g.axes x code ≡ true) (sym (node-new g s code known k m new).at)
      (cell_holds g.axes (level_of k - 1) code (omega (arith, vk.level)))

  -- a new node whose parent was split holds the new source
  new-holds : splits g s [] (parent g.axes k) ≡ true → holds g.axes k code ≡ true
  new-holds sp = go (holds g.axes k code) refl
    where
      go : (b : Bool) → holds g.axes k code ≡ b → b ≡ true
      go true e = refl
      go false e = absurd (new (node-if g s known k vk deep sp (sym (kept_same g s code k e) ∙ (node-up g (further s code) [] known k m deep).1.is-kept)))

  pub new-deeper : level_of C < level_of k
  new-deeper = go (lt-or-le (level_of C) (level_of k))
    where
      up : level_of k ≤ level_of C → splits g s [] (parent g.axes k) ≡ true
      up l = above-splits g s known (parent g.axes k) C holder.mem
          (held-under g.axes (parent g.axes k) C code (omega (arith, l, parent-level)) v_c parent-holds holder.holder) (omega (arith, l, parent-level))

      stored-up : (n j : ℕ) → Mem j (nodes g s []) → holds g.axes j code ≡ true → holds g.axes k code ≡ true → level_of j ≡ n → level_of k ≤ n → Mem k (nodes g s [])
      stored-up zero j mj hj hk e l =
          subst (λ (x : ℕ). Mem x (nodes g s []))
          (sym (holds-cell g.axes j code hj) ∙ ap (λ (i : ℕ). cell_of g.axes i code) (e ∙ omega (arith, l)) ∙ holds-cell g.axes k code hk) mj
      stored-up (suc n) j mj hj hk e l = step (eq-or-lt_of_le l)
          (λ (i : level_of k ≤ n). stored-up n (parent g.axes j) (node-up g s [] known j mj (omega (arith, e))).0
          (holds-up g.axes (parent g.axes j) j code (parent-under g.axes j (omega (arith, e))) (node-good g s [] known j mj).level hj)
          hk (level-parent g.axes j ∙ omega (arith, e)) i)
        where
          step : (level_of k ≡ suc n) ⊎ (level_of k < suc n) → (level_of k ≤ n → Mem k (nodes g s [])) → Mem k (nodes g s [])
          step (inl q) rest =
              subst (λ (x : ℕ). Mem x (nodes g s []))
              (sym (holds-cell g.axes j code hj) ∙ ap (λ (i : ℕ). cell_of g.axes i code) (e ∙ sym q) ∙ holds-cell g.axes k code hk) mj
          step (inr q) rest = rest (omega arith)

      go : (level_of C < level_of k) ⊎ (level_of k ≤ level_of C) → level_of C < level_of k
      go (inl l) = l
      go (inr l) = absurd (new (stored-up (level_of C) C holder.mem holder.holder (new-holds (up l)) refl l))

  -- the parent of a new node lies in C
  pub new_under : under g.axes C k ≡ true
  new_under = under-trans g.axes C (parent g.axes k) k
      (held-under g.axes C (parent g.axes k) code (omega (arith, new-deeper, parent-level)) (omega (arith, vk.level, parent-level)) holder.holder parent-holds)
      (parent-under g.axes k deep)

  -- where C was split, all that is new lies in its child that holds the new source; that child is new itself
  pub new-under-child : splits g s [] C ≡ true → under g.axes (cell_of g.axes (suc (level_of C)) code) k ≡ true
  new-under-child sp = go (eq-or-lt_of_le new-deeper)
    where
      l₁₆ : suc (level_of C) ≤ 16
      l₁₆ = omega (arith, new-deeper, vk.level)

      jl : level_of (cell_of g.axes (suc (level_of C)) code) ≡ suc (level_of C)
      jl = key-level (suc (level_of C)) (above g.axes (deepest - suc (level_of C)) code) (omega (arith, l₁₆))

      hj : holds g.axes (cell_of g.axes (suc (level_of C)) code) code ≡ true
      hj = cell_holds g.axes (suc (level_of C)) code l₁₆

      go : (suc (level_of C) ≡ level_of k) ⊎ (suc (level_of C) < level_of k) → under g.axes (cell_of g.axes (suc (level_of C)) code) k ≡ true
      go (inl e) =
          let same : parent g.axes k ≡ C =
          sym (holds-cell g.axes (parent g.axes k) code parent-holds) ∙ ap (λ (i : ℕ). cell_of g.axes i code) (omega (arith, e, parent-level)) ∙ holds-cell g.axes C code holder.holder in
          let hk = new-holds (subst (λ (x : ℕ). splits g s [] x ≡ true) (sym same) sp) in
          held-under g.axes (cell_of g.axes (suc (level_of C)) code) k code (omega (arith, e, jl)) vk.level hj hk
      go (inr l) =
          under-trans g.axes (cell_of g.axes (suc (level_of C)) code) (parent g.axes k) k
          (held-under g.axes (cell_of g.axes (suc (level_of C)) code) (parent g.axes k) code (omega (arith, l, jl, parent-level)) (omega (arith, vk.level, parent-level)) hj parent-holds)
          (parent-under g.axes k deep)

-- and no node of before lies there: in a depth-first order the new nodes are one block, after C or in that child's place
module _ (g : Rule) (s : List ℕ) (code : ℕ) (known : axes_known g.axes ≡ true) (C : ℕ) (holder : DeepestHolder g.axes (nodes g s []) code C) (k : ℕ) (m : Mem k (nodes g s [])) where
  pub none_below : splits g s [] C ≡ false → under g.axes C k ≡ true → level_of C < level_of k → ⊥
  none_below f u l = clash (above-splits g s known C k m u l) f

  pub none-in-child : level_of C < 16 → under g.axes (cell_of g.axes (suc (level_of C)) code) k ≡ true → ⊥
  none-in-child l₁₆ u =
      let j = cell_of g.axes (suc (level_of C)) code in
      let e = key-level (suc (level_of C)) (above g.axes (deepest - suc (level_of C)) code) (omega (arith, l₁₆)) in
      let mj = above-mem g.axes (nodes g s []) (nodes-tree g s known) j k m u in
      omega (arith, e, holder.deepest j mj (cell_holds g.axes (suc (level_of C)) code l₁₆))
