-- The deepest cell stored that holds a code: there is one, found on the way up, and no other.
use mathlib.Core.Path.{◌≡◌, refl, sym, ap, ◌∙◌}
use mathlib.Core.Bool.{Bool, true, false, cond}
use mathlib.Core.List.{List, []}
use mathlib.Core.Logic.{◌⊎◌, inl, inr}
use Prim.Native.Nat.{ℕ, zero, suc, ◌*◌, ◌-◌, ◌/◌, ◌^◌, ◌≤◌, ◌<◌}
use native.Mathlib.Omega.{arith}
use native.Mathlib.Nat.{div-eq_of_lt, eq-or-lt_of_le}
use borrow.Author.Tests.{eq-eqb}
use Rattle.slices.specs.Lists.{Mem}
use Rattle.slices.proofs.Tests.{clash}
use Rattle.morton.specs.Keys.{deepest, level_of, above, axes_known, holds}
use Rattle.morton.proofs.Cells.{key-level}
use Rattle.tree.specs.Nodes.{stored}
use Rattle.tree.proofs.Stored.{stored-mem, mem-stored}
use Rattle.tree.specs.Leaves.{cell_of}
use Rattle.growth.specs.declared.Rule.{Rule}
use Rattle.growth.proofs.Leaves.{cell_holds, holds-cell}
use Rattle.growth.proofs.Sorted.{node-good}
use Rattle.growth.proofs.Members.{root-node}
use Rattle.further.specs.Further.{TreeOf, DeepestHolder, holder_from, holder_of}

module _ (d : ℕ) (keys : List ℕ) (code : ℕ) (root : Mem 0 keys) (small : code < 2 ^ (d * 16)) where
  pub record HolderTo (l C : ℕ) : Type 0 where
    pub mem : Mem C keys
    pub holder : holds d C code ≡ true
    pub deepest : (k : ℕ) → Mem k keys → holds d k code ≡ true → level_of k ≤ l → level_of k ≤ level_of C

  holder-to : (l : ℕ) → l ≤ 16 → HolderTo l (holder_from l d keys code)
  unfolding holder_from
  holder-to zero h = record { mem = root; holder = eq-eqb (code / 2 ^ (d * 16)) 0 (div-eq_of_lt small); deepest = λ k m q l. omega arith }
  holder-to (suc l) h = go (stored keys (cell_of d (suc l) code)) refl (holder-to l (omega arith))
    where
      x : ℕ
      x = cell_of d (suc l) code

      level : level_of x ≡ suc l
      level = key-level (suc l) (above d (deepest - suc l) code) (omega arith)

      go : (b : Bool) → stored keys x ≡ b → HolderTo l (holder_from l d keys code) → HolderTo (suc l) (cond (stored keys x) x (holder_from l d keys code))
      go true e r = rw e (record { mem = stored-mem keys x e; holder = cell_holds d (suc l) code h; deepest = λ k m q i. omega (arith, level) })
      go false e r = rw e (record { mem = r.mem; holder = r.holder; deepest = λ k m q i. next k m q (eq-or-lt_of_le i) })
        where
          next : (k : ℕ) → Mem k keys → holds d k code ≡ true → (level_of k ≡ suc l) ⊎ (level_of k < suc l) → level_of k ≤ level_of (holder_from l d keys code)
          next k m q (inl same) = absurd (clash (mem-stored keys k m) (ap (stored keys) (sym (holds-cell d k code q) ∙ ap (λ (n : ℕ). cell_of d n code) same) ∙ e))
          next k m q (inr less) = r.deepest k m q (omega arith)

  pub holder-deepest : ((k : ℕ) → Mem k keys → level_of k ≤ 16) → DeepestHolder d keys code (holder_of d keys code)
  holder-deepest top =
      let r = holder-to 16 (omega arith) in
      record { mem = r.mem; holder = r.holder; deepest = λ k m q. r.deepest k m q (top k m) }

-- there is no other
pub one-holder : (d : ℕ) (keys : List ℕ) (code B C : ℕ) → DeepestHolder d keys code B → DeepestHolder d keys code C → B ≡ C
one-holder d keys code B C b c =
    let l : level_of B ≡ level_of C = omega (arith, b.deepest C c.mem c.holder, c.deepest B b.mem b.holder) in
    sym (holds-cell d B code b.holder) ∙ ap (λ (n : ℕ). cell_of d n code) l ∙ holds-cell d C code c.holder

-- in a tree of sources
pub tree-holder : (g : Rule) (s keys own : List ℕ) (code : ℕ) → axes_known g.axes ≡ true → TreeOf g s keys own → code < 2 ^ (g.axes * 16) → DeepestHolder g.axes keys code (holder_of g.axes keys code)
tree-holder g s keys own code known t small =
    holder-deepest g.axes keys code ((t.cells 0).1 (root-node g s [] known)) small (λ k m. (node-good g s [] known k ((t.cells k).0 m)).level)
