-- In a tree that is built, the cell that the search finds is the one that changes.
use mathlib.Core.Path.{◌≡◌, refl, sym, ap, ◌∙◌, subst}
use mathlib.Core.Bool.{Bool, true, false, not}
use mathlib.Core.List.{List, []}
use Prim.Native.Nat.{ℕ, ◌+◌, ◌*◌, ◌-◌, ◌/◌, ◌^◌, ◌≤◌, ◌<◌}
use native.Mathlib.Omega.{arith}
use native.Mathlib.Nat.{div-lt_iff_lt-mul, mul-add}
use lib.Pow.{pow_pos, pow-add}
use Rattle.slices.specs.Lists.{Mem}
use Rattle.axes.proofs.Known.{axes-facts}
use Rattle.morton.specs.Keys.{deepest, level_of, above, axes_known, ValidKey, parent}
use Rattle.morton.proofs.Cells.{key-level, key-code, level-parent}
use Rattle.tree.specs.Nodes.{leaf}
use Rattle.tree.specs.Leaves.{cell_of}
use Rattle.tree.proofs.Ranges.{parent-under}
use Rattle.growth.specs.declared.Rule.{Rule}
use Rattle.growth.specs.Nodes.{splits, nodes}
use Rattle.growth.proofs.Leaves.{cell_holds, holds-cell, leaf-unsplit}
use Rattle.further.proofs.Cells.{holds-up}
use Rattle.further.proofs.Built.{above-mem, leaf-lowest, nodes-tree}
use Rattle.gap_search.specs.Search.{GapLevel}
use Rattle.spliced.specs.Gap.{Gap}

module _ (d l code : ℕ) (known : axes_known d ≡ true) (most : l ≤ 16) (small : code < 2 ^ (d * 16)) where
  cell-level : level_of (cell_of d l code) ≡ l
  cell-level = key-level l (above d (deepest - l) code) (omega arith)

  below : code / 2 ^ (d * (16 - l)) < 2 ^ (d * l)
  below =
      let e : l + (16 - l) ≡ 16 = omega arith in
      let p : 2 ^ (d * l) * 2 ^ (d * (16 - l)) ≡ 2 ^ (d * 16) = sym (pow-add 2 (d * l) (d * (16 - l))) ∙ ap (λ (x : ℕ). 2 ^ x) (sym (mul-add d l (16 - l)) ∙ ap (λ (x : ℕ). d * x) e) in
      (div-lt_iff_lt-mul {k = 2 ^ (d * (16 - l))} {x = code} {y = 2 ^ (d * l)} (pow_pos (d * (16 - l)))).1 (subst (λ (x : ℕ). code < x) (sym p) small)

  cell-good : ValidKey d (cell_of d l code)
  cell-good = record {
    some = (axes-facts d known).0;
    most = (axes-facts d known).1;
    level = omega (arith, cell-level, most);
    code = subst (λ (x : ℕ). x < 2 ^ (d * level_of (cell_of d l code))) (sym (key-code l (above d (deepest - l) code) (omega arith)))
        (subst (λ (x : ℕ). code / 2 ^ (d * (16 - l)) < 2 ^ (d * x)) (sym cell-level) below);
  }

  parent-cell : 1 ≤ l → parent d (cell_of d l code) ≡ cell_of d (l - 1) code
  parent-cell least =
      let k = cell_of d l code in
      let deep : 0 < level_of k = omega (arith, cell-level, least) in
      sym (ap (λ (x : ℕ). cell_of d x code) (sym (level-parent d k ∙ ap (λ (x : ℕ). x - 1) cell-level))
      ∙ holds-cell d (parent d k) code (holds-up d (parent d k) k code (parent-under d k deep) (omega (arith, cell-level, most)) (cell_holds d l code most)))

module _ (g : Rule) (s : List ℕ) (code : ℕ) (known : axes_known g.axes ≡ true) (small : code < 2 ^ (g.axes * 16)) (l : ℕ) (f : GapLevel g.axes (nodes g s []) code l) where
  is-split : (k : ℕ) → Mem k (nodes g s []) → leaf g.axes (nodes g s []) k ≡ false → splits g s [] k ≡ true
  is-split k m e = go (splits g s [] k) (sym (leaf-unsplit g s [] known k m) ∙ e)
    where
      go : (b : Bool) → not b ≡ false → b ≡ true
      go true q = refl
      go false q = sym q

  -- the cell that is found is the one that changes
  pub gap-found : Gap g s code (cell_of g.axes l code)
  gap-found = record {
    good = cell-good g.axes l code known f.most small;
    deep = omega (arith, cell-level g.axes l code known f.most small, f.least);
    holder = cell_holds g.axes l code f.most;
    parted = subst (λ (x : ℕ). splits g s [] x ≡ true) (sym (parent-cell g.axes l code known f.most small f.least))
        (is-split (cell_of g.axes (l - 1) code) f.parted f.parted_inner);
    lowest = λ k m u.
        let t = nodes-tree g s known in
        sym (leaf-lowest g.axes (nodes g s []) t (cell_of g.axes l code) k
        (f.lowest (above-mem g.axes (nodes g s []) t (cell_of g.axes l code) k m u)) m u);
  }
