-- A cell's part of the order column: as many entries as its total, where the column is at least as long as the sources are many.
use mathlib.Core.Path.{◌≡◌, refl, sym, ap, ◌∙◌}
use mathlib.Core.Bool.{true}
use mathlib.Core.List.{List}
use Prim.Native.Nat.{ℕ, ◌+◌, ◌-◌, ◌≤◌, ◌<◌}
use native.Mathlib.Omega.{arith}
use lib.ListN.{length, get_or, take, drop, length-take, length-drop}
use Rattle.slices.specs.Lists.{sum}
use Rattle.tree.specs.Order.{end_of}
use Rattle.tree.specs.Sources.{leaf_sources, cell_sources}
use Rattle.tree.specs.WellFormed.{well_formed}
use Rattle.tree.proofs.Rules.{Formed, all-facts}
use Rattle.slices.proofs.Sums.{sum-whole}
use Rattle.tree.proofs.Parts.{whole}
use Rattle.tree.proofs.Sums.{total-to}

module _ (d : ℕ) (keys own begin total order : List ℕ) (formed : well_formed d keys own begin total ≡ true) (long : sum own ≤ length order) where
  w : Formed d keys own begin total
  w = all-facts d keys own begin total formed

  -- it ends within the column
  inside : (i : ℕ) → i < length keys → get_or begin i 0 + get_or total i 0 ≤ length order
  inside i l = omega (arith, total-to d keys own begin total w i l, sum-whole own (end_of keys i))

  pub cell-part : (i : ℕ) → i < length keys → cell_sources total begin order i ≡ take (get_or total i 0) (drop (get_or begin i 0) order)
  cell-part i l =
      let e : (get_or begin i 0 + get_or total i 0) - get_or begin i 0 ≡ get_or total i 0 = omega arith in
      sym (ap (λ n. take n (drop (get_or begin i 0) order)) (sym e) ∙ whole total begin order i (omega (arith, w.totals)) (omega (arith, w.begins)) (inside i l))

  pub cell-length : (i : ℕ) → i < length keys → length (cell_sources total begin order i) ≡ get_or total i 0
  cell-length i l = ap length (cell-part i l) ∙ omega (arith, length-take (get_or total i 0) (drop (get_or begin i 0) order), length-drop (get_or begin i 0) order, inside i l)
