-- Different numbers of a list are no more than its entries.
use mathlib.Core.Path.{◌≡◌, sym, ap, ◌∙◌}
use mathlib.Core.Bool.{true, ◌&&◌}
use mathlib.Core.List.{List, map}
use Prim.Native.Nat.{ℕ, ◌≤◌, ◌<◌}
use native.Mathlib.Omega.{arith}
use lib.Dec.{eqb}
use lib.ListN.{length, get_or}
use borrow.Author.Tests.{eqb-true}
use Rattle.slices.specs.Lists.{sum, count, range, Mem, Distinct}
use Rattle.slices.proofs.Tests.{and_r}
use Rattle.slices.proofs.Counts.{length-count, count-few}
use Rattle.slices.proofs.Lists.{length-range}
use Rattle.slices.proofs.Rows.{count-split}
use Rattle.slices.proofs.Sums.{sum_less, sum-bits}
use Rattle.tree.specs.Nodes.{node_number}
use Rattle.tree.proofs.Leaves.{place_is}

module _ (xs ys : List ℕ) (dx : Distinct xs) (dy : Distinct ys) (in_ys : (x : ℕ) → Mem x xs → Mem x ys) where
  at : (x : ℕ) → Mem x xs → (node_number ys x < length ys) × (get_or ys (node_number ys x) 0 ≡ x)
  at x m =
      let (i, l, e) = in_ys x m in
      let n : node_number ys x ≡ i = ap (node_number ys) (sym e) ∙ place_is ys dy i l in
      (omega arith, ap (λ j. get_or ys j 0) n ∙ e)

  one : (v : ℕ) → count (λ x. true && eqb (node_number ys x) v) xs ≤ 1
  one v = count-few (λ x. true && eqb (node_number ys x) v) xs dx (λ x y mx my hx hy.
      sym (at x mx).1 ∙ ap (λ j. get_or ys j 0) (eqb-true (node_number ys x) v (and_r true _ hx) ∙ sym (eqb-true (node_number ys y) v (and_r true _ hy))) ∙ (at y my).1)

  ones : (zs : List ℕ) → sum (map (λ v. 1) zs) ≡ length zs
  ones zs = sum-bits (λ v. true) zs ∙ sym (length-count zs)

  pub no_more : length xs ≤ length ys
  no_more = omega (
    arith,
    length-count xs,
    count-split (λ _. true) (node_number ys) xs (length ys) (λ x m h. (at x m).0),
    sum_less (λ v. count (λ x. true && eqb (node_number ys x) v) xs) (λ v. 1) (range 0 (length ys)) (λ v m. one v),
    ones (range 0 (length ys)),
    length-range 0 (length ys),
  )
