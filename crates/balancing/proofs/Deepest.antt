-- Where no node is two levels deeper, a cell must be split only if it is.
use mathlib.Core.Path.{◌≡◌, sym, ap, ◌∙◌, subst}
use mathlib.Core.Bool.{Bool, true}
use mathlib.Core.List.{List}
use Prim.Native.Nat.{ℕ, ◌+◌, ◌-◌, ◌≤◌}
use native.Mathlib.Omega.{arith}
use Rattle.slices.specs.Lists.{Mem}
use Rattle.slices.proofs.Tests.{same_test}
use Rattle.morton.specs.Keys.{level_of, ValidKey}
use Rattle.morton.proofs.Cells.{level-parent}
use Rattle.tree.specs.Order.{depth_of}
use Rattle.tree.specs.Finding.{TreeKeys}
use Rattle.tree.proofs.Leaves.{level-greatest}
use Rattle.balance.specs.Splitting.{split, must_split}
use Rattle.balance.proofs.Balance.{tree_of}
use Rattle.balance.proofs.Blocks.{inside-facts, inside-self, inside-same}
use Rattle.balance.proofs.Stored.{split-facts, split-mem}
use Rattle.balance.proofs.Wanted.{must-facts, facts-must}

module _ (d : ℕ) (keys : List ℕ) (k : TreeKeys d keys) (r : ℕ) (v : ValidKey d r) where
  pub split-deep : depth_of keys ≤ level_of r + 1 → (b : Bool) → b ≡ split d keys r → b ≡ must_split d keys r
  split-deep h b e = e ∙ same_test (split d keys r) (must_split d keys r) to from
    where
      to : split d keys r ≡ true → must_split d keys r ≡ true
      to s = facts-must d keys r r (split-mem d keys (tree_of d keys k) r s).0 s (inside-self d r)

      from : must_split d keys r ≡ true → split d keys r ≡ true
      from m =
          let f = must-facts d keys r m in
          let i = inside-facts d r f.cell f.inside_is in
          let s = split-facts d keys f.cell f.splits in
          let w = (tree_of d keys k).sound f.cell (split-mem d keys (tree_of d keys k) f.cell f.splits).0 in
          let up : level_of f.cell ≡ level_of s.cell - 1 = ap level_of (sym s.parent_is) ∙ level-parent d s.cell in
          let most : level_of s.cell ≤ depth_of keys = reached s.cell s.mem in
          let same : level_of f.cell ≡ level_of r = omega (arith, i.level, s.deep) in
          subst (λ (x : ℕ). split d keys x ≡ true) (sym (inside-same d r f.cell v w same i)) f.splits
        where
          reached : (c : ℕ) → Mem c keys → level_of c ≤ depth_of keys
          reached c (n, l, q) = omega (arith, level-greatest keys n l, ap level_of q)
