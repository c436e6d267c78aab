-- The depth is what it was, as by level the greatest level is the last node's, and so lookup ends at the same leaf.
use mathlib.Core.Path.{◌≡◌, refl, sym, ap, ap₂, ◌∙◌, subst}
use mathlib.Core.Bool.{Bool, true, false, cond}
use mathlib.Core.List.{List, [], ◌∷◌}
use mathlib.Core.Logic.{◌⊎◌, inl, inr}
use Prim.Native.Nat.{ℕ, zero, suc, ◌-◌, ◌≤◌, ◌<◌, max}
use native.Mathlib.Omega.{arith}
use native.Mathlib.Nat.{eq-or-lt_of_le}
use lib.ListN.{length, get_or}
use Rattle.slices.specs.Lists.{Mem}
use Rattle.morton.specs.Keys.{level_of}
use Rattle.tree.specs.Order.{greatest_level, depth_of}
use Rattle.tree.specs.ByLevel.{depth_by_level}
use Rattle.tree.proofs.ByLevel as by_level
use Rattle.tree.specs.Arrangement.{Arrangement}
use Rattle.tree.proofs.Leaves.{level-greatest, greatest-le}
use Rattle.tree.specs.Leaves.{cell_of, climbed, leaf_level}
use Rattle.tree.proofs.Perm.{perm-mem, perm-leaf}

greatest-half : (xs ys : List ℕ) → Arrangement xs ys → greatest_level xs ≤ greatest_level ys
greatest-half xs ys a = greatest-le xs (greatest_level ys) (λ i l. go i (perm-mem xs ys a (get_or xs i 0) (i, l, refl)))
  where
    go : (i : ℕ) → Mem (get_or xs i 0) ys → level_of (get_or xs i 0) ≤ greatest_level ys
    go i (j, lj, e) = subst (λ k. level_of k ≤ greatest_level ys) e (level-greatest ys j lj)

module _ (d : ℕ) (keys old : List ℕ) (a : Arrangement keys old) (w : by_level.Ascending d old) (some : 0 < length old) where
  -- by level, the greatest level is the last node's
  last : greatest_level old ≡ level_of (get_or old (length old - 1) 0)
  last =
      let p = level-greatest old (length old - 1) (omega arith) in
      let q = greatest-le old (level_of (get_or old (length old - 1) 0)) (λ i l. go i l (eq-or-lt_of_le (up i l))) in
      omega arith
    where
      up : (i : ℕ) → i < length old → i ≤ length old - 1
      up i l = omega arith

      go : (i : ℕ) → i < length old → (i ≡ length old - 1) ⊎ (i < length old - 1) → level_of (get_or old i 0) ≤ level_of (get_or old (length old - 1) 0)
      go i l (inl e) = rw e (omega arith)
      go i l (inr h) = (by_level.earlier-at d old w i (length old - 1) h (omega arith)).0

  pub same-depth : depth_of keys ≡ depth_by_level old
  same-depth = ap (max 1) (the (greatest-half keys old a) (greatest-half old keys (λ x. sym (a x))) ∙ last)
    where
      the : greatest_level keys ≤ greatest_level old → greatest_level old ≤ greatest_level keys → greatest_level keys ≡ greatest_level old
      the h g = omega arith

  same-climb : (code top : ℕ) → climbed d keys code top ≡ climbed d old code top
  unfolding climbed
  same-climb code zero = refl
  same-climb code (suc l) = ap₂ (λ (b : Bool) (n : ℕ). cond b (suc l) n) (perm-leaf keys old a d (cell_of d (suc l) code)) (same-climb code l)

  -- a climb from the old depth ended at the same level
  pub same-leaf-level : (code : ℕ) → leaf_level d keys code ≡ climbed d old code (depth_by_level old)
  same-leaf-level code = same-climb code (depth_of keys) ∙ ap (climbed d old code) same-depth
