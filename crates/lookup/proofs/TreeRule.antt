-- What a call takes from the well-formed rule of a tree handed in.
use mathlib.Core.Path.{◌≡◌, ◌∙◌}
use mathlib.Core.Bool.{Bool, true, ◌&&◌}
use mathlib.Core.List.{List}
use Prim.Native.Nat.{ℕ}
use Rattle.morton.specs.Keys.{axes_known}
use Rattle.tree.proofs.Clauses.{facts-parents}
use Rattle.tree.specs.WellFormed.{well_formed}
use Rattle.tree.specs.Finding.{TreeKeys}
use Rattle.tree.proofs.Rules.{all-facts}
use Rattle.tree.proofs.Verdict.{keys_of}

module _ (d : ℕ) (keys own begin total : List ℕ) (a : axes_known d ≡ true) where
  pub tree-keys : well_formed d keys own begin total ≡ true → TreeKeys d keys
  tree-keys t =
      let f = all-facts d keys own begin total t in
      record { axes = a; some = f.some; ascend = keys_of d keys own begin total t; parents = facts-parents d keys f.rows.tree.parents }

  -- the check's answer is the rule's, the number of axes being known
  pub by-rule : (r : Bool) → r ≡ well_formed d keys own begin total → r ≡ (axes_known d && well_formed d keys own begin total)
  by-rule r e = e ∙ rw a
