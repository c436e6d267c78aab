-- One key: whether it is a leaf's, and its node.
use mathlib.Core.Path.{◌≡◌, sym, ap, subst, ◌∙◌}
use mathlib.Core.Bool.{Bool, true, false}
use mathlib.Core.List.{List}
use Prim.Native.Nat.{ℕ, ◌<◌}
use lib.ListN.{length, get_or}
use Rattle.slices.proofs.Tests.{and_l, clash, refute}
use Rattle.tree.specs.Nodes.{stored, leaf}
use Rattle.tree.specs.WellFormed.{keys_ascend}
use Rattle.tree.specs.Finding.{FoundNode}
use Rattle.std.specs.Prelude.{None, Option, Some}

-- a leaf is stored
pub leaf-stored : (d : ℕ) (keys : List ℕ) (k : ℕ) → leaf d keys k ≡ true → stored keys k ≡ true
unfolding leaf
leaf-stored d keys k h = and_l _ _ h

module _ (d : ℕ) (keys : List ℕ) (k : ℕ) (r : Option ℕ) (f : FoundNode d keys k r) where
  pub found_at : (node : ℕ) → r ≡ Some node → (node < length keys) × (get_or keys node 0 ≡ k)
  found_at node e = subst (FoundNode d keys k) e f

  pub not-nowhere : keys_ascend d keys ≡ true → stored keys k ≡ true → r ≡ None → ⊥
  not-nowhere o s e = clash s (subst (FoundNode d keys k) e f o)

  -- the node that is found tells whether the key is a leaf's
  pub is_leaf : (node : ℕ) → r ≡ Some node → (b : Bool) → b ≡ leaf d keys (get_or keys node 0) → b ≡ leaf d keys k
  is_leaf node e b h = h ∙ ap (leaf d keys) (found_at node e).1

  pub no-leaf : keys_ascend d keys ≡ true → r ≡ None → false ≡ leaf d keys k
  no-leaf o e = sym (refute (λ h. not-nowhere o (leaf-stored d keys k h) e))
