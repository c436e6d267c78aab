-- The nodes do not depend on the order of the targets.
use mathlib.Core.Path.{◌≡◌, refl, ap, ap₂, fun_ext}
use mathlib.Core.Bool.{Bool, ◌&&◌, ◌||◌, cond}
use mathlib.Core.List.{List, [], ◌∷◌}
use Prim.Native.Nat.{ℕ, zero, suc, ◌*◌, ◌-◌}
use lib.Dec.{ltb, eqb}
use lib.ListN.{length}
use Rattle.slices.specs.Lists.{filter, concat_map}
use Rattle.slices.specs.Order.{ascending}
use Rattle.slices.proofs.Rows.{count-ascending}
use Rattle.morton.specs.Keys.{deepest, level_of, code_of, above, children}
use Rattle.morton.specs.Depth.{reference_depth}
use Rattle.refine.specs.Counts.{count_at, sources_in}
use Rattle.refine.specs.Refinement.{near_limit, factor}
use Rattle.growth.specs.declared.Rule.{Rule}
use Rattle.growth.specs.Nodes.{splits, kept, kids, preorder, nodes}

-- a cell holds as many of the sorted codes as of the codes
count-sorted : (d : ℕ) (codes : List ℕ) (level code : ℕ) → count_at d (ascending codes) level code ≡ count_at d codes level code
unfolding count_at
count-sorted d codes level code = count-ascending (λ c. eqb (above d (deepest - level) c) code) codes

module _ (g : Rule) (s t : List ℕ) where
  splits-any : (k : ℕ) → splits g s (ascending t) k ≡ splits g s t k
  unfolding splits
  splits-any k =
      ap (λ (n : ℕ). eqb (level_of k) 0 || (ltb (level_of k) deepest && (ltb g.limit (sources_in g.axes s k) || ltb (near_limit g.axes g.limit g.order * factor g.axes (reference_depth g.axes (length s)) s k) n)))
      (count-sorted g.axes t (level_of k) (code_of k))

  kids-any : (k : ℕ) → kids g s (ascending t) k ≡ kids g s t k
  unfolding kids
  kids-any k = ap (λ (b : Bool). cond b (filter (kept g s t) (children g.axes k)) []) (splits-any k)

  below-any : (left k : ℕ) → preorder g s (ascending t) left k ≡ preorder g s t left k
  unfolding preorder
  below-any zero k = refl
  below-any (suc left) k = ap₂ (λ (f : ℕ → List ℕ) (ks : List ℕ). k ∷ concat_map f ks) (fun_ext (below-any left)) (kids-any k)

  pub nodes-any : nodes g s (ascending t) ≡ nodes g s t
  unfolding nodes
  nodes-any = below-any deepest 0
