-- The nodes in Z order are those by level, each once.
use mathlib.Core.Path.{◌≡◌, refl, sym, ap, ap₂, ◌∙◌}
use mathlib.Core.Bool.{Bool, true, false}
use mathlib.Core.List.{List, [], ◌∷◌, ◌++◌}
use Prim.Native.Nat.{ℕ, zero, suc, ◌+◌, ◌≤◌, ◌<◌}
use native.Mathlib.Omega.{arith}
use lib.Dec.{eqb}
use Rattle.slices.specs.Lists.{bit, count, concat_map}
use Rattle.slices.proofs.Lists.{count-append, concat_map-append}
use Rattle.morton.specs.Keys.{deepest}
use Rattle.growth.specs.declared.Rule.{Rule}
use Rattle.growth.specs.Nodes.{kids}
use Rattle.growth.specs.ByLevel.{cells_at, nodes_to, nodes_by_level}
use Rattle.tree.specs.Arrangement.{Arrangement}
use Rattle.growth.specs.Nodes.{preorder, nodes}

module _ (g : Rule) (s t : List ℕ) (p : ℕ → Bool) where
  -- with no level left, the cells themselves
  bottom : (xs : List ℕ) → count p (concat_map (preorder g s t 0) xs) ≡ count p xs
  unfolding count concat_map preorder
  bottom [] = refl
  bottom (x ∷ xs) = omega (arith, count-append p (x ∷ []) (concat_map (preorder g s t 0) xs), bottom xs)

  -- else the cells, and all below their children
  layer : (n : ℕ) (xs : List ℕ) → count p (concat_map (preorder g s t (suc n)) xs) ≡ count p xs + count p (concat_map (preorder g s t n) (concat_map (kids g s t) xs))
  unfolding count concat_map preorder
  layer n [] = refl
  layer n (x ∷ xs) =
      omega (
        arith,
        count-append p (x ∷ concat_map (preorder g s t n) (kids g s t x)) (concat_map (preorder g s t (suc n)) xs),
        ap (count p) (concat_map-append (preorder g s t n) (kids g s t x) (concat_map (kids g s t) xs)),
        count-append p (concat_map (preorder g s t n) (kids g s t x)) (concat_map (preorder g s t n) (concat_map (kids g s t) xs)),
        layer n xs,
      )

  levels : (n l : ℕ) → count p (nodes_to g s t l) + count p (concat_map (preorder g s t n) (cells_at g s t (suc l))) ≡ count p (nodes_to g s t (suc l + n))
  unfolding nodes_to cells_at
  levels zero l =
      let e : suc l + 0 ≡ suc l = omega arith in
      ap (count p (nodes_to g s t l) +◌) (bottom (cells_at g s t (suc l))) ∙ sym (count-append p (nodes_to g s t l) (cells_at g s t (suc l))) ∙ ap (λ (m : ℕ). count p (nodes_to g s t m)) (sym e)
  levels (suc n) l =
      let e : suc l + suc n ≡ suc (suc l) + n = omega arith in
      omega (arith, layer n (cells_at g s t (suc l)), count-append p (nodes_to g s t l) (cells_at g s t (suc l)), levels n (suc l), ap (λ (m : ℕ). count p (nodes_to g s t m)) e)

  root : (n : ℕ) → count p (preorder g s t (suc n) 0) ≡ count p (nodes_to g s t (suc n))
  unfolding count concat_map preorder nodes_to cells_at
  root n =
      let e : suc 0 + n ≡ suc n = omega arith in
      omega (
        arith,
        levels n 0,
        ap (count p) (concat_map-append (preorder g s t n) (kids g s t 0) []),
        count-append p (concat_map (preorder g s t n) (kids g s t 0)) [],
        ap (λ (m : ℕ). count p (nodes_to g s t m)) e,
      )

  pub same_count : count p (nodes g s t) ≡ count p (nodes_by_level g s t)
  unfolding nodes nodes_by_level
  same_count = root 15

-- order 10's Z1: the new keys are an arrangement of the old
pub nodes-arranged : (g : Rule) (s t : List ℕ) → Arrangement (nodes g s t) (nodes_by_level g s t)
nodes-arranged g s t x = same_count g s t (λ c. eqb c x)
