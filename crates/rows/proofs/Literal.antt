-- U and V, as defined, are document 01's words read over the list of a cell's neighbours.
use mathlib.Core.Path.{◌≡◌, refl, sym, ap, ap₂, ◌∙◌}
use mathlib.Core.Bool.{Bool, true, false, ◌&&◌, ◌||◌, not, cond}
use mathlib.Core.List.{List, [], ◌∷◌}
use Prim.Native.Nat.{ℕ, zero, suc, ◌≤◌, ◌<◌, suc-le-suc}
use native.Mathlib.Omega.{arith}
use lib.Dec.{ltb}
use lib.ListN.{length, get_or}
use borrow.Author.Tests.{ltb-true}
use Rattle.slices.specs.Lists.{filter, any, Mem}
use Rattle.slices.specs.Order.{ascending}
use Rattle.slices.proofs.Counts.{here, there}
use Rattle.morton.specs.Keys.{level_of, axes_known, ValidKey, valid, parent, under, ancestors}
use Rattle.morton.specs.Anchors.{touching}
use Rattle.neighbours.specs.Directions.{neighbours}
use Rattle.morton.proofs.Checks.{valid-facts, facts-valid}
use Rattle.tree.specs.Nodes.{child_of, leaf, sourced}
use Rattle.tree.specs.WellFormed.{formed}
use Rattle.tree.proofs.Rules.{WellFormed, facts}
use Rattle.rows.specs.Lists.{neighbour, at_or_under, beside_ancestor, in_u, in_v, u_row, v_row}
use Rattle.rows.proofs.Around.{around, valid-parent, by-neighbours, by-cousins}

-- sourced leaves at or under itself and its neighbours, with sourced leaves touching an ancestor at that ancestor's level
abbrev pub u_words : ℕ → List ℕ → List ℕ → ℕ → ℕ → Bool
u_words d keys own b s =
    leaf d keys s && (sourced d keys own s && (any (λ c. under d c s) (b ∷ neighbours d b) || any (λ a. touching d a s) (ancestors d b)))

-- sourced children of its parent's neighbours that do not touch it; the root has no parent
abbrev pub v_words : ℕ → List ℕ → List ℕ → ℕ → ℕ → Bool
v_words d keys own b c =
    ltb 0 (level_of b) && (any (λ p. child_of d p c) (neighbours d (parent d b)) && (sourced d keys own c && not (touching d b c)))

filter-ext : (p q : ℕ → Bool) (xs : List ℕ) → ((x : ℕ) → Mem x xs → p x ≡ q x) → filter p xs ≡ filter q xs
unfolding filter
filter-ext p q [] h = refl
filter-ext p q (x ∷ xs) h = rw (h x (here x xs), filter-ext p q xs (λ y m. h y (there x y xs m)))

and_assoc : (a b c : Bool) → ((a && b) && c) ≡ (a && (b && c))
and_assoc true b c = refl
and_assoc false b c = refl

module _ (d : ℕ) (keys own : List ℕ) (b s : ℕ) (v : ValidKey d b) (ok : valid d s ≡ true) where
  u-test : in_u d keys own b s ≡ u_words d keys own b s
  unfolding in_u
  u-test = ap (λ t. leaf d keys s && (sourced d keys own s && (t || beside_ancestor d b s))) (by-neighbours d b s (neighbours d b) (around d b v) ok)

  v-test : in_v d keys own b s ≡ v_words d keys own b s
  unfolding in_v
  v-test = and_assoc (ltb 0 (level_of b)) (ltb 0 (level_of s)) _ ∙ go (ltb 0 (level_of b)) refl
    where
      go : (t : Bool) → ltb 0 (level_of b) ≡ t
          → (t && (ltb 0 (level_of s) && (neighbour d (parent d b) (parent d s) && (sourced d keys own s && not (touching d b s)))))
          ≡ (t && (any (λ p. child_of d p s) (neighbours d (parent d b)) && (sourced d keys own s && not (touching d b s))))
      go false e = refl
      go true e =
          let deep = ltb-true 0 (level_of b) e in
          let up = valid-facts d (parent d b) (facts-valid d b v).0 (valid-parent d b deep (facts-valid d b v).1) in
          sym (and_assoc (ltb 0 (level_of s)) (neighbour d (parent d b) (parent d s)) _)
          ∙ ap (◌&& (sourced d keys own s && not (touching d b s))) (by-cousins d b s (neighbours d (parent d b)) (around d (parent d b) up) ok)

-- the rows of each node of a well-formed tree
module _ (d : ℕ) (keys own begin : List ℕ) (known : axes_known d ≡ true) (tree : formed d keys own begin ≡ true) where
  sound : (k : ℕ) → Mem k keys → valid d k ≡ true
  sound k m = rw m.2 at ((facts d keys own begin tree).ascending.sound m.0 m.1)

  pub u-literal : (b : ℕ) → Mem b keys → u_row d keys own b ≡ cond (leaf d keys b) (ascending (filter (u_words d keys own b) keys)) []
  unfolding u_row
  u-literal b m = ap (λ xs. cond (leaf d keys b) (ascending xs) []) (filter-ext (in_u d keys own b) (u_words d keys own b) keys (λ s n. u-test d keys own b s (valid-facts d b known (sound b m)) (sound s n)))

  pub v-literal : (b : ℕ) → Mem b keys → v_row d keys own b ≡ ascending (filter (v_words d keys own b) keys)
  unfolding v_row
  v-literal b m = ap ascending (filter-ext (in_v d keys own b) (v_words d keys own b) keys (λ c n. v-test d keys own b c (valid-facts d b known (sound b m)) (sound c n)))
