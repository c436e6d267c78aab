-- Rows speak of stored keys and not of numbers: they are the same in every order of the nodes.
use mathlib.Core.Path.{◌≡◌, refl, sym, ap, ap₂, ◌∙◌, fun_ext}
use mathlib.Core.Bool.{Bool, true, false, ◌&&◌, ◌||◌, not, cond}
use mathlib.Core.List.{List, [], ◌∷◌, map}
use Prim.Native.Nat.{ℕ, ◌+◌, ◌*◌}
use lib.Dec.{ltb}
use Rattle.slices.specs.Lists.{filter, sum}
use Rattle.slices.specs.Order.{ascending}
use Rattle.morton.specs.Keys.{level_of, parent}
use Rattle.morton.specs.Anchors.{touching}
use Rattle.tree.specs.Nodes.{leaf, own_of, sourced}
use Rattle.rows.specs.Lists.{at_or_under, beside_ancestor, neighbour, in_u, u_row, in_v, v_row, sourced_cells, near_work}
use Rattle.tree.specs.Arrangement.{Arrangement, SameTree}
use Rattle.tree.proofs.Perm.{perm-filter, perm-row, perm-sum, perm-leaf, same-sourced}

module _ (d : ℕ) (keys own keys' own' : List ℕ) (same : SameTree keys own keys' own') where
  same-leaf : (k : ℕ) → leaf d keys k ≡ leaf d keys' k
  same-leaf k = perm-leaf keys keys' same.arranged d k

  same-u : (b s : ℕ) → in_u d keys own b s ≡ in_u d keys' own' b s
  unfolding in_u
  same-u b s = ap₂ (λ (x y : Bool). x && (y && (at_or_under d b s || beside_ancestor d b s))) (same-leaf s) (same-sourced d keys own keys' own' same s)

  same-v : (b c : ℕ) → in_v d keys own b c ≡ in_v d keys' own' b c
  unfolding in_v
  same-v b c =
      ap (λ (y : Bool). (ltb 0 (level_of b) && ltb 0 (level_of c)) && (neighbour d (parent d b) (parent d c) && (y && not (touching d b c)))) (same-sourced d keys own keys' own' same c)

  -- a row whose test is the same on every key is the same
  row : (p q : ℕ → Bool) → ((k : ℕ) → p k ≡ q k) → ascending (filter p keys) ≡ ascending (filter q keys')
  row p q e = ap (λ (f : ℕ → Bool). ascending (filter f keys)) (fun_ext e) ∙ perm-row keys keys' same.arranged q

  pub same-u-row : (b : ℕ) → u_row d keys own b ≡ u_row d keys' own' b
  unfolding u_row
  same-u-row b = ap₂ (λ (t : Bool) (r : List ℕ). cond t r []) (same-leaf b) (row (in_u d keys own b) (in_u d keys' own' b) (same-u b))

  pub same-v-row : (b : ℕ) → v_row d keys own b ≡ v_row d keys' own' b
  unfolding v_row
  same-v-row b = row (in_v d keys own b) (in_v d keys' own' b) (same-v b)

  pub same-sourced-cells : sourced_cells d keys own ≡ sourced_cells d keys' own'
  unfolding sourced_cells
  same-sourced-cells = row (sourced d keys own) (sourced d keys' own') (same-sourced d keys own keys' own' same)

  -- with the same targets in each leaf
  pub same-near-work : (weigh weigh' : ℕ → ℕ) → ((b : ℕ) → weigh b ≡ weigh' b) → near_work d keys own weigh ≡ near_work d keys' own' weigh'
  unfolding near_work
  same-near-work weigh weigh' e =
      ap₂ (λ (f : ℕ → ℕ) (p : ℕ → Bool). sum (map f (filter p keys))) (fun_ext term) (fun_ext same-leaf)
      ∙ perm-sum (filter (leaf d keys') keys) (filter (leaf d keys') keys') (perm-filter keys keys' same.arranged (leaf d keys'))
      (λ b. weigh' b * sum (map (own_of keys' own') (u_row d keys' own' b)))
    where
      term : (b : ℕ) → weigh b * sum (map (own_of keys own) (u_row d keys own b)) ≡ weigh' b * sum (map (own_of keys' own') (u_row d keys' own' b))
      term b = ap₂ (λ (n m : ℕ). n * m) (e b) (ap₂ (λ (f : ℕ → ℕ) (r : List ℕ). sum (map f r)) (fun_ext same.owned) (same-u-row b))
