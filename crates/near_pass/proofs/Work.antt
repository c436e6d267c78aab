-- What each node adds to near work, that the sum over nodes is near work, and that it is at most 2 ^ 40.
use mathlib.Core.Path.{◌≡◌, refl, sym, ap, ap₂, ◌∙◌, subst}
use mathlib.Core.Bool.{Bool, true, false, cond}
use mathlib.Core.List.{List, [], ◌∷◌, map}
use Prim.Native.Nat.{ℕ, zero, suc, ◌+◌, ◌*◌, ◌≤◌, ◌<◌, zero-le, suc-le-suc}
use native.Mathlib.Omega.{arith}
use native.Mathlib.Nat.{not-suc-le-zero, le_of_suc-le-suc, mul-le-mul_left, mul-le-mul, zero-mul}
use lib.ListN.{length, get_or}
use borrow.Author.Tests.{eq-eqb, ne_eqb}
use Rattle.slices.specs.Lists.{filter, sum, Mem, Distinct}
use Rattle.slices.specs.Order.{ascending}
use Rattle.slices.proofs.Members.{filter-mem}
use Rattle.slices.proofs.Sums.{sum-term}
use Rattle.morton.specs.Keys.{level_of, parent}
use Rattle.tree.specs.Nodes.{leaf, own_of}
use Rattle.tree.specs.WellFormed.{most_sources, SoundTree, totals_right}
use Rattle.tree.proofs.Follow.{inner-next, root-no-leaf}
use Rattle.rows.specs.Lists.{u_row, in_u, near_work}
use Rattle.links.specs.Links.{inner}
use Rattle.links.proofs.Walk.{inner-inside, inner-deeper}
use Rattle.around.specs.Around.{owner}
use Rattle.around.proofs.Nodes.{well, tree_of, alone, own_count, node-valid}
use Rattle.node_rows.specs.Near.{near_entries}
use Rattle.node_rows.proofs.Nodes.{node-deep, outer-leaf}
use Rattle.near_pass.specs.Sums.{row_sources, work_of, most_work, Weights, kept_sources}
use Rattle.near_pass.proofs.Sums.{filter-le, filter-sum, ascending-sum, scaled}
use Rattle.near_pass.proofs.Near.{kept-down, leaf-sources}

-- a column's entry for a node, where the column may be longer
pub entry-of : (keys column : List ℕ) → Distinct keys → length keys ≤ length column → (i : ℕ) → i < length keys → own_of keys column (get_or keys i 0) ≡ get_or column i 0
unfolding own_of
entry-of [] column dist e i l = absurd (not-suc-le-zero l)
entry-of (x ∷ xs) [] dist e i l = absurd (omega arith)
entry-of (x ∷ xs) (v ∷ vs) dist e zero l = rw (eq-eqb x x refl)
entry-of (x ∷ xs) (v ∷ vs) dist e (suc i) l =
    rw (ne_eqb x (get_or xs i 0) (λ q. omega (arith, dist 0 (suc i) (omega arith) l q)))
    (entry-of xs vs (λ a b la lb q. omega (arith, dist (suc a) (suc b) (suc-le-suc la) (suc-le-suc lb) q)) (omega arith) i (le_of_suc-le-suc l))

-- a column by what stands beside each key
column-of : (f : ℕ → ℕ) (ks os : List ℕ) → length os ≡ length ks → ((i : ℕ) → i < length ks → f (get_or ks i 0) ≡ get_or os i 0) → map f ks ≡ os
column-of f [] [] e h = refl
column-of f [] (o ∷ os) e h = absurd (omega arith)
column-of f (k ∷ ks) [] e h = absurd (omega arith)
column-of f (k ∷ ks) (o ∷ os) e h = ap₂ (λ (x : ℕ) (xs : List ℕ). x ∷ xs) (h 0 (omega arith)) (column-of f ks os (omega arith) (λ i l. h (suc i) (suc-le-suc l)))

module _ (d : ℕ) (keys own : List ℕ) (t : SoundTree d keys own) where
  own-sum : sum (map (own_of keys own) keys) ≡ sum own
  own-sum = ap sum (column-of (own_of keys own) keys own (well d keys own t).owns (own_count d keys own t))

  pub own-total : sum (map (own_of keys own) keys) ≤ most_sources
  own-total = omega (arith, own-sum, (well d keys own t).total)

  -- no part of the nodes owns more than the tree
  part-few : (p : ℕ → Bool) → sum (map (own_of keys own) (filter p keys)) ≤ most_sources
  part-few p = omega (arith, filter-le (own_of keys own) p keys, own-sum, (well d keys own t).total)

  -- no row has more sources than the tree
  pub sources-few : (b : ℕ) → row_sources keys own (u_row d keys own b) ≤ most_sources
  unfolding u_row
  sources-few b = go (leaf d keys b)
    where
      go : (t : Bool) → row_sources keys own (cond t (ascending (filter (in_u d keys own b) keys)) []) ≤ most_sources
      go true = omega (arith, ascending-sum (own_of keys own) (filter (in_u d keys own b) keys), part-few (in_u d keys own b))
      go false = unfold sum in zero-le

  pub kept-few : (p : ℕ) → kept_sources d keys own p ≤ most_sources
  unfolding kept_sources
  kept-few p = part-few (owner d keys own p (suc (level_of p)))

  pub root-leaf : leaf d keys (get_or keys 0 0) ≡ false
  root-leaf = root-no-leaf d keys own (tree_of d keys own t)

  module _ (i : ℕ) (pos : 0 < i) (l : i < length keys) where
    pub near-own-few : sum (near_entries d keys own (get_or keys i 0) own) ≤ most_sources
    near-own-few = omega (arith, kept-down d keys own t (parent d (get_or keys i 0)) (get_or keys i 0) (node-valid d keys own t i l) (node-deep d keys own t i pos l) refl, kept-few (get_or keys i 0))

    -- a node with children is no leaf
    pub inner-leaf : inner keys i ≡ true → leaf d keys (get_or keys i 0) ≡ false
    inner-leaf h = inner-next d keys own (tree_of d keys own t) i (inner-inside keys i h) (inner-deeper keys i h)

    pub leaf-near : inner keys i ≡ false → (total : List ℕ) → totals_right d keys own total ≡ true → row_sources keys own (u_row d keys own (get_or keys i 0)) ≡ kept_sources d keys own (parent d (get_or keys i 0)) + sum (near_entries d keys own (get_or keys i 0) total)
    leaf-near h total r = leaf-sources d keys own t (parent d (get_or keys i 0)) (get_or keys i 0) (node-valid d keys own t i l) (node-deep d keys own t i pos l) refl (outer-leaf d keys own t i pos l h) total r

  module _ (counts : List ℕ) (w : Weights d keys counts) where
    -- the sum over leaves, as a sum over nodes
    pub over-nodes : sum (map (work_of d keys own counts) keys) ≡ near_work d keys own (own_of keys counts)
    unfolding near_work
    over-nodes = sym (filter-sum (λ b. own_of keys counts b * row_sources keys own (u_row d keys own b)) (leaf d keys) keys)

    pub all-le : sum (map (work_of d keys own counts) keys) ≤ most_work
    all-le = omega (arith, scaled (work_of d keys own counts) (λ b. cond (leaf d keys b) (own_of keys counts b) 0) most_sources work-le keys, filter-sum (own_of keys counts) (leaf d keys) keys, w.few)
      where
        work-le : (b : ℕ) → work_of d keys own counts b ≤ cond (leaf d keys b) (own_of keys counts b) 0 * most_sources
        work-le b = go (leaf d keys b)
          where
            go : (f : Bool) → cond f (own_of keys counts b * row_sources keys own (u_row d keys own b)) 0 ≤ cond f (own_of keys counts b) 0 * most_sources
            go true = mul-le-mul_left (own_of keys counts b) (sources-few b)
            go false = zero-le

    pub near-bound : near_work d keys own (own_of keys counts) ≤ most_work
    near-bound = omega (arith, over-nodes, all-le)

    module _ (i : ℕ) (l : i < length keys) where
      pub weight-of : get_or counts i 0 ≡ own_of keys counts (get_or keys i 0)
      weight-of = sym (entry-of keys counts (alone d keys own t) w.long i l)

      pub weight-few : leaf d keys (get_or keys i 0) ≡ true → get_or counts i 0 ≤ most_sources
      weight-few h = omega (arith, weight-of, sum-term (own_of keys counts) (filter (leaf d keys) keys) (get_or keys i 0) (filter-mem (leaf d keys) keys (get_or keys i 0) (i, l, refl) h), w.few)

-- ---- what a node adds
module _ (d : ℕ) (keys own counts : List ℕ) (b : ℕ) where
  pub work_none : leaf d keys b ≡ false → 0 ≡ work_of d keys own counts b
  work_none h = sym (ap (λ t. cond t (own_of keys counts b * row_sources keys own (u_row d keys own b)) 0) h)

  pub work-some : (n s : ℕ) → leaf d keys b ≡ true → n ≡ own_of keys counts b → s ≡ row_sources keys own (u_row d keys own b) → n * s ≡ work_of d keys own counts b
  work-some n s h e q = ap₂ (λ (n s : ℕ). n * s) e q ∙ sym (ap (λ t. cond t (own_of keys counts b * row_sources keys own (u_row d keys own b)) 0) h)

  -- a leaf without targets
  pub work-zero : (n : ℕ) → leaf d keys b ≡ true → n ≡ own_of keys counts b → n ≡ 0 → 0 ≡ work_of d keys own counts b
  work-zero n h e z = sym (ap (λ m. m * row_sources keys own (u_row d keys own b)) z ∙ zero-mul (row_sources keys own (u_row d keys own b))) ∙ work-some n (row_sources keys own (u_row d keys own b)) h e refl

pub product-fits : (n s : ℕ) → n ≤ most_sources → s ≤ most_sources → n * s ≤ most_work
product-fits n s a b = mul-le-mul a b
