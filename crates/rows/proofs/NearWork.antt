-- Order 2: near work is the sum over the targets of the sources in the U row of each one's leaf, and only the weights of leaves count.
use mathlib.Core.Path.{◌≡◌, refl, sym, ap, ap₂, ◌∙◌}
use mathlib.Core.Bool.{Bool, true, false, ◌&&◌, cond}
use mathlib.Core.List.{List, [], ◌∷◌, map}
use Prim.Native.Nat.{ℕ, suc, ◌+◌, ◌*◌, ◌<◌, suc-le-suc}
use native.Mathlib.Omega.{arith}
use native.Mathlib.Nat.{add-mul, zero-mul}
use lib.Dec.{ltb, eqb}
use lib.ListN.{length, get_or}
use borrow.Author.Tests.{eqb-true, eq-eqb}
use Rattle.slices.specs.Lists.{filter, bit, count, sum, Mem, Distinct}
use Rattle.slices.proofs.Tests.{and_l, and_r, both}
use Rattle.slices.proofs.Counts.{count-one}
use Rattle.slices.proofs.Rows.{count-filter}
use Rattle.slices.proofs.Members.{mem-filter}
use Rattle.slices.proofs.Sums.{sum_same, sum_both, sum-none, sum-times}
use Rattle.tree.specs.Nodes.{leaf, own_of}
use Rattle.tree.proofs.Members.{stored-mem}
use Rattle.rows.specs.Lists.{u_row, near_work, targets_at}

module _ (d : ℕ) (keys own : List ℕ) where
  -- the sources in the U row of b
  abbrev pub near_sources : ℕ → ℕ
  near_sources b = sum (map (own_of keys own) (u_row d keys own b))

  -- weights that agree on the leaves give one figure
  pub same-weights : (weigh weigh' : ℕ → ℕ) → ((b : ℕ) → Mem b keys → leaf d keys b ≡ true → weigh b ≡ weigh' b) → near_work d keys own weigh ≡ near_work d keys own weigh'
  unfolding near_work
  same-weights weigh weigh' h =
      sum_same (λ b. weigh b * near_sources b) (λ b. weigh' b * near_sources b) (filter (leaf d keys) keys)
      (λ b m. let (mk, p) = mem-filter (leaf d keys) keys b m in ap (λ n. n * near_sources b) (h b mk p))

  module _ (apart : Distinct keys) where
    -- a leaf stands once among the leaves
    leaf-once : (k : ℕ) → leaf d keys k ≡ true → count (eqb k) (filter (leaf d keys) keys) ≡ 1
    unfolding leaf
    leaf-once k h =
        count-filter (eqb k) (leaf d keys) keys
        ∙ count-one (λ b. leaf d keys b && eqb k b) keys apart k (stored-mem keys k (and_l _ _ h)) (λ b m p. sym (eqb-true k b (and_r (leaf d keys b) _ p)))
        ∙ ap bit (both h (eq-eqb k k refl))

    -- a target more, in the leaf k
    one_more : (k : ℕ) (marks : List ℕ) → leaf d keys k ≡ true → near_work d keys own (targets_at (k ∷ marks)) ≡ near_sources k + near_work d keys own (targets_at marks)
    unfolding near_work count
    one_more k marks h =
        sum_same (λ b. (bit (eqb k b) + targets_at marks b) * near_sources b) (λ b. cond (eqb k b) (near_sources k) 0 + targets_at marks b * near_sources b) (filter (leaf d keys) keys) (λ b _. term b (eqb k b) refl)
        ∙ sum_both (λ b. cond (eqb k b) (near_sources k) 0) (λ b. targets_at marks b * near_sources b) (filter (leaf d keys) keys)
        ∙ ap (λ n. n + sum (map (λ b. targets_at marks b * near_sources b) (filter (leaf d keys) keys)))
        (sum-times (eqb k) (near_sources k) (filter (leaf d keys) keys) (omega (arith, leaf-once k h)) ∙ ap (λ n. cond (ltb 0 n) (near_sources k) 0) (leaf-once k h))
      where
        term : (b : ℕ) (t : Bool) → eqb k b ≡ t → (bit t + targets_at marks b) * near_sources b ≡ cond t (near_sources k) 0 + targets_at marks b * near_sources b
        term b true e = add-mul 1 (targets_at marks b) (near_sources b) ∙ ap (λ n. n + targets_at marks b * near_sources b) (omega (arith, ap near_sources (eqb-true k b e)))
        term b false e = omega arith

    no_target : near_work d keys own (targets_at []) ≡ 0
    unfolding near_work count
    no_target = sum-none (λ b. 0 * near_sources b) (filter (leaf d keys) keys) (λ b _. zero-mul (near_sources b))

    -- the sum over targets: marks are the keys of their leaves
    pub by-target : (marks : List ℕ) → ((i : ℕ) → i < length marks → leaf d keys (get_or marks i 0) ≡ true) → near_work d keys own (targets_at marks) ≡ sum (map near_sources marks)
    unfolding sum
    by-target [] h = no_target
    by-target (k ∷ marks) h = one_more k marks (h 0 (omega arith)) ∙ ap (λ n. near_sources k + n) (by-target marks (λ i l. h (suc i) (suc-le-suc l)))
