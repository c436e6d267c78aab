-- The sources near a cell: those kept for its parent, and those in the nodes near it.
use mathlib.Core.Path.{◌≡◌, refl, sym, ap, ap₂, ◌∙◌, subst}
use mathlib.Core.Bool.{Bool, true, false, ◌&&◌, cond}
use mathlib.Core.List.{List, [], map}
use Prim.Native.Nat.{ℕ, zero, suc, ◌+◌, ◌-◌, ◌≤◌, ◌<◌}
use native.Mathlib.Omega.{arith}
use native.Mathlib.Decide.{dec_lt}
use lib.Dec.{ltb, eqb}
use lib.ListN.{length, get_or}
use borrow.Author.Tests.{ltb-true, ltb-false, eqb-true, eq-eqb, lt-ltb, le-ltb}
use Rattle.slices.specs.Lists.{filter, bit, count, range, sum, Mem}
use Rattle.slices.specs.Order.{ascending}
use Rattle.slices.proofs.Tests.{and_l, and_r, both, clash, refute, same_test}
use Rattle.slices.proofs.Counts.{count-few, count-zero, count-pos, pos-count}
use Rattle.slices.proofs.Rows.{count-filter}
use Rattle.slices.proofs.Members.{mem-filter, mem-range, filter-mem}
use Rattle.slices.proofs.Sums.{sum_same, sum-swap, sum-times, sum-none}
use Rattle.morton.specs.Keys.{level_of, code_of, above, parent, under, ValidKey}
use Rattle.morton.specs.Anchors.{near, close}
use Rattle.morton.proofs.Cells.{level_begins, code_at}
use Rattle.tree.specs.Nodes.{cell_at, leaf, own_of, sourced}
use Rattle.tree.specs.Totals.{total_in}
use Rattle.tree.specs.WellFormed.{SoundTree, totals_right}
use Rattle.tree.proofs.Rules.{total-facts}
use Rattle.tree.proofs.Under.{under-facts, same-holder}
use Rattle.tree.proofs.Sourced.{facts-under}
use Rattle.tree.proofs.Stored.{above-mem, sourced-by}
use Rattle.rows.specs.Lists.{in_u, u_row}
use Rattle.around.specs.Around.{near_to, owner, near_nodes}
use Rattle.around.proofs.Lists.{keys_filter, map-twice}
use Rattle.around.proofs.Nodes.{well, alone, own_count}
use Rattle.around.proofs.Nearby.{close-finer, close-above, up-level}
use Rattle.around.proofs.Owners.{u-owner, kept-split, none_above}
use Rattle.node_rows.specs.Near.{near_entries}
use Rattle.near_pass.specs.Sums.{row_sources, kept_sources}
use Rattle.near_pass.proofs.Sums.{filter-sum, filter_parts, ascending-sum}

module _ (d : ℕ) (keys own : List ℕ) (t : SoundTree d keys own) where
  abbrev owns : ℕ → Bool
  owns x = ltb 0 (own_of keys own x)

  abbrev own_sum : (ℕ → Bool) → ℕ
  own_sum p = sum (map (own_of keys own) (filter p keys))

  -- nothing is kept for the root
  pub kept-root : kept_sources d keys own 0 ≡ 0
  unfolding kept_sources
  kept-root =
      filter-sum (own_of keys own) (owner d keys own 0 1) keys
      ∙ sum-none (λ x. cond (owner d keys own 0 1 x) (own_of keys own x) 0) keys (λ x m. ap (λ b. cond b (own_of keys own x) 0) (refute (none_above d keys own t 0 x m)))

  -- a node that owns nothing adds nothing
  own-only : (p : ℕ → Bool) → own_sum (λ x. p x && owns x) ≡ own_sum p
  own-only p =
      filter-sum (own_of keys own) (λ x. p x && owns x) keys
      ∙ sum_same (λ x. cond (p x && owns x) (own_of keys own x) 0) (λ x. cond (p x) (own_of keys own x) 0) keys (λ x _. at (p x) (own_of keys own x) (owns x) refl)
      ∙ sym (filter-sum (own_of keys own) p keys)
    where
      at : (p : Bool) (n : ℕ) (o : Bool) → ltb 0 n ≡ o → cond (p && o) n 0 ≡ cond p n 0
      at false n o e = refl
      at true n true e = refl
      at true n false e = omega (arith, ltb-false 0 n e)

  -- the near nodes by number, and by key
  by_key : (q : ℕ) (column : List ℕ) (f : ℕ → ℕ) → ((j : ℕ) → j < length keys → get_or column j 0 ≡ f (get_or keys j 0)) → sum (near_entries d keys own q column) ≡ sum (map f (filter (near_to d keys own q) keys))
  by_key q column f e =
      sum_same (λ j. get_or column j 0) (λ j. f (get_or keys j 0)) (near_nodes d keys own q)
      (λ j m. e j (mem-range (length keys) j (mem-filter (λ j. near_to d keys own q (get_or keys j 0)) (range 0 (length keys)) j m).0))
      ∙ ap sum (sym (map-twice f (λ j. get_or keys j 0) (near_nodes d keys own q)) ∙ ap (map f) (keys_filter (near_to d keys own q) keys))

  module _ (p q : ℕ) (v : ValidKey d q) (deep : 0 < level_of q) (up : parent d q ≡ p) where
    -- the sources kept for q are those kept for its parent, and what the nodes near q own
    pub kept-down : kept_sources d keys own q ≡ kept_sources d keys own p + sum (near_entries d keys own q own)
    unfolding kept_sources
    kept-down =
        filter_parts (own_of keys own) (owner d keys own p (suc (level_of p))) (λ x. near_to d keys own q x && owns x) (owner d keys own q (suc (level_of q))) keys (kept-split d keys own t p q v deep up)
        ∙ ap (λ n. own_sum (owner d keys own p (suc (level_of p))) + n)
        (own-only (near_to d keys own q) ∙ sym (by_key q own (own_of keys own) (λ j l. sym (own_count d keys own t j l))))

    -- how many nodes near q hold x
    holders : ℕ → ℕ
    holders x = count (λ k. under d k x) (filter (near_to d keys own q) keys)

    near-level : (k : ℕ) → near_to d keys own q k ≡ true → level_of k ≡ level_of q
    near-level k h = eqb-true (level_of k) (level_of q) (and_l _ _ h)

    one-holder : (x : ℕ) → holders x ≤ 1
    unfolding holders
    one-holder x = omega (
      arith,
      count-filter (λ k. under d k x) (near_to d keys own q) keys,
      count-few (λ k. near_to d keys own q k && under d k x) keys (alone d keys own t)
          (λ j k mj mk hj hk. same-holder d j k x (near-level j (and_l _ _ hj) ∙ sym (near-level k (and_l _ _ hk))) (and_r (near_to d keys own q j) _ hj) (and_r (near_to d keys own q k) _ hk)),
    )

    -- all sources in the near nodes are those of the nodes that one of them holds
    near-total : (total : List ℕ) → totals_right d keys own total ≡ true → sum (near_entries d keys own q total) ≡ own_sum (λ x. ltb 0 (holders x))
    unfolding total_in holders
    near-total total h =
        by_key q total (total_in d keys own) (λ j l. (total-facts d keys own total h).1 j l)
        ∙ sum-swap (λ k x. cond (under d k x) (own_of keys own x) 0) (filter (near_to d keys own q) keys) keys
        ∙ sum_same (λ x. sum (map (λ k. cond (under d k x) (own_of keys own x) 0) (filter (near_to d keys own q) keys))) (λ x. cond (ltb 0 (holders x)) (own_of keys own x) 0) keys
        (λ x _. sum-times (λ k. under d k x) (own_of keys own x) (filter (near_to d keys own q) keys) (one-holder x))
        ∙ sym (filter-sum (own_of keys own) (λ x. ltb 0 (holders x)) keys)

    module _ (x : ℕ) (m : Mem x keys) (o : owns x ≡ true) where
      -- a node near q holds nothing of a coarser level
      none-coarser : level_of x < level_of q → ltb 0 (holders x) ≡ false
      unfolding holders
      none-coarser h = le-ltb 0 (holders x) (omega (arith, count-zero (λ k. under d k x) (filter (near_to d keys own q) keys) never))
        where
          never : (k : ℕ) → Mem k (filter (near_to d keys own q) keys) → under d k x ≡ true → ⊥
          never k mk u = omega (arith, (under-facts d k x u).level, near-level k (mem-filter (near_to d keys own q) keys k mk).1)

      -- else it does if x is close to q
      close-held : level_of q ≤ level_of x → ltb 0 (holders x) ≡ close d q x
      unfolding holders
      close-held h = same_test (ltb 0 (holders x)) (close d q x) there back
        where
          there : ltb 0 (holders x) ≡ true → close d q x ≡ true
          there g =
              let (k, mk, u) = pos-count (λ k. under d k x) (filter (near_to d keys own q) keys) (ltb-true 0 (holders x) g) in
              let n = (mem-filter (near_to d keys own q) keys k mk).1 in
              let c : code_of (cell_at d (level_of q) x) ≡ code_of k = code_at d (level_of q) x h ∙ ap (λ (l : ℕ). above d (level_of x - l) (code_of x)) (sym (near-level k n)) ∙ (under-facts d k x u).code in
              sym (close-finer d q x h) ∙ ap (near d d (level_of q) (code_of q)) c ∙ and_l (near d d (level_of q) (code_of q) (code_of k)) _ (and_r (eqb (level_of k) (level_of q)) _ n)

          at : level_of (cell_at d (level_of q) x) ≡ level_of q
          at = level_begins d (level_of q) x h

          below : under d (cell_at d (level_of q) x) x ≡ true
          below = facts-under d (cell_at d (level_of q) x) x (record { level = omega (arith, at); code = rw at (sym (code_at d (level_of q) x h)) })

          back : close d q x ≡ true → ltb 0 (holders x) ≡ true
          back g =
              let passes : near_to d keys own q (cell_at d (level_of q) x) ≡ true =
              both (eq-eqb (level_of (cell_at d (level_of q) x)) (level_of q) at) (both (close-finer d q x h ∙ g) (sourced-by d keys own (cell_at d (level_of q) x) x m (ltb-true 0 (own_of keys own x) o) below)) in
              let stored = above-mem d keys (well d keys own t).ascending (well d keys own t).parents x (level_of q) m h in
              let (i, l, e) = filter-mem (near_to d keys own q) keys (cell_at d (level_of q) x) stored passes in
              lt-ltb 0 (holders x) (count-pos (λ k. under d k x) (filter (near_to d keys own q) keys) i l (subst (λ k. under d k x ≡ true) (sym e) below))

      -- the U row's test in two parts
      in_parts : bit (close d q x) ≡ bit (close d p x && ltb (level_of x) (suc (level_of p))) + bit (ltb 0 (holders x))
      in_parts = go (dec_lt (level_of x) (level_of q))
        where
          last : (s : Bool) → (s && false) ≡ false
          last true = refl
          last false = refl

          all : (s : Bool) → (s && true) ≡ s
          all true = refl
          all false = refl

          go : Dec (level_of x < level_of q) → bit (close d q x) ≡ bit (close d p x && ltb (level_of x) (suc (level_of p))) + bit (ltb 0 (holders x))
          go (yes h) =
              let lo : ltb (level_of x) (suc (level_of p)) ≡ true = lt-ltb (level_of x) (suc (level_of p)) (omega (arith, up-level d p q deep up)) in
              sym (ap₂ (λ (a b : Bool). bit a + bit b) (ap (λ s. close d p x && s) lo ∙ all (close d p x) ∙ close-above d p q deep up x h) (none-coarser h) ∙ omega arith)
          go (no h) =
              let hi : ltb (level_of x) (suc (level_of p)) ≡ false = le-ltb (level_of x) (suc (level_of p)) (omega (arith, up-level d p q deep up)) in
              sym (ap₂ (λ (a b : Bool). bit a + bit b) (ap (λ s. close d p x && s) hi ∙ last (close d p x)) (close-held (omega arith)) ∙ omega arith)

    -- the sources near a leaf are those kept for its parent, and all in the nodes near it
    pub leaf-sources : leaf d keys q ≡ true → (total : List ℕ) → totals_right d keys own total ≡ true → row_sources keys own (u_row d keys own q) ≡ kept_sources d keys own p + sum (near_entries d keys own q total)
    unfolding u_row kept_sources
    leaf-sources f total h =
        ap (λ b. row_sources keys own (cond b (ascending (filter (in_u d keys own q) keys)) [])) f
        ∙ ascending-sum (own_of keys own) (filter (in_u d keys own q) keys)
        ∙ filter_parts (own_of keys own) (owner d keys own p (suc (level_of p))) (λ x. ltb 0 (holders x) && owns x) (in_u d keys own q) keys split
        ∙ ap (λ n. own_sum (owner d keys own p (suc (level_of p))) + n) (own-only (λ x. ltb 0 (holders x)) ∙ sym (near-total total h))
      where
        split : (x : ℕ) → Mem x keys → bit (in_u d keys own q x) ≡ bit (owner d keys own p (suc (level_of p)) x) + bit (ltb 0 (holders x) && owns x)
        split x m = ap bit (u-owner d keys own t q x m) ∙ go (owns x) refl
          where
            flip : (a : Bool) → (a && true) ≡ a
            flip true = refl
            flip false = refl

            off : (a : Bool) → (a && false) ≡ false
            off true = refl
            off false = refl

            go : (o : Bool) → owns x ≡ o → bit (o && close d q x) ≡ bit (o && (close d p x && ltb (level_of x) (suc (level_of p)))) + bit (ltb 0 (holders x) && o)
            go true e = in_parts x m e ∙ ap (λ b. bit (close d p x && ltb (level_of x) (suc (level_of p))) + bit b) (sym (flip (ltb 0 (holders x))))
            go false e = omega (arith, ap bit (off (ltb 0 (holders x))))
