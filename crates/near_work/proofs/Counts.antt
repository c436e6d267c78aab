-- The column of counts: what stands in it, and what near work it gives.
use mathlib.Core.Path.{◌≡◌, refl, sym, ap, ◌∙◌, subst}
use mathlib.Core.Bool.{Bool, true, false, ◌&&◌, cond}
use mathlib.Core.List.{List, [], ◌∷◌, map}
use Prim.Native.Nat.{ℕ, zero, suc, ◌+◌, ◌-◌, ◌/◌, ◌≤◌, ◌<◌, zero-le}
use native.Mathlib.Omega.{arith}
use native.Mathlib.Nat.{zero-div}
use native.Mathlib.Decide.{dec_lt}
use lib.Dec.{eqb}
use lib.Ieee.{Float}
use lib.ListN.{length, get_or, set, replicate, length-append, length-map, length-replicate, length-set, get_or-append}
use lib.Seq.{get_or-append-add, ext_get_or, get_or-set_same, get_or-set_other, take_all}
use borrow.Author.Tests.{eqb-true, eq-eqb, ne_eqb}
use Rattle.refusal.specs.Chain.{ask}
use Rattle.refusal.proofs.Chain.{asked, both-done}
use Rattle.slices.specs.Lists.{filter, bit, count, sum, filled, Mem}
use Rattle.slices.proofs.Tests.{and_r, clash, refute}
use Rattle.slices.proofs.Counts.{count-few, count-zero}
use Rattle.slices.proofs.Lists.{get_d_map}
use Rattle.slices.proofs.Members.{mem-filter}
use Rattle.slices.proofs.Rows.{count-filter}
use Rattle.slices.proofs.Sums.{sum_same, sum-swap, sum-bits, sum_less}
use Rattle.tree.specs.Nodes.{leaf, own_of}
use Rattle.tree.specs.WellFormed.{most_sources, SoundTree}
use Rattle.tree.specs.Leaves.{held, leaf_key}
use Rattle.rows.specs.Lists.{near_work, targets_at}
use Rattle.rows.proofs.NearWork.{same-weights}
use Rattle.sourced.proofs.Sound.{tree-keys}
use Rattle.grouping.specs.Passes.{Counted}
use Rattle.grouping.proofs.Values.{get_or-zeros}
use Rattle.grouping.proofs.Passing.{passing-le, passing-before}
use Rattle.space.specs.declared.Box.{Box}
use Rattle.space.specs.Cells.{frame_of}
use Rattle.space.specs.Rows.{rows_of, rows_inside, most_points}
use Rattle.space.proofs.Batches.{codes-length, rows-le}
use Rattle.lookup.specs.Batch.{held_before, leaf_keys, codes_inside, points_outcome}
use Rattle.lookup.proofs.Leaves.{held-leaf}
use Rattle.links.specs.Links.{inner, Links}
use Rattle.links.proofs.Walk.{inner-inside}
use Rattle.around.proofs.Nodes.{well, alone, own_count}
use Rattle.near_pass.specs.Sums.{Weights}
use Rattle.near_pass.proofs.Sums.{filter-le}
use Rattle.near_pass.proofs.Work.{entry-of, own-total, inner-leaf, root-leaf}
use Rattle.near_work.specs.Work.{weights, LeavesOnly, Cleared}
use Rattle.refusal.specs.Outcome.{accepted}

sum_ones : (ys : List ℕ) → sum (map (λ _. 1) ys) ≡ length ys
unfolding sum
sum_ones [] = refl
sum_ones (y ∷ ys) = omega (arith, sum_ones ys)

-- ---- a column made key by key, with 0 past the nodes
module _ (keys : List ℕ) (w : ℕ → ℕ) (n : ℕ) (room : length keys ≤ n) where
  pub col-long : length (filled n (map w keys)) ≡ n
  col-long = length-append (map w keys) (replicate (n - length (map w keys)) 0) ∙ omega (arith, length-map keys w, length-replicate {A = ℕ} (n - length (map w keys)) 0)

  pub col-at : (i : ℕ) → i < length keys → get_or (filled n (map w keys)) i 0 ≡ w (get_or keys i 0)
  col-at i l = get_or-append (map w keys) (replicate (n - length (map w keys)) 0) 0 i (omega (arith, length-map keys w)) ∙ get_d_map w keys i l

  col-past : (i : ℕ) → length keys ≤ i → get_or (filled n (map w keys)) i 0 ≡ 0
  col-past i l =
      let e : i ≡ length (map w keys) + (i - length keys) = omega (arith, length-map keys w) in
      ap (λ j. get_or (filled n (map w keys)) j 0) e ∙ get_or-append-add (map w keys) (replicate (n - length (map w keys)) 0) (i - length keys) 0 ∙ get_or-zeros (n - length (map w keys)) (i - length keys)

  -- a column with these entries is this one
  pub col-is : (counts : List ℕ) → length counts ≡ n → ((i : ℕ) → i < length keys → get_or counts i 0 ≡ w (get_or keys i 0)) → ((i : ℕ) → length keys ≤ i → get_or counts i 0 ≡ 0) → counts ≡ filled n (map w keys)
  col-is counts long at past = ext_get_or 0 counts (filled n (map w keys)) (long ∙ sym col-long) (λ i _. go i (dec_lt i (length keys)))
    where
      go : (i : ℕ) → Dec (i < length keys) → get_or counts i 0 ≡ get_or (filled n (map w keys)) i 0
      go i (yes l) = at i l ∙ sym (col-at i l)
      go i (no l) = past i (omega arith) ∙ sym (col-past i (omega arith))

  module _ (d : ℕ) (own : List ℕ) (t : SoundTree d keys own) where
    col-weight : (b : ℕ) → Mem b keys → own_of keys (filled n (map w keys)) b ≡ w b
    col-weight b (i, l, e) =
        ap (own_of keys (filled n (map w keys))) (sym e) ∙ entry-of keys (filled n (map w keys)) (alone d keys own t) (omega (arith, col-long)) i l ∙ col-at i l ∙ ap w e

    -- near work by the column is near work by the weights
    pub col-work : near_work d keys own (own_of keys (filled n (map w keys))) ≡ near_work d keys own w
    col-work = same-weights d keys own (own_of keys (filled n (map w keys))) w (λ b m _. col-weight b m)

    pub col-weights : sum (map w (filter (leaf d keys) keys)) ≤ most_sources → Weights d keys (filled n (map w keys))
    col-weights few = record {
      long = omega (arith, col-long);
      few = omega (arith, sum_same (own_of keys (filled n (map w keys))) w (filter (leaf d keys) keys) (λ b m. col-weight b (mem-filter (leaf d keys) keys b m).0));
    }

    pub col-leaves : ((b : ℕ) → leaf d keys b ≡ false → Mem b keys → w b ≡ 0) → LeavesOnly keys (filled n (map w keys))
    col-leaves none j h = go (dec_lt 0 j) (dec_lt j (length keys))
      where
        go : Dec (0 < j) → Dec (j < length keys) → get_or (filled n (map w keys)) j 0 ≡ 0
        go _ (no l) = col-past j (omega arith)
        go (yes p) (yes l) = col-at j l ∙ none (get_or keys j 0) (inner-leaf d keys own t j p l h) (j, l, refl)
        go (no p) (yes l) =
            let z : j ≡ 0 = omega arith in
            col-at j l ∙ none (get_or keys j 0) (ap (λ i. leaf d keys (get_or keys i 0)) z ∙ root-leaf d keys own t) (j, l, refl)

-- ---- the weights
module _ (b : Box) (keys own : List ℕ) (t : SoundTree b.axes keys own) (xs : List Float) where
  abbrev d : ℕ
  d = b.axes

  abbrev marks : List ℕ
  marks = leaf_keys b.axes keys (codes_inside b xs)

  -- without targets
  module _ (z : length xs ≡ 0) where
    -- there is nothing to refuse
    pub none-points : accepted ≡ points_outcome b keys xs
    unfolding points_outcome
    none-points =
        let rows : rows_of b xs ≡ 0 = ap (λ m. m / b.axes) z ∙ zero-div b.axes in
        let inside : rows_inside b xs ≡ 0 = omega (arith, rows-le (rows_of b xs) (frame_of b) xs) in
        let first : held_before d keys (codes_inside b xs) ≡ 0 = omega (arith, passing-le (held d keys) (codes_inside b xs), codes-length (rows_inside b xs) (frame_of b) xs) in
        rw (eq-eqb (held_before d keys (codes_inside b xs)) (rows_inside b xs) (first ∙ sym inside), eq-eqb (rows_inside b xs) (rows_of b xs) (inside ∙ sym rows))

    pub own-weights : (k : ℕ) → weights b keys own xs k ≡ own_of keys own k
    unfolding weights
    own-weights k = ap (λ s. cond s (own_of keys own k) (targets_at marks k)) (eq-eqb (length xs) 0 z)

    pub none-column : (n : ℕ) → length keys ≤ n → (counts : List ℕ) → counts ≡ filled n own → counts ≡ filled n (map (weights b keys own xs) keys)
    none-column n room counts e = e ∙ ap (filled n) column
      where
        column : own ≡ map (weights b keys own xs) keys
        column = ext_get_or 0 own (map (weights b keys own xs) keys) ((well d keys own t).owns ∙ sym (length-map keys (weights b keys own xs)))
            (λ i l. let li : i < length keys = omega (arith, (well d keys own t).owns) in sym (get_d_map (weights b keys own xs) keys i li ∙ own-weights (get_or keys i 0) ∙ own_count d keys own t i li))

  -- with targets
  module _ (some : length xs ≡ 0 → ⊥) where
    pub target-weights : (k : ℕ) → weights b keys own xs k ≡ targets_at marks k
    unfolding weights
    target-weights k = ap (λ s. cond s (own_of keys own k) (targets_at marks k)) (ne_eqb (length xs) 0 some)

    module _ (done : points_outcome b keys xs ≡ accepted) where
      pub all_in : (held_before d keys (codes_inside b xs) ≡ rows_inside b xs) × (rows_inside b xs ≡ rows_of b xs)
      unfolding points_outcome
      all_in =
          let p = both-done (ask (eqb (held_before d keys (codes_inside b xs)) (rows_inside b xs)) _) (ask (eqb (rows_inside b xs) (rows_of b xs)) _) done in
          (eqb-true (held_before d keys (codes_inside b xs)) (rows_inside b xs) (asked _ _ p.0), eqb-true (rows_inside b xs) (rows_of b xs) (asked _ _ p.1))

      marks-long : length marks ≡ rows_of b xs
      marks-long = length-map (codes_inside b xs) (leaf_key d keys) ∙ codes-length (rows_inside b xs) (frame_of b) xs ∙ all_in.1

      -- each mark is a leaf
      pub mark-leaf : (k : ℕ) → Mem k marks → leaf d keys k ≡ true
      mark-leaf k (i, l, e) =
          let li : i < length (codes_inside b xs) = omega (arith, length-map (codes_inside b xs) (leaf_key d keys)) in
          let h = passing-before (held d keys) (codes_inside b xs) i (omega (arith, all_in.0, codes-length (rows_inside b xs) (frame_of b) xs)) in
          subst (λ x. leaf d keys x ≡ true) (sym (get_d_map (leaf_key d keys) (codes_inside b xs) i li) ∙ e) (held-leaf d keys (tree-keys d keys own t) (get_or (codes_inside b xs) i 0) h)

      pub target-column : (n : ℕ) → length keys ≤ n → (counts : List ℕ) → length counts ≡ n → Counted keys marks (rows_of b xs) counts → counts ≡ filled n (map (weights b keys own xs) keys)
      target-column n room counts long c =
          col-is keys (weights b keys own xs) n room counts long
          (λ i l. c.counts_are i l ∙ ap (λ (m : List ℕ). count (λ x. eqb x (get_or keys i 0)) m) (take_all (rows_of b xs) marks (omega (arith, marks-long))) ∙ sym (target-weights (get_or keys i 0)))
          c.rest

      none-inner : (k : ℕ) → leaf d keys k ≡ false → weights b keys own xs k ≡ 0
      none-inner k f = target-weights k ∙ count-zero (λ x. eqb x k) marks (λ x m h. clash (subst (λ y. leaf d keys y ≡ true) (eqb-true x k h) (mark-leaf x m)) f)

      few-targets : rows_of b xs ≤ most_points → sum (map (weights b keys own xs) (filter (leaf d keys) keys)) ≤ most_sources
      few-targets h = omega (
        arith,
        sum_same (weights b keys own xs) (λ k. sum (map (λ x. bit (eqb x k)) marks)) (filter (leaf d keys) keys) (λ k _. target-weights k ∙ sym (sum-bits (λ x. eqb x k) marks)),
        sum-swap (λ k x. bit (eqb x k)) (filter (leaf d keys) keys) marks,
        sum_less (λ x. sum (map (λ k. bit (eqb x k)) (filter (leaf d keys) keys))) (λ _. 1) marks (λ x _. once x),
        ones marks,
        marks-long,
      )
        where
          once : (x : ℕ) → sum (map (λ k. bit (eqb x k)) (filter (leaf d keys) keys)) ≤ 1
          once x = omega (
            arith,
            sum-bits (eqb x) (filter (leaf d keys) keys),
            count-filter (eqb x) (leaf d keys) keys,
            count-few (λ k. leaf d keys k && eqb x k) keys (alone d keys own t) (λ i j mi mj hi hj. sym (eqb-true x i (and_r (leaf d keys i) _ hi)) ∙ eqb-true x j (and_r (leaf d keys j) _ hj)),
          )

          ones : (ys : List ℕ) → sum (map (λ _. 1) ys) ≡ length ys
          ones = sum_ones

  -- either way: few, and none at nodes with children
  pub weights-few : points_outcome b keys xs ≡ accepted → rows_of b xs ≤ most_points → sum (map (weights b keys own xs) (filter (leaf d keys) keys)) ≤ most_sources
  weights-few done h = go (length xs) refl
    where
      go : (m : ℕ) → length xs ≡ m → sum (map (weights b keys own xs) (filter (leaf d keys) keys)) ≤ most_sources
      go zero e = omega (arith, sum_same (weights b keys own xs) (own_of keys own) (filter (leaf d keys) keys) (λ k _. own-weights e k), filter-le (own_of keys own) (leaf d keys) keys, own-total d keys own t)
      go (suc m) e = few-targets (λ z. omega arith) done h

  pub weights-leaves : points_outcome b keys xs ≡ accepted → (k : ℕ) → leaf d keys k ≡ false → Mem k keys → weights b keys own xs k ≡ 0
  weights-leaves done k f (i, l, e) = go (length xs) refl
    where
      go : (m : ℕ) → length xs ≡ m → weights b keys own xs k ≡ 0
      go zero z = own-weights z k ∙ ap (own_of keys own) (sym e) ∙ own_count d keys own t i l ∙ (well d keys own t).inner i l (ap (leaf d keys) e ∙ f)
      go (suc m) z = none-inner (λ q. omega arith) done k f

-- ---- the sources copied, entry by entry
pub record Copying (own old counts : List ℕ) (i : ℕ) : Type 0 where
  pub upto : i ≤ length own
  pub long : length counts ≡ length old
  pub first : (j : ℕ) → j < i → get_or counts j 0 ≡ get_or own j 0
  pub rest : (j : ℕ) → i ≤ j → get_or counts j 0 ≡ 0

module _ (own old : List ℕ) (room : length own ≤ length old) (zeros : old ≡ replicate (length old) 0) where
  pub copying-start : Copying own old old 0
  copying-start = record { upto = zero-le; long = refl; first = λ j l. absurd (omega arith); rest = λ j _. ap (λ (c : List ℕ). get_or c j 0) zeros ∙ get_or-zeros (length old) j }

  pub copying-more : (counts : List ℕ) (i : ℕ) → Copying own old counts i → i < length own → Copying own old (set counts i (get_or own i 0)) (i + 1)
  copying-more counts i c l = record {
    upto = omega arith;
    long = length-set counts i (get_or own i 0) ∙ c.long;
    first = λ j h. go j h (dec_lt j i);
    rest = λ j h. get_or-set_other counts i j (get_or own i 0) 0 (λ z. omega arith) ∙ c.rest j (omega arith);
  }
    where
      go : (j : ℕ) → j < i + 1 → Dec (j < i) → get_or (set counts i (get_or own i 0)) j 0 ≡ get_or own j 0
      go j h (yes k) = get_or-set_other counts i j (get_or own i 0) 0 (λ z. omega arith) ∙ c.first j k
      go j h (no k) =
          let z : j ≡ i = omega arith in
          ap (λ x. get_or (set counts i (get_or own i 0)) x 0) z ∙ get_or-set_same counts i (get_or own i 0) 0 (omega (arith, c.long)) ∙ ap (λ x. get_or own x 0) (sym z)

  pub copying-all : (counts : List ℕ) (i : ℕ) → Copying own old counts i → length own ≤ i → counts ≡ filled (length old) own
  copying-all counts i c h = ext_get_or 0 counts (filled (length old) own) (c.long ∙ sym size) (λ j _. go j (dec_lt j (length own)))
    where
      size : length (filled (length old) own) ≡ length old
      size = length-append own (replicate (length old - length own) 0) ∙ omega (arith, length-replicate {A = ℕ} (length old - length own) 0)

      go : (j : ℕ) → Dec (j < length own) → get_or counts j 0 ≡ get_or (filled (length old) own) j 0
      go j (yes l) = c.first j (omega arith) ∙ sym (get_or-append own (replicate (length old - length own) 0) 0 j l)
      go j (no l) =
          let e : length own + (j - length own) ≡ j = omega arith in
          c.rest j (omega (arith, c.upto))
          ∙ sym (ap (λ x. get_or (filled (length old) own) x 0) (sym e) ∙ get_or-append-add own (replicate (length old - length own) 0) (j - length own) 0 ∙ get_or-zeros (length old - length own) (j - length own))

-- ---- the entries of nodes with children cleared, node by node
pub record Clearing (keys old counts : List ℕ) (i : ℕ) : Type 0 where
  pub upto : i ≤ length keys
  pub long : length counts ≡ length old
  pub none : (j : ℕ) → j < i → inner keys j ≡ true → get_or counts j 0 ≡ 0
  pub rest : (j : ℕ) → inner keys j ≡ false → get_or counts j 0 ≡ get_or old j 0

module _ (keys old : List ℕ) (room : length keys ≤ length old) where
  pub clearing-start : Clearing keys old old 0
  clearing-start = record { upto = zero-le; long = refl; none = λ j l. absurd (omega arith); rest = λ j _. refl }

  module _ (counts : List ℕ) (i : ℕ) (c : Clearing keys old counts i) (l : i < length keys) where
    pub clearing-inner : inner keys i ≡ true → Clearing keys old (set counts i 0) (i + 1)
    clearing-inner h = record {
      upto = omega arith;
      long = length-set counts i 0 ∙ c.long;
      none = λ j k g. go j k g (dec_lt j i);
      rest = λ j g. get_or-set_other counts i j 0 0 (λ z. clash h (ap (inner keys) (sym z) ∙ g)) ∙ c.rest j g;
    }
      where
        go : (j : ℕ) → j < i + 1 → inner keys j ≡ true → Dec (j < i) → get_or (set counts i 0) j 0 ≡ 0
        go j k g (yes p) = get_or-set_other counts i j 0 0 (λ z. omega arith) ∙ c.none j p g
        go j k g (no p) = let z : j ≡ i = omega arith in ap (λ x. get_or (set counts i 0) x 0) z ∙ get_or-set_same counts i 0 0 (omega (arith, c.long))

    pub clearing-leaf : inner keys i ≡ false → Clearing keys old counts (i + 1)
    clearing-leaf h = record { upto = omega arith; long = c.long; none = λ j k g. go j k g (dec_lt j i); rest = c.rest }
      where
        go : (j : ℕ) → j < i + 1 → inner keys j ≡ true → Dec (j < i) → get_or counts j 0 ≡ 0
        go j k g (yes p) = c.none j p g
        go j k g (no p) = let z : j ≡ i = omega arith in absurd (clash g (ap (inner keys) z ∙ h))

  pub clearing-done : (counts : List ℕ) (i : ℕ) → Clearing keys old counts i → length keys ≤ i → Cleared keys old counts
  clearing-done counts i c h = record { same = c.long; none = λ j g. c.none j (omega (arith, inside j g)) g; rest = c.rest }
    where
      inside : (j : ℕ) → inner keys j ≡ true → suc j < length keys
      inside j g = inner-inside keys j g

-- ---- links put beside the counts, and cleared again
module _ (d : ℕ) (keys own total : List ℕ) (t : SoundTree d keys own) (counts linked : List ℕ) (l : Links keys total counts linked) (w : Weights d keys counts) where
  leaf-outer : (i : ℕ) → i < length keys → leaf d keys (get_or keys i 0) ≡ true → inner keys i ≡ false
  leaf-outer i li f = refute (λ h. clash f (at (dec_lt 0 i) h))
    where
      at : Dec (0 < i) → inner keys i ≡ true → leaf d keys (get_or keys i 0) ≡ false
      at (yes p) h = inner-leaf d keys own t i p li h
      at (no p) h = let z : i ≡ 0 = omega arith in ap (λ x. leaf d keys (get_or keys x 0)) z ∙ root-leaf d keys own t

  same-leaf : (b : ℕ) → Mem b keys → leaf d keys b ≡ true → own_of keys linked b ≡ own_of keys counts b
  same-leaf b (i, li, e) f =
      ap (own_of keys linked) (sym e) ∙ entry-of keys linked (alone d keys own t) (omega (arith, l.long, w.long)) i li
      ∙ l.rest i (leaf-outer i li (ap (leaf d keys) e ∙ f))
      ∙ sym (ap (own_of keys counts) (sym e) ∙ entry-of keys counts (alone d keys own t) w.long i li)

  pub linked-weights : Weights d keys linked
  linked-weights = record {
    long = omega (arith, l.long, w.long);
    few = omega (arith, w.few, sum_same (own_of keys linked) (own_of keys counts) (filter (leaf d keys) keys) (λ b m. let (mb, f) = mem-filter (leaf d keys) keys b m in same-leaf b mb f));
  }

  pub linked-work : near_work d keys own (own_of keys linked) ≡ near_work d keys own (own_of keys counts)
  linked-work = same-weights d keys own (own_of keys linked) (own_of keys counts) same-leaf

  pub cleared-same : LeavesOnly keys counts → (final : List ℕ) → Cleared keys linked final → final ≡ counts
  cleared-same only final c = ext_get_or 0 final counts (c.same ∙ l.long) (λ j _. go j (inner keys j) refl)
    where
      go : (j : ℕ) (h : Bool) → inner keys j ≡ h → get_or final j 0 ≡ get_or counts j 0
      go j true h = c.none j h ∙ sym (only j h)
      go j false h = c.rest j h ∙ l.rest j h

-- ---- a cleared column
pub zeros-long : (xs : List ℕ) (n : ℕ) → xs ≡ replicate n 0 → length xs ≡ n
zeros-long xs n e = ap length e ∙ length-replicate {A = ℕ} n 0

pub zeros-self : (xs : List ℕ) (n : ℕ) → xs ≡ replicate n 0 → xs ≡ replicate (length xs) 0
zeros-self xs n e = e ∙ ap (λ m. replicate m 0) (sym (zeros-long xs n e))

-- ---- the counts that were filled
module _ (b : Box) (keys own : List ℕ) (t : SoundTree b.axes keys own) (xs : List Float) (done : points_outcome b keys xs ≡ accepted) (few : rows_of b xs ≤ most_points) (n : ℕ) (room : length keys ≤ n)
    (counts : List ℕ) (e : counts ≡ filled n (map (weights b keys own xs) keys)) where
  pub counts-ready : Weights b.axes keys counts × LeavesOnly keys counts
  counts-ready = subst (λ c. Weights b.axes keys c × LeavesOnly keys c) (sym e)
      (col-weights keys (weights b keys own xs) n room b.axes own t (weights-few b keys own t xs done few), col-leaves keys (weights b keys own xs) n room b.axes own t (λ k f m. weights-leaves b keys own t xs done k f m))

  pub counts-work : near_work b.axes keys own (own_of keys counts) ≡ near_work b.axes keys own (weights b keys own xs)
  counts-work = ap (λ c. near_work b.axes keys own (own_of keys c)) e ∙ col-work keys (weights b keys own xs) n room b.axes own t
