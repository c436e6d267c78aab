-- The columns are those of the build exactly when each place of the order column and each cell is right by itself; in any order of the nodes.
use mathlib.Core.Path.{◌≡◌, refl, sym, ap, ◌∙◌, subst}
use mathlib.Core.Bool.{Bool, true, false, cond}
use mathlib.Core.List.{List, []}
use mathlib.Core.Logic.{◌⊎◌, inl, inr, ◌↔◌}
use Prim.Native.Nat.{ℕ, zero, suc, ◌+◌, ◌-◌, ◌≤◌, ◌<◌}
use native.Mathlib.Omega.{arith}
use native.Mathlib.Nat.{not-suc-le-zero, eq-or-lt_of_le, le_of_suc-le-suc}
use lib.ListN.{length, get_or, take, drop, length-drop}
use lib.Seq.{get_or-take, get_or-drop, length-take-le, ext_get_or}
use borrow.Author.Tests.{lt-ltb, le-leb}
use Rattle.slices.specs.Lists.{filter, sum, range, Mem, Distinct}
use Rattle.slices.specs.Order.{Sorted}
use Rattle.slices.proofs.Tests.{both, lt-or-le}
use Rattle.slices.proofs.Lists.{filter-sorted, length-ascending, length-range}
use Rattle.slices.proofs.Members.{filter-mem, filter-distinct, range-mem, mem-range, range-distinct}
use Rattle.slices.proofs.Order.{ascending-fixed}
use Rattle.morton.specs.Keys.{axes_known, holds}
use Rattle.refine.specs.Counts.{sources_in}
use Rattle.tree.specs.Nodes.{leaf}
use Rattle.tree.specs.WellFormed.{Run}
use Rattle.tree.specs.Sources.{has_part, leaf_sources}
use Rattle.tree.proofs.Runs.{run_of}
use Rattle.growth.specs.declared.Rule.{Rule}
use Rattle.growth.specs.Columns.{own_column, begin_column, indices_in, order_column}
use Rattle.growth.proofs.Joined.{concat-mem}
use Rattle.growth.proofs.Held.{leaf-mem}
use Rattle.growth.proofs.Arranged.{Codes, length-indices, indices-hold}
use Rattle.growth.proofs.Runs.{length-own, length-begin, begin-at, own_at, own-order, leaf-part, placed}
use Rattle.slices.proofs.Sums.{sum-take, sum-whole}
use Rattle.further.specs.Built.{Tree, InLeaves, GrownRight}
use Rattle.tree.specs.Totals.{total_in}
use Rattle.further.specs.Points.{Beside, SourcesRight, BuildOf}
use Rattle.further.proofs.Held.{Holding, holding, held-right}
use Rattle.further.proofs.Facts.{same_row}
use Rattle.further.proofs.Built.{one-leaf, right-cells, cells-leaves, cells_right}
use Rattle.further.proofs.Totals.{total-is}
use Rattle.further.proofs.Places.{all_there, sorted-by, sorted-at, range-sorted}

-- the indices of a cell rise
module _ (d : ℕ) (s : List ℕ) (k : ℕ) where
  indices-distinct : Distinct (indices_in d s k)
  unfolding indices_in
  indices-distinct = filter-distinct (λ i. holds d k (get_or s i 0)) (range 0 (length s)) (range-distinct (length s))

  indices-sorted : Sorted (indices_in d s k)
  unfolding indices_in
  indices-sorted = filter-sorted (λ i. holds d k (get_or s i 0)) (range 0 (length s)) (range-sorted (length s))

  has-index : (x : ℕ) → x < length s → holds d k (get_or s x 0) ≡ true → Mem x (indices_in d s k)
  unfolding indices_in
  has-index x l h = filter-mem (λ i. holds d k (get_or s i 0)) (range 0 (length s)) x (range-mem (length s) x l) h

  indices-rise : (i j : ℕ) → i < j → j < length (indices_in d s k) → get_or (indices_in d s k) i 0 < get_or (indices_in d s k) j 0
  indices-rise i j a b = go (eq-or-lt_of_le (sorted-at (indices_in d s k) indices-sorted i j a b))
    where
      go : (get_or (indices_in d s k) i 0 ≡ get_or (indices_in d s k) j 0) ⊎ (get_or (indices_in d s k) i 0 < get_or (indices_in d s k) j 0) → get_or (indices_in d s k) i 0 < get_or (indices_in d s k) j 0
      go (inl e) = absurd (omega (arith, a, indices-distinct i j (omega (arith, a, b)) b e))
      go (inr l) = l

-- a part of a list, place by place
part_at : (m n : ℕ) (xs : List ℕ) (p : ℕ) → n ≤ p → p < n + m → get_or (take m (drop n xs)) (p - n) 0 ≡ get_or xs p 0
part_at m n xs p a b =
    let e : n + (p - n) ≡ p = omega arith in
    get_or-take m (drop n xs) (p - n) 0 (omega arith) ∙ get_or-drop n xs (p - n) 0 ∙ ap (λ (i : ℕ). get_or xs i 0) e

module _ (d : ℕ) (s keys own begin order : List ℕ) (t : Tree d keys) (dist : Distinct keys) (b : Beside d keys own begin) (whole : sum own ≡ length order) (h : Holding d s keys own begin order) where
  node : (j p : ℕ) → Run own begin j p → j < length keys
  node j p r = omega (arith, r.node, b.owns)

  runs_own : (i : ℕ) → i < length own → get_or begin i 0 ≡ sum (take i own)
  runs_own i l = b.runs i (omega (arith, b.owns))

  run-leaf : (j p : ℕ) → Run own begin j p → leaf d keys (get_or keys j 0) ≡ true
  run-leaf j p r = go (leaf d keys (get_or keys j 0)) refl
    where
      go : (c : Bool) → leaf d keys (get_or keys j 0) ≡ c → leaf d keys (get_or keys j 0) ≡ true
      go true e = e
      go false e = absurd (omega (arith, r.from, r.to, b.inner j (node j p r) e))

  same-node : (j k c : ℕ) → j < length keys → k < length keys → leaf d keys (get_or keys j 0) ≡ true → leaf d keys (get_or keys k 0) ≡ true
      → holds d (get_or keys j 0) c ≡ true → holds d (get_or keys k 0) c ≡ true → j ≡ k
  same-node j k c nj nk lj lk hj hk = dist j k nj nk (one-leaf d keys t (get_or keys j 0) (get_or keys k 0) c lj lk hj hk)

  rising : (j p q : ℕ) → p < q → Run own begin j p → Run own begin j q → get_or order p 0 < get_or order q 0
  rising j p zero l a c = absurd (not-suc-le-zero l)
  rising j p (suc q) l a c = go (eq-or-lt_of_le (le_of_suc-le-suc l)) (λ (i : p < q). rising j p q i a (mid (omega arith)))
    where
      mid : p ≤ q → Run own begin j q
      mid i = record { node = c.node; from = omega (arith, a.from); to = omega (arith, c.to) }

      go : (p ≡ q) ⊎ (p < q) → (p < q → get_or order p 0 < get_or order q 0) → get_or order p 0 < get_or order (suc q) 0
      go (inl e) rest = omega (arith, h.rises j q (mid (omega arith)) c, ap (λ (i : ℕ). get_or order i 0) e)
      go (inr i) rest = omega (arith, rest i, h.rises j q (mid (omega arith)) c)

  pub order-run : (p : ℕ) → p < length order → (j : ℕ) × Run own begin j p
  order-run p l = run_of own begin runs_own p (omega (arith, whole))

  -- no index stands in two places
  pub order-distinct : Distinct order
  order-distinct p q lp lq e =
      let (j, rj) = order-run p lp in
      let (k, rk) = order-run q lq in
      let same = same-node j k (get_or s (get_or order q 0) 0) (node j p rj) (node k q rk) (run-leaf j p rj) (run-leaf k q rk)
      (subst (λ (x : ℕ). holds d (get_or keys j 0) (get_or s x 0) ≡ true) e (h.inside j p rj)) (h.inside k q rk) in
      let r : Run own begin j q = subst (λ (i : ℕ). Run own begin i q) (sym same) rk in
      go j rj r (lt-or-le p q) (lt-or-le q p)
    where
      go : (j : ℕ) → Run own begin j p → Run own begin j q → (p < q) ⊎ (q ≤ p) → (q < p) ⊎ (p ≤ q) → p ≡ q
      go j a c (inl l) _ = absurd (omega (arith, rising j p q l a c, e))
      go j a c (inr l) (inl m) = absurd (omega (arith, rising j q p m c a, e))
      go j a c (inr l) (inr m) = omega arith

  pub order_small : (x : ℕ) → Mem x order → x < length s
  order_small x (p, l, e) = let (j, r) = order-run p l in subst (λ (y : ℕ). y < length s) e (h.index j p r)

  module _ (many : length order ≡ length s) where
    -- each source stands somewhere
    pub order-has : (x : ℕ) → x < length s → Mem x order
    order-has = all_there (length s) order many order-distinct order_small

    pub in-leaves : InLeaves d s keys
    in-leaves c (x, l, e) =
        let (p, lp, q) = order-has x l in
        let (j, r) = order-run p lp in
        (get_or keys j 0, run-leaf j p r, subst (λ (y : ℕ). holds d (get_or keys j 0) y ≡ true) (ap (λ (i : ℕ). get_or s i 0) q ∙ e) (h.inside j p r))

    module _ (j : ℕ) (nj : j < length keys) (lf : leaf d keys (get_or keys j 0) ≡ true) where
      run : List ℕ
      run = take (get_or own j 0) (drop (get_or begin j 0) order)

      run_end : get_or begin j 0 + get_or own j 0 ≤ length order
      run_end =
          let l : j < length own = omega (arith, b.owns) in
          omega (arith, runs_own j l, sum-take own j, sum-whole own (suc j), whole)

      run_length : length run ≡ get_or own j 0
      unfolding run
      run_length = length-take-le (get_or own j 0) (drop (get_or begin j 0) order) (omega (arith, run_end, length-drop (get_or begin j 0) order))

      run_at : (i : ℕ) → i < get_or own j 0 → get_or run i 0 ≡ get_or order (get_or begin j 0 + i) 0
      unfolding run
      run_at i l = get_or-take (get_or own j 0) (drop (get_or begin j 0) order) i 0 l ∙ get_or-drop (get_or begin j 0) order i 0

      place : (i : ℕ) → i < get_or own j 0 → Run own begin j (get_or begin j 0 + i)
      place i l = record { node = omega (arith, nj, b.owns); from = omega arith; to = omega arith }

      run-rises : (i k : ℕ) → i < k → k < length run → get_or run i 0 < get_or run k 0
      run-rises i k a c =
          let lk : k < get_or own j 0 = omega (arith, run_length) in
          let li : i < get_or own j 0 = omega arith in
          omega (arith, run_at i li, run_at k lk, rising j (get_or begin j 0 + i) (get_or begin j 0 + k) (omega arith) (place i li) (place k lk))

      run-distinct : Distinct run
      run-distinct i k li lk e = go (lt-or-le i k) (lt-or-le k i)
        where
          go : (i < k) ⊎ (k ≤ i) → (k < i) ⊎ (i ≤ k) → i ≡ k
          go (inl l) _ = absurd (omega (arith, run-rises i k l lk, e))
          go (inr l) (inl m) = absurd (omega (arith, run-rises k i m li, e))
          go (inr l) (inr m) = omega arith

      run_in : (x : ℕ) → Mem x run → Mem x (indices_in d s (get_or keys j 0))
      run_in x (i, l, e) =
          let li : i < get_or own j 0 = omega (arith, run_length) in
          let r = place i li in
          let q = sym (run_at i li) ∙ e in
          has-index d s (get_or keys j 0) x (subst (λ (y : ℕ). y < length s) q (h.index j (get_or begin j 0 + i) r))
          (subst (λ (y : ℕ). holds d (get_or keys j 0) (get_or s y 0) ≡ true) q (h.inside j (get_or begin j 0 + i) r))

      in-run : (x : ℕ) → Mem x (indices_in d s (get_or keys j 0)) → Mem x run
      in-run x m =
          let (l, hx) = indices-hold d s (get_or keys j 0) x m in
          let (p, lp, q) = order-has x l in
          let (k, r) = order-run p lp in
          let hk = subst (λ (y : ℕ). holds d (get_or keys k 0) (get_or s y 0) ≡ true) q (h.inside k p r) in
          let same = same-node k j (get_or s x 0) (node k p r) nj (run-leaf k p r) lf hk hx in
          go p q (subst (λ (i : ℕ). Run own begin i p) same r)
        where
          go : (p : ℕ) → get_or order p 0 ≡ x → Run own begin j p → Mem x run
          go p q r =
              let e : get_or begin j 0 + (p - get_or begin j 0) ≡ p = omega (arith, r.from) in
              let l : p - get_or begin j 0 < get_or own j 0 = omega (arith, r.from, r.to) in
              (p - get_or begin j 0, omega (arith, l, run_length), run_at (p - get_or begin j 0) l ∙ ap (λ (i : ℕ). get_or order i 0) e ∙ q)

      -- a leaf's run is the ascending list of its sources
      run_is : run ≡ indices_in d s (get_or keys j 0)
      run_is =
          sym (ascending-fixed run (sorted-by run (λ i k a c. omega (arith, run-rises i k a c))))
          ∙ same_row run (indices_in d s (get_or keys j 0)) run-distinct (indices-distinct d s (get_or keys j 0)) run_in in-run
          ∙ ascending-fixed (indices_in d s (get_or keys j 0)) (indices-sorted d s (get_or keys j 0))

      own-right : get_or own j 0 ≡ sources_in d s (get_or keys j 0)
      own-right = sym run_length ∙ ap length run_is ∙ length-indices d s (get_or keys j 0)

      pub at_place : (p : ℕ) → Run own begin j p → get_or order p 0 ≡ get_or (indices_in d s (get_or keys j 0)) (p - get_or begin j 0) 0
      unfolding run
      at_place p r = sym (part_at (get_or own j 0) (get_or begin j 0) order p r.from r.to) ∙ ap (λ (xs : List ℕ). get_or xs (p - get_or begin j 0) 0) run_is

    pub owns-are : own ≡ own_column d keys s
    owns-are = ext_get_or 0 own (own_column d keys s) (b.owns ∙ sym (length-own d keys s)) (λ i l.
        let n : i < length keys = omega (arith, l, b.owns) in
        go i n (leaf d keys (get_or keys i 0)) refl ∙ sym (own_at d keys s i n))
      where
        go : (i : ℕ) → i < length keys → (c : Bool) → leaf d keys (get_or keys i 0) ≡ c → get_or own i 0 ≡ cond (leaf d keys (get_or keys i 0)) (sources_in d s (get_or keys i 0)) 0
        go i n true e = own-right i n e ∙ sym (ap (λ (c : Bool). cond c (sources_in d s (get_or keys i 0)) 0) e)
        go i n false e = b.inner i n e ∙ sym (ap (λ (c : Bool). cond c (sources_in d s (get_or keys i 0)) 0) e)

    pub begins-are : begin ≡ begin_column own
    begins-are =
        ext_get_or 0 begin (begin_column (own_column d keys s)) (b.begins ∙ sym (length-begin d keys s)) (λ i l.
        let n : i < length keys = omega (arith, l, b.begins) in
        b.runs i n ∙ ap (λ (xs : List ℕ). sum (take i xs)) owns-are ∙ sym (begin-at d keys s i (omega (arith, n, length-own d keys s))))
        ∙ ap begin_column (sym owns-are)

-- ---- the columns of the sources themselves

module _ (d : ℕ) (s keys : List ℕ) where
  column-beside : Beside d keys (own_column d keys s) (begin_column (own_column d keys s))
  column-beside = record {
    owns = length-own d keys s;
    begins = length-begin d keys s;
    inner = λ i l f. own_at d keys s i l ∙ ap (λ (c : Bool). cond c (sources_in d s (get_or keys i 0)) 0) f;
    runs = λ i l. begin-at d keys s i (omega (arith, l, length-own d keys s));
  }

  column-part : (j : ℕ) → j < length keys → leaf d keys (get_or keys j 0) ≡ true
      → take (get_or (own_column d keys s) j 0) (drop (get_or (begin_column (own_column d keys s)) j 0) (order_column d keys s)) ≡ indices_in d s (get_or keys j 0)
  column-part j n lf = sym plain ∙ leaf-part d keys s j n ∙ ap (λ (c : Bool). cond c (indices_in d s (get_or keys j 0)) []) lf
    where
      l : j < length (own_column d keys s)
      l = omega (arith, length-own d keys s)

      end : get_or (begin_column (own_column d keys s)) j 0 + get_or (own_column d keys s) j 0 ≤ length (order_column d keys s)
      end = omega (arith, begin-at d keys s j l, sum-take (own_column d keys s) j, sum-whole (own_column d keys s) (suc j), own-order d keys s)

      has : has_part (own_column d keys s) (begin_column (own_column d keys s)) (order_column d keys s) j ≡ true
      has = both (both (lt-ltb j (length (own_column d keys s)) l) (lt-ltb j (length (begin_column (own_column d keys s))) (omega (arith, length-begin d keys s))))
          (le-leb (get_or (begin_column (own_column d keys s)) j 0 + get_or (own_column d keys s) j 0) (length (order_column d keys s)) end)

      plain : leaf_sources (own_column d keys s) (begin_column (own_column d keys s)) (order_column d keys s) j
          ≡ take (get_or (own_column d keys s) j 0) (drop (get_or (begin_column (own_column d keys s)) j 0) (order_column d keys s))
      plain = unfold leaf_sources in
          ap (λ (c : Bool). cond c (take (get_or (own_column d keys s) j 0) (drop (get_or (begin_column (own_column d keys s)) j 0) (order_column d keys s))) []) has

  column-at : (j p : ℕ) → Run (own_column d keys s) (begin_column (own_column d keys s)) j p
      → get_or (order_column d keys s) p 0 ≡ get_or (indices_in d s (get_or keys j 0)) (p - get_or (begin_column (own_column d keys s)) j 0) 0
  column-at j p r =
      let f = placed d keys s j p r in
      sym (part_at (get_or (own_column d keys s) j 0) (get_or (begin_column (own_column d keys s)) j 0) (order_column d keys s) p r.from r.to)
      ∙ ap (λ (xs : List ℕ). get_or xs (p - get_or (begin_column (own_column d keys s)) j 0) 0) (column-part j f.node f.is_leaf)

  column-holding : Holding d s keys (own_column d keys s) (begin_column (own_column d keys s)) (order_column d keys s)
  column-holding = record { index = λ j p r. (placed d keys s j p r).index; inside = λ j p r. (placed d keys s j p r).inside; rises = up }
    where
      up : (j p : ℕ) → Run (own_column d keys s) (begin_column (own_column d keys s)) j p → Run (own_column d keys s) (begin_column (own_column d keys s)) j (suc p)
          → get_or (order_column d keys s) p 0 < get_or (order_column d keys s) (suc p) 0
      up j p a c =
          let f = placed d keys s j p a in
          let k = get_or keys j 0 in
          let o = get_or (begin_column (own_column d keys s)) j 0 in
          let size : get_or (own_column d keys s) j 0 ≡ length (indices_in d s k) =
          own_at d keys s j f.node ∙ ap (λ (q : Bool). cond q (sources_in d s k) 0) f.is_leaf ∙ sym (length-indices d s k) in
          omega (arith, column-at j p a, column-at j (suc p) c, indices-rise d s k (p - o) (suc p - o) (omega (arith, a.from)) (omega (arith, a.from, c.to, size)))

  module _ (t : Tree d keys) (dist : Distinct keys) (held : InLeaves d s keys) where
    column-has : (x : ℕ) → x < length s → Mem x (order_column d keys s)
    unfolding order_column
    column-has x l =
        let (k, lk, hk) = held (get_or s x 0) (x, l, refl) in
        concat-mem (indices_in d s) (filter (leaf d keys) keys) k x (filter-mem (leaf d keys) keys k (leaf-mem d keys k lk) lk) (has-index d s k x l hk)

    column-length : length (order_column d keys s) ≡ length s
    column-length =
        let os = order_column d keys s in
        let distinct = order-distinct d s keys (own_column d keys s) (begin_column (own_column d keys s)) os t dist column-beside (own-order d keys s) column-holding in
        let small = order_small d s keys (own_column d keys s) (begin_column (own_column d keys s)) os t dist column-beside (own-order d keys s) column-holding in
        sym (length-ascending os)
        ∙ ap length (same_row os (range 0 (length s)) distinct (range-distinct (length s)) (λ x m. range-mem (length s) x (small x m)) (λ x m. column-has x (mem-range (length s) x m)))
        ∙ length-ascending (range 0 (length s)) ∙ length-range 0 (length s)

    pub column-points : SourcesRight d s keys (own_column d keys s) (begin_column (own_column d keys s)) (order_column d keys s)
    column-points = held-right d s keys (own_column d keys s) (begin_column (own_column d keys s)) (order_column d keys s) (length-own d keys s) column-length (own-order d keys s ∙ column-length) column-holding

-- ---- both

-- the order column, once the other two are known
pub orders-are : (d : ℕ) (s keys order : List ℕ) → Tree d keys → Distinct keys → SourcesRight d s keys (own_column d keys s) (begin_column (own_column d keys s)) order → order ≡ order_column d keys s
orders-are d s keys order t dist r =
    let whole : sum (own_column d keys s) ≡ length order = r.whole ∙ sym r.many in
    ext_get_or 0 order (order_column d keys s) (sym whole ∙ own-order d keys s) (λ p l.
    let (j, q) = run_of (own_column d keys s) (begin_column (own_column d keys s)) (begin-at d keys s) p (omega (arith, l, whole)) in
    let f = placed d keys s j p q in
    at_place d s keys (own_column d keys s) (begin_column (own_column d keys s)) order t dist (column-beside d s keys) whole (holding d s keys (own_column d keys s) (begin_column (own_column d keys s)) order (length-own d keys s) r) r.many j f.node f.is_leaf p q
    ∙ sym (column-at d s keys j p q))

-- where the points are right a cell's total is the number of sources in it
pub points-total : (d : ℕ) (s keys own begin order : List ℕ) → Tree d keys → Distinct keys → Beside d keys own begin → SourcesRight d s keys own begin order
    → (k : ℕ) → Mem k keys → total_in d keys own k ≡ sources_in d s k
points-total d s keys own begin order t dist b p k m =
    let whole : sum own ≡ length order = p.whole ∙ sym p.many in
    ap (λ (o : List ℕ). total_in d keys o k) (owns-are d s keys own begin order t dist b whole (holding d s keys own begin order b.owns p) p.many)
    ∙ total-is d keys t dist k m s (in-leaves d s keys own begin order t dist b whole (holding d s keys own begin order b.owns p) p.many)

module _ (g : Rule) (s keys own begin order : List ℕ) (known : axes_known g.axes ≡ true) (codes : Codes g.axes s)
    (t : Tree g.axes keys) (dist : Distinct keys) (b : Beside g.axes keys own begin) where
  pub right-build : SourcesRight g.axes s keys own begin order → GrownRight g s keys → BuildOf g s keys own begin order
  right-build p r =
      let whole : sum own ≡ length order = p.whole ∙ sym p.many in
      let os = owns-are g.axes s keys own begin order t dist b whole (holding g.axes s keys own begin order b.owns p) p.many in
      let bs = begins-are g.axes s keys own begin order t dist b whole (holding g.axes s keys own begin order b.owns p) p.many in
      record {
        cells = right-cells g s keys known codes t (in-leaves g.axes s keys own begin order t dist b whole (holding g.axes s keys own begin order b.owns p) p.many) r;
        owns = os;
        begins = bs;
        orders = orders-are g.axes s keys order t dist
            (subst (λ (o : List ℕ). SourcesRight g.axes s keys o (begin_column o) order) os (subst (λ (c : List ℕ). SourcesRight g.axes s keys own c order) bs p));
      }

  pub build-right : BuildOf g s keys own begin order → SourcesRight g.axes s keys own begin order × GrownRight g s keys
  build-right q =
      let p = column-points g.axes s keys t dist (cells-leaves g s keys known codes q.cells) in
      let d = g.axes in (
        subst (λ (c : List ℕ). SourcesRight d s keys own c order) (sym q.begins)
            (subst (λ (o : List ℕ). SourcesRight d s keys o (begin_column o) order) (sym q.owns)
            (subst (λ (x : List ℕ). SourcesRight d s keys (own_column d keys s) (begin_column (own_column d keys s)) x) (sym q.orders) p)),
        cells_right g s keys known codes q.cells,
      )

  -- the columns of a well-formed tree are the build's exactly when the points and the growth are right
  pub columns-iff : (SourcesRight g.axes s keys own begin order × GrownRight g s keys) ↔ BuildOf g s keys own begin order
  columns-iff = (λ h. right-build h.0 h.1, build-right)
