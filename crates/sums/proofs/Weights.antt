-- Any weight of sources, added up over a leaf's rows, is the weight of all sources: by `Once`, weight by weight.
use mathlib.Core.Path.{◌≡◌, refl, sym, ap, ap₂, ◌∙◌, subst}
use mathlib.Core.Bool.{Bool, true, false, cond}
use mathlib.Core.List.{List, [], ◌∷◌, map}
use mathlib.Core.Logic.{◌⊎◌, inl, inr}
use Prim.Native.Nat.{ℕ, zero, suc, ◌+◌, ◌≤◌, ◌<◌}
use native.Mathlib.Omega.{arith}
use native.Mathlib.Nat.{zero-add, le_refl}
use native.Mathlib.Decide.{dec_lt}
use lib.ListN.{length, get_or, take}
use Rattle.slices.specs.Lists.{count, sum, range, Mem, Distinct}
use Rattle.slices.proofs.Members.{mem-range}
use Rattle.morton.specs.Keys.{under, ancestors}
use Rattle.tree.specs.Nodes.{leaf, own_of}
use Rattle.tree.specs.WellFormed.{Run}
use Rattle.slices.proofs.Sums.{sum-take, sum-all}
use Rattle.tree.proofs.Stored.{own_at}
use Rattle.rows.specs.Demand3.{brings, meetings, Once}
use Rattle.sums.specs.Adding.{added}
use Rattle.sums.specs.Sums.{places}
use Rattle.sums.proofs.Adding.{Adds, total-same, total-plus, exchange, copies, copies-one, copies-none, copies-add, total-passing, total-copies, total-last, total-parts, total-at}

module _ {M : Type 0} (o : M) (plus : M → M → M) (A : Adds o plus) (d : ℕ) (keys : List ℕ) where
  -- f weighs what each node owns; a cell has the weight of all nodes at or under it
  abbrev pub cell_weight : (ℕ → M) → ℕ → M
  cell_weight f k = added o plus (λ j. cond (under d k j) (f j) o) keys

  -- and a row brings each node's weight as often as it brings the node
  row-weight : (f : ℕ → M) (row : List ℕ) → added o plus (cell_weight f) row ≡ added o plus (λ j. copies o plus A (brings d j row) (f j)) keys
  row-weight f row =
      exchange o plus A (λ x j. cond (under d x j) (f j) o) row keys
      ∙ total-same o plus A (λ j. added o plus (λ x. cond (under d x j) (f j) o) row) (λ j. copies o plus A (brings d j row) (f j)) keys
      (λ j m. total-passing o plus A (λ x. under d x j) (f j) row)

  module _ (u v : ℕ → List ℕ) (b : ℕ) where
    far-weight : (f : ℕ → M) → added o plus (λ a. added o plus (cell_weight f) (v a)) (ancestors d b)
        ≡ added o plus (λ j. copies o plus A (sum (map (λ a. brings d j (v a)) (ancestors d b))) (f j)) keys
    far-weight f =
        total-same o plus A (λ a. added o plus (cell_weight f) (v a)) (λ a. added o plus (λ j. copies o plus A (brings d j (v a)) (f j)) keys) (ancestors d b) (λ a m. row-weight f (v a))
        ∙ exchange o plus A (λ a j. copies o plus A (brings d j (v a)) (f j)) (ancestors d b) keys
        ∙ total-same o plus A (λ j. added o plus (λ a. copies o plus A (brings d j (v a)) (f j)) (ancestors d b))
        (λ j. copies o plus A (sum (map (λ a. brings d j (v a)) (ancestors d b))) (f j)) keys
        (λ j m. total-copies o plus A (λ a. brings d j (v a)) (f j) (ancestors d b))

    -- all rows bring each node's weight as often as the leaf meets the node
    met-weight : (f : ℕ → M) → plus (added o plus (cell_weight f) (u b)) (added o plus (λ a. added o plus (cell_weight f) (v a)) (ancestors d b))
        ≡ added o plus (λ j. copies o plus A (meetings d u v b j) (f j)) keys
    met-weight f =
        ap₂ plus (row-weight f (u b)) (far-weight f)
        ∙ sym (total-plus o plus A (λ j. copies o plus A (brings d j (u b)) (f j)) (λ j. copies o plus A (sum (map (λ a. brings d j (v a)) (ancestors d b))) (f j)) keys)
        ∙ total-same o plus A _ (λ j. copies o plus A (meetings d u v b j) (f j)) keys
        (λ j m. sym (copies-add o plus A (brings d j (u b)) (sum (map (λ a. brings d j (v a)) (ancestors d b))) (f j)))

    -- once, if it has any weight
    pub weight-once : (f : ℕ → M) → ((j : ℕ) → Mem j keys → (f j ≡ o) ⊎ (meetings d u v b j ≡ 1))
        → plus (added o plus (cell_weight f) (u b)) (added o plus (λ a. added o plus (cell_weight f) (v a)) (ancestors d b)) ≡ added o plus f keys
    weight-once f h = met-weight f ∙ total-same o plus A (λ j. copies o plus A (meetings d u v b j) (f j)) f keys (λ j m. go j (h j m))
      where
        go : (j : ℕ) → (f j ≡ o) ⊎ (meetings d u v b j ≡ 1) → copies o plus A (meetings d u v b j) (f j) ≡ f j
        go j (inl e) = rw e (copies-none o plus A (meetings d u v b j))
        go j (inr e) = rw e (copies-one o plus A (f j))

  module _ (own begin : List ℕ) (dist : Distinct keys) (owns : length own ≡ length keys) (begins : length begin ≡ length keys) where
    own_count : (i : ℕ) → i < length keys → own_of keys own (get_or keys i 0) ≡ get_or own i 0
    own_count = own_at keys own dist owns

    begin-of : (i : ℕ) → i < length keys → own_of keys begin (get_or keys i 0) ≡ get_or begin i 0
    begin-of = own_at keys begin dist begins

    -- a weight of each source place
    module _ (w : ℕ → M) where
      abbrev pub node_weight : ℕ → M
      node_weight k = added o plus w (places keys own begin k)

      -- all runs, one after the other, are all places
      module _ (runs : (i : ℕ) → i < length own → get_or begin i 0 ≡ sum (take i own)) where
        abbrev run : ℕ → M
        run i = added o plus w (range (get_or begin i 0) (get_or own i 0))

        prefix : (n : ℕ) → n ≤ length own → added o plus run (range 0 n) ≡ added o plus w (range 0 (sum (take n own)))
        unfolding added range sum
        prefix zero h = refl
        prefix (suc n) h =
            let l : n < length own = omega arith in
            let s = sum (take n own) in
            let e : get_or begin (0 + n) 0 ≡ 0 + s = ap (λ i. get_or begin i 0) (zero-add n) ∙ runs n l ∙ sym (zero-add s) in
            total-last o plus A run 0 n
            ∙ ap₂ plus (prefix n (omega arith)) (ap₂ (λ a m. added o plus w (range a m)) e (ap (λ i. get_or own i 0) (zero-add n)))
            ∙ sym (total-parts o plus A w 0 s (get_or own n 0))
            ∙ ap (λ i. added o plus w (range 0 i)) (sym (sum-take own n))

        pub all-places : added o plus node_weight keys ≡ added o plus w (range 0 (sum own))
        all-places =
            total-at o plus A node_weight keys
            ∙ total-same o plus A (λ i. node_weight (get_or keys i 0)) run (range 0 (length keys))
            (λ i m. let l = mem-range (length keys) i m in ap₂ (λ a n. added o plus w (range a n)) (begin-of i l) (own_count i l))
            ∙ ap (λ n. added o plus run (range 0 n)) (sym owns)
            ∙ prefix (length own) (le_refl _)
            ∙ ap (λ n. added o plus w (range 0 n)) (sum-all own)

        -- each leaf's rows bring the weight of all places
        pub weights : (u v : ℕ → List ℕ) → Once d keys own begin u v → (b : ℕ) → Mem b keys → leaf d keys b ≡ true
            → plus (added o plus (cell_weight node_weight) (u b)) (added o plus (λ a. added o plus (cell_weight node_weight) (v a)) (ancestors d b)) ≡ added o plus w (range 0 (sum own))
        weights u v once b mb lb = weight-once u v b node_weight met ∙ all-places
          where
            met : (j : ℕ) → Mem j keys → (node_weight j ≡ o) ⊎ (meetings d u v b j ≡ 1)
            met j (i, l, e) = go (dec_lt 0 (get_or own i 0))
              where
                go : Dec (0 < get_or own i 0) → (node_weight j ≡ o) ⊎ (meetings d u v b j ≡ 1)
                go (yes p) = inr (subst (λ x. meetings d u v x j ≡ 1) mb.2 (subst (λ x. meetings d u v (get_or keys mb.0 0) x ≡ 1) e
                    (once.once mb.0 i (get_or begin i 0) mb.1 (subst (λ x. leaf d keys x ≡ true) (sym mb.2) lb)
                    (record { node = omega arith; from = le_refl _; to = omega arith }))))
                go (no n) =
                    let z : own_of keys own j ≡ 0 = subst (λ x. own_of keys own x ≡ 0) e (own_count i l ∙ omega arith) in
                    inl (ap (λ n. added o plus w (range (own_of keys begin j) n)) z ∙ unfold added range in refl)
