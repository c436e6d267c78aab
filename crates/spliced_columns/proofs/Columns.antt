-- The columns of the tree with one source more, where the cell that it changes is not split: those of before, and one row between them.
use mathlib.Core.Path.{◌≡◌, refl, sym, ap, ap₂, ◌∙◌, subst}
use mathlib.Core.Bool.{Bool, true, false, not, cond}
use mathlib.Core.List.{List, [], ◌∷◌, ◌++◌, map, append-nil, append_assoc}
use mathlib.Core.Logic.{◌⊎◌, inl, inr}
use Prim.Native.Nat.{ℕ, zero, suc, ◌+◌, ◌≤◌, ◌<◌}
use native.Mathlib.Omega.{arith}
use native.Mathlib.Nat.{add-zero, eq-or-lt_of_le}
use lib.Dec.{eqb}
use lib.ListN.{length, get_or, take, drop, take-append-drop}
use lib.Seq.{take-suc, take_at, drop_at}
use borrow.Author.Tests.{lt-ltb, eqb-true, not-true}
use Rattle.slices.specs.Lists.{bit, filter, concat_map, sum, Mem}
use Rattle.slices.proofs.Tests.{clash, refute, lt-or-le}
use Rattle.slices.proofs.Lists.{concat_map-append}
use Rattle.morton.specs.Keys.{axes_known, holds}
use Rattle.refine.specs.Counts.{sources_in}
use Rattle.tree.specs.Nodes.{leaf}
use Rattle.tree.specs.Order.{before}
use Rattle.tree.specs.Totals.{total_in, total_column}
use Rattle.tree.proofs.Spans.{earlier, earlier-not}
use Rattle.dealing.proofs.Laws.{map-join}
use Rattle.growth.specs.declared.Rule.{Rule}
use Rattle.growth.specs.Nodes.{splits, nodes}
use Rattle.growth.specs.Columns.{own_column, indices_in, order_column}
use Rattle.growth.proofs.Arranged.{Codes, length-indices}
use Rattle.growth.proofs.Leaves.{leaf-unsplit}
use Rattle.growth.proofs.CellTotals.{total-sources}
use Rattle.parting.proofs.Joins.{concat-same, concat-filter, concat-one, concat-length}
use Rattle.grow.specs.Rows.{mark_of, sum_marked, own_marked}
use Rattle.grow.proofs.Putting.{map-agree, map-twice}
use Rattle.grow.proofs.Spreading.{own-told, sum_told}
use Rattle.further.specs.Further.{further}
use Rattle.further.proofs.Alone.{kept-some, node-if}
use Rattle.further.proofs.More.{count-more, count_same, splits-stays, node_stays}
use Rattle.further.proofs.Indices.{indices-same, indices-last}
use Rattle.spliced.specs.Gap.{Gap, Cut}
use Rattle.spliced.proofs.Around.{holder-parted, splits-as, cell-after}
use Rattle.spliced.proofs.Nodes.{early, early-other, late, block_one, nodes-around}
use Rattle.spliced_columns.specs.Marks.{row_mark}

map-take : (f : ℕ → ℕ) (n : ℕ) (xs : List ℕ) → take n (map f xs) ≡ map f (take n xs)
map-take f zero xs = refl
map-take f (suc n) [] = refl
map-take f (suc n) (x ∷ xs) = ap (λ (ys : List ℕ). f x ∷ ys) (map-take f n xs)

module _ (g : Rule) (s : List ℕ) (code cell : ℕ) (known : axes_known g.axes ≡ true) (gap : Gap g s code cell) (from to : ℕ) (cut : Cut g.axes (nodes g s []) cell from to)
    (whole : splits g (further s code) [] cell ≡ false) where
  abbrev d : ℕ
  d = g.axes

  abbrev keys : List ℕ
  keys = nodes g s []

  abbrev later : List ℕ
  later = nodes g (further s code) []

  -- what a node owns, before and after
  owned : ℕ → ℕ
  owned k = cond (leaf g.axes (nodes g s []) k) (sources_in g.axes s k) 0

  owned' : ℕ → ℕ
  owned' k = cond (leaf g.axes (nodes g (further s code) []) k) (sources_in g.axes (further s code) k) 0

  held : ℕ → List ℕ
  held k = cond (leaf g.axes (nodes g s []) k) (indices_in g.axes s k) []

  held' : ℕ → List ℕ
  held' k = cond (leaf g.axes (nodes g (further s code) []) k) (indices_in g.axes (further s code) k) []

  -- the mark of a node that stays
  row : ℕ → ℕ
  row k = row_mark g.axes code k (cond (leaf g.axes (nodes g s []) k) (sources_in g.axes s k) 0) (sources_in g.axes s k)

  module _ (k : ℕ) (m : Mem k (nodes g s [])) (other : k ≡ cell → ⊥) where
    leaf-as : leaf g.axes (nodes g (further s code) []) k ≡ leaf g.axes (nodes g s []) k
    leaf-as =
        leaf-unsplit g (further s code) [] known k (node_stays g s code known k m)
        ∙ ap not (splits-as g s code cell known gap k m other)
        ∙ sym (leaf-unsplit g s [] known k m)

    -- a leaf that stays does not hold the new source
    leaf-free : leaf g.axes (nodes g s []) k ≡ true → holds g.axes k code ≡ false
    leaf-free l = refute (λ h. clash (holder-parted g s code cell known gap k m other h) (not-true _ (sym (leaf-unsplit g s [] known k m) ∙ l)))

    owned-as : owned' k ≡ owned k
    unfolding owned owned'
    owned-as = go (leaf g.axes (nodes g s []) k) refl
      where
        go : (b : Bool) → leaf g.axes (nodes g s []) k ≡ b
            → cond (leaf g.axes (nodes g (further s code) []) k) (sources_in g.axes (further s code) k) 0 ≡ cond (leaf g.axes (nodes g s []) k) (sources_in g.axes s k) 0
        go true e =
            ap (λ (b : Bool). cond b (sources_in g.axes (further s code) k) 0) (leaf-as ∙ e)
            ∙ count_same g.axes s code k (leaf-free e) ∙ sym (ap (λ (b : Bool). cond b (sources_in g.axes s k) 0) e)
        go false e = ap (λ (b : Bool). cond b (sources_in g.axes (further s code) k) 0) (leaf-as ∙ e) ∙ sym (ap (λ (b : Bool). cond b (sources_in g.axes s k) 0) e)

    held-as : held' k ≡ held k
    unfolding held held'
    held-as = go (leaf g.axes (nodes g s []) k) refl
      where
        go : (b : Bool) → leaf g.axes (nodes g s []) k ≡ b
            → cond (leaf g.axes (nodes g (further s code) []) k) (indices_in g.axes (further s code) k) [] ≡ cond (leaf g.axes (nodes g s []) k) (indices_in g.axes s k) []
        go true e =
            ap (λ (b : Bool). cond b (indices_in g.axes (further s code) k) []) (leaf-as ∙ e)
            ∙ indices-same g.axes s code k (leaf-free e) ∙ sym (ap (λ (b : Bool). cond b (indices_in g.axes s k) []) e)
        go false e = ap (λ (b : Bool). cond b (indices_in g.axes (further s code) k) []) (leaf-as ∙ e) ∙ sym (ap (λ (b : Bool). cond b (indices_in g.axes s k) []) e)

    -- what the mark tells
    row-sum : sum_marked (row k) ≡ sources_in g.axes (further s code) k
    unfolding row
    row-sum = sum_told (sources_in g.axes s k + bit (holds g.axes k code)) (eqb (cond (leaf g.axes (nodes g s []) k) (sources_in g.axes s k) 0) 0) ∙ sym (count-more g.axes s code k)

    row-own : own_marked (row k) ≡ owned' k
    unfolding row owned
    row-own =
        own-told (sources_in g.axes s k + bit (holds g.axes k code)) (eqb (cond (leaf g.axes (nodes g s []) k) (sources_in g.axes s k) 0) 0)
        ∙ go (leaf g.axes (nodes g s []) k) refl ∙ sym owned-as
      where
        some : (n : ℕ) → cond (eqb n 0) 0 (n + 0) ≡ n
        some n = step (eqb n 0) refl
          where
            step : (b : Bool) → eqb n 0 ≡ b → cond b 0 (n + 0) ≡ n
            step true e = sym (eqb-true n 0 e)
            step false e = add-zero n

        go : (b : Bool) → leaf g.axes (nodes g s []) k ≡ b
            → cond (eqb (cond (leaf g.axes (nodes g s []) k) (sources_in g.axes s k) 0) 0) 0 (sources_in g.axes s k + bit (holds g.axes k code))
            ≡ cond (leaf g.axes (nodes g s []) k) (sources_in g.axes s k) 0
        go true e =
            ap₂ (λ (b h : Bool). cond (eqb (cond b (sources_in g.axes s k) 0) 0) 0 (sources_in g.axes s k + bit h)) e (leaf-free e)
            ∙ some (sources_in g.axes s k) ∙ sym (ap (λ (b : Bool). cond b (sources_in g.axes s k) 0) e)
        go false e =
            ap (λ (b : Bool). cond (eqb (cond b (sources_in g.axes s k) 0) 0) 0 (sources_in g.axes s k + bit (holds g.axes k code))) e
            ∙ sym (ap (λ (b : Bool). cond b (sources_in g.axes s k) 0) e)

  -- the nodes before and after the cell are others
  first-mem : (k : ℕ) → Mem k (take from (nodes g s [])) → Mem k (nodes g s []) × (k ≡ cell → ⊥)
  first-mem k m = ((early g s code cell known gap from to cut k m).0, early-other g s code cell known gap from to cut k m)

  last_mem : (k : ℕ) → Mem k (drop to (nodes g s [])) → Mem k (nodes g s []) × (k ≡ cell → ⊥)
  last_mem k m = let l = late g s code cell known gap from to cut k m in (l.0, l.1)

  around : nodes g (further s code) [] ≡ (take from (nodes g s []) ++ cell ∷ []) ++ drop to (nodes g s [])
  around = nodes-around g s code cell known gap from to cut (cell ∷ []) (block_one g s code cell known gap from to cut whole)

  cell-leaf : leaf g.axes (nodes g (further s code) []) cell ≡ true
  cell-leaf = leaf-unsplit g (further s code) [] known cell (cell-after g s code cell known gap) ∙ ap not whole

  -- one more in the cell
  one_more : sources_in g.axes (further s code) cell ≡ sources_in g.axes s cell + 1
  one_more = count-more g.axes s code cell ∙ ap (λ (b : Bool). sources_in g.axes s cell + bit b) gap.holder

  pub marks : List ℕ
  marks = (map (λ k. row_mark g.axes code k (cond (leaf g.axes (nodes g s []) k) (sources_in g.axes s k) 0) (sources_in g.axes s k)) (take from (nodes g s [])) ++ mark_of (sources_in g.axes s cell + 1) false ∷ [])
      ++ map (λ k. row_mark g.axes code k (cond (leaf g.axes (nodes g s []) k) (sources_in g.axes s k) 0) (sources_in g.axes s k)) (drop to (nodes g s []))

  -- a column of the later tree, told by the marks
  told : (f h : ℕ → ℕ) → ((k : ℕ) → Mem k (nodes g s []) → (k ≡ cell → ⊥) → f (row k) ≡ h k) → f (mark_of (sources_in g.axes s cell + 1) false) ≡ h cell
      → map f marks ≡ map h (nodes g (further s code) [])
  unfolding marks row
  told f h each one =
      map-join f (map row (take from keys) ++ mark_of (sources_in d s cell + 1) false ∷ []) (map row (drop to keys))
      ∙ ap₂ (λ (xs ys : List ℕ). xs ++ ys)
      (map-join f (map row (take from keys)) (mark_of (sources_in d s cell + 1) false ∷ [])
      ∙ ap₂ (λ (xs : List ℕ) (y : ℕ). xs ++ y ∷ []) (part (take from keys) first-mem) one
      ∙ sym (map-join h (take from keys) (cell ∷ [])))
      (part (drop to keys) last_mem)
      ∙ sym (map-join h (take from keys ++ cell ∷ []) (drop to keys))
      ∙ ap (map h) (sym around)
    where
      part : (xs : List ℕ) → ((k : ℕ) → Mem k xs → Mem k (nodes g s []) × (k ≡ cell → ⊥)) → map f (map row xs) ≡ map h xs
      part xs q = map-twice f row xs ∙ map-agree (λ k. f (row k)) h xs (λ k m. each k (q k m).0 (q k m).1)

  pub owns-told : map own_marked marks ≡ own_column g.axes (nodes g (further s code) []) (further s code)
  unfolding own_column owned'
  owns-told = told own_marked owned' row-own
      (own-told (sources_in d s cell + 1) false ∙ sym (ap (λ (b : Bool). cond b (sources_in d (further s code) cell) 0) cell-leaf ∙ one_more))

  pub totals-told : Codes g.axes (further s code) → map sum_marked marks ≡ total_column g.axes (nodes g (further s code) []) (own_column g.axes (nodes g (further s code) []) (further s code))
  totals-told codes =
      told sum_marked (sources_in d (further s code)) row-sum (sum_told (sources_in d s cell + 1) false ∙ sym one_more)
      ∙ sym (map-agree (total_in d later (own_column d later (further s code))) (sources_in d (further s code)) later (λ k m. total-sources g (further s code) [] known codes k m))

  -- ---- the order column

  order_is : order_column g.axes (nodes g s []) s ≡ concat_map held (nodes g s [])
  unfolding order_column held
  order_is = concat-filter (indices_in d s) (leaf d keys) keys

  order-is' : order_column g.axes (nodes g (further s code) []) (further s code) ≡ concat_map held' (nodes g (further s code) [])
  unfolding order_column held'
  order-is' = concat-filter (indices_in d (further s code)) (leaf d later) later

  held-length : (k : ℕ) → length (held k) ≡ owned k
  unfolding held owned
  held-length k = go (leaf g.axes (nodes g s []) k)
    where
      go : (b : Bool) → length (cond b (indices_in g.axes s k) []) ≡ cond b (sources_in g.axes s k) 0
      go true = length-indices g.axes s k
      go false = refl

  was-whole : splits g s [] cell ≡ false
  was-whole = refute (λ t. clash (splits-stays g s code cell t) whole)

  -- an unstored cell had no sources
  none-there : (Mem cell (nodes g s []) → ⊥) → indices_in g.axes s cell ≡ []
  none-there n = go (indices_in g.axes s cell) refl
    where
      go : (xs : List ℕ) → indices_in g.axes s cell ≡ xs → indices_in g.axes s cell ≡ []
      go [] e = e
      go (x ∷ xs) e = absurd (n (node-if g s known cell gap.good gap.deep gap.parted (kept-some g s cell
          (omega (arith, length-indices g.axes s cell, ap length e)))))

  front : concat_map held (take to (nodes g s [])) ≡ concat_map held (take from (nodes g s [])) ++ indices_in g.axes s cell
  unfolding held
  front = go (eq-or-lt_of_le cut.rises)
    where
      go : (from ≡ to) ⊎ (from < to) → concat_map held (take to (nodes g s [])) ≡ concat_map held (take from (nodes g s [])) ++ indices_in g.axes s cell
      go (inl e) =
          ap (λ (n : ℕ). concat_map held (take n keys)) (sym e) ∙ sym (append-nil (concat_map held (take from keys)))
          ∙ ap (λ (xs : List ℕ). concat_map held (take from keys) ++ xs) (sym (none-there out))
        where
          out : Mem cell (nodes g s []) → ⊥
          out (j, l, q) = side (lt-or-le j from)
            where
              side : (j < from) ⊎ (from ≤ j) → ⊥
              side (inl h) =
                  let b = subst (λ (x : ℕ). before g.axes x cell ≡ true) q (cut.order j l ∙ lt-ltb j from h) in
                  let r = earlier g.axes cell cell gap.good.level gap.good.level b in
                  earlier-not g.axes cell cell r r
              side (inr h) = cut.behind j l (omega (arith, h, e)) q
      go (inr l) =
          let i : from < length keys = omega (arith, l, cut.within) in
          let e : to ≡ suc from = omega (arith, l, cut.short) in
          let q = cut.at from i (omega arith) l in
          ap (λ (n : ℕ). concat_map held (take n keys)) e ∙ ap (concat_map held) (take-suc keys from 0 i ∙ ap (λ (x : ℕ). take from keys ++ x ∷ []) q)
          ∙ concat_map-append held (take from keys) (cell ∷ []) ∙ ap (λ (xs : List ℕ). concat_map held (take from keys) ++ xs)
          (concat-one held cell ∙ ap (λ (b : Bool). cond b (indices_in d s cell) []) (leaf-unsplit g s [] known cell (from, i, q) ∙ ap not was-whole))

  -- the order column of after: the new source at the end of the cell's run
  pub order-told : order_column g.axes (nodes g (further s code) []) (further s code)
      ≡ (take (sum (take to (own_column g.axes (nodes g s []) s))) (order_column g.axes (nodes g s []) s) ++ length s ∷ []) ++ drop (sum (take to (own_column g.axes (nodes g s []) s))) (order_column g.axes (nodes g s []) s)
  unfolding own_column owned held'
  order-told =
      order-is' ∙ ap (concat_map held') around
      ∙ concat_map-append held' (take from keys ++ cell ∷ []) (drop to keys)
      ∙ ap₂ (λ (xs ys : List ℕ). xs ++ ys)
      (concat_map-append held' (take from keys) (cell ∷ [])
      ∙ ap₂ (λ (xs ys : List ℕ). xs ++ ys) (part (take from keys) first-mem)
      (concat-one held' cell ∙ ap (λ (b : Bool). cond b (indices_in d (further s code) cell) []) cell-leaf ∙ indices-last d s code cell gap.holder)
      ∙ sym (append_assoc (concat_map held (take from keys)) (indices_in d s cell) (length s ∷ []))
      ∙ ap (λ (xs : List ℕ). xs ++ length s ∷ []) (sym front ∙ sym taken))
      (part (drop to keys) last_mem ∙ sym dropped)
    where
      part : (xs : List ℕ) → ((k : ℕ) → Mem k xs → Mem k (nodes g s []) × (k ≡ cell → ⊥)) → concat_map held' xs ≡ concat_map held xs
      part xs q = concat-same held' held xs (λ k m. held-as k (q k m).0 (q k m).1)

      size : length (concat_map held (take to (nodes g s []))) ≡ sum (take to (map owned (nodes g s [])))
      size = concat-length held owned (take to (nodes g s [])) held-length ∙ ap sum (sym (map-take owned to (nodes g s [])))

      split : order_column g.axes (nodes g s []) s ≡ concat_map held (take to (nodes g s [])) ++ concat_map held (drop to (nodes g s []))
      split = order_is ∙ ap (concat_map held) (sym (take-append-drop to (nodes g s []))) ∙ concat_map-append held (take to (nodes g s [])) (drop to (nodes g s []))

      taken : take (sum (take to (map owned (nodes g s [])))) (order_column g.axes (nodes g s []) s) ≡ concat_map held (take to (nodes g s []))
      taken = ap (take (sum (take to (map owned (nodes g s []))))) split ∙ take_at (concat_map held (take to (nodes g s []))) (concat_map held (drop to (nodes g s []))) _ size

      dropped : drop (sum (take to (map owned (nodes g s [])))) (order_column g.axes (nodes g s []) s) ≡ concat_map held (drop to (nodes g s []))
      dropped = ap (drop (sum (take to (map owned (nodes g s []))))) split ∙ drop_at (concat_map held (take to (nodes g s []))) (concat_map held (drop to (nodes g s []))) _ size
