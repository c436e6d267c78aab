-- The order column is an arrangement of all source indices.
use mathlib.Core.Path.{◌≡◌, refl, sym, ap, ap₂, ◌∙◌}
use mathlib.Core.Bool.{Bool, true, false, ◌&&◌}
use mathlib.Core.List.{List, [], ◌∷◌}
use mathlib.Core.Logic.{⊎_elim}
use Prim.Native.Nat.{ℕ, zero, suc, ◌+◌, ◌*◌, ◌^◌, ◌≤◌, ◌<◌}
use native.Mathlib.Omega.{arith}
use native.Mathlib.Nat.{zero-add}
use lib.Dec.{eqb}
use lib.ListN.{length, get_or}
use borrow.Author.Tests.{eq-eqb, eqb-true}
use Rattle.slices.specs.Lists.{filter, bit, count, range, concat_map, Mem}
use Rattle.slices.specs.Order.{AllFrom, Sorted, ascending}
use Rattle.slices.proofs.Tests.{and_r, lt-or-le}
use Rattle.slices.proofs.Counts.{count-one, count-zero}
use Rattle.slices.proofs.Rows.{count-filter}
use Rattle.slices.proofs.Lists.{count-append, length-filter, length-range, length-ascending}
use Rattle.slices.proofs.Members.{range-distinct, range-mem, mem-range, mem-filter}
use Rattle.slices.proofs.Order.{ascending-fixed}
use Rattle.slices.proofs.Same.{times, ascending-same}
use Rattle.morton.specs.Keys.{axes_known, holds}
use Rattle.refine.specs.Counts.{count_at, sources_in}
use Rattle.tree.specs.Nodes.{leaf}
use Rattle.growth.specs.declared.Rule.{Rule}
use Rattle.growth.specs.Nodes.{nodes}
use Rattle.growth.specs.Columns.{indices_in, order_column}
use Rattle.growth.proofs.Held.{held-once}

range-from : (x a n : ℕ) → x ≤ a → AllFrom x (range a n)
unfolding AllFrom range
range-from x a zero h = tt
range-from x a (suc n) h = (h, range-from x (suc a) n (omega arith))

range-sorted : (a n : ℕ) → Sorted (range a n)
unfolding Sorted range
range-sorted a zero = tt
range-sorted a (suc n) = (range-from a (suc a) n (omega arith), range-sorted (suc a) n)

-- ---- the indices in a cell

-- a test of the numbers at the places of a list
count-places : (p : ℕ → Bool) (f : ℕ → ℕ) (a : ℕ) (xs : List ℕ) → ((i : ℕ) → i < length xs → f (a + i) ≡ get_or xs i 0) → count (λ i. p (f i)) (range a (length xs)) ≡ count p xs
unfolding count range
count-places p f a [] h = refl
count-places p f a (x ∷ xs) h =
    let e : a + 0 ≡ a = omega arith in
    ap₂ (λ (b : Bool) (n : ℕ). bit b + n) (ap p (ap f (sym e) ∙ h 0 (omega arith)))
    (count-places p f (suc a) xs (λ i l. let q : suc a + i ≡ a + suc i = omega arith in ap f q ∙ h (suc i) (omega arith)))

module _ (d : ℕ) (s : List ℕ) where
  pub length-indices : (k : ℕ) → length (indices_in d s k) ≡ sources_in d s k
  unfolding indices_in count_at
  length-indices k =
      length-filter (λ i. holds d k (get_or s i 0)) (range 0 (length s))
      ∙ count-places (holds d k) (λ i. get_or s i 0) 0 s (λ i l. ap (λ (n : ℕ). get_or s n 0) (zero-add i))

  pub indices-hold : (k i : ℕ) → Mem i (indices_in d s k) → (i < length s) × (holds d k (get_or s i 0) ≡ true)
  unfolding indices_in
  indices-hold k i m = let r = mem-filter (λ i. holds d k (get_or s i 0)) (range 0 (length s)) i m in (mem-range (length s) i r.0, r.1)

  -- an index stands once in a cell that holds its source, and in no other
  module _ (x : ℕ) where
    with-true : (b : Bool) → bit (b && true) ≡ bit b
    with-true true = refl
    with-true false = refl

    once : x < length s → (k : ℕ) → times x (indices_in d s k) ≡ bit (holds d k (get_or s x 0))
    unfolding indices_in
    once l k =
        count-filter (λ c. eqb c x) (λ i. holds d k (get_or s i 0)) (range 0 (length s))
        ∙ count-one (λ i. holds d k (get_or s i 0) && eqb i x) (range 0 (length s)) (range-distinct (length s)) x (range-mem (length s) x l)
        (λ i m h. eqb-true i x (and_r (holds d k (get_or s i 0)) _ h))
        ∙ ap (λ b. bit (holds d k (get_or s x 0) && b)) (eq-eqb x x refl)
        ∙ with-true (holds d k (get_or s x 0))

    past : length s ≤ x → (k : ℕ) → times x (indices_in d s k) ≡ 0
    unfolding indices_in
    past l k =
        count-filter (λ c. eqb c x) (λ i. holds d k (get_or s i 0)) (range 0 (length s))
        ∙ count-zero (λ i. holds d k (get_or s i 0) && eqb i x) (range 0 (length s))
        (λ i m h. omega (arith, mem-range (length s) i m, eqb-true i x (and_r (holds d k (get_or s i 0)) _ h)))

    times-in : x < length s → (ks : List ℕ) → times x (concat_map (indices_in d s) ks) ≡ count (λ k. holds d k (get_or s x 0)) ks
    unfolding concat_map count
    times-in l [] = refl
    times-in l (k ∷ ks) = count-append (λ c. eqb c x) (indices_in d s k) (concat_map (indices_in d s) ks) ∙ ap₂ ◌+◌ (once l k) (times-in l ks)

    times-past : length s ≤ x → (ks : List ℕ) → times x (concat_map (indices_in d s) ks) ≡ 0
    unfolding concat_map count
    times-past l [] = refl
    times-past l (k ∷ ks) = count-append (λ c. eqb c x) (indices_in d s k) (concat_map (indices_in d s) ks) ∙ ap₂ ◌+◌ (past l k) (times-past l ks)

    range-in : x < length s → times x (range 0 (length s)) ≡ 1
    range-in l =
        count-one (λ c. eqb c x) (range 0 (length s)) (range-distinct (length s)) x (range-mem (length s) x l) (λ i m h. eqb-true i x h)
        ∙ ap bit (eq-eqb x x refl)

    range-past : length s ≤ x → times x (range 0 (length s)) ≡ 0
    range-past l = count-zero (λ c. eqb c x) (range 0 (length s)) (λ i m h. omega (arith, mem-range (length s) i m, eqb-true i x h))

-- ---- the columns of the tree

-- each source's code is one of level 16
abbrev pub Codes : ℕ → List ℕ → Type 0
Codes d s = (i : ℕ) → i < length s → get_or s i 0 < 2 ^ (d * 16)

-- each source is held by exactly one leaf
abbrev pub HeldOnce : ℕ → List ℕ → List ℕ → Type 0
HeldOnce d keys s = (i : ℕ) → i < length s → count (λ k. leaf d keys k && holds d k (get_or s i 0)) keys ≡ 1

-- then the order column has each source index once, and no other number
module _ (d : ℕ) (keys s : List ℕ) (once : HeldOnce d keys s) where
  same-times : (x : ℕ) → times x (order_column d keys s) ≡ times x (range 0 (length s))
  unfolding order_column
  same-times x =
      let leaves = filter (leaf d keys) keys in
      ⊎_elim
      (λ (l : x < length s).
      times-in d s x l leaves
      ∙ count-filter (λ k. holds d k (get_or s x 0)) (leaf d keys) keys
      ∙ once x l
      ∙ sym (range-in d s x l))
      (λ (l : length s ≤ x). times-past d s x l leaves ∙ sym (range-past d s x l))
      (lt-or-le x (length s))

  pub once-times : (i : ℕ) → i < length s → times i (order_column d keys s) ≡ 1
  once-times i h = same-times i ∙ range-in d s i h

  pub once-arranged : ascending (order_column d keys s) ≡ range 0 (length s)
  once-arranged = ascending-same (order_column d keys s) (range 0 (length s)) same-times ∙ ascending-fixed (range 0 (length s)) (range-sorted 0 (length s))

  pub once-length : length (order_column d keys s) ≡ length s
  once-length = sym (length-ascending (order_column d keys s)) ∙ ap length once-arranged ∙ length-range 0 (length s)

module _ (g : Rule) (s t : List ℕ) (known : axes_known g.axes ≡ true) (codes : Codes g.axes s) where
  pub nodes-once : HeldOnce g.axes (nodes g s t) s
  nodes-once i l = held-once g s t known (get_or s i 0) (i, l, refl) (codes i l)

  pub order-times : (i : ℕ) → i < length s → times i (order_column g.axes (nodes g s t) s) ≡ 1
  order-times = once-times g.axes (nodes g s t) s nodes-once

  pub order-arranged : ascending (order_column g.axes (nodes g s t) s) ≡ range 0 (length s)
  order-arranged = once-arranged g.axes (nodes g s t) s nodes-once

  pub order-length : length (order_column g.axes (nodes g s t) s) ≡ length s
  order-length = once-length g.axes (nodes g s t) s nodes-once
