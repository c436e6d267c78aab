-- The positions that a bit marks, put one after the other; and sums over them.
use mathlib.Core.Path.{◌≡◌, refl, sym, ap, ◌∙◌, subst}
use mathlib.Core.List.{List, [], ◌∷◌, ◌++◌, map}
use Prim.Native.Nat.{ℕ, zero, suc, ◌+◌, ◌*◌, ◌-◌, ◌%◌, ◌^◌, ◌≤◌, ◌<◌, zero-le}
use native.Mathlib.Omega.{arith}
use native.Mathlib.Numerals.{add-one}
use native.Mathlib.Nat.{add-zero}
use lib.Dec.{eqb}
use lib.ListN.{length, get_or, take, set, length-append, length-map, length-set}
use lib.Seq.{length-take-le, take-set-le, take-suc-set}
use Rattle.slices.specs.Lists.{filter, range, sum}
use Rattle.slices.proofs.Lists.{get_d_map}
use Rattle.slices.proofs.Sums.{sum-take, sum-whole, sum-all}
use Rattle.sourced.specs.Room.{Puts}
use Rattle.links.proofs.Children.{filter-here, filter-past}
use Rattle.around.specs.Masks.{bit_of}
use Rattle.around.specs.Parting.{key_of, near_at, far_at, Parts}
use Rattle.around.proofs.Lists.{filter-longer}
use borrow.Rule.Slice.PartMut.{mid_of}
use Rattle.morton.specs.Keys.{level_of, code_of, parent}
use Rattle.tree.specs.WellFormed.{most_sources, SoundTree}
use Rattle.around.specs.Around.{nodes_in, masks_in}
use Rattle.around.proofs.Lists.{map-twice}
use Rattle.node_rows.specs.Stack.{count_in, PartingIn, PartsIn, Stack, NearIn, NearNode}
use Rattle.node_rows.specs.Near.{Marked, entries_at, near_entries, Summable}
use Rattle.node_rows.proofs.Frames.{as-part, as-level}
use Rattle.node_rows.proofs.Nodes.{parting-above, found-above}

-- ---- the marked positions
pub marked_start : (masks : List ℕ) (s : ℕ) (near : List ℕ) → Marked masks s near 0 0
unfolding filter range
marked_start masks s near = record { fits = zero-le; are = refl }

module _ {masks : List ℕ} {s : ℕ} {near : List ℕ} {t j : ℕ} (w : Marked masks s near t j) where
  marked-length : length (near_at masks j s) ≡ t
  marked-length = sym (ap length w.are) ∙ length-take-le t near w.fits

  -- no more than all of them
  pub marked-few : (c : ℕ) → j ≤ c → t ≤ length (near_at masks c s)
  marked-few c h = omega (arith, marked-length, filter-longer (λ i. bit_of (get_or masks i 0) s) j c h)

  -- the next one is stored in any case, and counted if it is marked
  pub marked-store : t < length near → (v : ℕ) → v < 2 → eqb v 1 ≡ bit_of (get_or masks j 0) s → Marked masks s (set near t j) (t + v) (j + 1)
  marked-store q zero b e = record {
    fits = omega (arith, length-set near t j);
    are =
        ap (λ (n : ℕ). take n (set near t j)) (add-zero t) ∙ take-set-le t near t j (omega arith) ∙ w.are
        ∙ sym (ap (λ n. near_at masks n s) (add-one j) ∙ filter-past (λ i. bit_of (get_or masks i 0) s) j (sym e));
  }
  marked-store q (suc zero) b e = record {
    fits = omega (arith, length-set near t j);
    are =
        ap (λ (n : ℕ). take n (set near t j)) (add-one t) ∙ take-suc-set near t j q ∙ ap (λ (l : List ℕ). l ++ j ∷ []) w.are
        ∙ sym (ap (λ n. near_at masks n s) (add-one j) ∙ filter-here (λ i. bit_of (get_or masks i 0) s) j (sym e));
  }
  marked-store q (suc (suc v)) b e = absurd (omega arith)

  pub marked_all : (c : ℕ) → c ≤ j → j ≤ c → Marked masks s near t c
  marked_all c a b = let e : j ≡ c = omega arith in subst (λ n. Marked masks s near t n) e w

-- a slice without room that is full stays so, whatever is put
full : (xs : List ℕ) → Puts [] 1 xs [] 1
full xs done h = record { counted = omega (arith, h.counted, length-append done xs); begins = λ l. absurd (omega (arith, h.counted, length-append done xs)) }

-- so they are what parting finds, where the far keys are put nowhere
pub marked-parts : (keys nodes masks : List ℕ) (c s : ℕ) (near : List ℕ) (t : ℕ) → Marked masks s near t c → length (near_at masks c s) ≤ 27 → Parts keys nodes masks c s [] 1 [] 1 near t
marked-parts keys nodes masks c s near t w few = record { puts = full (map (key_of keys nodes) (far_at masks c s)); fits = w.fits; near = w.are; few = omega (arith, marked-few w c (omega arith)) }

-- ---- sums of a list, one by one: the first i are summed
pub record Summing (f : ℕ → ℕ) (xs : List ℕ) (i total : ℕ) : Type 0 where
  pub upto : i ≤ length xs
  pub adds : total ≡ sum (take i (map f xs))

module _ (f : ℕ → ℕ) (xs : List ℕ) where
  pub summing-none : Summing f xs 0 0
  unfolding sum
  summing-none = record { upto = zero-le; adds = refl }

  one_more : (i : ℕ) → i < length xs → sum (take (i + 1) (map f xs)) ≡ sum (take i (map f xs)) + f (get_or xs i 0)
  one_more i l =
      ap (λ (n : ℕ). sum (take n (map f xs))) (add-one i)
      ∙ sum-take (map f xs) i
      ∙ ap (λ (n : ℕ). sum (take i (map f xs)) + n) (get_d_map f xs i l)

  module _ (i total : ℕ) (g : Summing f xs i total) where
    module _ (v : ℕ) (l : i < length xs) (e : v ≡ f (get_or xs i 0)) where
      pub summing-more : Summing f xs (i + 1) (total + v)
      summing-more = record { upto = omega arith; adds = omega (arith, g.adds, e, one_more i l) }

      pub summing-room : total + v ≤ sum (map f xs)
      summing-room = omega (arith, g.adds, e, one_more i l, sum-whole (map f xs) (i + 1))

    pub summing-all : length xs ≤ i → total ≡ sum (map f xs)
    summing-all h =
        let e : i ≡ length (map f xs) = omega (arith, length-map xs f, g.upto) in
        g.adds ∙ ap (λ (n : ℕ). sum (take n (map f xs))) e ∙ sum-all (map f xs)

-- ---- for a node, from the numbers of its parent's level, which stand from a up to e in the stack
module _ (d : ℕ) (keys own : List ℕ) (t : SoundTree d keys own) (i : ℕ) (pos : 0 < i) (l : i < length keys) (stack held : List ℕ) (s : Stack d keys own (parent d (get_or keys i 0)) stack held)
    (a e : ℕ) (at : a ≡ 650 * (level_of (get_or keys i 0) - 1)) (to : e ≡ a + 650) (x : ℕ) (index : x ≡ code_of (get_or keys i 0) % 2 ^ d) where
  parting : PartingIn keys (mid_of a (e - a) stack) x
  parting = as-part (λ layer. PartingIn keys layer x) stack (level_of (get_or keys i 0) - 1) a e at to (parting-above d keys own t i pos l stack held s x index)

  pub markable : (n : ℕ) → 28 ≤ n → (count_in (mid_of a (e - a) stack) ≤ length (masks_in (mid_of a (e - a) stack))) × (x < 64) × (length (near_at (masks_in (mid_of a (e - a) stack)) (count_in (mid_of a (e - a) stack)) x) ≤ 27) × (28 ≤ n)
  markable n h = (omega (arith, parting.fits, parting.room), parting.index, parting.few, h)

  pub marked-found : (near : List ℕ) (n : ℕ) → Marked (masks_in (mid_of a (e - a) stack)) x near n (count_in (mid_of a (e - a) stack)) → NearNode d keys own i stack near n
  marked-found near n w =
      found-above d keys own t i pos l stack held s x index [] 1 [] 1 near n
      (as-level (λ layer. PartsIn keys layer x [] 1 [] 1 near n) stack (level_of (get_or keys i 0) - 1) a e at to
      (marked-parts keys (nodes_in (mid_of a (e - a) stack)) (masks_in (mid_of a (e - a) stack)) (count_in (mid_of a (e - a) stack)) x near n w parting.few))

-- sums over the near nodes, by their positions
module _ (d : ℕ) (keys own : List ℕ) (i : ℕ) (stack near : List ℕ) (n : ℕ) (found : NearNode d keys own i stack near n) (column : List ℕ) (a e : ℕ) (at : a ≡ 650 * (level_of (get_or keys i 0) - 1)) (to : e ≡ a + 650) where
  in-part : NearIn d keys own (get_or keys i 0) (mid_of a (e - a) stack) near n
  in-part = as-part (λ layer. NearIn d keys own (get_or keys i 0) layer near n) stack (level_of (get_or keys i 0) - 1) a e at to found

  pub entries-near : sum (entries_at (nodes_in (mid_of a (e - a) stack)) near n column) ≡ sum (near_entries d keys own (get_or keys i 0) column)
  entries-near =
      ap sum (sym (map-twice (λ j. get_or column j 0) (λ i. get_or (nodes_in (mid_of a (e - a) stack)) i 0) (take n near)) ∙ ap (map (λ j. get_or column j 0)) in-part.are)

  pub summable : length keys ≤ length column → sum (near_entries d keys own (get_or keys i 0) column) ≤ most_sources → Summable (nodes_in (mid_of a (e - a) stack)) near n column
  summable long few = record {
    fits = in-part.positions.fits;
    at = in-part.positions.at;
    inside = λ j h. omega (arith, in-part.positions.inside j h);
    few = omega (arith, entries-near);
  }
