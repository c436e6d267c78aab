-- The nodes by level: how many they are, and that the numbers printed are the old numbers.
use mathlib.Core.Path.{◌≡◌, refl, sym, ap, ap₂, ◌∙◌}
use mathlib.Core.Bool.{Bool, true, false, cond}
use mathlib.Core.List.{List, [], ◌∷◌, ◌++◌, map, map-append}
use Prim.Native.Nat.{ℕ, zero, suc, ◌+◌, ◌≤◌, ◌<◌}
use native.Mathlib.Nat.{zero-add}
use native.Mathlib.Numerals.{add-one}
use native.Mathlib.Omega.{arith}
use native.Mathlib.Decide.{dec_lt}
use lib.Dec.{ltb, eqb}
use lib.ListN.{length, get_or, take, length-append}
use lib.Seq.{take-suc}
use borrow.Author.Tests.{ltb-true, eqb-true, lt-ltb, le-ltb, eq-eqb, ne_eqb}
use Rattle.slices.specs.Lists.{filter, bit, count, range, concat_map, Mem}
use Rattle.slices.proofs.Counts.{count-zero, count_add, count-ext, length-count}
use Rattle.slices.proofs.Lists.{length-filter, count-append, range-append}
use Rattle.slices.proofs.Sorted.{count-le}
use Rattle.slices.proofs.Members.{mem-filter, mem-range}
use Rattle.morton.specs.Keys.{level_of}
use Rattle.growth.proofs.Joined.{mem-concat}
use Rattle.tree.specs.Arrangement.{old_number}
use Rattle.text.specs.Listing.{of_level, by_level}
use Rattle.text.proofs.Putting.{numbered-none, numbered_more}

-- a count of numbers by what stands at each
count-places : (p : ℕ → Bool) (f : ℕ → ℕ) (a : ℕ) (xs : List ℕ) → ((i : ℕ) → i < length xs → f (a + i) ≡ get_or xs i 0) → count (λ i. p (f i)) (range a (length xs)) ≡ count p xs
unfolding count range
count-places p f a [] h = refl
count-places p f a (x ∷ xs) h =
    let e : a + 0 ≡ a = omega arith in
    ap₂ ◌+◌ (ap (λ (y : ℕ). bit (p y)) (ap f (sym e) ∙ h 0 (omega arith)))
    (count-places p f (suc a) xs (λ i l. let q : suc a + i ≡ a + suc i = omega arith in ap f q ∙ h (suc i) (omega arith)))

-- one more that passes, or not, in the first a
module _ (q : ℕ → Bool) (xs : List ℕ) (a : ℕ) (l : a < length xs) where
  next : count q (take (suc a) xs) ≡ count q (take a xs) + (bit (q (get_or xs a 0)) + 0)
  unfolding count
  next = ap (count q) (take-suc xs a 0 l) ∙ count-append q (take a xs) (get_or xs a 0 ∷ [])

  next-yes : q (get_or xs a 0) ≡ true → count q (take (suc a) xs) ≡ suc (count q (take a xs))
  next-yes e = next ∙ ap (λ (b : Bool). count q (take a xs) + (bit b + 0)) e ∙ omega arith

  next-no : q (get_or xs a 0) ≡ false → count q (take (suc a) xs) ≡ count q (take a xs)
  next-no e = next ∙ ap (λ (b : Bool). count q (take a xs) + (bit b + 0)) e ∙ omega arith

module _ (key : List ℕ) where
  abbrev coarser : ℕ → ℕ
  coarser l = count (λ k. ltb (level_of k) l) key

  abbrev level : ℕ → ℕ → Bool
  level l k = eqb (level_of k) l

  level-length : (l : ℕ) → length (of_level key l) ≡ count (level l) key
  level-length l =
      length-filter (λ i. level l (get_or key i 0)) (range 0 (length key))
      ∙ count-places (level l) (λ i. get_or key i 0) 0 key (λ i h. ap (λ (n : ℕ). get_or key n 0) (zero-add i))

  coarser-more : (l : ℕ) → coarser (suc l) ≡ coarser l + count (level l) key
  coarser-more l = count_add (λ k. ltb (level_of k) (suc l)) (λ k. ltb (level_of k) l) (level l) key (λ k m. one (level_of k) (dec_lt (level_of k) l) (dec_lt l (level_of k)))
    where
      one : (x : ℕ) → Dec (x < l) → Dec (l < x) → bit (ltb x (suc l)) ≡ bit (ltb x l) + bit (eqb x l)
      one x (yes h) g = rw (lt-ltb x (suc l) (omega arith), lt-ltb x l h, ne_eqb x l (λ e. omega arith))
      one x (no n) (yes g) = rw (le-ltb x (suc l) (omega arith), le-ltb x l (omega arith), ne_eqb x l (λ e. omega arith))
      one x (no n) (no m) = rw (lt-ltb x (suc l) (omega arith), le-ltb x l (omega arith), eq-eqb x l (omega arith))

  -- the levels above l, and those with l
  levels-more : (l : ℕ) → concat_map (of_level key) (range 0 (suc l)) ≡ concat_map (of_level key) (range 0 l) ++ of_level key l
  levels-more l = ap (λ (k : ℕ). concat_map (of_level key) (range 0 k)) (sym (add-one l)) ∙ numbered_more (of_level key) l

  levels-length : (l : ℕ) → length (concat_map (of_level key) (range 0 l)) ≡ coarser l
  levels-length zero = ap length (numbered-none (of_level key)) ∙ sym (count-zero (λ k. ltb (level_of k) 0) key (λ k m h. omega (arith, ltb-true (level_of k) 0 h)))
  levels-length (suc l) =
      omega (arith, ap length (levels-more l) ∙ length-append (concat_map (of_level key) (range 0 l)) (of_level key l), levels-length l, level-length l, coarser-more l)

  -- a level's numbers are at most the number of nodes
  pub levels-most : (l : ℕ) → length (concat_map (of_level key) (range 0 l)) + length (of_level key l) ≤ length key
  levels-most l = omega (arith, levels-length l, level-length l, coarser-more l, count-le (λ k. ltb (level_of k) (suc l)) key)

  -- no more are printed than there are
  pub printed-most : length (by_level key) ≤ length key
  printed-most = omega (arith, levels-length 17, count-le (λ k. ltb (level_of k) 17) key)

  -- what is printed is a node
  pub printed-node : (i : ℕ) → Mem i (by_level key) → i < length key
  printed-node i m =
      let (l, ml, mi) = mem-concat (of_level key) (range 0 17) i m in
      mem-range (length key) i (mem-filter (λ i. level l (get_or key i 0)) (range 0 (length key)) i mi).0

  -- the nodes of a level have the numbers after those of coarser nodes
  level-numbers : (l m a : ℕ) → a + m ≤ length key
      → map (old_number key) (filter (λ i. level l (get_or key i 0)) (range a m)) ≡ range (coarser l + count (level l) (take a key)) (length (filter (λ i. level l (get_or key i 0)) (range a m)))
  unfolding filter range
  level-numbers l zero a h = refl
  level-numbers l (suc m) a h = go (level l (get_or key a 0)) refl (level-numbers l m (suc a) (omega arith))
    where
      go : (b : Bool) → level l (get_or key a 0) ≡ b
          → map (old_number key) (filter (λ i. level l (get_or key i 0)) (range (suc a) m)) ≡ range (coarser l + count (level l) (take (suc a) key)) (length (filter (λ i. level l (get_or key i 0)) (range (suc a) m)))
          → map (old_number key) (cond b (a ∷ filter (λ i. level l (get_or key i 0)) (range (suc a) m)) (filter (λ i. level l (get_or key i 0)) (range (suc a) m)))
          ≡ range (coarser l + count (level l) (take a key)) (length (cond b (a ∷ filter (λ i. level l (get_or key i 0)) (range (suc a) m)) (filter (λ i. level l (get_or key i 0)) (range (suc a) m))))
      go true e i =
          let q : coarser l + count (level l) (take (suc a) key) ≡ suc (coarser l + count (level l) (take a key)) = omega (arith, next-yes (level l) key a (omega arith) e) in
          let n : old_number key a ≡ coarser l + count (level l) (take a key) = unfold old_number in ap (λ (x : ℕ). coarser x + count (level x) (take a key)) (eqb-true (level_of (get_or key a 0)) l e) in
          unfold range in ap₂ ◌∷◌ n (i ∙ ap (λ (x : ℕ). range x (length (filter (λ i. level l (get_or key i 0)) (range (suc a) m)))) q)
      go false e i = i ∙ ap (λ (x : ℕ). range (coarser l + x) (length (filter (λ i. level l (get_or key i 0)) (range (suc a) m)))) (next-no (level l) key a (omega arith) e)

  levels-numbers : (l : ℕ) → map (old_number key) (concat_map (of_level key) (range 0 l)) ≡ range 0 (coarser l)
  levels-numbers zero =
      ap (map (old_number key)) (numbered-none (of_level key)) ∙ sym (ap (range 0) (sym (levels-length 0) ∙ ap length (numbered-none (of_level key))) ∙ none)
    where
      none : range 0 0 ≡ []
      none = unfold range in refl
  levels-numbers (suc l) =
      let e : coarser l + count (level l) (take 0 key) ≡ 0 + coarser l = unfold count in omega arith in
      ap (map (old_number key)) (levels-more l)
      ∙ map-append (old_number key) (concat_map (of_level key) (range 0 l)) (of_level key l)
      ∙ ap₂ ◌++◌ (levels-numbers l) (level-numbers l (length key) 0 (omega arith) ∙ ap₂ range e (level-length l))
      ∙ sym (range-append 0 (coarser l) (count (level l) key)) ∙ ap (range 0) (sym (coarser-more l))

  -- the numbers printed, which count from 0 on, are the nodes' old numbers
  pub old-numbers : map (old_number key) (by_level key) ≡ range 0 (length (by_level key))
  old-numbers = levels-numbers 17 ∙ ap (range 0) (sym (levels-length 17))

  -- and where no level is deeper than 16 all nodes are printed
  pub all-printed : ((i : ℕ) → i < length key → level_of (get_or key i 0) ≤ 16) → length (by_level key) ≡ length key
  all-printed h =
      levels-length 17
      ∙ count-ext (λ k. ltb (level_of k) 17) (λ _. true) key (λ k m. lt-ltb (level_of k) 17 (omega (arith, h m.0 m.1, ap level_of m.2)))
      ∙ sym (length-count key)
