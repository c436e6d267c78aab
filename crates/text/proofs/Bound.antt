-- How long a listing can be: what a slice for it must have.
use mathlib.Core.Path.{◌≡◌, refl, sym, ap, ap₂, ◌∙◌}
use mathlib.Core.Bool.{Bool, true, false, cond}
use mathlib.Core.List.{List, [], ◌∷◌, ◌++◌, map}
use Prim.Native.Nat.{ℕ, zero, suc, ◌+◌, ◌*◌, ◌/◌, ◌%◌, ◌≤◌, ◌<◌}
use native.Mathlib.Nat.{zero-add}
use native.Mathlib.Numerals.{add-one}
use native.Mathlib.Omega.{arith}
use native.Mathlib.Decide.{dec_lt}
use lib.Dec.{ltb, eqb}
use lib.ListN.{length, get_or, length-append}
use borrow.Author.Tests.{lt-ltb, le-ltb, eq-eqb, ne_eqb}
use Rattle.refusal.specs.declared.Refusal.{Refusal}
use Rattle.refusal.specs.Numbers.{number_of, values_of}
use Rattle.refusal.proofs.Most.{values-most}
use Rattle.slices.specs.Lists.{filter, sum, concat_map, range}
use Rattle.slices.proofs.Sums.{sum_same, sum_both, sum-none, sum_less}
use Rattle.morton.specs.Keys.{level_of}
use Rattle.rows.specs.Written.{row_keys}
use Rattle.text.specs.Digits.{digit, digits, decimal}
use Rattle.text.specs.Listing.{field, fields, line, by_level, first_line, refusal_line, lettered, node_line, lines_from, listing}
use Rattle.text.proofs.Putting.{numbered-none, numbered_more}
use Rattle.text.proofs.Levels.{printed-most}

digits-most : (k n : ℕ) → length (digits k n) ≤ k
unfolding digits
digits-most zero n = omega arith
digits-most (suc k) n = go (ltb n 10) (digits-most k (n / 10))
  where
    go : (b : Bool) → length (digits k (n / 10)) ≤ k → length (cond b (digit n ∷ []) (digits k (n / 10) ++ digit (n % 10) ∷ [])) ≤ suc k
    go true h = omega arith
    go false h = omega (arith, length-append (digits k (n / 10)) (digit (n % 10) ∷ []))

fields-most : (ns : List ℕ) → length (fields ns) ≤ 21 * length ns
unfolding concat_map
fields-most [] = omega arith
fields-most (n ∷ ns) = omega (arith, length-append (field n) (fields ns), digits-most 20 n, fields-most ns)

line-most : (word ns : List ℕ) → length (line word ns) ≤ length word + 21 * length ns + 1
line-most word ns = omega (arith, length-append (word ++ fields ns) (10 ∷ []), length-append word (fields ns), fields-most ns)

-- ---- the nodes printed have no more rows than all nodes

sum-join : (f : ℕ → ℕ) (xs ys : List ℕ) → sum (map f (xs ++ ys)) ≡ sum (map f xs) + sum (map f ys)
unfolding sum
sum-join f [] ys = omega arith
sum-join f (x ∷ xs) ys = omega (arith, sum-join f xs ys)

sum-picked : (f : ℕ → ℕ) (p : ℕ → Bool) (xs : List ℕ) → sum (map f (filter p xs)) ≡ sum (map (λ x. cond (p x) (f x) 0) xs)
unfolding sum filter
sum-picked f p [] = refl
sum-picked f p (x ∷ xs) = go (p x) (sum-picked f p xs)
  where
    go : (b : Bool) → sum (map f (filter p xs)) ≡ sum (map (λ x. cond (p x) (f x) 0) xs)
        → sum (map f (cond b (x ∷ filter p xs) (filter p xs))) ≡ cond b (f x) 0 + sum (map (λ x. cond (p x) (f x) 0) xs)
    go true e = unfold sum in omega arith
    go false e = omega arith

-- a level more
module _ (f : ℕ → ℕ) (level : ℕ → ℕ) (xs : List ℕ) where
  abbrev to : ℕ → ℕ
  to l = sum (map (λ x. cond (ltb (level x) l) (f x) 0) xs)

  sum_level : (l : ℕ) → to l + sum (map (λ x. cond (eqb (level x) l) (f x) 0) xs) ≡ to (suc l)
  sum_level l =
      sym (sum_both (λ x. cond (ltb (level x) l) (f x) 0) (λ x. cond (eqb (level x) l) (f x) 0) xs)
      ∙ sum_same (λ x. cond (ltb (level x) l) (f x) 0 + cond (eqb (level x) l) (f x) 0) (λ x. cond (ltb (level x) (suc l)) (f x) 0) xs
      (λ x m. one (level x) (f x) (dec_lt (level x) l) (dec_lt l (level x)))
    where
      one : (y n : ℕ) → Dec (y < l) → Dec (l < y) → cond (ltb y l) n 0 + cond (eqb y l) n 0 ≡ cond (ltb y (suc l)) n 0
      one y n (yes h) g = rw (lt-ltb y (suc l) (omega arith), lt-ltb y l h, ne_eqb y l (λ e. omega arith)) (omega arith)
      one y n (no h) (yes g) = rw (le-ltb y (suc l) (omega arith), le-ltb y l (omega arith), ne_eqb y l (λ e. omega arith))
      one y n (no h) (no g) = rw (lt-ltb y (suc l) (omega arith), le-ltb y l (omega arith), eq-eqb y l (omega arith)) (omega arith)

  sum_to : (l : ℕ) → sum (map f (concat_map (λ l. filter (λ x. eqb (level x) l) xs) (range 0 l))) ≡ to l
  sum_to zero =
      ap (λ (x : List ℕ). sum (map f x)) (numbered-none (λ l. filter (λ x. eqb (level x) l) xs))
      ∙ none ∙ sym (sum-none (λ x. cond (ltb (level x) 0) (f x) 0) xs (λ x m. ap (λ (b : Bool). cond b (f x) 0) (le-ltb (level x) 0 (omega arith))))
    where
      none : sum [] ≡ 0
      none = unfold sum in refl
  sum_to (suc l) =
      ap (λ (k : ℕ). sum (map f (concat_map (λ l. filter (λ x. eqb (level x) l) xs) (range 0 k)))) (sym (add-one l))
      ∙ ap (λ (x : List ℕ). sum (map f x)) (numbered_more (λ l. filter (λ x. eqb (level x) l) xs) l)
      ∙ sum-join f (concat_map (λ l. filter (λ x. eqb (level x) l) xs) (range 0 l)) (filter (λ x. eqb (level x) l) xs)
      ∙ ap₂ ◌+◌ (sum_to l) (sum-picked f (λ x. eqb (level x) l) xs)
      ∙ sum_level l

-- a sum over the numbers of a list by what stands at each
sum-places : (g f : ℕ → ℕ) (a : ℕ) (xs : List ℕ) → ((i : ℕ) → i < length xs → f (a + i) ≡ get_or xs i 0) → sum (map (λ i. g (f i)) (range a (length xs))) ≡ sum (map g xs)
unfolding sum range
sum-places g f a [] h = refl
sum-places g f a (x ∷ xs) h =
    let e : a + 0 ≡ a = omega arith in
    ap₂ ◌+◌ (ap g (ap f (sym e) ∙ h 0 (omega arith)))
    (sum-places g f (suc a) xs (λ i l. let q : suc a + i ≡ a + suc i = omega arith in ap f q ∙ h (suc i) (omega arith)))

sum_rows : (u : ℕ → List ℕ) (key : List ℕ) → sum (map (λ k. length (u k)) key) ≡ length (row_keys u key)
unfolding sum concat_map
sum_rows u [] = refl
sum_rows u (k ∷ ks) = omega (arith, length-append (u k) (concat_map u ks), sum_rows u ks)

-- the entries in the rows of the nodes printed
rows-most : (u : ℕ → List ℕ) (key : List ℕ) → sum (map (λ i. length (u (get_or key i 0))) (by_level key)) ≤ length (row_keys u key)
rows-most u key =
    omega (
      arith,
      sum_to (λ i. length (u (get_or key i 0))) (λ i. level_of (get_or key i 0)) (range 0 (length key)) 17,
      sum_less (λ i. cond (ltb (level_of (get_or key i 0)) 17) (length (u (get_or key i 0))) 0) (λ i. length (u (get_or key i 0))) (range 0 (length key)) (λ i m. part (ltb (level_of (get_or key i 0)) 17) (length (u (get_or key i 0)))),
      sum-places (λ k. length (u k)) (λ i. get_or key i 0) 0 key (λ i l. ap (λ (n : ℕ). get_or key n 0) (zero-add i)),
      sum_rows u key,
    )
  where
    part : (b : Bool) (n : ℕ) → cond b n 0 ≤ n
    part true n = omega arith
    part false n = omega arith

-- ---- the listing

module _ (key own : List ℕ) where
  node-most : (u v : ℕ → List ℕ) (n i : ℕ) → length (node_line key own u v n i) ≤ 67 + 21 * length (u i) + 21 * length (v i)
  unfolding node_line
  node-most u v n i =
      let a = decimal n in
      let b = field (get_or key i 0) in
      let c = field (get_or own i 0) in
      omega (
        arith,
        length-append (a ++ b ++ c ++ lettered 85 (u i) ++ lettered 86 (v i)) (10 ∷ []),
        length-append (a ++ b ++ c ++ lettered 85 (u i)) (lettered 86 (v i)),
        length-append (a ++ b ++ c) (lettered 85 (u i)),
        length-append (a ++ b) c,
        length-append a b,
        digits-most 20 n,
        digits-most 20 (get_or key i 0),
        digits-most 20 (get_or own i 0),
        fields-most (u i),
        fields-most (v i),
      )

  lines-most : (u v : ℕ → List ℕ) (n : ℕ) (nodes : List ℕ)
      → length (lines_from key own u v n nodes) ≤ 67 * length nodes + 21 * sum (map (λ i. length (u i)) nodes) + 21 * sum (map (λ i. length (v i)) nodes)
  unfolding lines_from sum
  lines-most u v n [] = omega arith
  lines-most u v n (i ∷ rest) =
      omega (arith, length-append (node_line key own u v n i) (lines_from key own u v (suc n) rest), node-most u v n i, lines-most u v (suc n) rest)

  -- rows that go by the node's key
  module _ (u v : ℕ → List ℕ) where
    -- at most 67 bytes a node, 21 an entry and 110 in the first line
    pub listing-most : (axes depth sources work : ℕ)
        → length (listing key own (λ i. u (get_or key i 0)) (λ i. v (get_or key i 0)) axes depth sources work) ≤ 110 + 67 * length key + 21 * length (row_keys u key) + 21 * length (row_keys v key)
    listing-most axes depth sources work =
        let first = first_line axes (length key) depth sources work in
        omega (
          arith,
          length-append first (lines_from key own (λ i. u (get_or key i 0)) (λ i. v (get_or key i 0)) 0 (by_level key)),
          line-most (116 ∷ 114 ∷ 101 ∷ 101 ∷ []) (axes ∷ length key ∷ depth ∷ sources ∷ work ∷ []),
          lines-most (λ i. u (get_or key i 0)) (λ i. v (get_or key i 0)) 0 (by_level key),
          printed-most key,
          rows-most u key,
          rows-most v key,
        )

    -- 2,048 nodes and 8,192 entries a list
    pub listing-fits : length key ≤ 2048 → length (row_keys u key) ≤ 8192 → length (row_keys v key) ≤ 8192
        → (axes depth sources work : ℕ) → length (listing key own (λ i. u (get_or key i 0)) (λ i. v (get_or key i 0)) axes depth sources work) ≤ 481390
    listing-fits n nu nv axes depth sources work = omega (arith, listing-most axes depth sources work)

-- and the one line of a refusal
pub refusal-most : (r : Refusal) → length (refusal_line r) ≤ 92
refusal-most r = omega (arith, line-most (114 ∷ 101 ∷ 102 ∷ 117 ∷ 115 ∷ 101 ∷ 100 ∷ []) (number_of r ∷ values_of r), values-most r)
