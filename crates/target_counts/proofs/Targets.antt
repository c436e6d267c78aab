-- Targets counted piece by piece, up to the first that is outside or in no leaf.
use mathlib.Core.Path.{◌≡◌, refl, sym, ap, ap₂, ◌∙◌, subst}
use mathlib.Core.Bool.{Bool, true, false}
use mathlib.Core.List.{List, map}
use mathlib.Core.Logic.{⊎_elim, ◌≢◌}
use Prim.Native.Nat.{ℕ, zero, suc, ◌+◌, ◌*◌, ◌-◌, ◌/◌, ◌≤◌, ◌<◌}
use native.Mathlib.Omega.{arith}
use native.Mathlib.Nat.{add-zero, add-suc, add-mul, suc-mul, zero-mul, one-mul, mul-one, le_trans, le_of_eq, mul-le-mul_right, mul-le-mul}
use native.Mathlib.Numerals.{add-one}
use native.Mathlib.Decide.{dec_lt}
use lib.Dec.{eqb}
use lib.Ieee.{Float}
use lib.ListN.{length, get_or, take, drop, set, replicate, length-map, length-set}
use lib.Seq.{get_or-take, length-take-le, get_or-set_same, get_or-set_other}
use borrow.Author.Tests.{eq-eqb, ne_eqb}
use Rattle.refusal.specs.declared.Refusal.TheVariants.{Point, Unstored}
use Rattle.refusal.specs.declared.Wall.{Wall}
use Rattle.slices.specs.Lists.{bit, count, Distinct}
use Rattle.slices.proofs.Tests.{clash, same_or_not}
use Rattle.slices.proofs.Lists.{get_d_map}
use Rattle.space.specs.declared.Box.{Box}
use Rattle.space.specs.declared.Frame.{Frame}
use Rattle.space.specs.Cells.{frame_of, inside, code16}
use Rattle.space.specs.Walls.{first_wall}
use Rattle.space.specs.Rows.{inside_rows, codes16, rows_of, rows_inside, wall_of, row_wall, most_points}
use Rattle.space.proofs.Batches.{codes-length, rows-le, code-at-row, row_inside, row-outside, rows_fit}
use Rattle.tree.specs.Leaves.{held, leaf_key, leaf_of}
use Rattle.tree.specs.Finding.{TreeKeys}
use Rattle.tree.proofs.Leaves.{tree_of}
use Rattle.tree.proofs.Ranges.{distinct}
use Rattle.grouping.specs.Batches.{passing}
use Rattle.grouping.specs.Passes.{first_in, Counted}
use Rattle.grouping.proofs.Passing.{passing-le, passing-before, passing-stop}
use Rattle.grouping.proofs.Blocks.{first_more}
use Rattle.grouping.proofs.Counting.{more-in, same_in, first-few, count-start}
use Rattle.lookup.specs.Batch.{held_before, leaf_keys, codes_inside, points_outcome}
use Rattle.lookup.proofs.Leaves.{found-leaf, found_none}
use Rattle.target_counts.specs.Pieces.{Piece, Added}
use Rattle.std.specs.Prelude.{Err, None, Option, Some}
use Rattle.refusal.specs.Outcome.{Outcome, accepted}

-- where the first that fails a test stands
passing-is : (p : ℕ → Bool) (ys : List ℕ) (row : ℕ) → row ≤ length ys → ((i : ℕ) → i < row → p (get_or ys i 0) ≡ true) → (row < length ys → p (get_or ys row 0) ≡ false) → passing p ys ≡ row
passing-is p ys row within before stop = go (dec_lt (passing p ys) row) (dec_lt row (passing p ys))
  where
    go : Dec (passing p ys < row) → Dec (row < passing p ys) → passing p ys ≡ row
    go (yes l) _ = absurd (clash (before (passing p ys) l) (passing-stop p ys (omega arith)))
    go (no l) (yes g) = absurd (clash (passing-before p ys row g) (stop (omega (arith, passing-le p ys))))
    go (no l) (no g) = omega arith

-- ---- marks counted one after the other
module _ (keys marks old : List ℕ) where
  pub added_none : Added keys marks 0 old old
  unfolding count
  added_none = record { kept = refl; sums = λ j l. sym (add-zero (get_or old j 0)); rest = λ j l. refl }

  module _ (new : List ℕ) (i node : ℕ) (apart : Distinct keys) (a : Added keys marks i old new) (l : i < length marks) (h : node < length keys) (e : get_or keys node 0 ≡ get_or marks i 0) (room : length keys ≤ length old) where
    added_more : Added keys marks (i + 1) old (set new node (get_or new node 0 + 1))
    added_more = record {
      kept = length-set new node (get_or new node 0 + 1) ∙ a.kept;
      sums = λ j hj. ⊎_elim (same j) (other j hj) (same_or_not j node);
      rest = λ j hj. get_or-set_other new node j (get_or new node 0 + 1) 0 (omega arith) ∙ a.rest j hj;
    }
      where
        same : (j : ℕ) → j ≡ node → get_or (set new node (get_or new node 0 + 1)) j 0 ≡ get_or old j 0 + first_in marks (i + 1) (get_or keys j 0)
        same j s =
            ap (λ m. get_or (set new node (get_or new node 0 + 1)) m 0) s
            ∙ get_or-set_same new node (get_or new node 0 + 1) 0 (omega (arith, a.kept))
            ∙ omega (arith, a.sums node h, more-in marks (i + 1) i (get_or keys node 0) (add-one i) l (sym e))
            ∙ ap (λ m. get_or old m 0 + first_in marks (i + 1) (get_or keys m 0)) (sym s)

        other : (j : ℕ) → j < length keys → j ≢ node → get_or (set new node (get_or new node 0 + 1)) j 0 ≡ get_or old j 0 + first_in marks (i + 1) (get_or keys j 0)
        other j hj n =
            get_or-set_other new node j (get_or new node 0 + 1) 0 n
            ∙ omega (arith, a.sums j hj, same_in marks (i + 1) i (get_or keys j 0) (add-one i) l (λ q. n (apart j node hj h (sym q ∙ sym e))))

-- ---- the codes of a piece: the first are in leaves, and counted there
pub record Adding (d : ℕ) (keys codes : List ℕ) (n : ℕ) (old : List ℕ) (row : ℕ) (new : List ℕ) : Type 0 where
  pub upto : row ≤ n
  pub held_so_far : (i : ℕ) → i < row → held d keys (get_or codes i 0) ≡ true
  pub added : Added keys (leaf_keys d keys codes) row old new

module _ (d : ℕ) (keys codes : List ℕ) (n : ℕ) (old : List ℕ) (fits : n ≤ length codes) where
  pub adding-start : Adding d keys codes n old 0 old
  adding-start = record { upto = omega arith; held_so_far = λ i l. absurd (omega arith); added = added_none keys (leaf_keys d keys codes) old }

  module _ (row : ℕ) (new : List ℕ) (c : Adding d keys codes n old row new) where
    first-held : (row < n → held d keys (get_or codes row 0) ≡ false) → row ≡ held_before d keys (take n codes)
    first-held stop = sym (passing-is (held d keys) (take n codes) row (omega (arith, length-take-le n codes fits, c.upto))
        (λ i l. ap (held d keys) (get_or-take n codes i 0 (omega (arith, c.upto))) ∙ c.held_so_far i l)
        (λ l. let s : row < n = omega (arith, length-take-le n codes fits) in ap (held d keys) (get_or-take n codes row 0 s) ∙ stop s))

    pub adding-done : n ≤ row → row ≡ held_before d keys (take n codes)
    adding-done h = first-held (λ l. absurd (omega arith))

    module _ (t : TreeKeys d keys) (room : length keys ≤ length old) (h : row < n) (r : Option ℕ) (q : r ≡ leaf_of d keys (get_or codes row 0)) where
      pub adding-stop : r ≡ None → row ≡ held_before d keys (take n codes)
      adding-stop e = first-held (λ _. found_none d keys t (get_or codes row 0) r q e)

      module _ (node : ℕ) (f : r ≡ Some node) where
        leaf-facts : (held d keys (get_or codes row 0) ≡ true) × (node < length keys) × (get_or keys node 0 ≡ leaf_key d keys (get_or codes row 0))
        leaf-facts = found-leaf d keys t (get_or codes row 0) r q node f

        pub node-room : node < length new
        node-room = omega (arith, leaf-facts.1, c.added.kept)

        pub node-small : ((j : ℕ) → get_or old j 0 + n ≤ most_points) → get_or new node 0 < most_points
        node-small few = omega (arith, few node, c.added.sums node leaf-facts.1, first-few (leaf_keys d keys codes) row (get_or keys node 0))

        pub adding-more : Adding d keys codes n old (row + 1) (set new node (get_or new node 0 + 1))
        adding-more = record {
          upto = omega arith;
          held_so_far = λ j l. before j (dec_lt j row) l;
          added =
              added_more keys (leaf_keys d keys codes) old new row node (distinct d keys (tree_of d keys t).ascending) c.added (omega (arith, length-map codes (leaf_key d keys))) leaf-facts.1
              (leaf-facts.2 ∙ sym (get_d_map (leaf_key d keys) codes row (omega arith)))
              room;
        }
          where
            before : (j : ℕ) → Dec (j < row) → j < row + 1 → held d keys (get_or codes j 0) ≡ true
            before j (yes l) _ = c.held_so_far j l
            before j (no l) k = let z : j ≡ row = omega arith in ap (λ x. held d keys (get_or codes x 0)) z ∙ leaf-facts.0

-- so far a row begins at most
pub rows-small : (row axes : ℕ) → row ≤ 1048576 → axes ≤ 3 → row * axes ≤ 3145728
rows-small row axes a b = mul-le-mul a b

-- a row is there to read
pub row-at : (axes row rows long : ℕ) → row < rows → rows * axes ≤ long → row * axes + axes ≤ long
row-at axes row rows long h room = le_trans (le_of_eq (sym (suc-mul row axes))) (le_trans (mul-le-mul_right axes h) room)

-- so many rows in a row are there
pub rows-room : (axes from most long : ℕ) → from + most ≤ long / axes → (from + most * 1) * axes ≤ long
rows-room axes from most long h = le_trans (mul-le-mul_right axes (omega (arith, mul-one most))) (rows_fit axes long)

-- ---- a piece coded row by row
pub record Coding (f : Frame) (xs : List Float) (from far : ℕ) (codes : List ℕ) (n at : ℕ) : Type 0 where
  pub at_is : at ≡ (from + n * far) * f.axes
  pub long : length codes ≡ 512
  pub all_in : (i : ℕ) → i < n → inside f (drop ((from + i * far) * f.axes) xs) ≡ true
  pub codes_are : (i : ℕ) → i < n → get_or codes i 0 ≡ code16 f (drop ((from + i * far) * f.axes) xs)

module _ (f : Frame) (xs : List Float) (from far : ℕ) where
  pub coding-start : (codes : List ℕ) → length codes ≡ 512 → Coding f xs from far codes 0 (from * f.axes)
  coding-start codes long = record { at_is = ap (λ k. k * f.axes) (omega (arith, zero-mul far)); long = long; all_in = λ i l. absurd (omega arith); codes_are = λ i l. absurd (omega arith) }

  module _ (codes : List ℕ) (n at : ℕ) (c : Coding f xs from far codes n at) where
    next : at + far * f.axes ≡ (from + (n + 1) * far) * f.axes
    next =
        ap (λ k. k + far * f.axes) c.at_is
        ∙ sym (add-mul (from + n * far) far f.axes)
        ∙ ap (λ k. k * f.axes) (omega (arith, ap (λ k. k * far) (add-one n), suc-mul n far))

    module _ (most : ℕ) (h : n < most) where
      far-enough : at + far * f.axes ≤ (from + most * far) * f.axes
      far-enough = le_trans (le_of_eq next) (mul-le-mul_right f.axes (omega (arith, mul-le-mul_right far (up h))))
        where
          up : n < most → n + 1 ≤ most
          up l = omega arith

      -- the row is there to read
      pub row-there : 1 ≤ far → (from + most * far) * f.axes ≤ length xs → at + f.axes ≤ length xs
      row-there some room = omega (arith, far-enough, one, room)
        where
          one : f.axes ≤ far * f.axes
          one = le_trans (le_of_eq (sym (one-mul f.axes))) (mul-le-mul_right f.axes some)

    pub coding-more : (code : ℕ) → n < 512 → inside f (drop at xs) ≡ true → code ≡ code16 f (drop at xs) → Coding f xs from far (set codes n code) (n + 1) (at + far * f.axes)
    coding-more code h i e = record {
      at_is = next;
      long = length-set codes n code ∙ c.long;
      all_in = λ j l. in-at j (dec_lt j n) l;
      codes_are = λ j l. code_at j (dec_lt j n) l;
    }
      where
        here : (j : ℕ) → j ≡ n → drop ((from + j * far) * f.axes) xs ≡ drop at xs
        here j z = ap (λ k. drop ((from + k * far) * f.axes) xs) z ∙ ap (λ k. drop k xs) (sym c.at_is)

        in-at : (j : ℕ) → Dec (j < n) → j < n + 1 → inside f (drop ((from + j * far) * f.axes) xs) ≡ true
        in-at j (yes l) _ = c.all_in j l
        in-at j (no l) k = ap (inside f) (here j (omega arith)) ∙ i

        code_at : (j : ℕ) → Dec (j < n) → j < n + 1 → get_or (set codes n code) j 0 ≡ code16 f (drop ((from + j * far) * f.axes) xs)
        code_at j (yes l) _ = get_or-set_other codes n j code 0 (λ z. omega arith) ∙ c.codes_are j l
        code_at j (no l) k =
            let z : j ≡ n = omega arith in
            ap (λ m. get_or (set codes n code) m 0) z ∙ get_or-set_same codes n code 0 (omega (arith, c.long)) ∙ e ∙ ap (code16 f) (sym (here j z))

    -- what was coded, up to an outside row or to the end
    pub coded-stop : (most : ℕ) → n ≤ most → inside f (drop at xs) ≡ false → Piece f xs from far most codes n
    coded-stop most h i = record { within = h; all_in = c.all_in; codes_are = c.codes_are; stop = λ _. ap (λ k. inside f (drop k xs)) (sym c.at_is) ∙ i }

    pub coded-all : (most : ℕ) → n ≤ most → most ≤ n → Piece f xs from far most codes n
    coded-all most h l = record { within = h; all_in = c.all_in; codes_are = c.codes_are; stop = λ z. absurd (omega arith) }

-- ---- the first rows are inside and in leaves, and counted there
pub record Counting (f : Frame) (n : ℕ) (keys : List ℕ) (xs : List Float) (counts : List ℕ) (row : ℕ) : Type 0 where
  pub rows : row ≤ inside_rows n f xs
  pub held_so_far : (i : ℕ) → i < row → held f.axes keys (code16 f (drop (i * f.axes) xs)) ≡ true
  pub counted : Counted keys (leaf_keys f.axes keys (codes16 n f xs)) row counts

-- how many of the first m codes stand before the first that no leaf holds
held-is : (b : Box) (keys : List ℕ) (xs : List Float) (row m : ℕ) → row ≤ m → ((i : ℕ) → i < row → held b.axes keys (code16 (frame_of b) (drop (i * b.axes) xs)) ≡ true)
    → (row < m → held b.axes keys (code16 (frame_of b) (drop (row * b.axes) xs)) ≡ false) → held_before b.axes keys (codes16 m (frame_of b) xs) ≡ row
held-is b keys xs row m h before stop = passing-is (held b.axes keys) (codes16 m (frame_of b) xs) row (omega (arith, codes-length m (frame_of b) xs))
    (λ i l. ap (held b.axes keys) (code-at-row m i (frame_of b) xs (omega arith)) ∙ before i l)
    (λ l. let s : row < m = omega (arith, codes-length m (frame_of b) xs) in ap (held b.axes keys) (code-at-row m row (frame_of b) xs s) ∙ stop s)

-- marks counted in two parts
first-join : (marks piece : List ℕ) (row m k : ℕ) → row + m ≤ length marks → m ≤ length piece → ((i : ℕ) → i < m → get_or piece i 0 ≡ get_or marks (row + i) 0)
    → first_in marks (row + m) k ≡ first_in marks row k + first_in piece m k
unfolding count
first-join marks piece row zero k _ _ same = ap (λ i. first_in marks i k) (add-zero row) ∙ sym (add-zero (first_in marks row k))
first-join marks piece row (suc m) k h l same =
    ap (λ i. first_in marks i k) (add-suc row m)
    ∙ first_more marks (row + m) (omega arith) k
    ∙ omega (
      arith,
      first-join marks piece row m k (omega arith) (omega arith) (λ i s. same i (omega arith)),
      first_more piece m l k,
      ap (λ x. bit (eqb x k)) (same m (omega arith)),
    )

module _ (b : Box) (keys : List ℕ) (xs : List Float) where
  abbrev d : ℕ
  d = b.axes

  abbrev n : ℕ
  n = rows_of b xs

  abbrev all : List ℕ
  all = codes16 (rows_of b xs) (frame_of b) xs

  pub counting-start : (counts : List ℕ) → length keys ≤ length counts → counts ≡ replicate (length counts) 0 → Counting (frame_of b) (rows_of b xs) keys xs counts 0
  counting-start counts long none = record { rows = omega arith; held_so_far = λ i l. absurd (omega arith); counted = count-start keys (leaf_keys d keys all) counts (length counts) long none }

  module _ (counts : List ℕ) (row : ℕ) (c : Counting (frame_of b) (rows_of b xs) keys xs counts row) where
    pub few-counts : (m : ℕ) → row + m ≤ most_points → (j : ℕ) → get_or counts j 0 + m ≤ most_points
    few-counts m h j = go (dec_lt j (length keys))
      where
        go : Dec (j < length keys) → get_or counts j 0 + m ≤ most_points
        go (yes l) = omega (arith, c.counted.counts_are j l, first-few (leaf_keys d keys all) row (get_or keys j 0))
        go (no l) = omega (arith, c.counted.rest j (omega arith))

    no_rows : row < n → inside (frame_of b) (drop (row * b.axes) xs) ≡ false → rows_inside b xs ≡ row
    no_rows _ i = go (dec_lt row (rows_inside b xs))
      where
        go : Dec (row < rows_inside b xs) → rows_inside b xs ≡ row
        go (yes l) = absurd (clash (row_inside n row (frame_of b) xs l) i)
        go (no l) = omega (arith, c.rows)

    -- ---- a piece of the targets
    module _ (codes : List ℕ) (most m : ℕ) (fits : m ≤ length codes) (end : row + most ≤ rows_of b xs) (p : Piece (frame_of b) xs row 1 most codes m) (r : ℕ) (q : r ≡ held_before d keys (take m codes)) where
      in-piece : (i : ℕ) → i < m → inside (frame_of b) (drop ((row + i) * b.axes) xs) ≡ true
      in-piece i l = ap (λ k. inside (frame_of b) (drop ((row + k) * b.axes) xs)) (sym (mul-one i)) ∙ p.all_in i l

      code-of : (i : ℕ) → i < m → get_or codes i 0 ≡ code16 (frame_of b) (drop ((row + i) * b.axes) xs)
      code-of i l = p.codes_are i l ∙ ap (λ k. code16 (frame_of b) (drop ((row + k) * b.axes) xs)) (mul-one i)

      -- its rows are inside
      rows_in : row + m ≤ rows_inside b xs
      rows_in = go (dec_lt (rows_inside b xs) (row + m))
        where
          go : Dec (rows_inside b xs < row + m) → row + m ≤ rows_inside b xs
          go (no l) = omega arith
          go (yes l) =
              let i = rows_inside b xs - row in
              let e : row + i ≡ rows_inside b xs = omega (arith, c.rows) in
              absurd (clash (ap (λ k. inside (frame_of b) (drop (k * b.axes) xs)) (sym e) ∙ in-piece i (omega (arith, c.rows))) (row-outside n (frame_of b) xs (omega (arith, p.within))))

      upto : r ≤ m
      upto = omega (arith, passing-le (held d keys) (take m codes), length-take-le m codes fits)

      -- and those before r in leaves
      held_first : (i : ℕ) → i < row + r → held d keys (code16 (frame_of b) (drop (i * b.axes) xs)) ≡ true
      held_first i l = go (dec_lt i row)
        where
          go : Dec (i < row) → held d keys (code16 (frame_of b) (drop (i * b.axes) xs)) ≡ true
          go (yes k) = c.held_so_far i k
          go (no k) =
              let j = i - row in
              let e : row + j ≡ i = omega arith in
              ap (λ x. held d keys (code16 (frame_of b) (drop (x * b.axes) xs))) (sym e)
              ∙ ap (held d keys) (sym (code-of j (omega (arith, upto))))
              ∙ ap (held d keys) (sym (get_or-take m codes j 0 (omega (arith, upto))))
              ∙ passing-before (held d keys) (take m codes) j (omega arith)

      pub counting_more : m ≤ r → (new : List ℕ) → Added keys (leaf_keys d keys codes) r counts new → Counting (frame_of b) (rows_of b xs) keys xs new (row + m)
      counting_more h new a =
          let z : r ≡ m = omega (arith, upto) in
          record {
            rows = rows_in;
            held_so_far = λ i l. held_first i (omega arith);
            counted = record {
              room = omega (arith, a.kept, c.counted.room);
              counts_are = λ j l. omega (
                arith,
                a.sums j l,
                c.counted.counts_are j l,
                ap (λ i. first_in (leaf_keys d keys codes) i (get_or keys j 0)) z,
                first-join (leaf_keys d keys all) (leaf_keys d keys codes) row m (get_or keys j 0)
                    (omega (arith, length-map all (leaf_key d keys), codes-length n (frame_of b) xs, p.within))
                    (omega (arith, length-map codes (leaf_key d keys)))
                    marked,
              );
              rest = λ j l. a.rest j l ∙ c.counted.rest j l;
            };
          }
        where
          marked : (i : ℕ) → i < m → get_or (leaf_keys d keys codes) i 0 ≡ get_or (leaf_keys d keys all) (row + i) 0
          marked i l =
              let s : row + i < n = omega (arith, p.within) in
              get_d_map (leaf_key d keys) codes i (omega arith)
              ∙ ap (leaf_key d keys) (code-of i l ∙ sym (code-at-row n (row + i) (frame_of b) xs s))
              ∙ sym (get_d_map (leaf_key d keys) all (row + i) (omega (arith, codes-length n (frame_of b) xs)))

      pub counting-unstored : r < m → Err (Unstored (row + r)) ≡ points_outcome b keys xs
      unfolding points_outcome
      counting-unstored h =
          let inner : row + r < rows_inside b xs = omega (arith, rows_in) in
          let none : held d keys (code16 (frame_of b) (drop ((row + r) * b.axes) xs)) ≡ false =
          ap (held d keys) (sym (code-of r h)) ∙ ap (held d keys) (sym (get_or-take m codes r 0 h)) ∙ ap (λ i. held d keys (get_or (take m codes) i 0)) q ∙ passing-stop (held d keys) (take m codes) (omega (arith, length-take-le m codes fits)) in
          let stop = held-is b keys xs (row + r) (rows_inside b xs) (omega arith) held_first (λ _. none) in
          rw (stop, ne_eqb (row + r) (rows_inside b xs) (λ z. omega arith))

    pub counting-outside : row < n → inside (frame_of b) (drop (row * b.axes) xs) ≡ false → (wall : Wall) → wall ≡ first_wall row (frame_of b) (drop (row * b.axes) xs) → Err (Point wall) ≡ points_outcome b keys xs
    unfolding points_outcome
    counting-outside h i wall w =
        let e = no_rows h i in
        let stop = held-is b keys xs row (rows_inside b xs) c.rows c.held_so_far (λ l. absurd (omega arith)) in
        let here : wall ≡ wall_of b xs = w ∙ ap (λ k. row_wall (frame_of b) xs k) (sym e) in
        rw (stop, eq-eqb row (rows_inside b xs) (sym e), ne_eqb (rows_inside b xs) n (λ z. omega arith), here)

    module _ (h : n ≤ row) where
      all_in : rows_inside b xs ≡ n
      all_in = omega (arith, c.rows, rows-le n (frame_of b) xs)

      pub counting-done : accepted ≡ points_outcome b keys xs
      unfolding points_outcome
      counting-done =
          let z : row ≡ rows_inside b xs = omega (arith, c.rows, all_in) in
          let stop = held-is b keys xs row (rows_inside b xs) c.rows c.held_so_far (λ l. absurd (omega arith)) in
          rw (stop, eq-eqb row (rows_inside b xs) z, eq-eqb (rows_inside b xs) n all_in)

      pub counting-all : Counted keys (leaf_keys d keys (codes_inside b xs)) n counts
      counting-all =
          let z : row ≡ n = omega (arith, c.rows, all_in) in
          subst (λ m. Counted keys (leaf_keys d keys (codes16 m (frame_of b) xs)) n counts) (sym all_in)
          (subst (λ m. Counted keys (leaf_keys d keys all) m counts) z c.counted)

-- a refusal is no end
pub not_done : {A : Type 0} (o : Outcome) (r : Rattle.refusal.specs.declared.Refusal.Refusal) → Err r ≡ o → o ≡ accepted → A
not_done o r e f = let z : ◌≡◌ {A = ℕ} 0 1 = cc in absurd (omega arith)
