-- Rows of a flat slice, one after the other.
use mathlib.Core.Path.{◌≡◌, refl, sym, ap, ap₂, ◌∙◌, subst}
use mathlib.Core.Bool.{Bool, true, false, cond}
use mathlib.Core.List.{List, [], ◌∷◌, ◌++◌, append_assoc}
use Prim.Native.Nat.{ℕ, zero, suc, ◌+◌, ◌-◌, ◌*◌, ◌/◌, ◌≤◌, ◌<◌}
use native.Mathlib.Nat.{add_comm, add-zero, zero-add, add-suc, suc-add, suc-mul, zero-mul, sub-zero, mul-le-mul_right, le_trans, div-mul-le_self, le_of_eq}
use native.Mathlib.Numerals.{add-one}
use native.Mathlib.Omega.{arith}
use lib.Dec.{ltb}
use lib.Ieee.{Float}
use lib.ListN.{length, get_or, drop, set, length-append, length-drop}
use lib.Seq.{drop-drop, drop-cons, set_at}
use borrow.Author.Tests.{lt-ltb, le-ltb, ltb-true, ltb-false}
use Rattle.refusal.specs.declared.Wall.{Wall}
use Rattle.space.specs.declared.Frame.{Frame}
use Rattle.space.specs.Cells.{inside, code16}
use Rattle.space.specs.Walls.{first_wall}
use Rattle.space.specs.Rows.{inside_rows, codes16, or_inside, row_wall, first_outside, coded}
use Rattle.std.specs.Prelude.{Err}
use Rattle.space.specs.Inside.{all_inside}

-- one row more, at the front
rows_more : (k : ℕ) (f : Frame) (xs : List Float) → inside_rows (suc k) f xs ≡ cond (inside f xs) (suc (inside_rows k f (drop f.axes xs))) 0
unfolding inside_rows
rows_more k f xs = refl

rows_none : (f : Frame) (xs : List Float) → inside_rows 0 f xs ≡ 0
unfolding inside_rows
rows_none f xs = refl

-- and at the end
next_row : (f : Frame) (xs : List Float) (n : ℕ) → drop (n * f.axes) (drop f.axes xs) ≡ drop (suc n * f.axes) xs
next_row f xs n = drop-drop (n * f.axes) f.axes xs ∙ ap (λ k. drop k xs) (add_comm f.axes (n * f.axes) ∙ sym (suc-mul n f.axes))

codes-more : (n : ℕ) (f : Frame) (xs : List Float) → codes16 (suc n) f xs ≡ codes16 n f xs ++ code16 f (drop (n * f.axes) xs) ∷ []
unfolding codes16
codes-more zero f xs = ap (λ k. code16 f (drop k xs) ∷ []) (sym (zero-mul f.axes))
codes-more (suc n) f xs = ap (λ l. code16 f xs ∷ l) (codes-more n f (drop f.axes xs) ∙ ap (λ l. codes16 n f (drop f.axes xs) ++ code16 f l ∷ []) (next_row f xs n))

pub codes-length : (n : ℕ) (f : Frame) (xs : List Float) → length (codes16 n f xs) ≡ n
unfolding codes16
codes-length zero f xs = refl
codes-length (suc n) f xs = ap suc (codes-length n f (drop f.axes xs))

-- ---- the loop: `row` rows are inside, and their codes are written
pub record Written (n : ℕ) (f : Frame) (xs : List Float) (old new : List ℕ) (row at : ℕ) : Type 0 where
  pub row≤ : row ≤ n
  pub at_is : at ≡ row * f.axes
  pub seen : inside_rows n f xs ≡ row + inside_rows (n - row) f (drop at xs)
  pub wrote : new ≡ codes16 row f xs ++ drop row old

module _ (n : ℕ) (f : Frame) (xs : List Float) (old : List ℕ) where
  pub written_none : Written n f xs old old 0 0
  unfolding codes16
  written_none = record {
    row≤ = omega arith;
    at_is = sym (zero-mul f.axes);
    seen = ap (λ k. inside_rows k f xs) (sym (sub-zero n)) ∙ sym (zero-add _);
    wrote = refl;
  }

  module _ (new : List ℕ) (row at : ℕ) (w : Written n f xs old new row at) where
    -- the row is there to read
    pub row-there : row < n → n * f.axes ≤ length xs → at + f.axes ≤ length xs
    row-there h room =
        le_trans (le_of_eq (ap (λ k. k + f.axes) w.at_is ∙ sym (suc-mul row f.axes))) (le_trans (mul-le-mul_right f.axes h) room)

    pub written-length : n ≤ length old → length new ≡ length old
    written-length room =
        ap length w.wrote ∙ length-append (codes16 row f xs) (drop row old) ∙ ap₂ (λ i j. i + j) (codes-length row f xs) (length-drop row old)
        ∙ go row (length old) (le_trans w.row≤ room)
      where
        go : (r l : ℕ) → r ≤ l → r + (l - r) ≡ l
        go r l h = omega arith

    left : row < n → n - row ≡ suc (n - (row + 1))
    left h = omega (arith, w.row≤)

    written_row : (code : ℕ) → row < n → n ≤ length old → inside f (drop at xs) ≡ true → code ≡ code16 f (drop at xs)
        → Written n f xs old (set new row code) (row + 1) (at + f.axes)
    written_row code h room i e =
        let k = n - (row + 1) in
        let at' : drop f.axes (drop at xs) ≡ drop (at + f.axes) xs = drop-drop f.axes at xs in
        let more : inside_rows (n - row) f (drop at xs) ≡ suc (inside_rows k f (drop (at + f.axes) xs)) =
        ap (λ j. inside_rows j f (drop at xs)) (left h) ∙ rows_more k f (drop at xs) ∙ ap (λ b. cond b (suc (inside_rows k f (drop f.axes (drop at xs)))) 0) i ∙ ap (λ l. suc (inside_rows k f l)) at' in
        let here : row < length old = omega arith in
        let split : drop row old ≡ get_or old row 0 ∷ drop (suc row) old = drop-cons old row 0 here in
        record {
          row≤ = omega arith;
          at_is = ap (λ j. j + f.axes) w.at_is ∙ sym (suc-mul row f.axes) ∙ ap (λ j. j * f.axes) (sym (add-one row));
          seen = w.seen ∙ ap (λ j. row + j) more ∙ add-suc row _ ∙ sym (suc-add row _) ∙ ap (λ j. j + inside_rows k f (drop (at + f.axes) xs)) (sym (add-one row));
          wrote =
              ap (λ l. set l row code) (w.wrote ∙ ap (λ l. codes16 row f xs ++ l) split)
              ∙ set_at (codes16 row f xs) _ (drop (suc row) old) code row (codes-length row f xs)
              ∙ ap (λ v. codes16 row f xs ++ v ∷ drop (suc row) old) (e ∙ ap (λ j. code16 f (drop j xs)) w.at_is)
              ∙ sym (append_assoc (codes16 row f xs) (code16 f (drop (row * f.axes) xs) ∷ []) (drop (suc row) old))
              ∙ ap (λ l. l ++ drop (suc row) old) (sym (codes-more row f xs))
              ∙ ap (λ j. codes16 j f xs ++ drop j old) (sym (add-one row));
        }

    pub written-more : (code next : ℕ) → row < n → n ≤ length old → inside f (drop at xs) ≡ true → code ≡ code16 f (drop at xs) → next ≡ at + f.axes
        → Written n f xs old (set new row code) (row + 1) next
    written-more code next h room i e to =
        subst (λ j. Written n f xs old (set new row code) (row + 1) j) (sym to) (written_row code h room i e)

    stopped : inside f (drop at xs) ≡ false → row < n → inside_rows n f xs ≡ row
    stopped i h =
        w.seen ∙ ap (λ j. row + inside_rows j f (drop at xs)) (left h)
        ∙ ap (λ j. row + j) (rows_more (n - (row + 1)) f (drop at xs) ∙ ap (λ b. cond b (suc (inside_rows (n - (row + 1)) f (drop f.axes (drop at xs)))) 0) i)
        ∙ add-zero row

    pub written-stop : (wall : Wall) → wall ≡ first_wall row f (drop at xs) → inside f (drop at xs) ≡ false → row < n → (Err wall ≡ first_outside n f xs) × (new ≡ coded n f xs old)
    written-stop wall e i h =
        let s = stopped i h in
        let here : wall ≡ row_wall f xs row = e ∙ ap (λ j. first_wall row f (drop j xs)) w.at_is in
        (rw (s, lt-ltb row n h, here), rw s w.wrote)

    ended : n ≤ row → inside_rows n f xs ≡ row
    ended h =
        let z : n - row ≡ 0 = omega arith in
        w.seen ∙ ap (λ j. row + inside_rows j f (drop at xs)) z ∙ ap (λ j. row + j) (rows_none f (drop at xs)) ∙ add-zero row

    pub written_all : n ≤ row → (all_inside ≡ first_outside n f xs) × (new ≡ coded n f xs old)
    written_all h = let s = ended h in (rw (s, le-ltb row n h), rw s w.wrote)

-- a slice holds its whole rows
pub rows_fit : (d l : ℕ) → l / d * d ≤ l
rows_fit d l = div-mul-le_self l d

-- ---- what a caller reads off an answer
pub rows-le : (n : ℕ) (f : Frame) (xs : List Float) → inside_rows n f xs ≤ n
unfolding inside_rows
rows-le zero f xs = le_of_eq refl
rows-le (suc n) f xs = go (inside f xs) (rows-le n f (drop f.axes xs))
  where
    go : (t : Bool) → inside_rows n f (drop f.axes xs) ≤ n → cond t (suc (inside_rows n f (drop f.axes xs))) 0 ≤ suc n
    go true h = omega arith
    go false h = omega arith

-- all inside: every row is counted, so every code is written
pub all-inside : (n : ℕ) (f : Frame) (xs : List Float) → first_outside n f xs ≡ all_inside → inside_rows n f xs ≡ n
all-inside n f xs h = go (ltb (inside_rows n f xs) n) refl h
  where
    go : (t : Bool) → ltb (inside_rows n f xs) n ≡ t → or_inside t (Err (row_wall f xs (inside_rows n f xs))) ≡ all_inside → inside_rows n f xs ≡ n
    go true e g = let z : ◌≡◌ {A = ℕ} 0 1 = cc in absurd (omega arith)
    go false e g = omega (arith, ltb-false (inside_rows n f xs) n e, rows-le n f xs)

pub one_outside : (n : ℕ) (wall : Wall) (f : Frame) (xs : List Float) → first_outside n f xs ≡ Err wall → (wall ≡ row_wall f xs (inside_rows n f xs)) × (inside_rows n f xs < n)
one_outside n wall f xs h = go (ltb (inside_rows n f xs) n) refl h
  where
    go : (t : Bool) → ltb (inside_rows n f xs) n ≡ t → or_inside t (Err (row_wall f xs (inside_rows n f xs))) ≡ Err wall → (wall ≡ row_wall f xs (inside_rows n f xs)) × (inside_rows n f xs < n)
    go true e g = (cc, ltb-true (inside_rows n f xs) n e)
    go false e g = let z : ◌≡◌ {A = ℕ} 0 1 = cc in absurd (omega arith)

-- row i's code
pub code-at-row : (n i : ℕ) (f : Frame) (xs : List Float) → i < n → get_or (codes16 n f xs) i 0 ≡ code16 f (drop (i * f.axes) xs)
unfolding codes16
code-at-row zero i f xs h = absurd (omega arith)
code-at-row (suc n) zero f xs h = ap (λ k. code16 f (drop k xs)) (sym (zero-mul f.axes))
code-at-row (suc n) (suc i) f xs h = code-at-row n i f (drop f.axes xs) (omega arith) ∙ ap (λ l. code16 f l) (next_row f xs i)

-- the rows before the first that is outside are inside, and that one is not
pub row_inside : (n i : ℕ) (f : Frame) (xs : List Float) → i < inside_rows n f xs → inside f (drop (i * f.axes) xs) ≡ true
unfolding inside_rows
row_inside zero i f xs h = absurd (omega arith)
row_inside (suc n) i f xs h = go (inside f xs) refl i h (λ i. row_inside n i f (drop f.axes xs))
  where
    go : (t : Bool) → inside f xs ≡ t → (i : ℕ) → i < cond t (suc (inside_rows n f (drop f.axes xs))) 0
        → ((i : ℕ) → i < inside_rows n f (drop f.axes xs) → inside f (drop (i * f.axes) (drop f.axes xs)) ≡ true) → inside f (drop (i * f.axes) xs) ≡ true
    go false e i g more = absurd (omega arith)
    go true e zero g more = ap (λ k. inside f (drop k xs)) (zero-mul f.axes) ∙ e
    go true e (suc i) g more = ap (inside f) (sym (next_row f xs i)) ∙ more i (omega arith)

pub row-outside : (n : ℕ) (f : Frame) (xs : List Float) → inside_rows n f xs < n → inside f (drop (inside_rows n f xs * f.axes) xs) ≡ false
unfolding inside_rows
row-outside zero f xs h = absurd (omega arith)
row-outside (suc n) f xs h = go (inside f xs) refl h (row-outside n f (drop f.axes xs))
  where
    go : (t : Bool) → inside f xs ≡ t → cond t (suc (inside_rows n f (drop f.axes xs))) 0 < suc n
        → (inside_rows n f (drop f.axes xs) < n → inside f (drop (inside_rows n f (drop f.axes xs) * f.axes) (drop f.axes xs)) ≡ false)
        → inside f (drop (cond t (suc (inside_rows n f (drop f.axes xs))) 0 * f.axes) xs) ≡ false
    go false e g more = ap (λ k. inside f (drop k xs)) (zero-mul f.axes) ∙ e
    go true e g more = ap (inside f) (sym (next_row f xs (inside_rows n f (drop f.axes xs)))) ∙ more (omega arith)
