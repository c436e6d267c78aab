-- The loops that copy, and the columns that they leave.
use mathlib.Core.Path.{◌≡◌, refl, sym, ap, ◌∙◌, subst}
use mathlib.Core.Bool.{Bool, true, false}
use mathlib.Core.List.{List, [], ◌∷◌, ◌++◌, map}
use mathlib.Core.Logic.{◌⊎◌, inl, inr}
use Prim.Native.Nat.{ℕ, suc, ◌+◌, ◌*◌, ◌-◌, ◌≤◌, ◌<◌}
use native.Mathlib.Omega.{arith}
use native.Mathlib.Nat.{zero-add}
use lib.ListN.{length, get_or, set, take, drop, length-set, length-append, length-drop, length-map, get_or-append}
use lib.Seq.{get_or-set_same, get_or-set_other, get_or-take, get_or-drop, get_or-append-add, get_or-append_seam, length-take-le, ext_get_or}
use borrow.Author.Tests.{eq-eqb, ne_eqb}
use Rattle.slices.specs.Lists.{bit, range}
use Rattle.slices.proofs.Lists.{length-range, get_or-range, get_d_map}
use Rattle.slices.proofs.Tests.{lt-or-le}
use Rattle.morton.specs.Keys.{holds}
use Rattle.grow.specs.Rows.{mark_of}
use Rattle.spliced_columns.specs.Marks.{row_mark}
use Rattle.splicing.specs.Copies.{Copied}

module _ (at : ℕ) (f : ℕ → ℕ) (out₀ : List ℕ) where
  pub copied_none : Copied 0 at f out₀ out₀
  copied_none = record { kept = refl; new = λ j l. absurd (omega (arith, l)); old = λ j _. refl }

  pub copied_more : (i : ℕ) (out : List ℕ) → Copied i at f out₀ out → at + i < length out₀ → (v : ℕ) → v ≡ f i → Copied (i + 1) at f out₀ (set out (at + i) v)
  copied_more i out c l v e = record {
    kept = length-set out (at + i) v ∙ c.kept;
    new = λ j h. new j (lt-or-le j i) h;
    old = λ j h. get_or-set_other out (at + i) j v 0 (λ q. outer j h q) ∙ c.old j (out_of j h);
  }
    where
      new : (j : ℕ) → (j < i) ⊎ (i ≤ j) → j < i + 1 → get_or (set out (at + i) v) (at + j) 0 ≡ f j
      new j (inl q) h = get_or-set_other out (at + i) (at + j) v 0 (λ p. omega (arith, p, q)) ∙ c.new j q
      new j (inr q) h =
          let same : i ≡ j = omega (arith, q, h) in
          ap (λ (x : ℕ). get_or (set out (at + i) v) (at + x) 0) (sym same) ∙ get_or-set_same out (at + i) v 0 (omega (arith, l, c.kept)) ∙ e ∙ ap f same

      outer : (j : ℕ) → (j < at) ⊎ (at + (i + 1) ≤ j) → j ≡ at + i → ⊥
      outer j (inl h) q = omega (arith, h, q)
      outer j (inr h) q = omega (arith, h, q)

      out_of : (j : ℕ) → (j < at) ⊎ (at + (i + 1) ≤ j) → (j < at) ⊎ (at + i ≤ j)
      out_of j (inl h) = inl h
      out_of j (inr h) = inr (omega (arith, h))

  pub copied_all : (n i : ℕ) (out : List ℕ) → Copied i at f out₀ out → i ≤ n → n ≤ i → Copied n at f out₀ out
  copied_all n i out c a b = let e : i ≡ n = omega arith in subst (λ (m : ℕ). Copied m at f out₀ out) e c

-- two copies around one entry
module _ (xs zs : List ℕ) (x : ℕ) (f h : ℕ → ℕ) (out₀ out₁ out₂ : List ℕ)
    (front : Copied (length xs) 0 f out₀ out₁) (rear : Copied (length zs) (length xs + 1) h (set out₁ (length xs) x) out₂)
    (fits : length xs + 1 + length zs ≤ length out₀)
    (fx : (j : ℕ) → j < length xs → f j ≡ get_or xs j 0) (hz : (j : ℕ) → j < length zs → h j ≡ get_or zs j 0) where
  abbrev n : ℕ
  n = length xs

  long : length ((xs ++ x ∷ []) ++ zs) ≡ length xs + 1 + length zs
  long = length-append (xs ++ x ∷ []) zs ∙ ap (λ (m : ℕ). m + length zs) (length-append xs (x ∷ []))

  len : length out₂ ≡ length out₀
  len = rear.kept ∙ length-set out₁ (length xs) x ∙ front.kept

  first : (j : ℕ) → j < length xs → get_or out₂ j 0 ≡ get_or xs j 0
  first j l =
      rear.old j (inl (omega (arith, l))) ∙ get_or-set_other out₁ (length xs) j x 0 (λ q. omega (arith, q, l)) ∙ ap (λ (i : ℕ). get_or out₁ i 0) (sym (zero-add j)) ∙ front.new j l ∙ fx j l

  middle : get_or out₂ (length xs) 0 ≡ x
  middle = rear.old (length xs) (inl (omega arith)) ∙ get_or-set_same out₁ (length xs) x 0 (omega (arith, fits, front.kept))

  at : (j : ℕ) → j < length xs + 1 + length zs → get_or out₂ j 0 ≡ get_or ((xs ++ x ∷ []) ++ zs) j 0
  at j l = go (lt-or-le j (length xs)) (lt-or-le j (length xs + 1))
    where
      short : length (xs ++ x ∷ []) ≡ length xs + 1
      short = length-append xs (x ∷ [])

      go : (j < length xs) ⊎ (length xs ≤ j) → (j < length xs + 1) ⊎ (length xs + 1 ≤ j) → get_or out₂ j 0 ≡ get_or ((xs ++ x ∷ []) ++ zs) j 0
      go (inl a) _ = first j a ∙ sym (get_or-append (xs ++ x ∷ []) zs 0 j (omega (arith, a, short)) ∙ get_or-append xs (x ∷ []) 0 j a)
      go (inr a) (inl b) =
          let e : length xs ≡ j = omega arith in
          subst (λ (i : ℕ). get_or out₂ i 0 ≡ get_or ((xs ++ x ∷ []) ++ zs) i 0) e
          (middle ∙ sym (get_or-append (xs ++ x ∷ []) zs 0 (length xs) (omega (arith, short)) ∙ get_or-append_seam xs x [] 0))
      go (inr a) (inr b) =
          let e : length xs + 1 + (j - (length xs + 1)) ≡ j = omega arith in
          let i : j - (length xs + 1) < length zs = omega (arith, l, b) in
          subst (λ (m : ℕ). get_or out₂ m 0 ≡ get_or ((xs ++ x ∷ []) ++ zs) m 0) e
          (rear.new (j - (length xs + 1)) i ∙ hz (j - (length xs + 1)) i
          ∙ sym (ap (λ (m : ℕ). get_or ((xs ++ x ∷ []) ++ zs) (m + (j - (length xs + 1))) 0) (sym short) ∙ get_or-append-add (xs ++ x ∷ []) zs (j - (length xs + 1)) 0))

  pub around : take (length xs + 1 + length zs) out₂ ≡ (xs ++ x ∷ []) ++ zs
  around = ext_get_or 0 (take (length xs + 1 + length zs) out₂) ((xs ++ x ∷ []) ++ zs) (length-take-le (length xs + 1 + length zs) out₂ (omega (arith, fits, len)) ∙ sym long)
      (λ j l.
      let h : j < length xs + 1 + length zs = omega (arith, l, length-take-le (length xs + 1 + length zs) out₂ (omega (arith, fits, len))) in
      get_or-take (length xs + 1 + length zs) out₂ j 0 h ∙ at j h)

-- what a mark is made of
pub with-bit : (total : ℕ) (b : Bool) (h : Bool) → h ≡ b → total + bit h ≡ total + bit b
with-bit total b h e = ap (λ (x : Bool). total + bit x) e

pub row-inner : (d code k own total sum : ℕ) → sum ≡ total + bit (holds d k code) → own ≡ 0 → 2 * sum ≡ row_mark d code k own total
row-inner d code k own total sum e z =
    ap (λ (x : ℕ). 2 * x) e ∙ sym (ap (λ (b : Bool). mark_of (total + bit (holds d k code)) b) (eq-eqb own 0 z))

pub row-leaf : (d code k own total sum : ℕ) → sum ≡ total + bit (holds d k code) → (own ≡ 0 → ⊥) → 2 * sum + 1 ≡ row_mark d code k own total
row-leaf d code k own total sum e z =
    ap (λ (x : ℕ). 2 * x + 1) e ∙ sym (ap (λ (b : Bool). mark_of (total + bit (holds d k code)) b) (ne_eqb own 0 z))

-- the same with the lengths by other names
around-at : (xs zs : List ℕ) (x n m : ℕ) (f h : ℕ → ℕ) (out₀ out₁ out₂ : List ℕ) → length xs ≡ n → length zs ≡ m
    → Copied n 0 f out₀ out₁ → Copied m (n + 1) h (set out₁ n x) out₂ → n + 1 + m ≤ length out₀
    → ((j : ℕ) → j < n → f j ≡ get_or xs j 0) → ((j : ℕ) → j < m → h j ≡ get_or zs j 0) → take (n + 1 + m) out₂ ≡ (xs ++ x ∷ []) ++ zs
around-at xs zs x n m f h out₀ out₁ out₂ ex ez front rear fits fx hz =
    subst (λ (i : ℕ). take (i + 1 + m) out₂ ≡ (xs ++ x ∷ []) ++ zs) ex
    (subst (λ (j : ℕ). take (length xs + 1 + j) out₂ ≡ (xs ++ x ∷ []) ++ zs) ez
    (around xs zs x f h out₀ out₁ out₂
    (subst (λ (i : ℕ). Copied i 0 f out₀ out₁) (sym ex) front)
    (subst (λ (j : ℕ). Copied j (length xs + 1) h (set out₁ (length xs) x) out₂) (sym ez) (subst (λ (i : ℕ). Copied m (i + 1) h (set out₁ i x) out₂) (sym ex) rear))
    (omega (arith, ex, ez, fits)) (λ j l. fx j (omega (arith, l, ex))) (λ j l. hz j (omega (arith, l, ez)))))

-- a column around one entry
pub column-around : (col : List ℕ) (from to x : ℕ) (out₀ out₁ out₂ : List ℕ) → from ≤ to → to ≤ length col
    → Copied from 0 (λ j. get_or col (0 + j) 0) out₀ out₁ → Copied (length col - to) (from + 1) (λ j. get_or col (to + j) 0) (set out₁ from x) out₂
    → from + 1 + (length col - to) ≤ length out₀ → take (from + 1 + (length col - to)) out₂ ≡ (take from col ++ x ∷ []) ++ drop to col
column-around col from to x out₀ out₁ out₂ a b front rear fits =
    around-at (take from col) (drop to col) x from (length col - to) (λ j. get_or col (0 + j) 0) (λ j. get_or col (to + j) 0) out₀ out₁ out₂
    (length-take-le from col (omega (arith, a, b))) (length-drop to col) front rear fits
    (λ j l. ap (λ (i : ℕ). get_or col i 0) (zero-add j) ∙ sym (get_or-take from col j 0 l)) (λ j l. sym (get_or-drop to col j 0))

-- values around one entry
pub values-around : (f : ℕ → ℕ) (n from to x : ℕ) (out₀ out₁ out₂ : List ℕ)
    → Copied from 0 (λ j. f (0 + j)) out₀ out₁ → Copied (n - to) (from + 1) (λ j. f (to + j)) (set out₁ from x) out₂
    → from + 1 + (n - to) ≤ length out₀ → take (from + 1 + (n - to)) out₂ ≡ (map f (range 0 from) ++ x ∷ []) ++ map f (range to (n - to))
values-around f n from to x out₀ out₁ out₂ front rear fits =
    around-at (map f (range 0 from)) (map f (range to (n - to))) x from (n - to) (λ j. f (0 + j)) (λ j. f (to + j)) out₀ out₁ out₂
    (length-map (range 0 from) f ∙ length-range 0 from) (length-map (range to (n - to)) f ∙ length-range to (n - to)) front rear fits
    (λ j l. sym (each 0 from j l)) (λ j l. sym (each to (n - to) j l))
  where
    each : (a m j : ℕ) → j < m → get_or (map f (range a m)) j 0 ≡ f (a + j)
    each a m j l = get_d_map f (range a m) j (omega (arith, l, length-range a m)) ∙ ap f (get_or-range a m j l)

pub bit-most : (b : Bool) → bit b ≤ 1
bit-most true = omega arith
bit-most false = omega arith
