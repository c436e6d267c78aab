-- Theorems F3 and F4 of document 02, order 6: demand 3 of each tree read; and skipped sections, gaps and the order of entries do not matter.
use mathlib.Core.Path.{◌≡◌, refl, sym, ap, ap₂, ◌∙◌, subst}
use mathlib.Core.Bool.{true, ◌&&◌}
use mathlib.Core.List.{List, [], ◌∷◌, ◌++◌, append-nil}
use Prim.Native.Nat.{ℕ, zero, suc, ◌+◌, ◌*◌, ◌≤◌, ◌<◌}
use native.Mathlib.Omega.{arith}
use native.Mathlib.Nat.{mul-suc}
use lib.ListN.{length, get_or}
use Rattle.slices.specs.Lists.{sum}
use Rattle.slices.proofs.Tests.{and_r}
use Rattle.refusal.specs.declared.Refusal.TheVariants.{Tree, Section}
use Rattle.refusal.specs.Chain.{ask, ◌then◌}
use Rattle.refusal.proofs.Chain.{asked, both-done}
use Rattle.survey.specs.Bytes.{number_at}
use Rattle.tree.proofs.Verdict.{formed-of}
use Rattle.rows.specs.Lists.{u_row, v_row}
use Rattle.rows.specs.Written.{row_starts, row_keys, Written}
use Rattle.rows.proofs.Demand3 as demand
use Rattle.sums.specs.Arrangement.{arranges}
use Rattle.sums.specs.Right.{lists_are, Flat}
use Rattle.sums.proofs.Flat.{lists-are}
use Rattle.tree_file.specs.Bytes.{entries_at}
use Rattle.tree_file.specs.Contents.{contents}
use Rattle.tree_file.specs.Trailer.{width_of, axes_in, start_of, numbers_of, column_in, tree_in}
use Rattle.tree_file.specs.Checks.{columns_right, rest_right, sections_check, readable}
use Rattle.file_columns.proofs.Sectioned.{sections-passed, column-is}
use Rattle.file_promises.specs.Promises.{Demand3, SameSection}
use Rattle.refusal.specs.Outcome.{accepted}

-- ---- demand 3

module _ (file : List ℕ) (ok : readable file ≡ accepted) where
  parts : (sections_check file ≡ accepted) × (columns_right (tree_in file) ≡ true) × (rest_right (tree_in file) ≡ true)
  parts =
      let (a, b) = both-done (sections_check file then ask (columns_right (tree_in file)) Tree) (ask (rest_right (tree_in file)) Section) ok in
      let (c, d) = both-done (sections_check file) (ask (columns_right (tree_in file)) Tree) a in
      (c, asked (columns_right (tree_in file)) Tree d, asked (rest_right (tree_in file)) Section b)

  flat : Flat (axes_in file) (column_in file 1) (column_in file 2) (column_in file 6) (column_in file 7) (column_in file 8) (column_in file 9)
  flat = (lists-are (axes_in file) (column_in file 1) (column_in file 2) (column_in file 3) (formed-of (axes_in file) (column_in file 1) (column_in file 2) (column_in file 3) (column_in file 4) parts.1)
      (column_in file 6) (column_in file 7) (column_in file 8) (column_in file 9)).0 (and_r (arranges (column_in file 5) (sum (column_in file 2))) _ parts.2)

  whole : (row : ℕ → List ℕ) (starts keys : List ℕ) → starts ≡ row_starts row (column_in file 1) → keys ≡ row_keys row (column_in file 1) → Written (column_in file 1) row starts keys
  whole row starts keys e f = record { more = []; rest = []; starts_are = e ∙ sym (append-nil (row_starts row (column_in file 1))); keys_are = f ∙ sym (append-nil (row_keys row (column_in file 1))) }

  pub demand-3-of : Demand3 (tree_in file)
  demand-3-of =
      let formed = formed-of (axes_in file) (column_in file 1) (column_in file 2) (column_in file 3) (column_in file 4) parts.1 in
      let known = (sections-passed file parts.0).1 in
      let w = demand.written (axes_in file) (column_in file 1) (column_in file 2) (column_in file 3) formed known (column_in file 6) (column_in file 7) (column_in file 8) (column_in file 9)
      (whole (u_row (axes_in file) (column_in file 1) (column_in file 2)) (column_in file 6) (column_in file 7) flat.u_starts flat.u_keys)
      (whole (v_row (axes_in file) (column_in file 1) (column_in file 2)) (column_in file 8) (column_in file 9) flat.v_starts flat.v_keys) in
      record {
        runs = (demand.demand-3 (axes_in file) (column_in file 1) (column_in file 2) (column_in file 3) formed known).0;
        once = w.0;
        near = w.1;
        far = w.2;
        few = w.3;
      }

-- ---- what does not matter

number_same : (w : ℕ) (f g : List ℕ) (a b : ℕ) → ((i : ℕ) → i < w → get_or f (a + i) 0 ≡ get_or g (b + i) 0) → number_at f w a ≡ number_at g w b
unfolding number_at
number_same zero f g a b h = refl
number_same (suc w) f g a b h = ap₂ (λ (x y : ℕ). x + 256 * y)
    (ap (λ (k : ℕ). get_or f k 0) (none a) ∙ h 0 (omega arith) ∙ ap (λ (k : ℕ). get_or g k 0) (sym (none b)))
    (number_same w f g (suc a) (suc b) (λ i l. ap (λ (k : ℕ). get_or f k 0) (next a i) ∙ h (suc i) (omega arith) ∙ ap (λ (k : ℕ). get_or g k 0) (sym (next b i))))
  where
    none : (x : ℕ) → x ≡ x + 0
    none x = omega arith

    next : (x i : ℕ) → suc x + i ≡ x + suc i
    next x i = omega arith

entries-same : (n w : ℕ) (f g : List ℕ) (a b : ℕ) → ((i : ℕ) → i < w * n → get_or f (a + i) 0 ≡ get_or g (b + i) 0) → entries_at f w a n ≡ entries_at g w b n
unfolding entries_at
entries-same zero w f g a b h = refl
entries-same (suc n) w f g a b h = ap₂ ◌∷◌
    (number_same w f g a b (λ i l. h i (front i l)))
    (entries-same n w f g (a + w) (b + w) (λ i l. ap (λ (k : ℕ). get_or f k 0) (past a i) ∙ h (w + i) (later i l) ∙ ap (λ (k : ℕ). get_or g k 0) (sym (past b i))))
  where
    front : (i : ℕ) → i < w → i < w * suc n
    front i l = omega (arith, mul-suc w n)

    later : (i : ℕ) → i < w * n → w + i < w * suc n
    later i l = omega (arith, mul-suc w n)

    past : (x i : ℕ) → x + w + i ≡ x + (w + i)
    past x i = omega arith

pub column-same : (f g : List ℕ) (code : ℕ) → SameSection f g code → column_in f code ≡ column_in g code
column-same f g code s =
    column-is f code ∙ entries-same (numbers_of f code) (width_of code) f g (start_of f code) (start_of g code) s.bytes
    ∙ ap (entries_at g (width_of code) (start_of g code)) s.numbers ∙ sym (column-is g code)

module _ (f g : List ℕ) where
  -- files with the same axes and the same nine sections hold the same tree, wherever the sections stand and whatever else the files have
  pub same-sections : axes_in f ≡ axes_in g → ((code : ℕ) → 1 ≤ code → code ≤ 9 → SameSection f g code) → tree_in f ≡ tree_in g
  same-sections ea same =
      ap (λ x. contents x (column_in f 1) (column_in f 2) (column_in f 3) (column_in f 4) (column_in f 5) (column_in f 6) (column_in f 7) (column_in f 8) (column_in f 9)) ea
      ∙ ap (λ x. contents (axes_in g) x (column_in f 2) (column_in f 3) (column_in f 4) (column_in f 5) (column_in f 6) (column_in f 7) (column_in f 8) (column_in f 9)) (column-same f g 1 (same 1 (omega arith) (omega arith)))
      ∙ ap (λ x. contents (axes_in g) (column_in g 1) x (column_in f 3) (column_in f 4) (column_in f 5) (column_in f 6) (column_in f 7) (column_in f 8) (column_in f 9)) (column-same f g 2 (same 2 (omega arith) (omega arith)))
      ∙ ap (λ x. contents (axes_in g) (column_in g 1) (column_in g 2) x (column_in f 4) (column_in f 5) (column_in f 6) (column_in f 7) (column_in f 8) (column_in f 9)) (column-same f g 3 (same 3 (omega arith) (omega arith)))
      ∙ ap (λ x. contents (axes_in g) (column_in g 1) (column_in g 2) (column_in g 3) x (column_in f 5) (column_in f 6) (column_in f 7) (column_in f 8) (column_in f 9)) (column-same f g 4 (same 4 (omega arith) (omega arith)))
      ∙ ap (λ x. contents (axes_in g) (column_in g 1) (column_in g 2) (column_in g 3) (column_in g 4) x (column_in f 6) (column_in f 7) (column_in f 8) (column_in f 9)) (column-same f g 5 (same 5 (omega arith) (omega arith)))
      ∙ ap (λ x. contents (axes_in g) (column_in g 1) (column_in g 2) (column_in g 3) (column_in g 4) (column_in g 5) x (column_in f 7) (column_in f 8) (column_in f 9)) (column-same f g 6 (same 6 (omega arith) (omega arith)))
      ∙ ap (λ x. contents (axes_in g) (column_in g 1) (column_in g 2) (column_in g 3) (column_in g 4) (column_in g 5) (column_in g 6) x (column_in f 8) (column_in f 9)) (column-same f g 7 (same 7 (omega arith) (omega arith)))
      ∙ ap (λ x. contents (axes_in g) (column_in g 1) (column_in g 2) (column_in g 3) (column_in g 4) (column_in g 5) (column_in g 6) (column_in g 7) x (column_in f 9)) (column-same f g 8 (same 8 (omega arith) (omega arith)))
      ∙ ap (λ x. contents (axes_in g) (column_in g 1) (column_in g 2) (column_in g 3) (column_in g 4) (column_in g 5) (column_in g 6) (column_in g 7) (column_in g 8) x) (column-same f g 9 (same 9 (omega arith) (omega arith)))
