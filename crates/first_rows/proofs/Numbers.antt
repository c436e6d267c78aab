-- The first row with a key, by its number.
use mathlib.Core.Path.{◌≡◌, refl, sym, ap, ◌∙◌, subst}
use mathlib.Core.Bool.{Bool, true, false, cond}
use mathlib.Core.List.{List, [], ◌∷◌}
use Prim.Native.Nat.{ℕ, zero, suc, ◌+◌, ◌≤◌, ◌<◌}
use native.Mathlib.Omega.{arith}
use native.Mathlib.Nat.{not-suc-le-zero}
use native.Mathlib.Decide.{dec_lt}
use lib.Dec.{eqb}
use lib.ListN.{length, get_or}
use borrow.Author.Tests.{eqb-true, eqb-false, eq-eqb, ne_eqb}
use Rattle.slices.specs.Lists.{range}
use Rattle.slices.proofs.Lists.{length-range, get_or-range}
use Rattle.tree.specs.Nodes.{node_number, own_of}
use Rattle.salvaged.proofs.Listed.{first_entry}

-- a row with the key is not before it
pub number-most : (rows : List ℕ) (k j : ℕ) → j < length rows → get_or rows j 0 ≡ k → node_number rows k ≤ j
unfolding node_number
number-most [] k j l e = absurd (not-suc-le-zero l)
number-most (x ∷ xs) k j l e = go (eqb x k) refl j l e (number-most xs k)
  where
    go : (b : Bool) → eqb x k ≡ b → (j : ℕ) → j < suc (length xs) → get_or (x ∷ xs) j 0 ≡ k → ((j : ℕ) → j < length xs → get_or xs j 0 ≡ k → node_number xs k ≤ j) → cond b 0 (suc (node_number xs k)) ≤ j
    go true q j l e rest = omega arith
    go false q zero l e rest = absurd (eqb-false x k q e)
    go false q (suc j) l e rest = omega (arith, rest j (omega arith) e)

-- it has the key
pub number_at : (rows : List ℕ) (k : ℕ) → node_number rows k < length rows → get_or rows (node_number rows k) 0 ≡ k
unfolding node_number
number_at [] k l = absurd (not-suc-le-zero l)
number_at (x ∷ xs) k l = go (eqb x k) refl l (number_at xs k)
  where
    go : (b : Bool) → eqb x k ≡ b → cond b 0 (suc (node_number xs k)) < suc (length xs) → (node_number xs k < length xs → get_or xs (node_number xs k) 0 ≡ k) → get_or (x ∷ xs) (cond b 0 (suc (node_number xs k))) 0 ≡ k
    go true q l rest = eqb-true x k q
    go false q l rest = rest (omega arith)

-- where no row has the key, no column has anything for it
pub none_owned : (rows column : List ℕ) (k : ℕ) → length rows ≤ node_number rows k → own_of rows column k ≡ 0
unfolding node_number own_of
none_owned [] column k l = refl
none_owned (x ∷ xs) [] k l = refl
none_owned (x ∷ xs) (n ∷ column) k l = go (eqb x k) l (none_owned xs column k)
  where
    go : (b : Bool) → suc (length xs) ≤ cond b 0 (suc (node_number xs k)) → (length xs ≤ node_number xs k → own_of xs column k ≡ 0) → cond b n (own_of xs column k) ≡ 0
    go true l rest = absurd (omega arith)
    go false l rest = rest (omega arith)

-- among the rows' numbers, counted from 1, the first row with the key has its own
pub numbered : (rows : List ℕ) (k j : ℕ) → j < length rows → get_or rows j 0 ≡ k → own_of rows (range 1 (length rows)) k ≡ suc (node_number rows k)
numbered rows k j l e =
    let h : node_number rows k < length rows = omega (arith, number-most rows k j l e) in
    first_entry rows (range 1 (length rows)) k (node_number rows k) (length-range 1 (length rows)) h refl ∙ omega (arith, get_or-range 1 (length rows) (node_number rows k) h)

-- ---- a search among the rows before

module _ (rows : List ℕ) (row : ℕ) (l : row < length rows) where
  pub first-not : (j : ℕ) → j < row → get_or rows j 0 ≡ get_or rows row 0 → false ≡ eqb (node_number rows (get_or rows row 0)) row
  first-not j h e = sym (ne_eqb (node_number rows (get_or rows row 0)) row (λ z. omega (arith, number-most rows (get_or rows row 0) j (omega arith) e)))

  pub first-is : (n : ℕ) → row ≤ n → ((j : ℕ) → j < n → get_or rows j 0 ≡ get_or rows row 0 → ⊥) → true ≡ eqb (node_number rows (get_or rows row 0)) row
  first-is n h none = sym (eq-eqb (node_number rows (get_or rows row 0)) row (go (dec_lt (node_number rows (get_or rows row 0)) row)))
    where
      most : node_number rows (get_or rows row 0) ≤ row
      most = number-most rows (get_or rows row 0) row l refl

      go : Dec (node_number rows (get_or rows row 0) < row) → node_number rows (get_or rows row 0) ≡ row
      go (no m) = omega (arith, most)
      go (yes s) = absurd (none (node_number rows (get_or rows row 0)) (omega arith) (number_at rows (get_or rows row 0) (omega arith)))

pub earlier_more : (rows : List ℕ) (row j : ℕ) → ((p : ℕ) → p < j → get_or rows p 0 ≡ get_or rows row 0 → ⊥) → (get_or rows j 0 ≡ get_or rows row 0 → ⊥) → (p : ℕ) → p < j + 1 → get_or rows p 0 ≡ get_or rows row 0 → ⊥
earlier_more rows row j before here p l e = go (dec_lt p j)
  where
    go : Dec (p < j) → ⊥
    go (yes h) = before p h e
    go (no h) = let z : p ≡ j = omega arith in here (ap (λ x. get_or rows x 0) (sym z) ∙ e)
