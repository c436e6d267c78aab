-- Rows written one after the other, with their starts.
use mathlib.Core.Path.{◌≡◌, refl, sym, ap, ◌∙◌}
use mathlib.Core.List.{List, [], ◌∷◌, ◌++◌, append-nil}
use Prim.Native.Nat.{ℕ, ◌+◌, ◌≤◌, ◌<◌}
use native.Mathlib.Omega.{arith}
use native.Mathlib.Numerals.{add-one}
use lib.ListN.{length, get_or, take, drop, length-append, length-drop}
use lib.Seq.{take-suc}
use Rattle.slices.specs.Lists.{concat_map}
use Rattle.slices.proofs.Lists.{concat_map-append}
use Rattle.rows.specs.Written.{starts_from, row_keys, keys_room}

pub starts-snoc : (a : ℕ) (row : ℕ → List ℕ) (ks : List ℕ) (k : ℕ) → starts_from a row (ks ++ k ∷ []) ≡ starts_from a row ks ++ (a + length (concat_map row (ks ++ k ∷ []))) ∷ []
unfolding starts_from concat_map
starts-snoc a row [] k = ap (λ (n : ℕ). a ∷ n ∷ []) (ap (λ (l : List ℕ). a + length l) (sym (append-nil (row k))))
starts-snoc a row (x ∷ ks) k =
    ap (λ (l : List ℕ). a ∷ l) (starts-snoc (a + length (row x)) row ks k
    ∙ ap (λ (n : ℕ). starts_from (a + length (row x)) row ks ++ n ∷ []) (omega (arith, length-append (row x) (concat_map row (ks ++ k ∷ [])))))

module _ (row : ℕ → List ℕ) (keys : List ℕ) where
  pub more-keys : (i : ℕ) → i < length keys → row_keys row (take (i + 1) keys) ≡ row_keys row (take i keys) ++ row (get_or keys i 0)
  more-keys i l =
      ap (concat_map row) (ap (λ (n : ℕ). take n keys) (add-one i) ∙ take-suc keys i 0 l)
      ∙ concat_map-append row (take i keys) (get_or keys i 0 ∷ [])
      ∙ ap (λ (x : List ℕ). row_keys row (take i keys) ++ x) (one (get_or keys i 0))
    where
      one : (k : ℕ) → concat_map row (k ∷ []) ≡ row k
      one k = unfold concat_map in append-nil (row k)

pub starts-length : (a : ℕ) (row : ℕ → List ℕ) (ks : List ℕ) → length (starts_from a row ks) ≡ length ks + 1
unfolding starts_from
starts-length a row [] = refl
starts-length a row (k ∷ ks) = omega (arith, starts-length (a + length (row k)) row ks)

pub cap-le : (r len : ℕ) → r ≡ keys_room len → r ≤ len
cap-le r len e = omega arith

pub rest-length : (r : ℕ) (out : List ℕ) → r ≤ length out → r + length (drop r out) ≡ length out
rest-length r out h = ap (λ (k : ℕ). r + k) (length-drop r out) ∙ omega arith
