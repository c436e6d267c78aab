-- Numbers that were put into bytes are read again.
use mathlib.Core.Path.{◌≡◌, refl, sym, ap, ap₂, ◌∙◌}
use mathlib.Core.List.{List, [], ◌∷◌, ◌++◌, append_assoc}
use Prim.Native.Nat.{ℕ, zero, suc, ◌+◌, ◌*◌, ◌/◌, ◌%◌, ◌^◌, ◌≤◌, ◌<◌}
use native.Mathlib.Omega.{arith}
use native.Mathlib.Numerals.{add-one}
use lib.ListN.{length, get_or, drop}
use lib.Seq.{get_or-drop, drop-drop, drop_at}
use Rattle.slices.specs.Lists.{concat_map}
use Rattle.survey.specs.Bytes.{number_at}
use Rattle.tree_file.specs.Bytes.{bytes_of, in_bytes, entries_at}
use Rattle.file_bytes.proofs.Numbers.{bytes-length}
use Rattle.file_round.specs.Fits.{InBytes}

first_of : (file : List ℕ) (at x : ℕ) (rest : List ℕ) → drop at file ≡ x ∷ rest → get_or file at 0 ≡ x
first_of file at x rest e =
    let z : at ≡ at + 0 = omega arith in
    ap (λ (k : ℕ). get_or file k 0) z ∙ sym (get_or-drop at file 0 0) ∙ ap (λ (l : List ℕ). get_or l 0 0) e

pub past_first : (file : List ℕ) (at x : ℕ) (rest : List ℕ) → drop at file ≡ x ∷ rest → drop (suc at) file ≡ rest
past_first file at x rest e = ap (λ (k : ℕ). drop k file) (sym (add-one at)) ∙ sym (drop-drop 1 at file) ∙ ap (drop 1) e

-- a number that stands at a place, whatever follows
pub number-back : (w : ℕ) (file : List ℕ) (at x : ℕ) (post : List ℕ) → drop at file ≡ bytes_of w x ++ post → x < 256 ^ w → number_at file w at ≡ x
unfolding number_at bytes_of
number-back zero file at x post e h = omega arith
number-back (suc w) file at x post e h =
    ap₂ (λ (a b : ℕ). a + 256 * b) (first_of file at (x % 256) (bytes_of w (x / 256) ++ post) e)
    (number-back w file (suc at) (x / 256) post (past_first file at (x % 256) (bytes_of w (x / 256) ++ post) e) (omega arith))
    ∙ omega arith

pub past : (file : List ℕ) (at n : ℕ) (front post : List ℕ) → length front ≡ n → drop at file ≡ front ++ post → drop (at + n) file ≡ post
past file at n front post l e = sym (drop-drop n at file) ∙ ap (drop n) e ∙ drop_at front post n l

-- a column that stands at a place
pub column-back : (w : ℕ) (xs file : List ℕ) (at : ℕ) (post : List ℕ) → drop at file ≡ in_bytes w xs ++ post → InBytes w xs → entries_at file w at (length xs) ≡ xs
unfolding entries_at concat_map
column-back w [] file at post e h = refl
column-back w (x ∷ xs) file at post e h =
    let f : drop at file ≡ bytes_of w x ++ (in_bytes w xs ++ post) = e ∙ append_assoc (bytes_of w x) (in_bytes w xs) post in
    ap₂ ◌∷◌ (number-back w file at x (in_bytes w xs ++ post) f (h 0 (omega arith)))
    (column-back w xs file (at + w) post (past file at w (bytes_of w x) (in_bytes w xs ++ post) (bytes-length w x) f) (λ i k. h (suc i) (omega arith)))
