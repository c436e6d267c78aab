-- Laws of what was put at a place.
use mathlib.Core.Path.{◌≡◌, refl, sym, ap, ap₂, ◌∙◌}
use mathlib.Core.List.{List, [], ◌∷◌, ◌++◌, append_assoc, append-nil}
use Prim.Native.Nat.{ℕ, suc, ◌+◌, ◌-◌, ◌≤◌, ◌<◌}
use native.Mathlib.Omega.{arith}
use native.Mathlib.Numerals.{add-one}
use lib.ListN.{length, take, drop, set, length-append, length-drop, take-append-drop}
use lib.Seq.{length-take-le, take-append-le, take_at, drop_at, drop-drop, sets-eq}
use Rattle.file_bytes.specs.Pasted.{pasted}

pub pasted-none : (s : List ℕ) (at : ℕ) → s ≡ pasted s at []
unfolding pasted
pasted-none s at = let e : at + 0 ≡ at = omega arith in sym (ap (λ (k : ℕ). take at s ++ [] ++ drop k s) e ∙ ap (λ (r : List ℕ). r ++ drop at s) (append-nil (take at s)) ∙ take-append-drop at s)

module _ (s : List ℕ) (at : ℕ) (xs : List ℕ) (fits : at + length xs ≤ length s) where
  front : length (take at s ++ xs) ≡ at + length xs
  front = length-append (take at s) xs ∙ ap (λ (k : ℕ). k + length xs) (length-take-le at s (omega arith))

  pub pasted_length : length (pasted s at xs) ≡ length s
  unfolding pasted
  pasted_length = length-append (take at s ++ xs) (drop (at + length xs) s) ∙ omega (arith, front, length-drop (at + length xs) s)

  -- what is put right behind belongs to it
  pub pasted-join : (ys : List ℕ) (to : ℕ) → to ≡ at + length xs → pasted (pasted s at xs) to ys ≡ pasted s at (xs ++ ys)
  unfolding pasted
  pasted-join ys to e =
      ap (λ (k : ℕ). take k (take at s ++ xs ++ drop (at + length xs) s) ++ ys ++ drop (k + length ys) (take at s ++ xs ++ drop (at + length xs) s)) e
      ∙ ap₂ (λ (a z : List ℕ). a ++ ys ++ z) (take_at (take at s ++ xs) (drop (at + length xs) s) (at + length xs) front) (behind ys)
      ∙ ap (λ (a : List ℕ). a ++ drop (at + length (xs ++ ys)) s) (append_assoc (take at s) xs ys)
    where
      behind : (ys : List ℕ) → drop (at + length xs + length ys) (take at s ++ xs ++ drop (at + length xs) s) ≡ drop (at + length (xs ++ ys)) s
      behind ys =
          let e : at + length xs + length ys ≡ at + length (xs ++ ys) = omega (arith, length-append xs ys) in
          sym (drop-drop (length ys) (at + length xs) (take at s ++ xs ++ drop (at + length xs) s))
          ∙ ap (drop (length ys)) (drop_at (take at s ++ xs) (drop (at + length xs) s) (at + length xs) front)
          ∙ drop-drop (length ys) (at + length xs) s
          ∙ ap (λ (k : ℕ). drop k s) e

-- four stores in a row
pub four-stores : (s : List ℕ) (at a b c d : ℕ) → at + 4 ≤ length s → set (set (set (set s at a) (at + 1) b) (at + 2) c) (at + 3) d ≡ pasted s at (a ∷ b ∷ c ∷ d ∷ [])
unfolding pasted
four-stores s at a b c d h =
    let e₂ : at + 2 ≡ suc (suc at) = omega arith in
    let e₃ : at + 3 ≡ suc (suc (suc at)) = omega arith in
    ap (λ (k : ℕ). set (set (set (set s at a) k b) (at + 2) c) (at + 3) d) (add-one at)
    ∙ ap₂ (λ (k l : ℕ). set (set (set (set s at a) (suc at) b) k c) l d) e₂ e₃
    ∙ sets-eq (a ∷ b ∷ c ∷ d ∷ []) s at h

-- from the front on: the whole, and the rest as it was
pub pasted-front : (s xs : List ℕ) → pasted s 0 xs ≡ xs ++ drop (length xs) s
unfolding pasted
pasted-front s xs = let e : 0 + length xs ≡ length xs = omega arith in ap (λ (k : ℕ). xs ++ drop k s) e
