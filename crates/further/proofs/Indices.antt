-- The columns of one further source: its number comes last in the leaf that holds it, and every other cell's sources stay.
use mathlib.Core.Path.{◌≡◌, refl, ap, ap₂, ◌∙◌}
use mathlib.Core.Bool.{Bool, true, false, cond}
use mathlib.Core.List.{List, [], ◌∷◌, ◌++◌, append-nil}
use Prim.Native.Nat.{ℕ, ◌+◌}
use native.Mathlib.Nat.{zero-add}
use lib.ListN.{length, get_or, length-append, get_or-append}
use lib.Seq.{get_or-append_seam}
use Rattle.slices.specs.Lists.{filter, range, Mem}
use Rattle.slices.proofs.Counts.{here, there}
use Rattle.slices.proofs.Lists.{filter-append, range-append}
use Rattle.slices.proofs.Members.{mem-range}
use Rattle.growth.specs.Columns.{indices_in}
use Rattle.morton.specs.Keys.{holds}
use Rattle.further.specs.Further.{further}

filter_same : (p q : ℕ → Bool) (xs : List ℕ) → ((x : ℕ) → Mem x xs → p x ≡ q x) → filter p xs ≡ filter q xs
unfolding filter
filter_same p q [] h = refl
filter_same p q (x ∷ xs) h =
    ap₂ (λ (b : Bool) (zs : List ℕ). cond b (x ∷ zs) zs) (h x (here x xs)) (filter_same p q xs (λ y m. h y (there x y xs m)))

module _ (d : ℕ) (s : List ℕ) (code k : ℕ) where
  -- the new source's number, if the cell holds it
  abbrev pub newest : List ℕ
  newest = cond (holds d k code) (length s ∷ []) []

  pub indices-more : indices_in d (further s code) k ≡ indices_in d s k ++ newest
  unfolding indices_in range filter
  indices-more =
      ap (λ (n : ℕ). filter now (range 0 n)) (length-append s (code ∷ []))
      ∙ ap (filter now) (range-append 0 (length s) 1)
      ∙ filter-append now (range 0 (length s)) (range (0 + length s) 1)
      ∙ ap₂ (λ (xs ys : List ℕ). xs ++ ys)
      (filter_same now (λ i. holds d k (get_or s i 0)) (range 0 (length s)) (λ i m. ap (holds d k) (get_or-append s (code ∷ []) 0 i (mem-range (length s) i m))))
      (ap (λ (n : ℕ). filter now (n ∷ [])) (zero-add (length s)) ∙ ap (λ (b : Bool). cond b (length s ∷ []) []) (ap (holds d k) (get_or-append_seam s code [] 0)))
    where
      now : ℕ → Bool
      now i = holds d k (get_or (further s code) i 0)

  pub indices-same : holds d k code ≡ false → indices_in d (further s code) k ≡ indices_in d s k
  indices-same h = indices-more ∙ ap (λ (b : Bool). indices_in d s k ++ cond b (length s ∷ []) []) h ∙ append-nil (indices_in d s k)

  pub indices-last : holds d k code ≡ true → indices_in d (further s code) k ≡ indices_in d s k ++ length s ∷ []
  indices-last h = indices-more ∙ ap (λ (b : Bool). indices_in d s k ++ cond b (length s ∷ []) []) h
