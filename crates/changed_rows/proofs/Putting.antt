-- What passes a test put one after the other, by its number.
use mathlib.Core.Path.{◌≡◌, refl, sym, ap, ◌∙◌, subst}
use mathlib.Core.Bool.{Bool, true, false, cond}
use mathlib.Core.List.{List, [], ◌∷◌, ◌++◌, map, map-append, append_assoc, append-nil}
use Prim.Native.Nat.{ℕ, suc, ◌+◌}
use native.Mathlib.Nat.{zero-add}
use Rattle.slices.specs.Lists.{filter, range}
use Rattle.slices.proofs.Lists.{filter-append, range-append}
use Rattle.sourced.specs.Room.{Holds, Puts}

module _ (f : ℕ → ℕ) (p : ℕ → Bool) where
  -- of the first n
  abbrev pub picked : ℕ → List ℕ
  picked n = map f (filter p (range 0 n))

  last : (n : ℕ) (b : Bool) → p n ≡ b → map f (filter p (range n 1)) ≡ cond b (f n ∷ []) []
  unfolding filter range
  last n true e = ap (λ (b : Bool). map f (cond b (n ∷ []) [])) e
  last n false e = ap (λ (b : Bool). map f (cond b (n ∷ []) [])) e

  pub one_more : (n : ℕ) (b : Bool) → p n ≡ b → picked (n + 1) ≡ picked n ++ cond b (f n ∷ []) []
  one_more n b e =
      ap (λ (l : List ℕ). map f (filter p l)) (range-append 0 n 1 ∙ ap (λ (m : ℕ). range 0 n ++ range m 1) (zero-add n))
      ∙ ap (map f) (filter-append p (range 0 n) (range n 1))
      ∙ map-append f (filter p (range 0 n)) (filter p (range n 1))
      ∙ ap (λ (l : List ℕ). picked n ++ l) (last n b e)

  module _ (out : List ℕ) (from : ℕ) where
    pub puts_none : Puts out from (picked 0) out from
    unfolding filter range
    puts_none done h = subst (Holds out from) (sym (append-nil done)) h

    module _ (n : ℕ) (out₁ : List ℕ) (m₁ : ℕ) (s : Puts out from (picked n) out₁ m₁) where
      pub puts-more : p n ≡ true → (out₂ : List ℕ) (m₂ : ℕ) → Puts out₁ m₁ (f n ∷ []) out₂ m₂ → Puts out from (picked (n + 1)) out₂ m₂
      puts-more e out₂ m₂ put done h = subst (Holds out₂ m₂) (append_assoc done (picked n) (f n ∷ []) ∙ ap (λ (l : List ℕ). done ++ l) (sym (one_more n true e))) (put (done ++ picked n) (s done h))

      pub puts-skip : p n ≡ false → Puts out from (picked (n + 1)) out₁ m₁
      puts-skip e done h = subst (λ l. Holds out₁ m₁ (done ++ l)) (sym (one_more n false e ∙ append-nil (picked n))) (s done h)
